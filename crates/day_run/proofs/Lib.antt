pub mod Noting
pub mod Showing
