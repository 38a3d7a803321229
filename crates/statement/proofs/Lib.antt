pub mod Forming
pub mod Summing
pub mod Settling
pub mod Making
pub mod Asking
pub mod Running
pub mod Blank
pub mod Counts
