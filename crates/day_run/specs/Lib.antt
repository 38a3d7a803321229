pub mod Pages
pub mod Entries
pub mod Printouts
