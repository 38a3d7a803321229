pub mod Texts
pub mod Fields
pub mod Columns
pub mod Rows
pub mod Refusals
pub mod Listing
