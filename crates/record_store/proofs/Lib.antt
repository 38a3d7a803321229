pub mod Shelves
pub mod Removing
pub mod Pools
