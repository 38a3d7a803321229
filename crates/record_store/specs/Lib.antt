pub mod Faults
pub mod Meaning
pub mod Places
pub mod Shelves
pub mod Contents
pub mod Pools
pub mod Journals
