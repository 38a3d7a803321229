pub mod Faults
pub mod Lines
pub mod Outcome
pub mod Book
pub mod Gate
pub mod Words
