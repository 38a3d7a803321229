pub mod Faults
pub mod Numbers
pub mod Encode
pub mod Valid
pub mod Refusals
pub mod Kinds
pub mod Reading
pub mod Writing
