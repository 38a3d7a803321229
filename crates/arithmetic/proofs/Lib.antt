pub mod Ring
pub mod Sizes
pub mod Rounding
pub mod Sums
pub mod Machine
pub mod Distance
