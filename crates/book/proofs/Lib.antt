pub mod Rows
pub mod RowsRead
pub mod Keeps
pub mod Laws
pub mod Lasting
pub mod Spending
pub mod Opening
