pub mod Accounts
pub mod Days
pub mod Logs
