pub mod Differences
pub mod Rows
