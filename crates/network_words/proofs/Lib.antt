pub mod Curves
pub mod Differences
pub mod KeepCall
pub mod Rows
