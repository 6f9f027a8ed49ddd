pub mod Found
pub mod Rows
pub mod Told
