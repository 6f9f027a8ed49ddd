pub mod File
pub mod Read
pub mod Written
