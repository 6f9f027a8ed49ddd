pub mod Reporting
pub mod Sound
