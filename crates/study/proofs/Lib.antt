pub mod Answered
pub mod Changing
pub mod Running
pub mod Stepping
