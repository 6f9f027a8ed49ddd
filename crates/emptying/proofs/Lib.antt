pub mod WayLaws
pub mod Falls
pub mod Emptying
