pub mod LongestWay
pub mod Emptying
