pub mod NoneBefore
pub mod Short
pub mod Downwards
pub mod SegmentRows
pub mod Reading
