pub mod Asking
pub mod Rows
pub mod Segments
pub mod Settings
pub mod Slots
pub mod Starting
pub mod Stepping
pub mod Table
