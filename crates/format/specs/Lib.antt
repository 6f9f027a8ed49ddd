pub mod Network
pub mod File
pub mod Curve
pub mod Written
pub mod Words
pub mod Place
pub mod Placed
pub mod Marked
