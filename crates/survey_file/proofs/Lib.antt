pub mod Accepted
pub mod RoundTrip
