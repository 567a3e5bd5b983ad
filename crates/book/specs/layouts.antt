pub mod Fields
pub mod Entries
pub mod Allowed
pub mod Reading
pub mod Writing
pub mod RoundTrips
