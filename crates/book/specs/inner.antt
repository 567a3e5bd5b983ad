pub mod OnePeriod
pub mod Entering
pub mod Ways
pub mod Postings
pub mod Puts
