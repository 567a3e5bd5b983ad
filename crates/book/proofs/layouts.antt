pub mod FieldLaws
pub mod EntryLaws
pub mod ReadLaws
pub mod Outcomes
pub mod RoundTrips
pub mod PutLaws
