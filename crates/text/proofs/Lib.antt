pub mod SliceLaws
pub mod NumberLaws
pub mod StreamLaws
