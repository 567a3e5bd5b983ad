mod SliceLaws
mod EachLaws
mod OrderLaws
