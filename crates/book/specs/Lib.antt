pub mod Checks
pub mod layouts
pub mod rules
pub mod history
pub mod runs
pub mod examples
pub mod inner
