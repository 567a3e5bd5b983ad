mod layouts
mod rules
mod records
mod history
mod runs
mod examples
pub mod Laws
