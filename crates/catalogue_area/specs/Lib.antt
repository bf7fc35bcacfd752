-- How much area always suffices.
pub mod Area
