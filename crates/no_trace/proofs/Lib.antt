-- Why no trace is left: the card at rest by its shape, a frame that comes beside it, the run's invariant, the stretches.
pub mod Closing
pub mod Examples
pub mod Noise
pub mod Rest
pub mod Shapes
pub mod Trace
