-- The receive side: frames in memory, the wire, what the host reads, soundness.
-- in the order of document 01's section "Receiving"
pub mod Frame
pub mod Update
pub mod Wire
pub mod Count
pub mod Reading
pub mod Early
pub mod Sound
pub mod View
