pub mod Packing
pub mod Bounds
pub mod Replies
pub mod Named
pub mod Effects
