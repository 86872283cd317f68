pub mod Falling
pub mod Kept
pub mod Search
