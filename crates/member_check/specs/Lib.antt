pub mod Refusal
pub mod Members
pub mod Check
pub mod Kept
