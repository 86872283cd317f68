pub mod Digits
pub mod Opening
