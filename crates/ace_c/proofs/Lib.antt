pub mod Threes
pub mod Kept
