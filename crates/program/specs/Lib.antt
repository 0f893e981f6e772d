pub mod Input
pub mod Text
pub mod Answer
pub mod Listing
pub mod Inside
