pub mod Lists
pub mod Field
pub mod Pair
pub mod Answer
