pub mod Bytes
pub mod Numbers
pub mod Reading
pub mod Listing
pub mod Inside
