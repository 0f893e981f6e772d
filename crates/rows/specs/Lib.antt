pub mod Rows
pub mod Fill
pub mod ByWire
pub mod Listing
pub mod Inside
