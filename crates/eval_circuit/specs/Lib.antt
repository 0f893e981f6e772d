pub mod Circuit
pub mod Evaluated
pub mod Listing
pub mod Inside
