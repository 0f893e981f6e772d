pub mod Tellings
pub mod Known
pub mod Passing
