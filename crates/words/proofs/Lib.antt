pub mod Number
pub mod Words
pub mod Turns
pub mod Worked
