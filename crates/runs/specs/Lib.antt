pub mod Entries
pub mod Calls
pub mod Inside
pub mod Worked
