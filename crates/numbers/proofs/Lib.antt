pub mod Groups
pub mod Finding
pub mod Writing
pub mod Reading
pub mod Below
pub mod RoundTrip
pub mod Answers
pub mod Edges
