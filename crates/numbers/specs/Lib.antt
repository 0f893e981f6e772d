pub mod Form
pub mod Answer
