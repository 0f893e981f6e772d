pub mod States
pub mod Lists
