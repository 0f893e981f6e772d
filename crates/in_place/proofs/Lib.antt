pub mod Laws
pub mod Surfaces
