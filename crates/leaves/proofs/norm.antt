-- Laws of the norm.
pub mod Sides
