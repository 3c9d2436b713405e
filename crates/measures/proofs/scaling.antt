-- Laws of the scaling.
pub mod Scalings
