-- Laws of doubles.
pub mod Doubles
