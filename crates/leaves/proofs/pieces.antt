-- Laws of copying and clearing in pieces.
pub mod Piecewise
