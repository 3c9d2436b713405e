-- Laws of the measures.
pub mod Determineds
