-- Laws of factoring's public call.
pub mod Factorings
