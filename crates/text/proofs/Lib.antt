-- Laws that the functions' proofs cite.
pub mod Places
pub mod Unique
pub mod Examples
