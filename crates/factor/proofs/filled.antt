-- Laws of the factoring of what stands in the bench.
pub mod Filling
