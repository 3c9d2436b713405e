-- Laws of the reflection.
pub mod Reductions
