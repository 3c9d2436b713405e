-- Laws that belong to no one function.
pub mod Begins
pub mod Pivots
pub mod Fitting
pub mod Lent
pub mod Filled
pub mod Going
pub mod Unique
