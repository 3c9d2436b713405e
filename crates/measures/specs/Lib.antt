-- What the public contracts of `measures` cite: module 6 of document 01, and determined. The calls first, then what they work out.
pub mod Measures
pub mod Rescale
pub mod Gradient
pub mod Scaling
pub mod Determined
pub mod Answers
-- What only inner functions, laws and examples cite stands apart: nobody need believe it.
pub mod inner
