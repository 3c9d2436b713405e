-- What the public contract of `reduce` cites, the call first: modules 2 and 3 of document 01.
pub mod Reduced
pub mod Reduction
-- What only inner functions, laws and examples cite stands apart: nobody need believe it.
pub mod inner
