-- What the public contract of `eliminate` cites, the call first: module 5 of document 01.
pub mod Eliminated
pub mod Eliminate
-- What only inner functions, laws and examples cite stands apart: nobody need believe it.
pub mod inner
