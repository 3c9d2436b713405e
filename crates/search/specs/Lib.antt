-- What the public contract of `search` cites: module 7 of document 01. The call first, then its run, bounds and steps, and the
-- vectors that it measures.
pub mod Search
pub mod Run
pub mod Bounds
pub mod Problem
pub mod Measured
-- What the demands say of it: how a run ends, and MINPACK-1 in its own terms.
pub mod Ending
pub mod Against
pub mod Lmpar
pub mod Qrsolv
pub mod Enorm
-- What only inner functions, laws and examples cite stands apart: nobody need believe it.
pub mod inner
