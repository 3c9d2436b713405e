-- Laws of the solves' public calls.
pub mod Outcomes
