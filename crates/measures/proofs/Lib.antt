-- Laws that belong to no one function.
pub mod Asked
pub mod Measured
pub mod Answers
pub mod OneMeasure
pub mod Comparing
pub mod Aboves
pub mod Examples
