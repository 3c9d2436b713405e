-- What the inner functions of `reduce`, its laws and its examples cite, and no public contract or demand.
pub mod Bench
pub mod Going
pub mod Opened
