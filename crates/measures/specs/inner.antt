-- What the inner functions of `measures`, its laws and its examples cite, and no public contract or demand.
pub mod Reads
pub mod Counted
pub mod Opened
