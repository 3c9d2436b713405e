-- What the inner functions of `sheet`, its laws and its examples cite, and no public contract or demand.
pub mod Handed
pub mod Opened
