-- What the inner functions of `eliminate`, its laws and its examples cite, and no public contract or demand.
pub mod Kept
pub mod Edges
pub mod Opened
