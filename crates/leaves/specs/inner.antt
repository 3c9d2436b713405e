-- What the inner functions of `leaves`, its laws and its examples cite, and no public contract or demand.
pub mod Parts
pub mod Patch
pub mod Squares
pub mod Opened
pub mod Flags
pub mod Orders
