-- What the inner functions of `calls`, its laws and its examples cite, and no public contract or demand.
pub mod Reducible
pub mod Factorable
pub mod Opened
