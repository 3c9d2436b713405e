-- What the inner functions of `search`, its laws and its examples cite, and no public contract or demand.
pub mod Read
pub mod Asked
pub mod Counting
pub mod Opened
