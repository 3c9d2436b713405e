-- What the inner functions of `factor`, its laws and its examples cite, and no public contract or demand.
pub mod Rooms
pub mod Worked
pub mod Opened
pub mod Going
