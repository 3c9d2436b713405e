-- What the inner functions of `text`, its laws and its examples cite, and no public contract or demand.
pub mod Spelling
pub mod Part
