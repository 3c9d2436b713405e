-- What the laws and the examples cite, and no statement of a demand.
pub mod Helds
pub mod Opened
