-- Laws of the held calls' workings.
pub mod Helds
