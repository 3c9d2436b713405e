-- Laws of the scaling's public calls.
pub mod Rescaled
