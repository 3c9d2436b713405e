-- Laws of feeding.
pub mod Feeding
