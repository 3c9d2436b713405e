-- Laws of reading.
pub mod Reading
