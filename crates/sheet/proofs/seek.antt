-- Laws of seeking fields.
pub mod Seeking
