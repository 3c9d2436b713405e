-- That no contract of the reader is met by two outcomes.
pub mod OneReader
