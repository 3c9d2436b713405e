-- Laws of scanning.
pub mod Scanning
