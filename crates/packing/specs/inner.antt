-- Names for what no public contract cites.
pub mod Opened
