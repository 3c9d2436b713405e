-- What the contracts of `lines` cite. A text is a list of ASCII codes.
pub mod Part
pub mod Scan
pub mod Feed
pub mod Put
