-- The laws of `sheet` and its theorems.
pub mod Packed
pub mod Testing
pub mod Texts
pub mod Printing
pub mod OneSheet
pub mod Commissioning
pub mod Starting
pub mod Overlong
pub mod Columns
pub mod Refused
pub mod Lengths
