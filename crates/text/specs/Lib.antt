-- What the public contracts of `text` cite: digits, numbers read and written.
pub mod Put
pub mod Read
pub mod Digit
-- What only inner functions, laws and examples cite stands apart: nobody need believe it.
pub mod inner
