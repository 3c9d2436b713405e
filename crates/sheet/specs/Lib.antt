-- What the public contracts of `sheet` cite: document 01's job sheet. The lines and the call first, then its working, its tests and its fields.
pub mod Lines
pub mod Fit
pub mod Tests
pub mod Sheet
-- What only inner functions, laws and examples cite stands apart: nobody need believe it.
pub mod inner
