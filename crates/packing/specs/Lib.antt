-- What the contracts of `packing` cite: document 02, #107.
pub mod Packing
-- What only inner functions, laws and examples cite stands apart: nobody need believe it.
pub mod inner
