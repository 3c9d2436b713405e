-- What the public contracts of `leaves` cite, in document 01's order: module 1, the leaf rules; the rules first, then what the crates above share.
pub mod Number
pub mod Root
pub mod Vector
pub mod Norm
pub mod Triangle
pub mod Reply
pub mod Tests
pub mod Square
pub mod Product
pub mod Loop
-- What the demands say of them.
pub mod Refusing
pub mod IsRoot
-- What only inner functions, laws and examples cite stands apart: nobody need believe it.
pub mod inner
