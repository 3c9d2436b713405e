-- What the public contracts of `factor` cite: modules 2 to 5 of document 01. The calls first ..
pub mod Factoring
pub mod Filled
pub mod Solves
pub mod HeldCalls
pub mod PivotOrder
pub mod Parts
-- .. then what they test, work out and leave, and where it stands in the room.
pub mod Tests
pub mod Solve
pub mod Held
pub mod Outcome
pub mod State
pub mod Room
-- What the demands say of it.
pub mod AsFactored
-- What only inner functions, laws and examples cite stands apart: nobody need believe it.
pub mod inner
