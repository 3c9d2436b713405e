-- What the public contracts of `calls` cite: document 02, #108, over the calls that know no marks. The calls first, then what they share.
pub mod Factoring
pub mod Solves
pub mod HeldCalls
pub mod Measures
pub mod Rescale
pub mod Search
pub mod Outcome
pub mod Tests
pub mod State
-- What only inner functions, laws and examples cite stands apart: nobody need believe it.
pub mod inner
