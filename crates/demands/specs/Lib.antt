-- What the statements of the demands cite beside the contracts' definitions. The calls on a problem as one type, and runs of them; demand 1's tests
-- and what a refusal leaves; demand 3's likenesses.
pub mod History
pub mod Calls
pub mod Refusals
pub mod Eight
pub mod Factorings
pub mod Workings
pub mod Alike
pub mod Marked
pub mod Above
pub mod Putting
-- What only inner functions, laws and examples cite stands apart: nobody need believe it.
pub mod inner
