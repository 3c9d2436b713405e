-- What the contracts of `frozen` cite: document 02, #108.
pub mod Frozen
pub mod Moved
pub mod Narrowed
