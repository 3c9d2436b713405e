-- Laws of the leaves on numbers.
pub mod Near
