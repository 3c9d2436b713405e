-- Laws of the tests.
pub mod Entries
