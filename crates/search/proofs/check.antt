-- Laws of the tests.
pub mod Asking
