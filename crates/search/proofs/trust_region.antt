-- Laws of the search's public call.
pub mod Answering
