-- Laws of a sheet's job.
pub mod Jobs
