-- The laws that the crates above cite, and the samples.
pub mod Energy
pub mod EnergySide
pub mod OwnLength
mod Samples
mod Theorems
