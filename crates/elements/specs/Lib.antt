-- What the crate's contracts cite, in the order of the Rust, and samples of it.
pub mod Square
pub mod Spring3
pub mod Darboux
pub mod Bend
pub mod Turned
pub mod Opened
pub mod Written
pub mod SamplesSpring3
pub mod SamplesDarboux
pub mod SamplesBend
pub mod Theorems
