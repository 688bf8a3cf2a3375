-- What the crate's contracts cite: the whole part of a root, squareRoot, what makes it right, and worked examples.
pub mod WholeRoot
pub mod Sqrt
pub mod Correct
pub mod Steps
pub mod Opened
pub mod Examples
pub mod Samples
pub mod Theorems
