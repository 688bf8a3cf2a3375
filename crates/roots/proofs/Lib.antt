-- The laws behind the crate's proofs; specs/Correct.antt states the theorems.
mod WholeRoot
pub mod Spacing
mod Nearest
mod Root
pub mod Correct
pub mod Ties
pub mod Monotone
mod Bits
mod Digit
mod Steps
mod Sides
mod Examples
mod Theorems
