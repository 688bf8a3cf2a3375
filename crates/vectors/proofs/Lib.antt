-- The laws behind the crate's proofs, and those that the crates above cite.
pub mod Finiteness
pub mod FloatOrder
pub mod OwnFraction
pub mod Zeros
pub mod Signs
pub mod WholeUnits
pub mod SquareUnder
pub mod OneTimes
pub mod Fitting
pub mod Remainder
pub mod Series
pub mod Reversed
mod Samples
mod Theorems
