-- The laws behind the crate's proofs, and the samples.
pub mod Parts
pub mod Widths
pub mod RowWidths
pub mod RowArrays
pub mod RowLaws
pub mod RowPlaces
pub mod Cases
pub mod Columns
pub mod FromFirst
pub mod Products
pub mod Every
pub mod RowsPut
pub mod BlockLaws
pub mod SystemLaws
pub mod EnergySign
pub mod Cleared
pub mod Diagonals
pub mod Assembly
pub mod Fixing
pub mod Shapes
pub mod EdgeLaws
pub mod Descent
pub mod RootBound
pub mod Iteration
pub mod Iterations
pub mod Going
pub mod AreaMap
mod Samples
mod Theorems
