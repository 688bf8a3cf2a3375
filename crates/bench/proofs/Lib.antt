-- The laws behind the crate's theorems.
pub mod RowLaws
pub mod Refusals
pub mod EveryNumber
pub mod Padded
pub mod GoodSeats
pub mod EntryRows
pub mod Entered
pub mod LoadRows
pub mod PinRows
pub mod LookRows
pub mod AskedRows
pub mod StepCalls
pub mod SeatParts
pub mod Tracking
pub mod Requests
pub mod CallLaws
pub mod OneSeat
pub mod EveryCall
pub mod Lists
pub mod Contents
pub mod Isolated
pub mod Filled
pub mod Ranges
pub mod FiniteVectors
pub mod EdgeLaws
pub mod TurnLaws
pub mod Staging
pub mod Beginning
pub mod Finishing
pub mod Ending
pub mod Composed
pub mod Chunks
pub mod Components
pub mod StoredDrape
pub mod CopyFinite
pub mod Accepting
pub mod AcceptedKinds
pub mod EnergySign
pub mod PutBack
mod Samples
mod SamplesTwoSteps
mod Examples
mod Theorems
