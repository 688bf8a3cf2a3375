-- What the crate's contracts cite, in the order of document 01.
pub mod Number
pub mod Signs
pub mod Vec3
pub mod Mat3
pub mod Vec4
pub mod Mat4
pub mod Finite
pub mod Fits
pub mod Edge
pub mod Angle
pub mod Rotation
pub mod Opened
pub mod Samples
pub mod Theorems
