-- What the exported contracts cite beside the bench's own definitions.
pub mod Exported
