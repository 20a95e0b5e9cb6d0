-- What the steps of printing give, as bytes.
pub mod Bytes
pub mod Fronts
pub mod Readable
pub mod Shown
pub mod Twins
