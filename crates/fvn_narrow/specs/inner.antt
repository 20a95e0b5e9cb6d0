-- What private contracts speak of.
pub mod Ends
pub mod Joining
pub mod Pairing
pub mod Placing
pub mod Serving
pub mod Turns
