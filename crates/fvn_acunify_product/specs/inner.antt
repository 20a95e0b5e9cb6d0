-- What an odometer's code goes over.
pub mod Steps
pub mod Skips
