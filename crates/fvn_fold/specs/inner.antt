-- What mirrors the code.
pub mod Gathering
pub mod Running
pub mod Beginning
