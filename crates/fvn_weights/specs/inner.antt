-- What mirrors the code.
pub mod Numbers
pub mod Forms
pub mod Equations
