-- What is promised of equations.
pub mod Promises
pub mod LeftFaults
pub mod Laws
pub mod inner
