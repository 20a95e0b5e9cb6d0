-- The words of equations and of what is asked of them.
pub mod Equations
