-- The words of leaves: what heads and uses a class, and when nothing is open that decides what it is bound to.
pub mod Leaves
pub mod Readings
pub mod Users
pub mod Bases
