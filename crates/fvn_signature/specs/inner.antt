-- What the code keeps and goes through.
pub mod Kept
pub mod Lowering
