-- The words of parts, of splits, and of the cursor over these.
pub mod Theories
pub mod Parts
pub mod Heads
pub mod Splits
pub mod Obeying
pub mod Cursor
pub mod Weight
pub mod inner
