-- The words of tokens, and of texts that are joined of pieces.
pub mod Bytes
pub mod Parts
pub mod Spans
pub mod Cut
pub mod Join
pub mod Laws
pub mod inner
