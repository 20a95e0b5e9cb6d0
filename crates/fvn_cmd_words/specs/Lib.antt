-- What the reader of words promises.
pub mod Words
pub mod Told
pub mod Laws
pub mod inner
