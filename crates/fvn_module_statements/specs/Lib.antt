-- What contracts of statements speak of.
pub mod LeftOut
pub mod Forms
pub mod Laws
pub mod inner
