-- Which texts are modules, what these declare, and the first fault of others.
pub mod Contents
pub mod Equations
pub mod ModuleText
pub mod Refusals
pub mod Readable
pub mod Laws
pub mod inner
