-- What contracts of explorations speak of.
pub mod Ends
pub mod Setting
pub mod Children
pub mod Liftings
pub mod Causes
pub mod Expansions
pub mod LevelRuns
pub mod Explorations
