-- Which texts are loaded, the first fault of others, and the first equation that loses a sort.
pub mod Loading
pub mod Losses
pub mod Laws
