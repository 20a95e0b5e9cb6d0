-- The words of plans: what classes are bound to at a leaf, what is taken for it, and what its bindings unfold to.
pub mod Tables
pub mod Binding
pub mod Choosing
pub mod Plans
pub mod Covering
pub mod Laws
