-- The words of normal forms.
pub mod NormalForms
pub mod Laws
