-- What is promised of steps and normal forms.
pub mod Usable
pub mod inner
