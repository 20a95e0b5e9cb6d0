-- The words of steps at places of flat forms.
pub mod PlacedSteps
pub mod InstanceSteps
pub mod Laws
