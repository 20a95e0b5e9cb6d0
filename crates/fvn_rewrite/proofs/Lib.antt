-- Lemmas on steps and normal forms.
mod Roots
mod Placed
mod Found
mod Tested
mod Replacing
mod Reaching
mod Ending
mod Values
mod Bound
mod InsideOut
mod Seen
mod Beginning
mod Trying
mod Repeated
mod Fewer
mod OverArguments
mod InsideAxioms
