-- Lemmas on reduced rows, and on what they say of the values that go with a state.
mod TakenOut
mod Splitting
mod Headed
mod Values
mod Sides
mod Told
mod Marks
mod SortedValues
mod HeadsTold
mod Added
mod Sizing
mod Pairing
mod EitherHead
mod Clashes
mod Standing
mod Labels
mod Wholes
