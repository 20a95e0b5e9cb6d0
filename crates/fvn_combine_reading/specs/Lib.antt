-- What is read of a state stands in fvn_combine_leaves; here is what mirrors the code.
pub mod inner
