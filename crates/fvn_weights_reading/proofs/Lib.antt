-- Lemmas on texts of weights and on the weights that they give.
mod Digits
mod Splitting
mod NewNames
mod Weighed
mod Texts
mod Places
