-- Lemmas on searches through choices.
mod Tests
mod Steps
mod Products
mod Arguments
mod Overs
mod Sifting
mod Firsts
mod Foreseen
mod Hopeless
mod Narrowed
mod Found
mod Harmless
mod Admissible
