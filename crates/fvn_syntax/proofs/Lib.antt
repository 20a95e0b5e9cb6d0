-- Lemmas on forms and terms as they are read, and on names; the public ones are for callers.
pub mod PieceLemmas
mod FormReading
mod FormSound
pub mod FormExact
pub mod TextLemmas
mod TermReading
mod TermMeaning
mod Nesting
pub mod WellKinded
mod Colons
pub mod SpelledOnce
