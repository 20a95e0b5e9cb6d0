-- Lemmas on what is taken, added and counted.
mod SourceLemmas
mod SinkLemmas
mod ResultLemmas
mod KeptBytes
