-- What is left behind the term with which pieces begin; that it is exact is a lemma for callers (proofs/FormExact.antt).
pub use Rattle.fvn_syntax.specs.inner.Form.{behind_term}
