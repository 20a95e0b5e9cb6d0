-- The term that the content of a shared term stands for.
use Rattle.fvn_rewrite.specs.inner.SortedTerms.{SortedTerm, svar, sapp, spack}
use Rattle.fvn_rewrite.specs.declared.shared.Content.{Content}
use Rattle.fvn_rewrite.specs.declared.shared.Content.TheVariants.{Var, App}

-- a variable, or an operator over the terms in its list
abbrev pub term_in : Content → SortedTerm
term_in (Var x) = svar x
term_in (App f s symbols ts) = sapp f s (spack ts.items)
