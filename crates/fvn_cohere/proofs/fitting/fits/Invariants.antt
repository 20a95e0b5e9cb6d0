-- The products of the choices of the variables so far.
use Rattle.std.proofs.Common.{◌≡◌, ◌+◌, map, length, take}
use Rattle.fvn_terms.specs.declared.plain.Var.{Var}
use Rattle.fvn_rewrite_laws.specs.Choices.{product, identities_below, sorts_below}
use Rattle.fvn_cohere.specs.inner.Capped.{capped}
use Rattle.fvn_cohere.proofs.fitting.fits.Given as goal

abbrev pub invariant-loop-x : goal.invariant-loop-x
invariant-loop-x l = record {
  identity_instances : l.by_identities ≡ capped (product (map (λ (x : Var). 1 + length (identities_below l.sig x.sort)) (take l.x-index l.x-items)));
  sort_instances : l.by_sorts ≡ capped (product (map (λ (x : Var). length (sorts_below l.sig x.sort) + length (identities_below l.sig x.sort)) (take l.x-index l.x-items)));
}
