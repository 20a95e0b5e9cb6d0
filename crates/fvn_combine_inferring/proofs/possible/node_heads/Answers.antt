-- An operator with an identity is associative.
use Rattle.std.proofs.Common.{sym, ◌∙◌}
use Rattle.fvn_terms.specs.Signature.{axioms}
use Rattle.fvn_terms.proofs.AxiomWords.{identity_associates}
use Rattle.fvn_combine_inferring.proofs.possible.node_heads.Goals as goal

pub sum_heads-requires-clause-associative : goal.sum_heads-requires-clause-associative
sum_heads-requires-clause-associative c = identity_associates (axioms c.args.sig.now c.in-App.f) c.in-Some.field-0 (sym c.identity.ensures ∙ c.in-Some.is)
