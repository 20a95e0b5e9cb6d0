-- none so far has this identity
use Rattle.std.proofs.Common.{◌≡◌, true, take}
use Rattle.std.specs.Prelude.{All}
use Rattle.fvn_terms.specs.Equality.{identity}
use Rattle.fvn_forms.specs.Canon.{is_identity}
use Rattle.fvn_cover_counts.proofs.kept.is_identity.Given as goal

abbrev pub invariant-loop-o : goal.invariant-loop-o
invariant-loop-o l = All (λ o. is_identity (identity o.axioms) l.e ≡ true → ⊥) (take l.o-index l.ops)
