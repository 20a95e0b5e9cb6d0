-- the values so far keep their texts
use Rattle.std.proofs.Common.{ℕ, ◌<◌, get_or}
use Rattle.fvn_terms.specs.declared.plain.Var.{Var}
use Rattle.fvn_flat.specs.Bindings.{value}
use Rattle.fvn_answer.specs.inner.Twins.{KeepsText}
use Rattle.fvn_answer.proofs.twins.lowers_no_value.Given as goal

abbrev pub invariant-loop-z : goal.invariant-loop-z
invariant-loop-z l = (i : ℕ) (v : Var) → i < l.z-index → KeepsText l.signature l.x l.y (value l.subst (get_or l.vars i v))
