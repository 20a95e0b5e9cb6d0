-- the bindings that are left decide
use Rattle.std.proofs.Common.{◌≡◌, true, List, drop, map}
use Rattle.std.specs.Prelude.{codes}
use Rattle.fvn_terms.specs.declared.plain.Var.{Var}
use Rattle.fvn_answer.specs.inner.Bytes.{with_pairs}
use Rattle.fvn_answer.specs.inner.Fronts.{Agrees}
use Rattle.fvn_answer.specs.inner.Shown.{value_texts}
use Rattle.fvn_answer.proofs.line_front.values_front.Given as goal

abbrev pub invariant-loop-x : goal.invariant-loop-x
invariant-loop-x l = (other : List Var) → Agrees l.fixed other →
    with_pairs true (codes "{") (map (value_texts l.signature l.var_names.texts l.names other l.subst) l.fn.vars)
    ≡ with_pairs l.first l.line.items (map (value_texts l.signature l.var_names.texts l.names other l.subst) (drop l.x-index l.vars))
