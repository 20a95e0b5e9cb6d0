-- The invariant of the search for an operator's first declaration.
use Rattle.std.proofs.Common.{◌≡◌, drop}
use Rattle.std.specs.Prelude.{filter}
use Rattle.fvn_signature_draft.specs.Collected.{first_axioms, declarations_of, same_op}
use Rattle.fvn_signature_draft.proofs.completing.first_axioms.Given as goal

-- the declarations that are left decide
abbrev pub invariant-loop-declaration : goal.invariant-loop-declaration
invariant-loop-declaration l = first_axioms (declarations_of l.collected l.op) ≡ first_axioms (filter (λ e. same_op e.op l.op) (drop l.declaration-index l.declaration-items))
