-- what is left decides
use Rattle.std.proofs.Common.{◌≡◌, ◌+◌, drop}
use Rattle.std.specs.Prelude.{unwrap_or}
use Rattle.std.specs.List.{position_from}
use Rattle.fvn_terms.specs.Substitution.{same_var}
use Rattle.fvn_answer.specs.Numberings.{number}
use Rattle.fvn_answer.proofs.texts.number.Given as goal

abbrev pub invariant-loop-y : goal.invariant-loop-y
invariant-loop-y l =
    (number l.fn.order l.x ≡ unwrap_or (position_from (λ y. same_var y l.x) l.n (drop l.y-index l.order)) 0)
    × (l.n ≡ l.y-index + 1)
