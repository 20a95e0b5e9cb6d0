-- The invariant of a row of a table.
use Rattle.std.proofs.Common.{◌≡◌, map, [], ◌∷◌}
use Rattle.fvn_forms.specs.Ranks.{result}
use Rattle.fvn_signature.specs.FirstSorts.{first_sorts}
use Rattle.fvn_signature_draft.proofs.tables.row.Given as goal

-- the results with the first sorts
abbrev pub invariant-loop-q : goal.invariant-loop-q
invariant-loop-q l = l.list.items ≡ map (λ q. result l.draft.declarations l.op (l.s ∷ q ∷ [])) (first_sorts l.q)
