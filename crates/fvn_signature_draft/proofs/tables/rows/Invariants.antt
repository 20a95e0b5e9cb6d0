-- The invariant of the rows of a table.
use Rattle.std.proofs.Common.{◌≡◌, [], ◌∷◌, map}
use Rattle.fvn_forms.specs.Ranks.{result}
use Rattle.fvn_signature.specs.FirstSorts.{first_sorts}
use Rattle.fvn_signature_draft.proofs.tables.rows.Given as goal

-- the rows of the first sorts
abbrev pub invariant-loop-s : goal.invariant-loop-s
invariant-loop-s l = l.list.items ≡ map (λ s. map (λ q. result l.draft.declarations l.op (s ∷ q ∷ [])) (first_sorts l.draft.total)) (first_sorts l.s)
