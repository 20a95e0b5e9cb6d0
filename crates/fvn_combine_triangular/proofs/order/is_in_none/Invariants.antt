-- It is in none so far.
use Rattle.std.proofs.Common.{All, Contains, take}
use Rattle.fvn_combine_triangular.proofs.order.is_in_none.Given as goal

abbrev pub invariant-loop-note : goal.invariant-loop-note
invariant-loop-note l = All (λ w. Contains w l.x → ⊥) (take l.note-index l.notes)
