-- Nothing is open of the identities so far.
use Rattle.std.proofs.Common.{◌≡◌, take, All}
use Rattle.fvn_combine_nodes.specs.States.{IsOpen}
use Rattle.fvn_combine_questions.proofs.identities.open_identity.Given as goal

abbrev pub invariant-loop-g : goal.invariant-loop-g
invariant-loop-g l = All (λ p. p.0 ≡ l.f → IsOpen l.state l.k p.1 → ⊥) (take l.g-index l.table.units)
