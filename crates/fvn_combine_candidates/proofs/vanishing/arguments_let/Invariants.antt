-- The arguments so far do so.
use Rattle.std.proofs.Common.{◌≡◌, ℕ, ◌<◌, Some}
use Rattle.std.specs.Prelude.{slice_get}
use Rattle.fvn_combine_nodes.specs.States.{class_of}
use Rattle.fvn_combine_complete.specs.Neutral.{Absorbs}
use Rattle.fvn_combine_candidates.specs.inner.Letting.{ArgumentLets}
use Rattle.fvn_combine_candidates.proofs.vanishing.arguments_let.Given as goal

abbrev pub invariant-loop-p : goal.invariant-loop-p
invariant-loop-p l = (p j : ℕ) → p < l.p → slice_get l.nodes p ≡ Some j → class_of l.state j ≡ l.k → ArgumentLets l.sig (Absorbs l.sig l.f l.e) l.g p
