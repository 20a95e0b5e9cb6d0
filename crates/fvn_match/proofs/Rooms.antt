-- How many pieces a pattern of a sum may have.
use Rattle.std.proofs.Common.{◌≡◌, ℕ, ◌+◌, ◌-◌, ◌*◌, ◌/◌, ◌++◌, length, replicate, drop, None, sym, ap, ◌∙◌, arith}
use Rattle.std.specs.Prelude.{sum as std_sum}
use Rattle.std.proofs.lemmas.List.{take-append-drop, length-drop}
use Rattle.std.proofs.lemmas.Nat.{le-div}
use Rattle.fvn_terms.specs.declared.declarations.Declarations.{Declarations}
use Rattle.fvn_terms.specs.Signature.{axioms}
use Rattle.fvn_forms.specs.Flat.{FlatTerm}
use Rattle.fvn_forms.specs.Canon.{parts, inst}
use Rattle.fvn_terms.specs.Equality.{identity}
use Rattle.fvn_match.specs.inner.Candidates.{Values, IsCandidate}
use Rattle.fvn_match.specs.inner.Goals.{patterns_of, pieces_of, SumHolds, SumFits}
use Rattle.fvn_match.specs.inner.Searching.{IsGroup, IsRoom}
use Rattle.fvn_match.specs.declared.goals.SumGoal.{SumGoal}
use Rattle.fvn_match.proofs.Runs.{length_references}
use Rattle.fvn_match.proofs.SumSteps.{as_many, length_adds_up, measured, summands_of}

module _ (d : Declarations) (goal : SumGoal) (fit : SumFits d goal) (p : FlatTerm) (k : ℕ) (g : IsGroup d goal p k) where
  group : patterns_of goal ≡ replicate k p ++ drop k (patterns_of goal)
  group = sym (take-append-drop k (patterns_of goal)) ∙ ap (λ l. l ++ drop k (patterns_of goal)) (g.run.same p g.others g.first)

  module _ (c : Values) (candidate : IsCandidate d c) (h : SumHolds d goal c) where
    together : k * length (parts d goal.op (inst d c p)) + length (summands_of d goal.op c (drop k (patterns_of goal))) ≡ std_sum goal.left.now
    together =
        sym (measured d goal.op c candidate.flat.settled fit.associative (patterns_of goal) p k g.run.some group (pieces_of goal) goal.left.now)
        ∙ length_adds_up d goal.op c (patterns_of goal) (pieces_of goal) goal.left.now (fit.long ∙ sym (length_references goal.pieces.now)) h

  -- all that is left, each time for k patterns
  pub room_of_all : IsRoom d goal p (std_sum goal.left.now / k)
  room_of_all c candidate h =
      let a = together c candidate h in
      let b = g.run.some in
      le-div (length (parts d goal.op (inst d c p))) (std_sum goal.left.now) k (omega arith) (omega arith)

  -- without an identity each other pattern takes one
  pub room_beside_others : identity (axioms d goal.op) ≡ None → IsRoom d goal p ((std_sum goal.left.now - (length (patterns_of goal) - k)) / k)
  room_beside_others e c candidate h =
      let a = together c candidate h in
      let b = g.run.some in
      let x = as_many d goal.op c candidate.flat.settled e (drop k (patterns_of goal)) in
      let y = length-drop k (patterns_of goal) in
      le-div (length (parts d goal.op (inst d c p))) (std_sum goal.left.now - (length (patterns_of goal) - k)) k (omega arith)
      (omega arith)
