-- Termination and joins of steps give confluence: by induction on the bound of the sequences from a term.
use Rattle.std.proofs.Common.{ℕ, zero, suc, ◌+◌, ◌≤◌, arith}
use Rattle.fvn_terms.specs.declared.declarations.Declarations.{Declarations}
use Rattle.fvn_terms.specs.Term.{Term}
use Rattle.fvn_terms.specs.Signature.{IsTerm}
use Rattle.fvn_terms.specs.Places.{stop}
use Rattle.fvn_terms.specs.Equality.{BEqual}
use Rattle.fvn_terms.specs.Theory.{Equations}
use Rattle.fvn_terms.specs.Rewriting.{Rewrites, TermSequence, AreJoinable, IsTerminating, IsConfluent}
use Rattle.fvn_terms.specs.Laws.{RewritingLaws}
use Rattle.fvn_terms.proofs.Equal.{BEqual-sym}
use Rattle.fvn_rewrite_laws.specs.Laws.{SequenceLaws, KindedLaws}
use Rattle.fvn_rewrite_peaks.specs.Peaks.{StepsJoin}

module _ (d : Declarations) (equations : Equations) (laws : RewritingLaws d equations) (sequences : SequenceLaws d equations) (kinded : KindedLaws d equations) (joins : StepsJoin d equations) where
  -- the length of no sequence from the term exceeds the number
  abbrev IsBounded : ℕ → Term → Type 0
  IsBounded most t = (k : ℕ) (u : Term) → TermSequence d equations k t u → k ≤ most

  -- where no step is made on one side, nothing is to do
  left_stays : (t u v : Term) (k : ℕ) → BEqual d t u → TermSequence d equations k t v → AreJoinable d equations u v
  left_stays t u v k e q = record { left = v; right = v; left_steps = k; right_steps = 0; left_reached = sequences.before k t u v e q; right_reached = stop; equal = stop }

  right_stays : (t u v : Term) (j : ℕ) → TermSequence d equations j t u → BEqual d t v → AreJoinable d equations u v
  right_stays t u v j q e = record { left = u; right = u; left_steps = 0; right_steps = j; left_reached = stop; right_reached = sequences.before j t v u e q; equal = stop }

  kept : (t u : Term) → IsTerm d t → Rewrites d equations t u → IsTerm d u
  kept t u h r = (h.0, kinded.steps t u r h.0 h.1)

  less : (most : ℕ) (t u : Term) → IsBounded (suc most) t → Rewrites d equations t u → IsBounded most u
  less most t u bound r k w q = let l : suc k ≤ suc most = bound (suc k) w (u, (r, q)) in omega arith

  -- the two sides meet where both of these do: `t` and `a` at the first term, and `v` and what both joined at the second one
  close : (u v y : Term) → (first : AreJoinable d equations u y) → AreJoinable d equations v first.right → AreJoinable d equations u v
  close u v y first second = record {
    left = second.right;
    right = second.left;
    left_steps = first.left_steps + second.right_steps;
    right_steps = second.left_steps;
    left_reached = laws.joined first.left_steps second.right_steps u first.left second.right first.left_reached
        (sequences.before second.right_steps first.right first.left second.right (BEqual-sym d first.equal) second.right_reached);
    right_reached = second.left_reached;
    equal = BEqual-sym d second.equal;
  }

  confluent_within : (most : ℕ) (t : Term) → IsTerm d t → IsBounded most t → (j k : ℕ) (u v : Term) → TermSequence d equations j t u → TermSequence d equations k t v → AreJoinable d equations u v
  confluent_within most t h bound zero k u v p q = left_stays t u v k p q
  confluent_within most t h bound (suc j) zero u v p q = right_stays t u v (suc j) p q
  confluent_within zero t h bound (suc j) (suc k) u v p q = absurd (let l : suc j ≤ 0 = bound (suc j) u p in omega arith)
  confluent_within (suc most) t h bound (suc j) (suc k) u v p q =
      let peak = joins t p.0 q.0 h p.1.0 q.1.0 in
      let first = confluent_within most p.0 (kept t p.0 h p.1.0) (less most t p.0 bound p.1.0) j peak.left_steps u peak.left p.1.1 peak.left_reached in
      let across = sequences.before first.right_steps peak.left peak.right first.right peak.equal first.right_reached in
      let down = laws.joined peak.right_steps first.right_steps q.0 peak.right first.right peak.right_reached across in
      let second = confluent_within most q.0 (kept t q.0 h q.1.0) (less most t q.0 bound q.1.0) k (peak.right_steps + first.right_steps) v first.right q.1.1 down in
      close u v peak.left first second

  pub confluent : IsTerminating d equations → IsConfluent d equations
  confluent ends t u v j k h p q = let b = ends t h in confluent_within b.0 t h b.1 j k u v p q
