-- The new value of a member of a sum is its operator over those of its two arguments, up to the axioms.
use Rattle.std.proofs.Common.{◌≡◌, ℕ, ◌+◌, ◌<◌, List, length, map, ap, ◌∙◌, inl, inr, arith}
use Rattle.fvn_terms.specs.declared.plain.OpId.{OpId}
use Rattle.fvn_terms.specs.declared.declarations.Declarations.{Declarations}
use Rattle.fvn_terms.specs.Term.{Term, app, pack}
use Rattle.fvn_terms.specs.Substitution.{Substitution}
use Rattle.fvn_terms.specs.Equality.{BEqual}
use Rattle.fvn_terms.specs.Unifiers.{Problem}
use Rattle.fvn_forms.specs.Flat.{FlatTerm}
use Rattle.fvn_forms.specs.InOrder.{count}
use Rattle.fvn_forms.specs.Canon.{parts}
use Rattle.fvn_forms.proofs.Eval.{canon_respects}
use Rattle.fvn_combine_nodes.specs.Table.{NodeTable, IsOver}
use Rattle.fvn_combine_nodes.specs.declared.state.State.{State}
use Rattle.fvn_combine_nodes.proofs.Subterms.{node_kinded}
use Rattle.fvn_combine_loose.specs.Loose.{Bears, IsBearing}
use Rattle.fvn_combine_loose.proofs.Rests.{often, often_two, same_summands}
use Rattle.fvn_combine_loose.proofs.Setting.{Setting, argument_within}
use Rattle.fvn_combine_loose.proofs.Splitting.{borne, bearer_listed, other_listed, often_over, Sum, old, old_over, one_often}
use Rattle.fvn_combine_loose.proofs.Remade.{remade, remade_same, remade_low, remade_summed}
use Rattle.fvn_combine_loose.proofs.After.{remade_kinded}
use Rattle.fvn_combine_loose.proofs.Idle.{over_kinded}

same_often : (d : Declarations) (f : OpId) (q : FlatTerm) {a b : Term} → BEqual d a b → often d f q a ≡ often d f q b
same_often d f q e = ap (λ v. count q (parts d f v)) (canon_respects d e)

module _ {d : Declarations} {problem : Problem} {t : NodeTable} {s : State} {z : ℕ} {heights : List ℕ} {u : Substitution} (g : Setting d problem t s z heights u) where
  -- the summands of a sum's new value, with those of the old value of the class over which it is, are those of its old value with
  -- those of the new value of that class
  abbrev pub IsChanged : OpId → ℕ → FlatTerm → ℕ → Type 0
  IsChanged f p q i = often d f q (remade g i) + often d f q (old g p) ≡ often d f q (old g i) + often d f q (remade g p)

  pub sum_often : (i : ℕ) → i < length t.nodes → (f : OpId) (p : ℕ) → Sum g f p i → (q : FlatTerm) → IsChanged f p q i
  sum_often i l f p is q =
      let assoc = (g.loose.sum i f p l is).associative in
      elim (remade_summed g i l f p is) as (λ _. IsChanged f p q i) [
        | inl w ↦ let a = ap (often d f q) w.1 in let b = same_often d f q w.0 in omega (arith, a, b)
        | inr w ↦
            let a = ap (often d f q) w.1.1 ∙ often_two d f g.good.fits assoc q (remade g p) w.0 in
            let b = same_often d f q w.1.0 ∙ often_two d f g.good.fits assoc q (old g p) w.0 in
            omega (arith, a, b)
      ]

  bears_often : (k i : ℕ) → k < length t.nodes → i < length t.nodes → (f : OpId) (p : ℕ) → Sum g f p k → Bears s heights g.sums f p i → (q : FlatTerm) → IsChanged f p q i
  bears_often k i m l f p is (inl e) q =
      let a = ap (often d f q) (remade_same g i p e) in
      let b = one_often g f q i p l (g.loose.sum k f p m is).part e in
      omega (arith, a, b)
  bears_often k i m l f p is (inr over) q = sum_often i l f p over q

  -- f over the new values of its arguments is the new value of a member
  pub over_sum : (i : ℕ) (f : OpId) (ks : List ℕ) (p : ℕ) → IsOver t.nodes i f ks → i < length t.nodes → Sum g f p i → IsBearing s heights g.sums f p ks → BEqual d (app f (pack (map (remade g) ks))) (remade g i)
  over_sum i f ks p over l is bearing =
      let assoc = (g.loose.sum i f p l is).associative in
      let b = borne s heights g.sums f p ks bearing in
      let one = argument_within g i f ks over b.bearer (bearer_listed ks b.bearer b.other b.are) in
      let two = argument_within g i f ks over b.other (other_listed ks b.bearer b.other b.are) in
      let h = node_kinded d g.good.fits problem g.kinded t g.table i l in
      same_summands d f g.good.fits (app f (pack (map (remade g) ks))) (remade g i) (h.0, over_kinded g i f ks over h.0 h.1) (h.0, remade_kinded g i h.0 l h.1)
      (λ q.
      let now = often_over d g.good f assoc (remade g) ks b.bearer b.other q b.are in
      let before = ap (often d f q) (old_over g i f ks over) ∙ often_over d g.good f assoc (old g) ks b.bearer b.other q b.are in
      let rest = same_often d f q (remade_low g b.other two b.low) in
      let whole = sum_often i l f p is q in
      let bearer = bears_often i b.bearer l one f p is b.bears q in
      omega (arith, now, before, rest, whole, bearer))
