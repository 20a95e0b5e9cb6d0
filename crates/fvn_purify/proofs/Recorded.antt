-- A split tells the answer to each question.
use Rattle.std.proofs.Common.{◌≡◌, ℕ, true, false, Bool, not, List, [], ◌∷◌, refl, sym, ap, ◌∙◌, subst, inl, inr, arith, Contains}
use Rattle.std.specs.Prelude.{nat_eq}
use Rattle.std.proofs.lemmas.Bool.{eqb-true}
use Rattle.std.proofs.lemmas.Option.{slice_get_within}
use Rattle.fvn_terms.specs.declared.plain.OpId.{OpId}
use Rattle.fvn_terms.specs.declared.declarations.Declarations.{Declarations}
use Rattle.fvn_combine_nodes.specs.Table.{IsOver}
use Rattle.fvn_combine_nodes.specs.Classes.{IsNodePartition}
use Rattle.fvn_combine_nodes.specs.States.{Admits, IsClosed, class_of}
use Rattle.fvn_combine_nodes.specs.declared.state.State.{State}
use Rattle.fvn_combine_nodes.specs.declared.table.Node.TheVariants.{App}
use Rattle.fvn_purify.specs.Parts.{Outline}
use Rattle.fvn_purify.specs.Heads.{IsUnitNode}
use Rattle.fvn_purify.specs.Splits.{number_in, IsInUnit, CanHead, IsSplitBy}
use Rattle.fvn_purify.specs.inner.Choices.{AreStepped, IsSplitQuestion}
use Rattle.fvn_purify.specs.declared.classes.Head.{Head}
use Rattle.fvn_purify.specs.declared.classes.Head.TheVariants.{Free, Pair, Sum, Identity}
use Rattle.fvn_purify.specs.declared.split.Split.{Split}
use Rattle.fvn_purify.proofs.Elements.{map_same, place_of, slice_get-some}
use Rattle.fvn_purify.proofs.Numbers.{number_same, number_tells, nat_eq-same}
use Rattle.fvn_purify.proofs.Decided.{one_node, one_unit, admitted_same}

module _ (d : Declarations) (c : Outline) (fit : AreStepped d c) where
  -- the head of a class with an identity is that identity
  pub head_is_unit : (class : ℕ → ℕ) (i : ℕ) (h : Head) (e : OpId) → IsInUnit d c class i e → CanHead d c class i h → (f : OpId) × ((h ≡ Identity f) × IsInUnit d c class i f)
  head_is_unit class i Free e u k = absurd (k.no_unit e u)
  head_is_unit class i (Pair f) e u k = absurd (k.no_unit e u)
  head_is_unit class i (Sum f) e u k = absurd (k.no_unit e u)
  head_is_unit class i (Identity f) e u k = (f, (refl, k))

  -- a unit that is listed
  pub listed_unit : (p : OpId × ℕ) → Contains c.table.units p → (e : OpId) × IsUnitNode c.table e p.1
  listed_unit p h = let u = fit.units p h in (u.0, (p, h, refl, u.1))

  module _ (s : State) (closed : IsClosed d c.table s) (class other : ℕ → ℕ) (admits : Admits s class) (admitted : Admits s other) (partition : IsNodePartition d c.table other) (split : Split) (by : IsSplitBy d c class split) (by_other : IsSplitBy d c other split) where
    parts_agree : (x y : ℕ) → Contains c.places.parts x → Contains c.places.parts y → other x ≡ other y → class x ≡ class y
    parts_agree x y hx hy e =
        let same = sym by.numbers ∙ by_other.numbers in
        let at = λ (z : ℕ) (h : Contains c.places.parts z). map_same (number_in class c.places.parts) (number_in other c.places.parts) c.places.parts same z h in
        number_tells class c.places.parts x y hx (at x hx ∙ number_same other c.places.parts x y e ∙ sym (at y hy))

    units_agree : (x : ℕ) (p : OpId × ℕ) → Contains c.places.headed x → Contains c.table.units p → other x ≡ other p.1 → class x ≡ class p.1
    units_agree x p hx hp e =
        let place = place_of c.places.headed x hx in
        let head = slice_get-some split.heads place.0 (let n = slice_get_within c.places.headed place.0 x place.1 in let m = by.all_heads in omega arith) in
        let u = listed_unit p hp in
        let k = head_is_unit other x head.0 u.0 (p.1, u.1, e) (by_other.heads.can place.0 x head.0 (place.1, head.1)) in
        let there = k.1.1 in
        let one : there.0 ≡ p.1 = one_node d c fit there.0 p.1 k.0 u.0 [] there.1.3 u.1.3 (one_unit d c fit (λ a v. ⊥) other partition there.0 p.1 k.0 u.0 there.1 u.1 (sym there.2 ∙ e)) in
        let mine : IsInUnit d c class x k.0 = subst (CanHead d c class x) k.1.0 (by.heads.can place.0 x head.0 (place.1, head.1)) in
        let again : mine.0 ≡ there.0 = one_node d c fit mine.0 there.0 k.0 k.0 [] mine.1.3 there.1.3 refl in
        mine.2 ∙ ap class (again ∙ one)

    ways_agree : (x y : ℕ) (p : ℕ × ℕ) → Contains c.places.pairs p → class_of s p.0 ≡ class_of s p.1 → (f g : OpId) (ks ls : List ℕ) → IsOver c.table.nodes p.0 f (x ∷ ks) → IsOver c.table.nodes p.1 g (y ∷ ls) → other x ≡ other y → class x ≡ class y
    ways_agree x y p hp same f g ks ls a b e =
        let place = place_of c.places.pairs p hp in
        let way = slice_get-some split.swaps place.0 (let n = slice_get_within c.places.pairs place.0 p place.1 in let m = by.all_swaps in omega arith) in
        let l = slice_get_within c.table.nodes p.0 (App f (x ∷ ks)) a in
        let m = slice_get_within c.table.nodes p.1 (App g (y ∷ ls)) b in
        let mine = by.swaps place.0 p way.0 (place.1, way.1) f g x y ks ls a b (admitted_same d c fit s closed class admits p.0 p.1 l m same) in
        let its = by_other.swaps place.0 p way.0 (place.1, way.1) f g x y ks ls a b (admitted_same d c fit s closed other admitted p.0 p.1 l m same) in
        let t : not (nat_eq (class x) (class y)) ≡ false = sym mine ∙ its ∙ ap not (nat_eq-same (other x) (other y) e) in
        eqb-true (class x) (class y) (from_not (nat_eq (class x) (class y)) t)
      where
        from_not : (b : Bool) → not b ≡ false → b ≡ true
        from_not true e = refl
        from_not false e = cc

    -- what one partition that the split tells of has in one class, the other has too
    pub questions_agree : (x y : ℕ) → IsSplitQuestion c s x y → other x ≡ other y → class x ≡ class y
    questions_agree x y (inl h) e = parts_agree x y h.0 h.1 e
    questions_agree x y (inr (inl h)) e =
        subst (λ k. class x ≡ class k) h.1.2 (units_agree x h.1.0 h.0 h.1.1 (e ∙ ap other (sym h.1.2)))
    questions_agree x y (inr (inr h)) e = let first = h.3 in ways_agree x y h.0 h.1 h.2 first.0 first.1 first.2 first.3 first.4 first.5 e
