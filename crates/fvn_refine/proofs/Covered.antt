-- A well-sorted substitution that is covered on kinds is an instance of a refinement.
use Rattle.std.proofs.Common.{◌≡◌, ◌⊎◌, ◌<◌, ◌≤◌, Bool, true, false, List, length, refl, sym, ap, ◌∙◌, subst, inl, inr}
use Rattle.std.specs.List.{Any, Contains}
use Rattle.std.specs.Prelude.{if◌then◌else◌, ◌&&◌}
use Rattle.std.proofs.lemmas.Bool.{and_parts, and_from, cases_lt}
use Rattle.std.proofs.lemmas.List.{get_or_past}
use Rattle.std.proofs.lemmas.List.Elements.{All-contains}
use Rattle.fvn_terms.specs.declared.plain.Var.{Var}
use Rattle.fvn_terms.specs.declared.plain.SortId.{SortId}
use Rattle.fvn_terms.specs.declared.declarations.Declarations.{Declarations}
use Rattle.fvn_terms.specs.Term.{var}
use Rattle.fvn_terms.specs.Signature.{kind, IsSort, AtOrBelow, same, HasKind, IsTerm}
use Rattle.fvn_terms.specs.Substitution.{Substitution, apply, followed_by}
use Rattle.fvn_terms.specs.Equality.{BEqual}
use Rattle.fvn_terms.specs.Sorts.{HasSort, IsWellSorted}
use Rattle.fvn_terms.specs.Unifiers.{IsInstance}
use Rattle.fvn_terms.proofs.Substitutions.{apply-apply, apply-agree}
use Rattle.fvn_terms.proofs.Equal.{BEqual-refl, BEqual-trans, BEqual-apply}
use Rattle.fvn_forms.specs.SortOrder.{same_sort}
use Rattle.fvn_forms.specs.Flat.{fvar, plain}
use Rattle.fvn_forms.specs.Canon.{canon}
use Rattle.fvn_forms.specs.Good.{IsGood}
use Rattle.fvn_forms.specs.LeastSort.{sort_in, least_sort}
use Rattle.fvn_forms.proofs.SortTests.{same_sort-true, same_sort-self}
use Rattle.fvn_forms.proofs.Eval.{canon_settled}
use Rattle.fvn_forms.proofs.ToCanon.{canon_of_kind}
use Rattle.fvn_forms.proofs.LeastSort.{sort_in-kind, least_sort_below, least_sort_exact}
use Rattle.fvn_flat.specs.Bindings.{Bindings, value, BindingsFit}
use Rattle.fvn_flat.specs.Solving.{substitution}
use Rattle.fvn_flat.specs.Drawn.{OccursInValues, IsWay}
use Rattle.fvn_flat.proofs.Instances.{inst_equal}
use Rattle.fvn_refine.specs.Refinements.{Way, at_sort, IsAtSorts, AreBound, HaveKindsAsSorts, IsLargest, AreRefinements, IsCoveredOnKinds}
use Rattle.fvn_refine.specs.Laws.{RefinementsCover}
use Rattle.fvn_refine.proofs.AtSorts.{sorts_flat, value_at_sorts}
use Rattle.fvn_refine.proofs.Refined.{occurs_in_values, occurs_true, occurs_complete, occurring, kinded_value, canon_value, sort_of_var, zip_member, any_member}

module _ (d : Declarations) where
  -- a sort of a kind of the signature is one of the signature
  sort_from_kind : (s k : SortId) → IsSort d k → kind d s ≡ k → IsSort d s
  sort_from_kind s k i e = go (cases_lt s.0 (length d.kinds))
    where
      go : (s.0 < length d.kinds) ⊎ (length d.kinds ≤ s.0) → IsSort d s
      go (inl l) = l
      go (inr l) = subst (IsSort d) (sym e ∙ get_or_past d.kinds s.0 s l) i

  module _ (good : IsGood d) (vars : List Var) (s : Bindings) (fit : BindingsFit d s) (are : AreBound d vars s) (kinds : HaveKindsAsSorts d vars s)
      (rs : List Bindings) (refined : AreRefinements d vars s rs) (u : Substitution) (sorted : IsWellSorted d u) (c : IsCoveredOnKinds d vars s u) where
    later_kind : (y : Var) → IsSort d y.sort → kind d (least_sort d (canon d (c.later y))) ≡ kind d y.sort
    later_kind y i = sort_in-kind d good (λ x. x.sort) (λ x j. refl) (canon d (c.later y)) (canon_settled d (c.later y)) (kind d y.sort) (canon_of_kind d good.fits (c.later y) (kind d y.sort) (c.keeps y i))

    lowest_is_way : IsWay d vars (substitution s) (λ y. least_sort d (canon d (c.later y)))
    lowest_is_way = record {
      kinds = λ y o.
          let i = occurring d vars s fit are y o in
          (sort_from_kind (least_sort d (canon d (c.later y))) (kind d y.sort) (good.kinded.listed y.sort i) (later_kind y i), later_kind y i);
      fits = λ x i.
          let term : IsTerm d (u x) = (kind d x.sort, sorted.0 x (sort_of_var d vars s fit are x i)) in
          subst (λ q. AtOrBelow d q x.sort) (ap (sort_in d (λ y. least_sort d (canon d (c.later y)))) (sym (canon_value d vars s fit are x)))
          (c.sorts x i (least_sort_below d good (u x) term x.sort (sorted.1 x)));
    }

    module _ (way : Way) (largest : IsLargest d vars s way) (above : (y : Var) → OccursInValues vars (substitution s) y → AtOrBelow d (least_sort d (canon d (c.later y))) (way y))
        (r : Bindings) (at : IsAtSorts d s way r) where
      -- the variable of a kind that a variable comes from
      abbrev back : Var → Var
      back z = record { name = z.name; sort = kind d z.sort; fresh = z.fresh }

      -- whether the variable is one at the sorts of the way
      abbrev is_there : Var → Bool
      is_there z = occurs_in_values vars s (back z) && same_sort z.sort (way (back z))

      abbrev after : Substitution
      after z = if is_there z then c.later (back z) else var z

      -- it goes where it went before
      back_is : (y : Var) → OccursInValues vars (substitution s) y → back (at_sort way y) ≡ y
      back_is y o = ap (λ q. record { name = y.name; sort = q; fresh = y.fresh }) ((largest.maximal.is_way.kinds y o).1 ∙ kinds y o)

      after_is : (y : Var) → OccursInValues vars (substitution s) y → after (at_sort way y) ≡ c.later y
      after_is y o =
          ap (λ b. if b then c.later (back (at_sort way y)) else var (at_sort way y))
          (and_from (occurs_in_values vars s (back (at_sort way y))) (same_sort (way y) (way (back (at_sort way y))))
          (ap (occurs_in_values vars s) (back_is y o) ∙ occurs_complete vars s y o)
          (ap (λ z. same_sort (way y) (way z)) (back_is y o) ∙ same_sort-self (way y)))
          ∙ ap c.later (back_is y o)

      own_sort : (z : Var) → HasSort d (var z) z.sort
      own_sort z = record { form = var z; equal = BEqual-refl d (var z); gets = record { sort = z.sort; gets = refl; below = same } }

      after_sorted : IsWellSorted d after
      after_sorted = (λ z i. keeps z i, λ z. has z)
        where
          there : (z : Var) → is_there z ≡ true → OccursInValues vars (substitution s) (back z) × (z.sort ≡ way (back z))
          there z e =
              let p = and_parts (occurs_in_values vars s (back z)) (same_sort z.sort (way (back z))) e in
              (occurs_true vars s (back z) p.0, same_sort-true z.sort (way (back z)) p.1)

          keeps : (z : Var) → IsSort d z.sort → HasKind d (after z) (kind d z.sort)
          keeps z i = go (is_there z) refl
            where
              go : (b : Bool) → is_there z ≡ b → HasKind d (if b then c.later (back z) else var z) (kind d z.sort)
              go true e = subst (HasKind d (c.later (back z))) (good.kinded.own z.sort) (c.keeps (back z) (good.kinded.listed z.sort i))
              go false e = (i, refl)

          has : (z : Var) → HasSort d (after z) z.sort
          has z = go (is_there z) refl
            where
              go : (b : Bool) → is_there z ≡ b → HasSort d (if b then c.later (back z) else var z) z.sort
              go true e =
                  let w = there z e in
                  let i = occurring d vars s fit are (back z) w.0 in
                  (least_sort_exact d good (c.later (back z)) (kind d (back z).sort, c.keeps (back z) i) z.sort).1
                  (subst (AtOrBelow d (least_sort d (canon d (c.later (back z))))) (sym w.1) (above (back z) w.0))
              go false e = own_sort z

      after_equal : (x : Var) → Contains vars x → BEqual d (u x) (apply after (substitution r x))
      after_equal x i =
          let t = value s x in
          let placed : BEqual d (apply (λ y. var (at_sort way y)) (plain t)) (plain (value r x)) =
          subst (λ v. BEqual d (apply (λ y. var (at_sort way y)) (plain t)) (plain v)) (sym (value_at_sorts d good vars s fit are way largest r at x i)) (inst_equal d (λ y. fvar (at_sort way y)) good (sorts_flat d good vars s fit are way largest) t (kind d x.sort, kinded_value d vars s fit are x i)) in
          let undone : apply after (apply (λ y. var (at_sort way y)) (plain t)) ≡ apply c.later (plain t) =
          apply-apply (λ y. var (at_sort way y)) after (plain t) ∙ apply-agree (followed_by (λ y. var (at_sort way y)) after) c.later (plain t) (λ y o. after_is y (x, i, o)) in
          BEqual-trans d (c.equal x i) (subst (λ v. BEqual d v (apply after (plain (value r x)))) undone (BEqual-apply d after after_sorted.0 placed))

      covered_by : IsInstance d vars u (substitution r)
      covered_by = record { after = after; well_sorted = after_sorted; equal = after_equal }

    pub covered : Any (λ r. IsInstance d vars u (substitution r)) rs
    covered =
        let a = refined.above (λ y. least_sort d (canon d (c.later y))) lowest_is_way in
        let m : Contains refined.ways a.1 = (a.0, a.2, a.3) in
        let z = zip_member (IsAtSorts d s) refined.ways rs refined.given a.1 m in
        any_member (λ r. IsInstance d vars u (substitution r)) rs z.0 z.1.0
        (covered_by a.1 (All-contains (IsLargest d vars s) refined.ways a.1 refined.largest m) a.4 z.0 z.1.1)

pub refinements_cover_law : RefinementsCover
refinements_cover_law d good vars s fit are kinds rs refined u sorted c = covered d good vars s fit are kinds rs refined u sorted c
