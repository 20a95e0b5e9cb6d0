-- The sorts right below a sort cover what is below it.
use Rattle.std.proofs.Common.{◌≡◌, ◌<◌, ◌≤◌, ◌↔◌, true, false, ◌&&◌, not, List, [], ◌∷◌, refl, sym, ap, subst, ◌∙◌, ◌⊎◌, inl, inr, arith}
use Rattle.std.specs.List.{Contains}
use Rattle.std.proofs.lemmas.Bool.{cases_Bool, true≢false, and_parts, and_from, not-true, not_from_false, false_from_ne_true}
use Rattle.std.proofs.lemmas.List.Elements.{All-contains}
use Rattle.fvn_terms.specs.declared.plain.SortId.{SortId}
use Rattle.fvn_terms.specs.declared.declarations.Declarations.{Declarations}
use Rattle.fvn_terms.specs.Signature.{kind, AtOrBelow, same, up, to_kind}
use Rattle.fvn_forms.specs.SortOrder.{same_sort, at_or_below}
use Rattle.fvn_forms.specs.Good.{IsGood}
use Rattle.fvn_base.proofs.Membership.{contains_here, contains_later, contains_cases, contains_none, contains_filter, filter_contains, list_all_gives, list_all_from}
use Rattle.fvn_forms.proofs.SortOrder.{AtOrBelow-trans, AtOrBelow-one, AtOrBelow-kind, AtOrBelow-from_same, AtOrBelow-antisym, AtOrBelow-one_kind}
use Rattle.fvn_forms.proofs.SortTests.{same_sort-true, same_sort-self, at_or_below-true, at_or_below-complete}
use Rattle.fvn_signature.specs.FirstSorts.{first_sorts}
use Rattle.fvn_signature.specs.Queries.{IsKind, IsCompleted, IsMaximalOf, IsBelow, IsDirectSubsort, is_below, is_direct, direct_subsorts}
use Rattle.fvn_signature.proofs.FirstSorts.{contains_first_sorts, first_sorts_contains}

module _ (d : Declarations) where
  is_below-true : (s q : SortId) → is_below d s q ≡ true → IsBelow d s q
  is_below-true s q h =
      let r = and_parts (at_or_below d s q) (not (same_sort s q)) h in
      (at_or_below-true d s q r.0, λ e. true≢false (sym (subst (λ z. same_sort s z ≡ true) e (same_sort-self s)) ∙ not-true _ r.1))

  is_below-complete : (s q : SortId) → IsBelow d s q → is_below d s q ≡ true
  is_below-complete s q h = and_from (at_or_below d s q) (not (same_sort s q)) (at_or_below-complete d h.0) (not_from_false _ (false_from_ne_true _ (λ e. h.1 (same_sort-true s q e))))

  listed-Direct : (s t : SortId) → Contains (direct_subsorts d s) t → IsDirectSubsort d s t
  unfolding direct_subsorts
  listed-Direct s t h =
      let r = filter_contains (is_direct d s) (first_sorts d.sorts) t h in
      let p = and_parts (is_below d t s) _ r.1 in
      record {
        declared = first_sorts_contains d.sorts t r.0;
        below = is_below-true t s p.0;
        between = λ q l a b. true≢false (sym (and_from (is_below d t q) (is_below d q s) (is_below-complete t q a) (is_below-complete q s b)) ∙ not-true _ (list_all_gives (λ z. not (is_below d t z && is_below d z s)) (first_sorts d.sorts) q p.1 (contains_first_sorts d.sorts q l)));
      }

  Direct-listed : (s t : SortId) → IsDirectSubsort d s t → Contains (direct_subsorts d s) t
  unfolding direct_subsorts
  Direct-listed s t h = contains_filter (is_direct d s) (first_sorts d.sorts) t (contains_first_sorts d.sorts t h.declared) (and_from (is_below d t s) _ (is_below-complete t s h.below) (list_all_from (λ z. not (is_below d t z && is_below d z s)) (first_sorts d.sorts) none)) where
    none : (q : SortId) → Contains (first_sorts d.sorts) q → not (is_below d t q && is_below d q s) ≡ true
    none q i = not_from_false _ (false_from_ne_true _ (λ e. let p = and_parts (is_below d t q) (is_below d q s) e in h.between q (first_sorts_contains d.sorts q i) (is_below-true t q p.0) (is_below-true q s p.1)))

  pub direct_subsorts_listed : (s t : SortId) → Contains (direct_subsorts d s) t ↔ IsDirectSubsort d s t
  direct_subsorts_listed s t = (listed-Direct s t, Direct-listed s t)

  -- a sort at or above u and below s, with none of xs between it and s
  record Climbed (s : SortId) (xs : List SortId) (u : SortId) : Type 0 where
    top : SortId
    above : AtOrBelow d u top
    below : IsBelow d top s
    declared : top.0 < d.sorts
    between : (q : SortId) → Contains xs q → IsBelow d top q → IsBelow d q s → ⊥

  climbed_past : (s x : SortId) (xs : List SortId) (u v : SortId) → AtOrBelow d u v → (r : Climbed s xs v) → (IsBelow d r.top x → IsBelow d x s → ⊥) → Climbed s (x ∷ xs) u
  climbed_past s x xs u v h r passed = record {
    top = r.top;
    above = AtOrBelow-trans d h r.above;
    below = r.below;
    declared = r.declared;
    between = λ q i a b. elim (contains_cases x xs q i) as (λ _. ⊥) [
      | inl e ↦ passed (subst (IsBelow d r.top) (sym e) a) (subst (λ z. IsBelow d z s) (sym e) b)
      | inr j ↦ r.between q j a b
    ];
  }

  module _ (good : IsGood d) where
    antisym : (s q : SortId) → AtOrBelow d s q → AtOrBelow d q s → s ≡ q
    antisym s q = AtOrBelow-antisym d good.kinded good.acyclic

    below_upward : (t u s : SortId) → AtOrBelow d t u → IsBelow d u s → IsBelow d t s
    below_upward t u s h b = (AtOrBelow-trans d h b.0, λ e. b.1 (antisym u s b.0 (subst (λ z. AtOrBelow d z u) e h)))

    climbed : (s : SortId) (xs : List SortId) → ((q : SortId) → Contains xs q → q.0 < d.sorts) → (u : SortId) → u.0 < d.sorts → IsBelow d u s → Climbed s xs u
    climbed s [] declared u l h = record { top = u; above = same; below = h; declared = l; between = λ q i _ _. contains_none q i }
    climbed s (x ∷ xs) declared u l h = go (cases_Bool (is_below d u x && is_below d x s)) (climbed s xs later x (declared x (contains_here x xs))) (climbed s xs later u l h) where
      later : (q : SortId) → Contains xs q → q.0 < d.sorts
      later q i = declared q (contains_later x xs q i)

      go : ((is_below d u x && is_below d x s) ≡ true) ⊎ ((is_below d u x && is_below d x s) ≡ false) → (IsBelow d x s → Climbed s xs x) → Climbed s xs u → Climbed s (x ∷ xs) u
      go (inl e) higher stay =
          let p = and_parts (is_below d u x) (is_below d x s) e in
          let r = higher (is_below-true x s p.1) in
          climbed_past s x xs u x (is_below-true u x p.0).0 r (λ a _. a.1 (antisym r.top x a.0 r.above))
      go (inr e) higher stay = climbed_past s x xs u u same stay (λ a b. true≢false (sym (and_from (is_below d u x) (is_below d x s) (is_below-complete u x (below_upward u stay.top x stay.above a)) (is_below-complete x s b)) ∙ e))

    pub direct_subsorts_cover : (s t : SortId) → t.0 < d.sorts → IsBelow d t s ↔ ((u : SortId) × (Contains (direct_subsorts d s) u × AtOrBelow d t u))
    direct_subsorts_cover s t l = (forth, λ w. below_upward t w.0 s w.1.1 (listed-Direct s w.0 w.1.0).below) where
      forth : IsBelow d t s → (u : SortId) × (Contains (direct_subsorts d s) u × AtOrBelow d t u)
      forth h =
          let r = climbed s (first_sorts d.sorts) (first_sorts_contains d.sorts) t l h in
          let direct : IsDirectSubsort d s r.top = record { declared = r.declared; below = r.below; between = λ q m. r.between q (contains_first_sorts d.sorts q m) } in
          (r.top, (Direct-listed s r.top direct, r.above))

    module _ (whole : IsCompleted d) (k : SortId) (is : IsKind d k) where
      own : kind d k ≡ k
      own = let w = whole.sort_of_kind k is in subst (λ z. kind d z ≡ z) w.1.1 (good.kinded.own w.0)

      not_declared : (q : SortId) → q.0 < d.sorts → q ≡ k → ⊥
      not_declared q l equal = let after : d.sorts ≤ k.0 = is.after_sorts in let n : q.0 ≡ k.0 = ap (λ (z : SortId). z.0) equal in omega arith

      below_kind : (q : SortId) → q.0 < d.sorts → kind d q ≡ k → IsBelow d q k
      below_kind q l e = (subst (AtOrBelow d q) e (AtOrBelow-kind d q), not_declared q l)

      direct_is_maximal : (s : SortId) → IsDirectSubsort d k s → IsMaximalOf d k s
      direct_is_maximal s direct = record { declared = direct.declared; of_kind = of_kind; maximal = maximal } where
        of_kind : kind d s ≡ k
        of_kind = AtOrBelow-one_kind d good.kinded direct.below.0 ∙ own

        maximal : (q : SortId) → Contains d.below (s, q) → ⊥
        maximal q c =
            let l = (All-contains (λ p. (p.0.0 < d.sorts) × (p.1.0 < d.sorts)) d.below (s, q) whole.in_range c).1 in
            direct.between q l (AtOrBelow-one d c, λ e. good.acyclic s q c (AtOrBelow-from_same d (sym e))) (below_kind q l (sym (good.kinded.ordered s q c) ∙ of_kind))

      -- above a maximal sort there is no declared sort
      none_above : (s q : SortId) → IsMaximalOf d k s → q.0 < d.sorts → AtOrBelow d s q → s ≡ q
      none_above s q most l same = refl
      none_above s q most l (up c h) = absurd (most.maximal _ c)
      none_above s q most l (to_kind h) = absurd (not_declared q l (antisym q k (below_kind q l (sym (AtOrBelow-one_kind d good.kinded (to_kind h)) ∙ most.of_kind)).0 (subst (λ z. AtOrBelow d z q) most.of_kind h)))

      maximal_is_direct : (s : SortId) → IsMaximalOf d k s → IsDirectSubsort d k s
      maximal_is_direct s most = record {
        declared = most.declared;
        below = below_kind s most.declared most.of_kind;
        between = λ q l a b. a.1 (none_above s q most l a.0);
      }

      pub direct_subsorts_of_kind : (s : SortId) → Contains (direct_subsorts d k) s ↔ IsMaximalOf d k s
      direct_subsorts_of_kind s = (λ h. direct_is_maximal s (listed-Direct k s h), λ most. Direct-listed k s (maximal_is_direct s most))
