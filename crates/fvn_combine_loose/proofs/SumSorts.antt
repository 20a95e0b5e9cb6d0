-- A sort that sums have exactly where each of their summands has it.
use Rattle.std.proofs.Common.{◌≡◌, ◌≢◌, ◌≤◌, ◌<◌, Bool, true, false, List, [], ◌∷◌, length, map, refl, sym, ap, ◌∙◌, subst, inl, inr, ◌⊎◌, arith, Option, Some, None}
use Rattle.std.specs.Prelude.{◌↔◌, All, Contains, find, unwrap_or, cond, if◌then◌else◌}
use Rattle.std.specs.List.{AllByRecursion, AllZip, fold}
use Rattle.std.proofs.lemmas.Bool.{false≢true}
use Rattle.std.proofs.lemmas.List.Elements.{All-from_recursion, recursion_from_All, All-nil, All-contains, Contains-append_cases}
use Rattle.fvn_base.proofs.Membership.{contains_cases, contains_here, contains_later, contains_none, map_contains}
use Rattle.fvn_terms.specs.declared.plain.OpId.{OpId}
use Rattle.fvn_terms.specs.declared.plain.SortId.{SortId}
use Rattle.fvn_terms.specs.declared.declarations.Axioms.{Axioms}
use Rattle.fvn_terms.specs.declared.declarations.Axioms.TheVariants.{Free, Comm, AssocComm, AssocCommId}
use Rattle.fvn_terms.specs.declared.declarations.Rank.{Rank}
use Rattle.fvn_terms.specs.declared.declarations.Declarations.{Declarations}
use Rattle.fvn_terms.specs.Signature.{kind, declared, axioms, AtOrBelow}
use Rattle.fvn_terms.specs.Equality.{IsAssociative, identity}
use Rattle.fvn_forms.specs.Flat.{FlatTerm, FlatTerms, fvar, fapp, fnone, fmore, funpack, fconstant}
use Rattle.fvn_forms.specs.Canon.{same_op, is_identity, parts}
use Rattle.fvn_forms.specs.Settled.{Settled}
use Rattle.fvn_forms.specs.Ranks.{swapped_args, swapped_ranks, swaps, kind_rank, written_ranks, ranks_of, results, is_lowest, first_result, result}
use Rattle.fvn_forms.specs.Good.{IsGood, IsOfKind}
use Rattle.fvn_forms.specs.LeastSort.{result_of_two, sum_sort, sorts_in, least_sort}
use Rattle.fvn_forms.proofs.SortOrder.{AtOrBelow-trans, kind_is_greatest}
use Rattle.fvn_forms.proofs.Results.{result_monotone, TakesKinds-pair, contains-Serves}
use Rattle.fvn_forms.proofs.Sums.{same_op_is}
use Rattle.fvn_combine_loose.specs.Loose.{IsSumSort}
use Rattle.fvn_combine_loose.specs.inner.NodeSorts.{IsWithin}

-- what is found is in the list, or what stands for nothing found
find_either : {A : Type 0} (p : A → Bool) (xs : List A) (o : A) → Contains xs (unwrap_or (find p xs) o) ⊎ (unwrap_or (find p xs) o ≡ o)
find_either p [] o = inr refl
find_either {A} p (x ∷ xs) o = go (p x) (find_either p xs o)
  where
    Found : Option A → List A → Type 0
    Found r zs = Contains zs (unwrap_or r o) ⊎ (unwrap_or r o ≡ o)

    go : (b : Bool) → Found (find p xs) xs → Found (cond b (Some x) (find p xs)) (x ∷ xs)
    go true r = inl (contains_here x xs)
    go false r = elim r as (λ _. Found (find p xs) (x ∷ xs)) [
      | inl i ↦ inl (contains_later x xs (unwrap_or (find p xs) o) i)
      | inr e ↦ inr e
    ]

is_unit : (o : Option OpId) (g : OpId) → is_identity o g ≡ true → o ≡ Some g
is_unit None g e = absurd (false≢true e)
is_unit (Some u) g e = ap Some (same_op_is u g e)

module _ (d : Declarations) (q : SortId) where
  -- the sort is at or below q
  abbrev Below : SortId → Type 0
  Below s = AtOrBelow d s q

  -- what the rank takes is at or below q where it gives such a sort
  abbrev Keeps : Rank → Type 0
  Keeps p = Below p.result → AllByRecursion Below p.args

  -- what is below sorts that are at or below q
  below_each : (ss qs : List SortId) → AllZip (AtOrBelow d) ss qs → AllByRecursion Below qs → AllByRecursion Below ss
  below_each [] [] h k = tt
  below_each [] (r ∷ rs) h k = absurd h
  below_each (s ∷ ss) [] h k = absurd h
  below_each (s ∷ ss) (r ∷ rs) h k = (AtOrBelow-trans d h.0 k.0, below_each ss rs h.1 k.1)

  -- swapped arguments are no others
  swapped_args-keep : (ss : List SortId) (r : SortId) (p : Rank) → Contains (swapped_args ss r) p → (Below r → AllByRecursion Below ss) → Keeps p
  swapped_args-keep [] r p h keeps = absurd (contains_none p h)
  swapped_args-keep (s ∷ []) r p h keeps = absurd (contains_none p h)
  swapped_args-keep (s ∷ u ∷ []) r p h keeps = elim (contains_cases (record { args = u ∷ s ∷ []; result = r }) [] p h) as (λ _. Keeps p) [
    | inl e ↦ subst Keeps e (λ below. let w = keeps below in (w.1.0, (w.0, tt)))
    | inr i ↦ absurd (contains_none p i)
  ]
  swapped_args-keep (s ∷ u ∷ v ∷ vs) r p h keeps = absurd (contains_none p h)

  swapped_ranks-keep : (rs : List Rank) → ((p : Rank) → Contains rs p → Keeps p) → (p : Rank) → Contains (swapped_ranks rs) p → Keeps p
  swapped_ranks-keep [] each p h = absurd (contains_none p h)
  swapped_ranks-keep (r ∷ rs) each p h = elim (Contains-append_cases (swapped_args r.args r.result) (swapped_ranks rs) p h) as (λ _. Keeps p) [
    | inl i ↦ swapped_args-keep r.args r.result p i (each r (contains_here r rs))
    | inr i ↦ swapped_ranks-keep rs (λ z c. each z (contains_later r rs z c)) p i
  ]

  swaps-keep : (a : Axioms) (rs : List Rank) → ((p : Rank) → Contains rs p → Keeps p) → (p : Rank) → Contains (swaps a rs) p → Keeps p
  swaps-keep Free rs each p h = absurd (contains_none p h)
  swaps-keep Comm rs each p h = swapped_ranks-keep rs each p h
  swaps-keep AssocComm rs each p h = swapped_ranks-keep rs each p h
  swaps-keep (AssocCommId e) rs each p h = swapped_ranks-keep rs each p h

  module _ (good : IsGood d) (no_kind : kind d q ≢ q) where
    -- no kind is at or below q
    kind_above : (s : SortId) → Below (kind d s) → ⊥
    kind_above s h = let e = kind_is_greatest d good.kinded s q h in no_kind (ap (kind d) (sym e) ∙ good.kinded.own s ∙ e)

    first_above : (rs : List Rank) → 0 < length rs → Below (first_result d rs) → ⊥
    first_above [] l h = omega (arith, l)
    first_above (r ∷ rs) l h = kind_above r.result h

    module _ (f : OpId) (some : 0 < length (declared d f).ranks) (each : All (IsWithin d q) (declared d f).ranks) where
      declared_keep : (p : Rank) → Contains (declared d f).ranks p → Keeps p
      declared_keep p i below = recursion_from_All Below p.args ((All-contains (IsWithin d q) (declared d f).ranks p each i).below below)

      written_keep : (p : Rank) → Contains (written_ranks d f) p → Keeps p
      written_keep p h = elim (Contains-append_cases (declared d f).ranks (map (kind_rank d) (declared d f).ranks) p h) as (λ _. Keeps p) [
        | inl i ↦ declared_keep p i
        | inr i ↦
            let w = map_contains (kind_rank d) (declared d f).ranks p i in
            λ below. absurd (kind_above w.0.result (subst Below (ap (λ (z : Rank). z.result) (sym w.1.1)) below))
      ]

      ranks_keep : (p : Rank) → Contains (ranks_of d f) p → Keeps p
      ranks_keep p h = elim (Contains-append_cases (written_ranks d f) (swaps (axioms d f) (written_ranks d f)) p h) as (λ _. Keeps p) [
        | inl i ↦ written_keep p i
        | inr i ↦ swaps-keep (axioms d f) (written_ranks d f) written_keep p i
      ]

      -- where the result is at or below q the arguments are
      result_below : (args : List SortId) → Below (result d f args) → AllByRecursion Below args
      unfolding result
      result_below args h = elim (find_either (is_lowest d (results d (ranks_of d f) args)) (results d (ranks_of d f) args) (first_result d (declared d f).ranks)) as (λ _. AllByRecursion Below args) [
        | inl i ↦
            let w = contains-Serves d f args (result d f args) i in
            below_each args w.rank.args w.fits (ranks_keep w.rank w.listed (subst Below (sym w.gives) h))
        | inr e ↦ absurd (first_above (declared d f).ranks some (subst Below e h))
      ]

      -- so are the sorts of which a sum is at or below q
      fold_below : (a : SortId) (l : List SortId) → Below (fold (result_of_two d f) a l) → Below a × AllByRecursion Below l
      fold_below a [] h = (h, tt)
      fold_below a (b ∷ l) h =
          let rest = fold_below (result_of_two d f a b) l h in
          let two = result_below (a ∷ b ∷ []) rest.0 in
          (two.0, (two.1.0, rest.1))

      first_fits : (rs : List Rank) → 0 < length rs → All (IsWithin d q) rs → (r : Rank) × (Contains rs r × (kind d q ≡ kind d r.result))
      first_fits [] l h = absurd (omega (arith, l))
      first_fits (r ∷ rs) l h = (r, (contains_here r rs, sym (All-contains (IsWithin d q) (r ∷ rs) r h (contains_here r rs)).kinds))

      of_kind : IsOfKind d f q
      of_kind = let w = first_fits (declared d f).ranks some each in record { rank = w.0; listed = w.1.0; kind_is = w.1.1 }

      module _ (assoc : IsAssociative (axioms d f)) (two : Below (result d f (q ∷ q ∷ []))) (unit : (e : OpId) → identity (axioms d f) ≡ Some e → Below (result d e [])) where
        two_below : (a b : SortId) → Below a → Below b → Below (result_of_two d f a b)
        two_below a b h k = AtOrBelow-trans d (result_monotone d good f (a ∷ b ∷ []) (q ∷ q ∷ []) (h, (k, tt)) (TakesKinds-pair d good f q q assoc of_kind of_kind)) two

        fold_all : (a : SortId) (l : List SortId) → Below a → AllByRecursion Below l → Below (fold (result_of_two d f) a l)
        fold_all a [] h k = h
        fold_all a (b ∷ l) h k = fold_all (result_of_two d f a b) l (two_below a b h k.0) k.1

        -- the form has the sort
        abbrev HasIt : FlatTerm → Type 0
        HasIt v = Below (least_sort d v)

        sorts_each : (ts : FlatTerms) → AllByRecursion Below (sorts_in d (λ x. x.sort) ts) → AllByRecursion HasIt (funpack ts)
        sorts_each fnone h = tt
        sorts_each (fmore t ts) h = (h.0, sorts_each ts h.1)

        each_sorts : (ts : FlatTerms) → AllByRecursion HasIt (funpack ts) → AllByRecursion Below (sorts_in d (λ x. x.sort) ts)
        each_sorts fnone h = tt
        each_sorts (fmore t ts) h = (h.0, each_sorts ts h.1)

        of_sum : (ts : FlatTerms) → 2 ≤ length (funpack ts) → Below (sum_sort d f (sorts_in d (λ x. x.sort) ts)) ↔ All HasIt (funpack ts)
        of_sum fnone l = absurd (let n : 2 ≤ 0 = l in omega arith)
        of_sum (fmore t ts) l = (
          λ h. let w = fold_below (least_sort d t) (sorts_in d (λ x. x.sort) ts) h in All-from_recursion HasIt (t ∷ funpack ts) (w.0, sorts_each ts w.1),
          λ a. let r = recursion_from_All HasIt (t ∷ funpack ts) a in fold_all (least_sort d t) (sorts_in d (λ x. x.sort) ts) r.0 (each_sorts ts r.1),
        )

        alone : (v : FlatTerm) → HasIt v ↔ All HasIt (v ∷ [])
        alone v = (λ h. All-from_recursion HasIt (v ∷ []) (h, tt), λ a. (recursion_from_All HasIt (v ∷ []) a).0)

        exact : (v : FlatTerm) → Settled d v → HasIt v ↔ All HasIt (parts d f v)
        exact (fvar x) h = alone (fvar x)
        exact (fapp g true ts) h = go (same_op f g) refl
          where
            go : (b : Bool) → same_op f g ≡ b → HasIt (fapp g true ts) ↔ All HasIt (if b then funpack ts else fapp g true ts ∷ [])
            go true p = subst (λ o. HasIt (fapp o true ts) ↔ All HasIt (funpack ts)) (same_op_is f g p) (of_sum ts h.0.two_or_more)
            go false p = alone (fapp g true ts)
        exact (fapp g false fnone) h = go (is_identity (identity (axioms d f)) g) refl
          where
            go : (b : Bool) → is_identity (identity (axioms d f)) g ≡ b → HasIt (fconstant g) ↔ All HasIt (if b then [] else fconstant g ∷ [])
            go true p = (λ _. All-nil HasIt, λ _. unit g (is_unit (identity (axioms d f)) g p))
            go false p = alone (fconstant g)
        exact (fapp g false (fmore t ts)) h = alone (fapp g false (fmore t ts))

        -- so it is such a sort
        pub sum_sort_from : IsSumSort d f q
        sum_sort_from = record { of_kind = of_kind; exact = λ v settled _. exact v settled }
