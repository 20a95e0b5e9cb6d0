-- What holds of terms that bear their least sorts.
use Rattle.std.proofs.Common.{◌≡◌, List, [], ◌∷◌, ◌++◌, map, refl, sym, ap, ◌∙◌, subst}
use Rattle.fvn_terms.specs.declared.plain.OpId.{OpId}
use Rattle.fvn_terms.specs.declared.plain.SortId.{SortId}
use Rattle.fvn_terms.specs.declared.declarations.Declarations.{Declarations}
use Rattle.fvn_terms.specs.declared.declarations.Axioms.{Axioms}
use Rattle.fvn_terms.specs.declared.declarations.Axioms.TheVariants.{Free}
use Rattle.fvn_terms.specs.Signature.{kind, axioms, AtOrBelow, HasKind, HaveKinds}
use Rattle.fvn_terms.specs.Sorts.{HasSort}
use Rattle.fvn_forms.specs.Flat.{funpack, plain_all}
use Rattle.fvn_forms.specs.Good.{IsGood}
use Rattle.fvn_forms.specs.Settled.{FitsUnjoined, Settled, SettledAll}
use Rattle.fvn_forms.specs.Ranks.{result}
use Rattle.fvn_forms.specs.LeastSort.{least_sort, sorts_in}
use Rattle.fvn_forms.proofs.SortOrder.{AtOrBelow-one_kind}
use Rattle.fvn_forms.proofs.LeastSort.{least_sort_of_settled, sort_in-kind}
use Rattle.fvn_rewrite.specs.inner.SortedTerms.{SortedTerm, SortedTerms, svar, sapp, snone, smore, spack, sunpack, sort_of, parts_of, form_of, forms_of, term_of, IsSorted, AreSorted, IsValue}
use Rattle.fvn_rewrite.specs.inner.Fitting.{AreValues}

pub sunpack-spack : (l : List SortedTerm) → sunpack (spack l) ≡ l
sunpack-spack [] = refl
sunpack-spack (t ∷ l) = ap (λ m. t ∷ m) (sunpack-spack l)

module _ (d : Declarations) where
  -- without the sorts such a term is flat
  mutual
    pub sorted_settled : (t : SortedTerm) → IsSorted d t → Settled d (form_of t)
    sorted_settled (svar x) h = tt
    sorted_settled (sapp f s ts) h = (subst (λ (a : Axioms). FitsUnjoined d a (funpack (forms_of ts))) (sym h.0) tt, sorted_all_settled ts h.1.1)

    sorted_all_settled : (ts : SortedTerms) → AreSorted d ts → SettledAll d (forms_of ts)
    sorted_all_settled snone h = tt
    sorted_all_settled (smore t ts) h = (sorted_settled t h.0, sorted_all_settled ts h.1)

  -- the sort that it bears is its least one
  mutual
    pub sort_is_least : (t : SortedTerm) → IsSorted d t → sort_of t ≡ least_sort d (form_of t)
    sort_is_least (svar x) h = refl
    sort_is_least (sapp f s ts) h = h.1.0 ∙ ap (result d f) (sorts_are_least ts h.1.1)

    sorts_are_least : (ts : SortedTerms) → AreSorted d ts → map sort_of (sunpack ts) ≡ sorts_in d (λ x. x.sort) (forms_of ts)
    sorts_are_least snone h = refl
    sorts_are_least (smore t ts) h = ap (λ s. s ∷ map sort_of (sunpack ts)) (sort_is_least t h.0) ∙ ap (λ ss. least_sort d (form_of t) ∷ ss) (sorts_are_least ts h.1)

  values_of_kinds : (ts : SortedTerms) (ks : List SortId) → AreSorted d ts → HaveKinds d (plain_all (forms_of ts)) ks → AreValues d (sunpack ts)
  values_of_kinds snone ks h j = tt
  values_of_kinds (smore t ts) [] h j = absurd j
  values_of_kinds (smore t ts) (k ∷ ks) h j = (record { sorted = h.0; kinded = (k, j.0) }, values_of_kinds ts ks h.1 j.1)

  -- the arguments of a value are values
  pub parts_are_values : (t : SortedTerm) → IsValue d t → AreValues d (parts_of t)
  parts_are_values (svar x) h = tt
  parts_are_values (sapp f s ts) h = values_of_kinds ts _ h.sorted.1.1 h.kinded.1.args

  -- an operator with its least sort over terms with theirs
  pub sorted_over : (t : SortedTerm) (f : OpId) (ts : List SortedTerm) → t ≡ sapp f (result d f (map sort_of ts)) (spack ts) → axioms d f ≡ Free → AreSorted d (spack ts) → IsSorted d t
  sorted_over t f ts is free h = subst (IsSorted d) (sym is) (free, (ap (λ l. result d f (map sort_of l)) (sym (sunpack-spack ts)), h))

  -- one more of them
  pub sorted_append : (ts : List SortedTerm) (t : SortedTerm) → AreSorted d (spack ts) → IsSorted d t → AreSorted d (spack (ts ++ t ∷ []))
  sorted_append [] t h j = (j, tt)
  sorted_append (u ∷ ts) t h j = (h.0, sorted_append ts t h.1 j)

  module _ (good : IsGood d) (t : SortedTerm) (value : IsValue d t) (q : SortId) (below : AtOrBelow d (sort_of t) q) where
    -- a value has each sort above the one that it bears
    pub value_has_sort : HasSort d (term_of t) q
    value_has_sort =
        (least_sort_of_settled d good (form_of t) (sorted_settled t value.sorted) value.kinded q).1
        (subst (λ s. AtOrBelow d s q) (sort_is_least t value.sorted) below)

    -- and the kind of such a sort
    pub value_has_kind : HasKind d (term_of t) (kind d q)
    value_has_kind =
        let k = value.kinded.0 in
        let own : kind d (least_sort d (form_of t)) ≡ k = sort_in-kind d good (λ x. x.sort) (λ x h. refl) (form_of t) (sorted_settled t value.sorted) k value.kinded.1 in
        subst (HasKind d (term_of t)) (sym own ∙ ap (kind d) (sym (sort_is_least t value.sorted)) ∙ AtOrBelow-one_kind d good.kinded below) value.kinded.1
