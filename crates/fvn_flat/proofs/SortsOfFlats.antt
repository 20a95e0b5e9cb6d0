-- The least sort of a form that fits, from the sorts of its arguments.
use Rattle.std.proofs.Common.{◌≡◌, ℕ, ◌+◌, ◌<◌, ◌≤◌, Bool, true, false, List, [], ◌∷◌, ◌++◌, map, length, take, get_or, Some, refl, sym, ap, ◌∙◌, subst, arith}
use Rattle.std.specs.List.{fold}
use Rattle.std.proofs.lemmas.List.{map_more, length-map}
use Rattle.fvn_terms.specs.declared.plain.Var.{Var}
use Rattle.fvn_terms.specs.declared.plain.OpId.{OpId}
use Rattle.fvn_terms.specs.declared.plain.SortId.{SortId}
use Rattle.fvn_terms.specs.declared.declarations.Declarations.{Declarations}
use Rattle.fvn_terms.specs.Signature.{kind, HaveKinds}
use Rattle.fvn_terms.specs.Sorts.{IsLeastSort}
use Rattle.fvn_forms.specs.Flat.{FlatTerm, FlatTerms, fapp, fnone, fmore, fpack, funpack, plain, plain_all}
use Rattle.fvn_forms.specs.Good.{IsGood}
use Rattle.fvn_forms.specs.LeastSort.{result_of_two, sum_sort, sort_in, sorts_in, least_sort, sort_over}
use Rattle.fvn_forms.proofs.Sums.{funpack-fpack}
use Rattle.fvn_forms.proofs.Eval.{canon_plain}
use Rattle.fvn_forms.proofs.LeastSort.{least_sort_is_least}
use Rattle.fvn_flat.specs.Fits.{Fits, AllFit}
use Rattle.fvn_flat.specs.Weight.{places}
use Rattle.fvn_flat.specs.inner.SumSorts.{with_summand, sort_so_far, whole_sort}
use Rattle.fvn_flat.proofs.Fitting.{args_fit}
use Rattle.fvn_flat.proofs.Instances.{each_at}
use Rattle.fvn_flat.proofs.Smaller.{places_at}

sorts_of_list : (d : Declarations) (env : Var → SortId) (l : List FlatTerm) → sorts_in d env (fpack l) ≡ map (sort_in d env) l
sorts_of_list d env [] = refl
sorts_of_list d env (t ∷ l) = ap (λ ss. sort_in d env t ∷ ss) (sorts_of_list d env l)

sorts_in-fpack : (d : Declarations) (env : Var → SortId) (l : List FlatTerm) → sorts_in d env (fpack l) ≡ map (sort_in d env) l
sorts_in-fpack d env [] = refl
sorts_in-fpack d env (t ∷ l) = ap (λ ss. sort_in d env t ∷ ss) (sorts_in-fpack d env l)

fold_push : {A : Type 0} (g : A → A → A) (a : A) (l : List A) (b : A) → fold g a (l ++ b ∷ []) ≡ g (fold g a l) b
fold_push g a [] b = refl
fold_push g a (c ∷ l) b = fold_push g (g a c) l b

module _ (d : Declarations) where
  sort_so_far-push : (f : OpId) (l : List SortId) (s : SortId) → sort_so_far d f (l ++ s ∷ []) ≡ Some (with_summand d f (sort_so_far d f l) s)
  sort_so_far-push f [] s = refl
  sort_so_far-push f (q ∷ l) s = ap Some (fold_push (result_of_two d f) q l s)

  whole_sort_is : (f : OpId) (l : List SortId) → whole_sort d f (sort_so_far d f l) ≡ sum_sort d f l
  whole_sort_is f [] = refl
  whole_sort_is f (s ∷ l) = refl

  -- one more sort
  pub sorts-step : (l : List FlatTerm) (i : ℕ) (t : FlatTerm) → i < length l → t ≡ get_or l i t → map (least_sort d) (take (i + 1) l) ≡ map (least_sort d) (take i l) ++ least_sort d t ∷ []
  sorts-step l i t within is = map_more (least_sort d) l i t within ∙ ap (λ u. map (least_sort d) (take i l) ++ least_sort d u ∷ []) (sym is)

  pub so_far-step : (f : OpId) (l : List FlatTerm) (i : ℕ) (t : FlatTerm) → i < length l → t ≡ get_or l i t →
      sort_so_far d f (map (least_sort d) (take (i + 1) l)) ≡ Some (with_summand d f (sort_so_far d f (map (least_sort d) (take i l))) (least_sort d t))
  so_far-step f l i t within is = ap (sort_so_far d f) (sorts-step l i t within is) ∙ sort_so_far-push f (map (least_sort d) (take i l)) (least_sort d t)

  module _ (f : OpId) (joined : Bool) (l : List FlatTerm) (t : FlatTerm) (view : t ≡ fapp f joined (fpack l)) where
    pub sort_of_app : (b : Bool) → joined ≡ b → least_sort d t ≡ sort_over d f b (map (least_sort d) l)
    sort_of_app b j = ap (least_sort d) view ∙ ap (sort_over d f joined) (sorts_of_list d (λ x. x.sort) l) ∙ ap (λ c. sort_over d f c (map (least_sort d) l)) j

    pub whole_sort_of : joined ≡ true → whole_sort d f (sort_so_far d f (map (least_sort d) l)) ≡ least_sort d t
    whole_sort_of j = whole_sort_is f (map (least_sort d) l) ∙ sym (sort_of_app true j)

    pub argument_fits : IsGood d → Fits d t → (i : ℕ) (u : FlatTerm) → i < length l → u ≡ get_or l i u → (places u < places t) × Fits d u
    argument_fits good h i u within is =
        let p = places_at l i u within is in
        let q = ap places view in
        let args : AllFit d l = subst (AllFit d) (funpack-fpack l) (args_fit (fapp f joined (fpack l)) d good.fits (subst (Fits d) view h)) in
        (omega arith, each_at (Fits d) l args i u within is)

    as_many : (ts : FlatTerms) (ks : List SortId) → HaveKinds d (plain_all ts) ks → length (funpack ts) ≡ length ks
    as_many fnone [] h = refl
    as_many fnone (k ∷ ks) h = absurd h
    as_many (fmore u us) [] h = absurd h
    as_many (fmore u us) (k ∷ ks) h = let e = as_many us ks h.1 in omega arith

    pub few_arguments : IsGood d → Fits d t → joined ≡ false → length l ≤ 8
    few_arguments good h j =
        let whole : Fits d (fapp f false (fpack l)) = subst (Fits d) (view ∙ ap (λ b. fapp f b (fpack l)) j) h in
        let k = whole.kinded.1 in
        let a = as_many (fpack l) (map (kind d) k.rank.args) k.args in
        let b = ap length (funpack-fpack l) in
        let c = length-map k.rank.args (kind d) in
        let e = good.limits.arguments f k.rank k.listed in
        omega arith

  pub least_sort_fits : IsGood d → (t : FlatTerm) → Fits d t → IsLeastSort d (plain t) (least_sort d t)
  least_sort_fits good t h = subst (λ u. IsLeastSort d (plain t) (least_sort d u)) (canon_plain d t h.flat) (least_sort_is_least d good (plain t) h.kinded)
