-- The sorts of sums.
use Rattle.std.proofs.Common.{◌≡◌, ◌+◌, Bool, true, false, cond, List, [], ◌∷◌, ◌++◌, map, refl, sym, ap, ◌∙◌, subst, arith}
use Rattle.std.specs.List.{AllByRecursion, fold, count_by}
use Rattle.std.specs.Ordering.{is_gt}
use Rattle.std.proofs.lemmas.List.{map-append}
use Rattle.std.proofs.lemmas.List.Sums.{sum_by-cons}
use Rattle.std.proofs.lemmas.List.Elements.{All-from_recursion}
use Rattle.fvn_terms.specs.declared.plain.Var.{Var}
use Rattle.fvn_terms.specs.declared.plain.OpId.{OpId}
use Rattle.fvn_terms.specs.declared.plain.SortId.{SortId}
use Rattle.fvn_terms.specs.declared.declarations.Rank.{Rank}
use Rattle.fvn_terms.specs.declared.declarations.Declarations.{Declarations}
use Rattle.fvn_terms.specs.Signature.{kind, declared, axioms, HasKind}
use Rattle.fvn_terms.specs.Equality.{IsAssociative, identity}
use Rattle.std.specs.Prelude.{Contains}
use Rattle.fvn_forms.specs.Flat.{FlatTerm, FlatTerms, fvar, fapp, fnone, fmore, fpack, funpack, fconstant, nest, plain, plain_all}
use Rattle.fvn_forms.specs.Order.{flat_cmp}
use Rattle.fvn_forms.specs.InOrder.{insert, sort}
use Rattle.fvn_forms.specs.Canon.{same_op, is_identity, parts, joined, sum}
use Rattle.fvn_forms.specs.SortOrder.{same_sort}
use Rattle.fvn_forms.specs.Good.{IsOfKind, IsGood}
use Rattle.fvn_forms.specs.LeastSort.{result_of_two, sum_sort, sort_in, sorts_in, KeepsKindsOfVariables}
use Rattle.fvn_forms.proofs.SortTests.{same_sort-true, same_sort-self}
use Rattle.fvn_forms.proofs.Folds.{IsCommutativeSemigroup, IsEqualityTest, fold_same_counts}
use Rattle.fvn_forms.proofs.Results.{result_swap, result-pair, TakesKinds-pair}
use Rattle.fvn_forms.proofs.InOrder.{each_sort}
use Rattle.fvn_forms.proofs.Sums.{same_op_is}
use Rattle.fvn_forms.proofs.KindsKept.{both_of_kind}
use Rattle.fvn_forms.proofs.KindsOfSums.{nest_parts_of_kind}
use Rattle.fvn_forms.proofs.Nests.{commutes, insert_some}
use Rattle.fvn_forms.proofs.RawSorts.{raw_sort, raw_sorts, raw_sort-kind}

sort_test : IsEqualityTest same_sort
sort_test = record { is = same_sort-true; self = same_sort-self }

-- a list in order has the same sorts as often
count_map_insert : (g : FlatTerm → SortId) (q : SortId) (t : FlatTerm) (l : List FlatTerm) → count_by (same_sort q) (map g (insert t l)) ≡ cond (same_sort q (g t)) 1 0 + count_by (same_sort q) (map g l)
count_map_insert g q t [] = sum_by-cons (λ y. cond (same_sort q y) 1 0) (g t) []
count_map_insert g q t (u ∷ l) = go (is_gt (flat_cmp t u)) refl (count_map_insert g q t l)
  where
    go : (a : Bool) → is_gt (flat_cmp t u) ≡ a → count_by (same_sort q) (map g (insert t l)) ≡ cond (same_sort q (g t)) 1 0 + count_by (same_sort q) (map g l) → count_by (same_sort q) (map g (insert t (u ∷ l))) ≡ cond (same_sort q (g t)) 1 0 + count_by (same_sort q) (map g (u ∷ l))
    go true p ih =
        let a = sum_by-cons (λ y. cond (same_sort q y) 1 0) (g u) (map g (insert t l)) in
        let b = sum_by-cons (λ y. cond (same_sort q y) 1 0) (g u) (map g l) in
        rw p (omega arith)
    go false p ih = rw p (sum_by-cons (λ y. cond (same_sort q y) 1 0) (g t) (g u ∷ map g l))

count_map_sort : (g : FlatTerm → SortId) (q : SortId) (l : List FlatTerm) → count_by (same_sort q) (map g (sort l)) ≡ count_by (same_sort q) (map g l)
count_map_sort g q [] = refl
count_map_sort g q (t ∷ l) =
    let a = count_map_insert g q t (sort l) in
    let b = sum_by-cons (λ y. cond (same_sort q y) 1 0) (g t) (map g l) in
    let c = count_map_sort g q l in
    omega arith

pub each_map : {A B : Type 0} (P : B → Type 0) (g : A → B) (l : List A) → AllByRecursion (λ x. P (g x)) l → AllByRecursion P (map g l)
each_map P g [] h = tt
each_map P g (x ∷ l) h = (h.0, each_map P g l h.1)

pub each_weaker : {A : Type 0} (P Q : A → Type 0) → ((x : A) → P x → Q x) → (l : List A) → AllByRecursion P l → AllByRecursion Q l
each_weaker P Q f [] h = tt
each_weaker P Q f (x ∷ l) h = (f x h.0, each_weaker P Q f l h.1)

pub each_both : {A : Type 0} (P Q : A → Type 0) (l : List A) → AllByRecursion P l → AllByRecursion Q l → AllByRecursion (λ x. P x × Q x) l
each_both P Q [] h k = tt
each_both P Q (x ∷ l) h k = ((h.0, k.0), each_both P Q l h.1 k.1)

fold_append : {A : Type 0} (op : A → A → A) (a : A) (l : List A) (b : A) (m : List A) → fold op a (l ++ (b ∷ m)) ≡ fold op (op (fold op a l) b) m
fold_append op a [] b m = refl
fold_append op a (x ∷ l) b m = fold_append op (op a x) l b m

module _ {A : Type 0} (P : A → Type 0) (op : A → A → A) (law : IsCommutativeSemigroup P op) where
  fold_closed : (a : A) (l : List A) → P a → AllByRecursion P l → P (fold op a l)
  fold_closed a [] pa pl = pa
  fold_closed a (b ∷ l) pa pl = fold_closed (op a b) l (law.closed a b pa pl.0) pl.1

  fold_more : (a b : A) (l : List A) → P a → P b → AllByRecursion P l → op a (fold op b l) ≡ fold op (op a b) l
  fold_more a b [] pa pb pl = refl
  fold_more a b (c ∷ l) pa pb pl = fold_more a (op b c) l pa (law.closed b c pb pl.0) pl.1 ∙ ap (λ z. fold op z l) (sym (law.associates a b c pa pb pl.0))

sorts_in-funpack : (d : Declarations) (env : Var → SortId) (ts : FlatTerms) → sorts_in d env ts ≡ map (sort_in d env) (funpack ts)
sorts_in-funpack d env fnone = refl
sorts_in-funpack d env (fmore t ts) = ap (λ ss. sort_in d env t ∷ ss) (sorts_in-funpack d env ts)

pub sorts_in-fpack : (d : Declarations) (env : Var → SortId) (l : List FlatTerm) → sorts_in d env (fpack l) ≡ map (sort_in d env) l
sorts_in-fpack d env [] = refl
sorts_in-fpack d env (t ∷ l) = ap (λ ss. sort_in d env t ∷ ss) (sorts_in-fpack d env l)

module _ (d : Declarations) (good : IsGood d) (f : OpId) (assoc : IsAssociative (axioms d f)) where
  -- the sorts of the kind of f, under f
  pub sorts_semigroup : IsCommutativeSemigroup (IsOfKind d f) (result_of_two d f)
  sorts_semigroup = record {
    closed = λ x y p q. result-pair d good f x y assoc p q;
    commutes = λ x y p q. result_swap d good f x y (commutes (axioms d f) assoc) (TakesKinds-pair d good f x y assoc p q);
    associates = λ x y z p q r. good.associative_sorts f x y z assoc p q r;
  }

  module _ (env : Var → SortId) where
    -- the sort is of the kind that f gives
    abbrev pub SortFits : FlatTerm → Type 0
    SortFits t = IsOfKind d f (sort_in d env t)

    sum_sort-sort : (l : List FlatTerm) → AllByRecursion SortFits l → sum_sort d f (map (sort_in d env) (sort l)) ≡ sum_sort d f (map (sort_in d env) l)
    sum_sort-sort [] h = refl
    sum_sort-sort (x ∷ xs) h = go (sort (x ∷ xs)) refl
      where
        go : (m : List FlatTerm) → sort (x ∷ xs) ≡ m → sum_sort d f (map (sort_in d env) m) ≡ sum_sort d f (map (sort_in d env) (x ∷ xs))
        go [] e = absurd (insert_some x (sort xs) e)
        go (y ∷ ys) e =
            let hy : AllByRecursion SortFits (y ∷ ys) = subst (AllByRecursion SortFits) e (each_sort SortFits (x ∷ xs) h) in
            fold_same_counts same_sort sort_test (IsOfKind d f) (result_of_two d f) sorts_semigroup (sort_in d env y) (map (sort_in d env) ys) (sort_in d env x) (map (sort_in d env) xs)
            (All-from_recursion (IsOfKind d f) (map (sort_in d env) (y ∷ ys)) (each_map (IsOfKind d f) (sort_in d env) (y ∷ ys) hy))
            (All-from_recursion (IsOfKind d f) (map (sort_in d env) (x ∷ xs)) (each_map (IsOfKind d f) (sort_in d env) (x ∷ xs) h))
            (λ q. ap (λ m. count_by (same_sort q) (map (sort_in d env) m)) (sym e) ∙ count_map_sort (sort_in d env) q (x ∷ xs))

    sort_of_joined : (x : FlatTerm) (xs : List FlatTerm) → sort_in d env (joined d f (x ∷ xs)) ≡ sum_sort d f (map (sort_in d env) (x ∷ xs))
    sort_of_joined x [] = refl
    sort_of_joined x (y ∷ ys) = ap (sum_sort d f) (sorts_in-fpack d env (x ∷ y ∷ ys))

    -- the sort of a sum of some summands
    pub sort_of_sum : (x : FlatTerm) (xs : List FlatTerm) → AllByRecursion SortFits (x ∷ xs) → sort_in d env (sum d f (x ∷ xs)) ≡ sum_sort d f (map (sort_in d env) (x ∷ xs))
    sort_of_sum x xs h = go (sort (x ∷ xs)) refl
      where
        go : (m : List FlatTerm) → sort (x ∷ xs) ≡ m → sort_in d env (joined d f (sort (x ∷ xs))) ≡ sum_sort d f (map (sort_in d env) (x ∷ xs))
        go [] e = absurd (insert_some x (sort xs) e)
        go (y ∷ ys) e = ap (λ l. sort_in d env (joined d f l)) e ∙ sort_of_joined y ys ∙ ap (λ l. sum_sort d f (map (sort_in d env) l)) (sym e) ∙ sum_sort-sort (x ∷ xs) h

    sum_sort-append : (x : FlatTerm) (xs : List FlatTerm) (y : FlatTerm) (ys : List FlatTerm) → AllByRecursion SortFits (x ∷ xs) → AllByRecursion SortFits (y ∷ ys) →
        sum_sort d f (map (sort_in d env) ((x ∷ xs) ++ (y ∷ ys))) ≡ result_of_two d f (sum_sort d f (map (sort_in d env) (x ∷ xs))) (sum_sort d f (map (sort_in d env) (y ∷ ys)))
    sum_sort-append x xs y ys h k =
        ap (fold (result_of_two d f) (sort_in d env x)) (map-append (sort_in d env) xs (y ∷ ys))
        ∙ fold_append (result_of_two d f) (sort_in d env x) (map (sort_in d env) xs) (sort_in d env y) (map (sort_in d env) ys)
        ∙ sym
        (
        fold_more (IsOfKind d f) (result_of_two d f) sorts_semigroup (fold (result_of_two d f) (sort_in d env x) (map (sort_in d env) xs)) (sort_in d env y) (map (sort_in d env) ys)
        (fold_closed (IsOfKind d f) (result_of_two d f) sorts_semigroup (sort_in d env x) (map (sort_in d env) xs) h.0 (each_map (IsOfKind d f) (sort_in d env) xs h.1)) k.0 (each_map (IsOfKind d f) (sort_in d env) ys k.1)
        )

    -- the sort of a form from its summands
    sort_of_parts : (t x : FlatTerm) (xs : List FlatTerm) → parts d f t ≡ x ∷ xs → sort_in d env t ≡ sum_sort d f (map (sort_in d env) (x ∷ xs))
    sort_of_parts (fvar y) x xs e = ap (λ l. sum_sort d f (map (sort_in d env) l)) e
    sort_of_parts (fapp g true ts) x xs e = go (same_op f g) refl
      where
        go : (b : Bool) → same_op f g ≡ b → sort_in d env (fapp g true ts) ≡ sum_sort d f (map (sort_in d env) (x ∷ xs))
        go true p =
            let q : funpack ts ≡ x ∷ xs = rw p at e in
            (λ i. sum_sort d (sym (same_op_is f g p) i) (sorts_in-funpack d env ts i)) ∙ ap (λ l. sum_sort d f (map (sort_in d env) l)) q
        go false p = let q : fapp g true ts ∷ [] ≡ x ∷ xs = rw p at e in ap (λ l. sum_sort d f (map (sort_in d env) l)) q
    sort_of_parts (fapp g false fnone) x xs e = go (is_identity (identity (axioms d f)) g) refl
      where
        go : (b : Bool) → is_identity (identity (axioms d f)) g ≡ b → sort_in d env (fconstant g) ≡ sum_sort d f (map (sort_in d env) (x ∷ xs))
        go true p = let q : [] ≡ x ∷ xs = rw p at e in cc
        go false p = let q : fconstant g ∷ [] ≡ x ∷ xs = rw p at e in ap (λ l. sum_sort d f (map (sort_in d env) l)) q
    sort_of_parts (fapp g false (fmore t ts)) x xs e = ap (λ l. sum_sort d f (map (sort_in d env) l)) e

    -- the sort of a sum of two that have summands
    pub sort_of_two : (a b x : FlatTerm) (xs : List FlatTerm) (y : FlatTerm) (ys : List FlatTerm) → parts d f a ≡ x ∷ xs → parts d f b ≡ y ∷ ys → AllByRecursion SortFits (x ∷ xs) → AllByRecursion SortFits (y ∷ ys) →
        sum_sort d f (map (sort_in d env) ((x ∷ xs) ++ (y ∷ ys))) ≡ result_of_two d f (sort_in d env a) (sort_in d env b)
    sort_of_two a b x xs y ys p q h k = sum_sort-append x xs y ys h k ∙ (λ i. result_of_two d f (sym (sort_of_parts a x xs p) i) (sym (sort_of_parts b y ys q) i))

  module _ (env : Var → SortId) (keeps : KeepsKindsOfVariables d env) (k : SortId) (r : Rank) (listed : Contains (declared d f).ranks r) (gives : kind d r.result ≡ k) where
    pub of_kind : (s : SortId) → kind d s ≡ k → IsOfKind d f s
    of_kind s e = record { rank = r; listed = listed; kind_is = e ∙ sym gives }

    raws_of_kind : (us : FlatTerms) → AllByRecursion (λ p. HasKind d (plain p) k) (funpack us) → AllByRecursion (IsOfKind d f) (raw_sorts d env (plain_all us))
    raws_of_kind fnone h = tt
    raws_of_kind (fmore u us) h = (of_kind (raw_sort d env (plain u)) (raw_sort-kind d good env keeps (plain u) k h.0), raws_of_kind us h.1)

    -- the raw sort of a nested sum
    pub raw_nest : (t : FlatTerm) (ts : FlatTerms) → HasKind d (nest f (plain t) (plain_all ts)) k → raw_sort d env (nest f (plain t) (plain_all ts)) ≡ fold (result_of_two d f) (raw_sort d env (plain t)) (raw_sorts d env (plain_all ts))
    raw_nest t fnone h = refl
    raw_nest t (fmore u us) h =
        let both = both_of_kind d good.fits f assoc (plain t) (nest f (plain u) (plain_all us)) k h in
        let each = nest_parts_of_kind d good.fits f assoc k u us both.1 in
        ap (result_of_two d f (raw_sort d env (plain t))) (raw_nest u us both.1)
        ∙ fold_more (IsOfKind d f) (result_of_two d f) sorts_semigroup (raw_sort d env (plain t)) (raw_sort d env (plain u)) (raw_sorts d env (plain_all us))
        (of_kind (raw_sort d env (plain t)) (raw_sort-kind d good env keeps (plain t) k both.0)) (of_kind (raw_sort d env (plain u)) (raw_sort-kind d good env keeps (plain u) k each.0)) (raws_of_kind us each.1)
