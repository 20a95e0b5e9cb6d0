-- From the rows that are found to the refinements.
use Rattle.std.proofs.Common.{◌≡◌, ◌↔◌, ℕ, zero, suc, ◌+◌, ◌<◌, ◌≤◌, Bool, true, false, List, [], ◌∷◌, map, length, take, get_or, Option, Some, None, refl, sym, ap, ◌∙◌, subst, inl, inr, arith}
use Rattle.std.specs.List.{All, Any, AllPairs, AllZip, Contains}
use Rattle.std.specs.Option.{option_map, IsSome}
use Rattle.std.specs.Prelude.{if◌then◌else◌}
use Rattle.std.proofs.lemmas.Bool.{true≢false}
use Rattle.std.proofs.lemmas.List.Elements.{All-nil, All-cons, All-head, All-contains, All-map, All-weaker, All-contains_itself, Contains-get_or}
use Rattle.std.proofs.lemmas.List.{take_all, get_or_default}
use Rattle.fvn_base.specs.Order.{IsBefore}
use Rattle.fvn_base.proofs.Membership.{contains_here, contains_later, contains_cases, contains_none, contains_map, map_contains}
use Rattle.fvn_terms.specs.declared.plain.Var.{Var}
use Rattle.fvn_terms.specs.declared.plain.SortId.{SortId}
use Rattle.fvn_terms.specs.declared.declarations.Declarations.{Declarations}
use Rattle.fvn_terms.specs.Term.{Term, Terms, var, app, none, more, pack}
use Rattle.fvn_terms.specs.Signature.{kind, IsSort, AtOrBelow, same, HasKind, HaveKinds}
use Rattle.fvn_terms.specs.Substitution.{same_var, Occurs, OccursAmong}
use Rattle.fvn_terms.specs.Sorts.{HasSort}
use Rattle.fvn_forms.specs.Flat.{FlatTerm, fvar, plain}
use Rattle.fvn_forms.specs.Canon.{canon, inst}
use Rattle.fvn_forms.specs.Good.{IsGood}
use Rattle.fvn_forms.specs.LeastSort.{sort_in, least_sort, IsFlatSubstitution}
use Rattle.fvn_forms.proofs.SortOrder.{AtOrBelow-trans, AtOrBelow-kind, AtOrBelow-antisym, kind_is_greatest}
use Rattle.fvn_forms.proofs.Results.{AllBelow-trans}
use Rattle.fvn_forms.proofs.Eval.{canon_plain}
use Rattle.fvn_forms.proofs.LeastSort.{inst_lowers, least_sort_of_settled}
use Rattle.fvn_flat.specs.Bindings.{Bindings, bound, form_or, value, BindingsFit}
use Rattle.fvn_flat.specs.Fits.{Fits}
use Rattle.fvn_flat.specs.Problems.{variables_among}
use Rattle.fvn_flat.specs.Solving.{substitution}
use Rattle.fvn_flat.specs.Drawn.{OccursInValues, IsWay}
use Rattle.fvn_flat.specs.Variables.{listed}
use Rattle.fvn_flat.proofs.Binding.{same_var_is, same_var_itself}
use Rattle.fvn_flat.proofs.VariableLists.{variables_list_among, variables_occur_among}
use Rattle.fvn_refine.specs.Refinements.{Way, at_sort, variables_of_terms, sort_numbers, IsAtSorts, AreBound, HasNoWay, IsBelowWay, IsLargest, HaveTheirSorts, AreRefinements}
use Rattle.fvn_refine.specs.inner.Rows.{Row, beside, way_of, IsRow, IsRowBelow, HasAbove}
use Rattle.fvn_refine.specs.inner.Found.{Finds, IsUnder, HaveSorts}
use Rattle.fvn_refine.specs.inner.Ordering.{numbers, all_in_place, AreInOrder}
use Rattle.fvn_refine.proofs.RowTests.{any_true, any_false}
use Rattle.fvn_refine.proofs.Ways.{beside_else, beside_map, beside_below, row_long, kinds_row, kinds_above, way_kind, way_sort, map_row}
use Rattle.fvn_refine.proofs.Sorts.{sort_agrees, under_lower}
use Rattle.fvn_refine.proofs.Finding.{taken_new, taken_old, taken_cases, finds_here, finds_both}
use Rattle.fvn_refine.proofs.InOrder.{placed_from, placed_all, placed_in_order}
use Rattle.fvn_flat.proofs.ListedVariables.{Distinct, other_way}
use Rattle.fvn_refine.proofs.VariablesListed.{occurs_in_terms, terms_distinct}

-- lists, place by place
pub zip_map : {A B C : Type 0} (R : B → C → Type 0) (f : A → B) (xs : List A) (ys : List C) → AllZip (λ x y. R (f x) y) xs ys → AllZip R (map f xs) ys
zip_map R f [] [] h = tt
zip_map R f [] (y ∷ ys) h = absurd h
zip_map R f (x ∷ xs) [] h = absurd h
zip_map R f (x ∷ xs) (y ∷ ys) h = (h.0, zip_map R f xs ys h.1)

pub zip_member : {A B : Type 0} (R : A → B → Type 0) (xs : List A) (ys : List B) → AllZip R xs ys → (x : A) → Contains xs x → (y : B) × (Contains ys y × R x y)
zip_member R [] ys h x c = absurd (contains_none x c)
zip_member R (z ∷ xs) [] h x c = absurd h
zip_member R (z ∷ xs) (y ∷ ys) h x c = elim (contains_cases z xs x c) [
  | inl e ↦ (y, (contains_here y ys, subst (λ q. R q y) e h.0))
  | inr l ↦ let r = zip_member R xs ys h.1 x l in (r.0, (contains_later y ys r.0 r.1.0, r.1.1))
]

pub zip_all : {A B : Type 0} (R : A → B → Type 0) (P : B → Type 0) (xs : List A) (ys : List B) → AllZip R xs ys → ((x : A) (y : B) → Contains xs x → R x y → P y) → All P ys
zip_all R P [] [] h f = All-nil P
zip_all R P [] (y ∷ ys) h f = absurd h
zip_all R P (x ∷ xs) [] h f = absurd h
zip_all R P (x ∷ xs) (y ∷ ys) h f = All-cons P y ys (f x y (contains_here x xs) h.0) (zip_all R P xs ys h.1 (λ z u c r. f z u (contains_later x xs z c) r))

all_members : {A : Type 0} (P : A → Type 0) (xs : List A) → ((x : A) → Contains xs x → P x) → All P xs
all_members P xs h = All-weaker (Contains xs) P h xs (All-contains_itself xs)

pub any_member : {A : Type 0} (P : A → Type 0) (xs : List A) (x : A) → Contains xs x → P x → Any P xs
any_member P xs x c p = (c.0, x, c.1, c.2, p)

taken_member : {A : Type 0} (l : List A) (i : ℕ) (x : A) → Contains (take i l) x → Contains l x
taken_member l zero x c = absurd (contains_none x c)
taken_member [] (suc i) x c = absurd (contains_none x c)
taken_member (y ∷ l) (suc i) x c = elim (contains_cases y (take i l) x c) [
  | inl e ↦ subst (Contains (y ∷ l)) e (contains_here y l)
  | inr k ↦ contains_later y l x (taken_member l i x k)
]

-- what holds of each and each later one
abbrev EachLater : {A : Type 0} → (A → A → Type 0) → List A → Type 0
EachLater R [] = Unit {0}
EachLater {A} R (x ∷ xs) = ((y : A) → Contains xs y → R x y) × EachLater R xs

pairs_from : {A : Type 0} (R : A → A → Type 0) (xs : List A) → EachLater R xs → AllPairs R xs
pairs_from R [] h i j d l m = absurd (omega arith)
pairs_from R (x ∷ xs) h zero zero d l m = absurd (omega arith)
pairs_from R (x ∷ xs) h zero (suc j) d l m = h.0 (get_or xs j d) (Contains-get_or xs j d (omega arith))
pairs_from R (x ∷ xs) h (suc i) zero d l m = absurd (omega arith)
pairs_from R (x ∷ xs) h (suc i) (suc j) d l m = pairs_from R xs h.1 i j d (omega arith) (omega arith)

map_agrees : {A B : Type 0} (f g : A → B) (xs : List A) → ((x : A) → Contains xs x → f x ≡ g x) → map f xs ≡ map g xs
map_agrees f g [] h = refl
map_agrees f g (x ∷ xs) h = ap (λ y. y ∷ map f xs) (h x (contains_here x xs)) ∙ ap (λ l. g x ∷ l) (map_agrees f g xs (λ y c. h y (contains_later x xs y c)))

-- a listed variable, as a test and as a member
pub listed_member : (xs : List Var) (y : Var) → listed xs y ≡ true → Contains xs y
listed_member xs y e = let a = any_true (λ x. same_var x y) xs e in subst (Contains xs) (same_var_is a.0 y a.1.1) a.1.0

pub member_listed : (xs : List Var) (y : Var) → Contains xs y → listed xs y ≡ true
member_listed xs y c = go (listed xs y) refl
  where
    go : (b : Bool) → listed xs y ≡ b → listed xs y ≡ true
    go true e = e
    go false e = absurd (true≢false (sym (same_var_itself y) ∙ any_false (λ x. same_var x y) xs e y c))

-- the sorts beside different variables are the row
pub row_of_way : (xs : List Var) (ws : Row) (e : Var → SortId) → Distinct xs → length xs ≡ length ws → map (λ y. beside xs ws y (e y)) xs ≡ ws
row_of_way [] [] e h long = refl
row_of_way [] (w ∷ ws) e h long = absurd (omega arith)
row_of_way (x ∷ xs) [] e h long = absurd (omega arith)
row_of_way (x ∷ xs) (w ∷ ws) e h long =
    ap (λ b. (if b then w else beside xs ws x (e x)) ∷ map (λ y. beside (x ∷ xs) (w ∷ ws) y (e y)) xs) (same_var_itself x)
    ∙ ap (λ l. w ∷ l)
    (
    map_agrees (λ y. beside (x ∷ xs) (w ∷ ws) y (e y)) (λ y. beside xs ws y (e y)) xs
    (λ y c. ap (λ b. if b then w else beside xs ws y (e y)) (other_way x y (any_false (λ z. same_var z x) xs h.0 y c)))
    ∙ row_of_way xs ws e h.1 (omega arith)
    )

-- occurring in values, as a test
module _ (vars : List Var) (s : Bindings) where
  among_values : (xs : List Var) (y : Var) → OccursAmong y (pack (map (substitution s) xs)) → (x : Var) × (Contains xs x × Occurs y (substitution s x))
  among_values [] y o = absurd o
  among_values (x ∷ xs) y (inl o) = (x, (contains_here x xs, o))
  among_values (x ∷ xs) y (inr o) = let r = among_values xs y o in (r.0, (contains_later x xs r.0 r.1.0, r.1.1))

  values_among : (xs : List Var) (y x : Var) → Contains xs x → Occurs y (substitution s x) → OccursAmong y (pack (map (substitution s) xs))
  values_among [] y x c o = absurd (contains_none x c)
  values_among (z ∷ xs) y x c o = elim (contains_cases z xs x c) [
    | inl e ↦ inl (subst (λ q. Occurs y (substitution s q)) (sym e) o)
    | inr l ↦ inr (values_among xs y x l o)
  ]

  -- whether y occurs in the value of one of the variables
  abbrev pub occurs_in_values : Var → Bool
  occurs_in_values y = listed (variables_among (pack (map (substitution s) vars))) y

  pub occurs_true : (y : Var) → occurs_in_values y ≡ true → OccursInValues vars (substitution s) y
  occurs_true y e =
      let r = among_values vars y (variables_occur_among y (pack (map (substitution s) vars)) (listed_member (variables_among (pack (map (substitution s) vars))) y e)) in
      (r.0, r.1.0, r.1.1)

  pub occurs_complete : (y : Var) → OccursInValues vars (substitution s) y → occurs_in_values y ≡ true
  occurs_complete y o = member_listed (variables_among (pack (map (substitution s) vars))) y (variables_list_among y (pack (map (substitution s) vars)) (values_among vars y o.0 o.1 o.2))

  pub occurs_false : (y : Var) → occurs_in_values y ≡ false → OccursInValues vars (substitution s) y → ⊥
  occurs_false y e o = true≢false (sym (occurs_complete y o) ∙ e)

module _ (d : Declarations) where
  -- variables of well-kinded terms have sorts of the signature
  mutual
    pub occurring_sort : (t : Term) (k : SortId) → HasKind d t k → (y : Var) → Occurs y t → IsSort d y.sort
    occurring_sort (var x) k h y e = subst (λ z. IsSort d z.sort) (sym e) h.0
    occurring_sort (app f ts) k h y o = occurring_sorts ts _ h.args y o

    occurring_sorts : (ts : Terms) (ks : List SortId) → HaveKinds d ts ks → (y : Var) → OccursAmong y ts → IsSort d y.sort
    occurring_sorts none ks h y o = absurd o
    occurring_sorts (more t ts) [] h y o = absurd h
    occurring_sorts (more t ts) (k ∷ ks) h y (inl o) = occurring_sort t k h.0 y o
    occurring_sorts (more t ts) (k ∷ ks) h y (inr o) = occurring_sorts ts ks h.1 y o

  module _ (vars : List Var) (s : Bindings) (fit : BindingsFit d s) (are : AreBound d vars s) where
    pub sort_of_var : (x : Var) → Contains vars x → IsSort d x.sort
    sort_of_var x c = (All-contains (λ x. IsSort d x.sort × IsSome (bound s x)) vars x are c).0

    bound_to : (o : Option FlatTerm) (x : Var) → bound s x ≡ o → IsSome (bound s x) → (t : FlatTerm) × ((bound s x ≡ Some t) × (value s x ≡ t))
    bound_to None x e h = absurd (true≢false (sym (subst IsSome e h)))
    bound_to (Some t) x e h = (t, (e, ap (form_or x) e))

    -- what a variable is bound to
    pub bound_value : (x : Var) → Contains vars x → bound s x ≡ Some (value s x)
    bound_value x c =
        let b = bound_to (bound s x) x refl (All-contains (λ x. IsSort d x.sort × IsSome (bound s x)) vars x are c).1 in
        b.1.0 ∙ ap Some (sym b.1.1)

    pub kinded_value : (x : Var) → Contains vars x → HasKind d (plain (value s x)) (kind d x.sort)
    kinded_value x c = fit.keeps_kinds x (sort_of_var x c)

    pub occurring : (y : Var) → OccursInValues vars (substitution s) y → IsSort d y.sort
    occurring y o = occurring_sort (plain (value s o.0)) (kind d o.0.sort) (kinded_value o.0 o.1) y o.2

    pub listed_value : (y : Var) → OccursInValues vars (substitution s) y → listed (variables_of_terms s) y ≡ true
    listed_value y o = occurs_in_terms s o.0 y (value s o.0) (bound_value o.0 o.1) o.2

    -- the sort of a value in a way
    pub canon_value : (x : Var) → canon d (substitution s x) ≡ value s x
    canon_value x = canon_plain d (value s x) (fit.settled x)

    -- a way as a total one: other variables have their kinds
    abbrev pub widened : Way → Way
    widened way y = if occurs_in_values vars s y then way y else kind d y.sort

    pub widened_occurring : (way : Way) (y : Var) → OccursInValues vars (substitution s) y → widened way y ≡ way y
    widened_occurring way y o = ap (λ b. if b then way y else kind d y.sort) (occurs_complete vars s y o)

    pub widened_other : (way : Way) (y : Var) → (OccursInValues vars (substitution s) y → ⊥) → widened way y ≡ kind d y.sort
    widened_other way y n = go (occurs_in_values vars s y) refl
      where
        go : (b : Bool) → occurs_in_values vars s y ≡ b → (if b then way y else kind d y.sort) ≡ kind d y.sort
        go true e = absurd (n (occurs_true vars s y e))
        go false e = refl

    module _ (good : IsGood d) where
      widened_kinds : (way : Way) → IsWay d vars (substitution s) way → (y : Var) → (IsSort d y.sort → IsSort d (widened way y)) × (kind d (widened way y) ≡ kind d y.sort)
      widened_kinds way h y = go (occurs_in_values vars s y) refl
        where
          go : (b : Bool) → occurs_in_values vars s y ≡ b → (IsSort d y.sort → IsSort d (if b then way y else kind d y.sort)) × (kind d (if b then way y else kind d y.sort) ≡ kind d y.sort)
          go true e = let k = h.kinds y (occurs_true vars s y e) in (λ i. k.0, k.1)
          go false e = (λ i. good.kinded.listed y.sort i, good.kinded.own y.sort)

      -- the row of a way
      abbrev pub row_of : Way → Row
      row_of way = map (widened way) (variables_of_terms s)

      row_of_sorts : (way : Way) (y : Var) → OccursInValues vars (substitution s) y → way_of d (variables_of_terms s) (row_of way) y ≡ way y
      row_of_sorts way y o = beside_map (widened way) (variables_of_terms s) y (kind d y.sort) (listed_value y o) ∙ widened_occurring way y o

      row_of_row : (way : Way) → IsWay d vars (substitution s) way → IsRow d (variables_of_terms s) (row_of way)
      row_of_row way h = map_row d good.kinded (widened way) (widened_kinds way h) (variables_of_terms s)

      row_of_under : (way : Way) → IsWay d vars (substitution s) way → HaveSorts d (variables_of_terms s) s vars (row_of way)
      row_of_under way h x c =
          let e : sort_in d way (canon d (substitution s x)) ≡ sort_in d (way_of d (variables_of_terms s) (row_of way)) (value s x) =
          ap (sort_in d way) (canon_value x) ∙ sym (sort_agrees d (way_of d (variables_of_terms s) (row_of way)) way (value s x) (λ y o. row_of_sorts way y (x, c, o))) in
          subst (λ q. AtOrBelow d q x.sort) e (h.fits x c)

      module _ (rows : List Row) (found : Finds d (variables_of_terms s) (HaveSorts d (variables_of_terms s) s vars) rows) where
        module _ (r : Row) (c : Contains rows r) where
          abbrev way_r : Way
          way_r = way_of d (variables_of_terms s) r

          is_row : IsRow d (variables_of_terms s) r
          is_row = (found.found r c).0

          row_is : map way_r (variables_of_terms s) ≡ r
          row_is = row_of_way (variables_of_terms s) r (λ y. kind d y.sort) (terms_distinct s) (row_long d (variables_of_terms s) r is_row)

          pub is_way : IsWay d vars (substitution s) way_r
          is_way = record {
            kinds = λ y o. (way_sort d good.kinded (variables_of_terms s) r y is_row (occurring y o), way_kind d good.kinded (variables_of_terms s) r y is_row);
            fits = λ x i. subst (λ t. AtOrBelow d (sort_in d way_r t) x.sort) (sym (canon_value x)) ((found.found r c).1 x i);
          }

          below_map : (g : Way) → ((y : Var) → AtOrBelow d (way_r y) (g y)) → (zs : List Var) → IsRowBelow d (map way_r zs) (map g zs)
          below_map g h [] = tt
          below_map g h (z ∷ zs) = (h z, below_map g h zs)

          -- a way that is at or above it is at or below it
          topmost : (other : Way) → IsWay d vars (substitution s) other → ((y : Var) → OccursInValues vars (substitution s) y → AtOrBelow d (way_r y) (other y)) → IsRowBelow d (row_of other) r
          topmost other h above =
              let a = found.covers (row_of other) (row_of_row other h) (row_of_under other h) in
              let low : IsRowBelow d r (row_of other) = subst (λ q. IsRowBelow d q (row_of other)) row_is (below_map (widened other) each (variables_of_terms s)) in
              subst (IsRowBelow d (row_of other)) (sym (found.apart r a.0 c a.1.0 (AllBelow-trans d r (row_of other) a.0 low a.1.1))) a.1.1
            where
              each : (y : Var) → AtOrBelow d (way_r y) (widened other y)
              each y = go (occurs_in_values vars s y) refl
                where
                  go : (b : Bool) → occurs_in_values vars s y ≡ b → AtOrBelow d (way_r y) (if b then other y else kind d y.sort)
                  go true e = above y (occurs_true vars s y e)
                  go false e = subst (AtOrBelow d (way_r y)) (way_kind d good.kinded (variables_of_terms s) r y is_row) (AtOrBelow-kind d (way_r y))

          pub is_largest : IsLargest d vars s way_r
          is_largest = record {
            maximal = record {
              is_way = is_way;
              maximal = λ other h above y o.
                  AtOrBelow-antisym d good.kinded good.acyclic
                  (subst (λ q. AtOrBelow d q (way_r y)) (row_of_sorts other y o) (beside_below d (variables_of_terms s) (row_of other) r y (kind d y.sort) (topmost other h above)))
                  (above y o);
            };
            others = λ y n. go y n (listed (variables_of_terms s) y) refl;
          }
            where
              go : (y : Var) → (OccursInValues vars (substitution s) y → ⊥) → (b : Bool) → listed (variables_of_terms s) y ≡ b → way_r y ≡ kind d y.sort
              go y n false e = beside_else (variables_of_terms s) r y (kind d y.sort) e
              go y n true e =
                  let b = beside_below d (variables_of_terms s) (row_of way_r) r y (kind d y.sort) (topmost way_r is_way (λ z o. same)) in
                  let f : way_of d (variables_of_terms s) (row_of way_r) y ≡ kind d y.sort = beside_map (widened way_r) (variables_of_terms s) y (kind d y.sort) e ∙ widened_other way_r y n in
                  sym (sym (good.kinded.own y.sort) ∙ kind_is_greatest d good.kinded (kind d y.sort) (way_r y) (subst (λ q. AtOrBelow d q (way_r y)) (f ∙ sym (good.kinded.own y.sort)) b))

        -- all rows in their places, and their substitutions
        module _ (ordered : List Row) (rs : List Bindings) (placed : ordered ≡ all_in_place rows) (at : AllZip (λ row r. IsAtSorts d s (way_of d (variables_of_terms s) row) r) ordered rs) where
          of_rows : (r : Row) → Contains ordered r → Contains rows r
          of_rows r c = placed_from rows r (subst (λ l. Contains l r) placed c)

          later : (l : List Row) → ((r : Row) → Contains l r → Contains rows r) → AreInOrder l →
              EachLater (λ v w. IsBefore (sort_numbers (variables_of_terms s) v) (sort_numbers (variables_of_terms s) w)) (map (way_of d (variables_of_terms s)) l)
          later [] sub h = tt
          later (r ∷ l) sub h = (λ v c. first v c, later l (λ q c. sub q (contains_later r l q c)) h.1)
            where
              number : (q : Row) → Contains rows q → sort_numbers (variables_of_terms s) (way_of d (variables_of_terms s) q) ≡ numbers q
              number q c = mapped (way_of d (variables_of_terms s) q) (variables_of_terms s) ∙ ap numbers (row_is q c)
                where
                  mapped : (g : Way) (zs : List Var) → map (λ z. (g z).0) zs ≡ map (λ w. w.0) (map g zs)
                  mapped g [] = refl
                  mapped g (z ∷ zs) = ap (λ l. (g z).0 ∷ l) (mapped g zs)

              first : (v : Way) → Contains (map (way_of d (variables_of_terms s)) l) v → IsBefore (sort_numbers (variables_of_terms s) (way_of d (variables_of_terms s) r)) (sort_numbers (variables_of_terms s) v)
              first v c =
                  let w = map_contains (way_of d (variables_of_terms s)) l v c in
                  subst (λ q. IsBefore (sort_numbers (variables_of_terms s) (way_of d (variables_of_terms s) r)) (sort_numbers (variables_of_terms s) q)) w.1.1
                  (subst (λ n. IsBefore n (sort_numbers (variables_of_terms s) (way_of d (variables_of_terms s) w.0))) (sym (number r (sub r (contains_here r l))))
                  (subst (IsBefore (numbers r)) (sym (number w.0 (sub w.0 (contains_later r l w.0 w.1.0)))) (h.0 w.0 w.1.0)))

          pub are_refinements : AreRefinements d vars s rs
          are_refinements = record {
            ways = map (way_of d (variables_of_terms s)) ordered;
            given = zip_map (IsAtSorts d s) (way_of d (variables_of_terms s)) ordered rs at;
            largest = All-map (IsLargest d vars s) (way_of d (variables_of_terms s)) ordered (all_members (λ r. IsLargest d vars s (way_of d (variables_of_terms s) r)) ordered (λ r c. is_largest r (of_rows r c)));
            above = λ way h. over way h;
            in_order = pairs_from (λ v w. IsBefore (sort_numbers (variables_of_terms s) v) (sort_numbers (variables_of_terms s) w)) (map (way_of d (variables_of_terms s)) ordered)
                (later ordered of_rows (subst AreInOrder (sym placed) (placed_in_order rows)));
          }
            where
              over : (way : Way) → IsWay d vars (substitution s) way → Any (IsBelowWay d vars s way) (map (way_of d (variables_of_terms s)) ordered)
              over way h =
                  let a = found.covers (row_of way) (row_of_row way h) (row_of_under way h) in
                  any_member (IsBelowWay d vars s way) (map (way_of d (variables_of_terms s)) ordered) (way_of d (variables_of_terms s) a.0)
                  (contains_map (way_of d (variables_of_terms s)) ordered a.0 (subst (λ l. Contains l a.0) (sym placed) (placed_all rows a.0 a.1.0)))
                  (λ y o. subst (λ q. AtOrBelow d q (way_of d (variables_of_terms s) a.0 y)) (row_of_sorts way y o) (beside_below d (variables_of_terms s) (row_of way) a.0 y (kind d y.sort) a.1.1))

          -- each of the variables has a value of its sort
          pub have_sorts : All (BindingsFit d) rs → All (HaveTheirSorts d vars) rs
          have_sorts fits =
              zip_all (λ row r. IsAtSorts d s (way_of d (variables_of_terms s) row) r × Contains rs r) (HaveTheirSorts d vars) ordered rs (with_members ordered rs at (λ r c. c))
              (λ row r c h. λ x i. one row r (of_rows row c) h.0 (All-contains (BindingsFit d) rs r fits h.1) x i)
            where
              with_members : (l : List Row) (us : List Bindings) → AllZip (λ row r. IsAtSorts d s (way_of d (variables_of_terms s) row) r) l us → ((r : Bindings) → Contains us r → Contains rs r) →
                  AllZip (λ row r. IsAtSorts d s (way_of d (variables_of_terms s) row) r × Contains rs r) l us
              with_members [] [] h sub = tt
              with_members [] (u ∷ us) h sub = absurd h
              with_members (row ∷ l) [] h sub = absurd h
              with_members (row ∷ l) (u ∷ us) h sub = ((h.0, sub u (contains_here u us)), with_members l us h.1 (λ r c. sub r (contains_later u us r c)))

              one : (row : Row) (r : Bindings) → Contains rows row → IsAtSorts d s (way_of d (variables_of_terms s) row) r → BindingsFit d r → (x : Var) → Contains vars x → HasSort d (substitution r x) x.sort
              one row r c h fits x i =
                  let is : value r x ≡ inst d (λ y. fvar (at_sort (way_of d (variables_of_terms s) row) y)) (value s x) =
                  ap (form_or x) (h x ∙ ap (option_map (inst d (λ y. fvar (at_sort (way_of d (variables_of_terms s) row) y)))) (bound_value x i)) in
                  let k = kinded_value x i in
                  let lower : AtOrBelow d (least_sort d (value r x)) (sort_in d (way_of d (variables_of_terms s) row) (value s x)) =
                  subst (λ t. AtOrBelow d (least_sort d t) (sort_in d (way_of d (variables_of_terms s) row) (value s x))) (sym is)
                  (inst_lowers d good (λ y. fvar (at_sort (way_of d (variables_of_terms s) row) y)) (at_sort_flat row c) (λ y. y.sort) (λ y j. refl) (value s x) (fit.settled x) (kind d x.sort, k)) in
                  (least_sort_of_settled d good (value r x) (fits.settled x) (kind d x.sort, fits.keeps_kinds x (sort_of_var x i)) x.sort).1
                  (AtOrBelow-trans d lower ((found.found row c).1 x i))
                where
                  at_sort_flat : (row : Row) → Contains rows row → IsFlatSubstitution d (λ y. fvar (at_sort (way_of d (variables_of_terms s) row) y))
                  at_sort_flat row c = record { settled = λ y. tt; keeps_kinds = λ y j. (way_sort d good.kinded (variables_of_terms s) row y (is_row row c) j, way_kind d good.kinded (variables_of_terms s) row y (is_row row c)) }

      -- the same for a list that is known to have the variables
      module _ (xs : List Var) (are_variables : xs ≡ variables_of_terms s) (rows : List Row) (found : Finds d xs (HaveSorts d xs s vars) rows)
          (ordered : List Row) (rs : List Bindings) (placed : ordered ≡ all_in_place rows) (at : AllZip (λ row r. IsAtSorts d s (way_of d xs row) r) ordered rs) where
        found_there : Finds d (variables_of_terms s) (HaveSorts d (variables_of_terms s) s vars) rows
        found_there = subst (λ z. Finds d z (HaveSorts d z s vars) rows) are_variables found

        at_there : AllZip (λ row r. IsAtSorts d s (way_of d (variables_of_terms s) row) r) ordered rs
        at_there = subst (λ z. AllZip (λ row r. IsAtSorts d s (way_of d z row) r) ordered rs) are_variables at

        pub refined : AreRefinements d vars s rs
        refined = are_refinements rows found_there ordered rs placed at_there

        pub refined_sorts : All (BindingsFit d) rs → All (HaveTheirSorts d vars) rs
        refined_sorts fits = have_sorts rows found_there ordered rs placed at_there fits

      -- the rows at which the first of the variables have values of their sorts
      module _ (xs : List Var) where
        pub sorts_none : (way : Row) → way ≡ map (λ x. kind d x.sort) xs → (rows : List Row) → rows ≡ way ∷ [] → Finds d xs (HaveSorts d xs s (take 0 vars)) rows
        sorts_none way e rows f =
            subst (Finds d xs (HaveSorts d xs s (take 0 vars))) (sym f)
            (finds_here d xs (HaveSorts d xs s (take 0 vars)) way (subst (IsRow d xs) (sym e) (kinds_row d good.kinded xs)) (λ x c. absurd (contains_none x c)) (λ m i p. subst (IsRowBelow d m) (sym e) (kinds_above d good.kinded xs m i)))

        value_fits : (x : Var) → Contains vars x → Fits d (value s x)
        value_fits x c = record { flat = fit.settled x; kinded = (kind d x.sort, kinded_value x c) }

        pub sorts_more : (i : ℕ) (x : Var) → i < length vars → x ≡ get_or vars i x → (rows all : List Row) → Finds d xs (HaveSorts d xs s (take i vars)) rows →
            Finds d xs (λ m. HasAbove d rows m × IsUnder d xs (value s x) x.sort m) all → Finds d xs (HaveSorts d xs s (take (i + 1) vars)) all
        sorts_more i x within is rows all h k =
            finds_both d xs (HaveSorts d xs s (take i vars)) (IsUnder d xs (value s x) x.sort) (HaveSorts d xs s (take (i + 1) vars))
            (λ m r im ir below p z c. under_lower d good xs (value s z) (value_fits z (taken_member vars i z c)) z.sort m r im ir below (p z c)) rows all h k
            (λ m p z c. elim (taken_cases vars i x within is z c) [ inl o ↦ p.0 z o | inr e ↦ subst (λ q. IsUnder d xs (value s q) q.sort m) e p.1 ])
            (λ m q. (λ z c. q z (taken_old vars i x within is z c), q x (taken_new vars i x within is)))

        -- the same at a place of the list
        pub sorts_next : (i : ℕ) (e : Var) → i < length vars → (rows all : List Row) → Finds d xs (HaveSorts d xs s (take i vars)) rows →
            Finds d xs (λ m. HasAbove d rows m × IsUnder d xs (value s (get_or vars i e)) (get_or vars i e).sort m) all → Finds d xs (HaveSorts d xs s (take (i + 1) vars)) all
        sorts_next i e within rows all h k = sorts_more i (get_or vars i e) within (get_or_default vars i e (get_or vars i e) within) rows all h k

        pub sorts_all : (i : ℕ) → length vars ≤ i → (rows : List Row) → Finds d xs (HaveSorts d xs s (take i vars)) rows → Finds d xs (HaveSorts d xs s vars) rows
        sorts_all i past rows h = subst (λ l. Finds d xs (HaveSorts d xs s l) rows) (take_all i vars past) h

    -- no refinements exactly where there is no way
    pub none_exactly : (rs : List Bindings) → AreRefinements d vars s rs → (rs ≡ []) ↔ HasNoWay d vars s
    none_exactly rs h = (λ e way w. no_ways h.ways (subst (AllZip (IsAtSorts d s) h.ways) e h.given) (h.above way w), λ never. no_members rs h.ways h.given h.largest never)
      where
        no_ways : (ways : List Way) → AllZip (IsAtSorts d s) ways [] → {P : Way → Type 0} → Any P ways → ⊥
        no_ways [] z a = let l = a.2 in omega arith
        no_ways (w ∷ ways) z a = z

        no_members : (us : List Bindings) (ways : List Way) → AllZip (IsAtSorts d s) ways us → All (IsLargest d vars s) ways → HasNoWay d vars s → us ≡ []
        no_members [] ways z l never = refl
        no_members (u ∷ us) [] z l never = absurd z
        no_members (u ∷ us) (w ∷ ways) z l never = absurd (never w (All-head (IsLargest d vars s) w ways l).maximal.is_way)
