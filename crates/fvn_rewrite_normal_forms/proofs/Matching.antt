-- Whether a well-sorted instance of a term has a decided property that bounds its size and its variables.
use Rattle.std.proofs.Common.{◌≡◌, ◌⊎◌, ℕ, ◌≤◌, Bool, true, false, List, length, refl, sym, subst, inl, inr}
use Rattle.std.specs.List.{Contains}
use Rattle.std.specs.Prelude.{if◌then◌else◌}
use Rattle.std.proofs.Math.Nat.{le_trans}
use Rattle.fvn_base.specs.Decided.{Decided}
use Rattle.fvn_terms.specs.declared.plain.Var.{Var}
use Rattle.fvn_terms.specs.declared.plain.SortId.{SortId}
use Rattle.fvn_terms.specs.declared.declarations.Declarations.{Declarations}
use Rattle.fvn_terms.specs.Term.{Term, var}
use Rattle.fvn_terms.specs.Substitution.{Substitution, apply, Occurs}
use Rattle.fvn_terms.specs.Signature.{kind, IsSort, same, HasKind}
use Rattle.fvn_terms.specs.Places.{stop}
use Rattle.fvn_terms.specs.Equality.{BEqual}
use Rattle.fvn_terms.specs.Sorts.{HasSort, IsWellSorted}
use Rattle.fvn_terms.proofs.Steps.{Leads-append}
use Rattle.fvn_terms.proofs.Equal.{BEqual-sym}
use Rattle.fvn_terms.proofs.Occurrences.{BEqual-occurs, occurs_instance}
use Rattle.fvn_forms.specs.Flat.{plain, symbols}
use Rattle.fvn_forms.specs.Canon.{canon}
use Rattle.fvn_forms.specs.Good.{IsGood}
use Rattle.fvn_forms.proofs.ToCanon.{to_canon, canon_of_kind}
use Rattle.fvn_flat.specs.Problems.{variables}
use Rattle.fvn_flat.proofs.VariableLists.{variables_list}
use Rattle.fvn_rewrite_laws.proofs.Agreement.{equal_by_agreement}
use Rattle.fvn_rewrite_laws.proofs.Listing.{occurs_test, occurs_if, test_if}
use Rattle.fvn_rewrite_laws.proofs.Choosing.{occurring_sort}
use Rattle.fvn_rewrite_normal_forms.proofs.Searching.{Found, IsSearched, searched_passing, IsTermWithin, searched_terms}
use Rattle.fvn_rewrite_normal_forms.proofs.Kinding.{kind_or_not, has_sort_or_not}
use Rattle.fvn_rewrite_normal_forms.proofs.Bounding.{value_is_smaller, term_within}
use Rattle.fvn_rewrite_normal_forms.proofs.Assigning.{IsAssigned, searched_substitutions}

module _ (d : Declarations) (good : IsGood d) where
  -- what is equal modulo the axioms to a term of a sort is of the sort
  pub sort_of_equal : (t u : Term) → BEqual d t u → (s : SortId) → HasSort d u s → HasSort d t s
  sort_of_equal t u p s h = record { form = h.form; equal = Leads-append p h.equal; gets = h.gets }

  -- the term may stand for the variable
  pub record Suits (x : Var) (t : Term) : Type 0 where
    pub kinded : HasKind d t (kind d x.sort)
    pub sorted : HasSort d t x.sort

  suits_or_not : (x : Var) (t : Term) → Decided (Suits x t)
  suits_or_not x t = go (kind_or_not d t (kind d x.sort)) where
    sorts : (h : HasKind d t (kind d x.sort)) → Decided (HasSort d t x.sort) → Decided (Suits x t)
    sorts h (inl p) = inl (record { kinded = h; sorted = p })
    sorts h (inr n) = inr (λ w. n w.sorted)

    go : Decided (HasKind d t (kind d x.sort)) → Decided (Suits x t)
    go (inl h) = sorts h (has_sort_or_not d good t (kind d x.sort, h) x.sort)
    go (inr n) = inr (λ w. n w.kinded)

  pub variable_has_sort : (x : Var) → HasSort d (var x) x.sort
  variable_has_sort x = record { form = var x; equal = stop; gets = record { sort = x.sort; gets = refl; below = same } }

  module _ (vars : List Var) (n : ℕ) where
    -- a term of these variables and of at most this depth and width that may stand for x
    abbrev IsValue : Var → Term → Type 0
    IsValue x t = IsTermWithin vars (length d.ops) n t × Suits x t

    searched_values : (x : Var) → IsSearched (IsValue x)
    searched_values x = searched_passing (IsTermWithin vars (length d.ops) n) (Suits x) (searched_terms vars (length d.ops) n) (λ t _. suits_or_not x t)

    assigned_sorted : (xs : List Var) (s : Substitution) → IsAssigned IsValue xs var s → IsWellSorted d s
    assigned_sorted xs s given = (λ x i. kinds x i (given x), λ x. sorts x (given x)) where
      kinds : (x : Var) → IsSort d x.sort → (Contains xs x × IsValue x (s x)) ⊎ (s x ≡ var x) → HasKind d (s x) (kind d x.sort)
      kinds x i (inl w) = w.1.1.kinded
      kinds x i (inr e) = subst (λ t. HasKind d t (kind d x.sort)) (sym e) (i, refl)

      sorts : (x : Var) → (Contains xs x × IsValue x (s x)) ⊎ (s x ≡ var x) → HasSort d (s x) x.sort
      sorts x (inl w) = w.1.1.sorted
      sorts x (inr e) = subst (λ t. HasSort d t x.sort) (sym e) (variable_has_sort x)

    module _ (l : Term) (k : SortId) (h : HasKind d l k) where
      -- a substitution whose values for the term's variables are small is one of those that are searched, but for flat forms
      module _ (c : Substitution) (sorted : IsWellSorted d c) (small : symbols (canon d (apply c l)) ≤ n) (known : (y : Var) → Occurs y (apply c l) → Contains vars y) where
        abbrev flattened : Substitution
        flattened x = if occurs_test x l then plain (canon d (c x)) else var x

        module _ (x : Var) (o : Occurs x l) where
          value_kinded : HasKind d (c x) (kind d x.sort)
          value_kinded = sorted.0 x (occurring_sort d x l k h o)

          value_flat : BEqual d (c x) (plain (canon d (c x)))
          value_flat = to_canon d good.fits (c x) (kind d x.sort) value_kinded

          flat_kinded : HasKind d (plain (canon d (c x))) (kind d x.sort)
          flat_kinded = canon_of_kind d good.fits (c x) (kind d x.sort) value_kinded

          flat_value : IsValue x (plain (canon d (c x)))
          flat_value = (
            term_within d vars n (plain (canon d (c x))) (kind d x.sort) flat_kinded (le_trans (value_is_smaller d c l x o) small)
                (λ y i. known y (occurs_instance y c l x o (BEqual-occurs y d (c x) (plain (canon d (c x))) value_flat i))),
            record { kinded = flat_kinded; sorted = sort_of_equal (plain (canon d (c x))) (c x) (BEqual-sym d value_flat) x.sort (sorted.1 x) },
          )

        flattened_assigned : IsAssigned IsValue (variables l) var flattened
        flattened_assigned x = go (occurs_test x l) refl where
          go : (b : Bool) → occurs_test x l ≡ b → (Contains (variables l) x × IsValue x (if b then plain (canon d (c x)) else var x)) ⊎ ((if b then plain (canon d (c x)) else var x) ≡ var x)
          go true p = let o = occurs_if x l p in inl (variables_list x l o, flat_value x o)
          go false p = inr refl

        flattened_equal : BEqual d (apply c l) (apply flattened l)
        flattened_equal = equal_by_agreement d c flattened l (λ x o. subst (λ b. BEqual d (c x) (if b then plain (canon d (c x)) else var x)) (sym (test_if x l o)) (value_flat x o))

      -- Some well-sorted instance of the term has the property, or none has.
      -- The property is decided, the same for terms that are equal modulo the axioms, and holds of small terms alone.
      pub instance_or_none : (Q : Term → Type 0) → ((t : Term) → Decided (Q t)) → ((t u : Term) → BEqual d t u → Q t → Q u) →
          ((t : Term) → Q t → (symbols (canon d t) ≤ n) × ((y : Var) → Occurs y t → Contains vars y)) →
          Decided ((s : Substitution) × (IsWellSorted d s × Q (apply s l)))
      instance_or_none Q decide modulo bounds = go (searched_substitutions IsValue searched_values (variables l) var (λ s. Q (apply s l)) (λ s. decide (apply s l))) where
        refused : (Found (IsAssigned IsValue (variables l) var) (λ s. Q (apply s l)) → ⊥) → (c : Substitution) → IsWellSorted d c → Q (apply c l) → ⊥
        refused m c sorted q =
            let b = bounds (apply c l) q in
            m (flattened c sorted b.0 b.1, (flattened_assigned c sorted b.0 b.1, modulo (apply c l) (apply (flattened c sorted b.0 b.1) l) (flattened_equal c sorted b.0 b.1) q))

        go : Decided (Found (IsAssigned IsValue (variables l) var) (λ s. Q (apply s l))) → Decided ((s : Substitution) × (IsWellSorted d s × Q (apply s l)))
        go (inl w) = inl (w.0, (assigned_sorted (variables l) w.0 w.1.0, w.1.1))
        go (inr m) = inr (λ w. refused m w.0 w.1.0 w.1.1)
