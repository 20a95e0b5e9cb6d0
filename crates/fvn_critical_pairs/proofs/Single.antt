-- One equation of several.
use Rattle.std.proofs.Common.{◌≡◌, ℕ, List, [], ◌∷◌, length, Some, inl, inr, refl, sym, subst}
use Rattle.std.specs.Prelude.{◌⊎◌, Contains, slice_get}
use Rattle.std.proofs.lemmas.Option.{slice_get_within, slice_get_read, get_or_from_slice_get}
use Rattle.fvn_base.proofs.Membership.{contains_cases, contains_none, contains_map, map_contains}
use Rattle.fvn_terms.specs.declared.declarations.Declarations.{Declarations}
use Rattle.fvn_terms.specs.Term.{Term}
use Rattle.fvn_terms.specs.Theory.{Equations, IsRule}
use Rattle.fvn_terms.specs.Rewriting.{Rewrites}
use Rattle.fvn_terms.proofs.Steps.{AtOnePlace-weaker}
use Rattle.fvn_theory.specs.declared.equation.Equation.{Equation}
use Rattle.fvn_theory.specs.Equations.{sides_of, equations_of}

pub item_in : {A : Type 0} (l : List A) (i : ℕ) (a : A) → slice_get l i ≡ Some a → Contains l a
item_in l i a e = (i, slice_get_within l i a e, get_or_from_slice_get l i a a e)

pub item_at : {A : Type 0} (l : List A) (a : A) → (c : Contains l a) → slice_get l c.0 ≡ Some a
item_at l a c = slice_get_read l (length l) c.0 a refl c.1 (sym c.2)

-- the equation at a place is one of them
pub sides_listed : (equations : List Equation) (i : ℕ) (e : Equation) → slice_get equations i ≡ Some e → Contains (equations_of equations) (sides_of e)
sides_listed equations i e is = contains_map sides_of equations e (item_in equations i e is)

-- and each of them stands at a place
pub record IsListed (equations : List Equation) (sides : Term × Term) : Type 0 where
  pub before : ℕ
  pub equation : Equation
  pub is : slice_get equations before ≡ Some equation
  pub same : sides_of equation ≡ sides

pub listed_at : (equations : List Equation) (sides : Term × Term) → Contains (equations_of equations) sides → IsListed equations sides
listed_at equations sides c =
    let m = map_contains sides_of equations sides c in
    record { before = m.1.0.0; equation = m.0; is = item_at equations m.0 m.1.0; same = m.1.1 }

-- what holds of each of the equations holds of one alone
pub only_this : (P : Term × Term → Type 0) (one : Term × Term) → P one → (sides : Term × Term) → Contains (one ∷ []) sides → P sides
only_this P one p sides c = go (contains_cases one [] sides c) where
  go : (one ≡ sides) ⊎ Contains [] sides → P sides
  go (inl e) = subst P e p
  go (inr n) = absurd (contains_none sides n)

-- a step by one of the equations is a step by them
pub step_of_one : (d : Declarations) (equations : Equations) (one : Term × Term) → Contains equations one → (t u : Term) → Rewrites d (one ∷ []) t u → Rewrites d equations t u
step_of_one d equations one c t u r = record {
  from = r.from;
  to = r.to;
  before = r.before;
  replaced = AtOnePlace-weaker {R = IsRule d (one ∷ [])} {Q = IsRule d equations} of_all r.replaced;
  after = r.after;
} where
  of_all : (v w : Term) → IsRule d (one ∷ []) v w → IsRule d equations v w
  of_all v w i = record {
    left = i.left;
    right = i.right;
    listed = only_this (Contains equations) one c (i.left, i.right) i.listed;
    by = i.by;
    well_sorted = i.well_sorted;
    from = i.from;
    to = i.to;
  }
