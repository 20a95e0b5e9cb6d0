-- Classes that hold all summands of other classes.
use Rattle.std.proofs.Common.{◌≡◌, ℕ, ◌+◌, ◌<◌, ◌≤◌, true, false, List, [], ◌∷◌, length, get_or, refl, ap, subst, arith, All}
use Rattle.std.specs.Prelude.{Bool, sum_by}
use Rattle.std.proofs.lemmas.List.Elements.{All-head}
use Rattle.std.proofs.lemmas.List.Sums.{sum_by-cons}
use Rattle.fvn_terms.specs.declared.plain.OpId.{OpId}
use Rattle.fvn_terms.specs.declared.declarations.Declarations.{Declarations}
use Rattle.fvn_forms.specs.Flat.{FlatTerm}
use Rattle.fvn_forms.specs.InOrder.{one_if, count}
use Rattle.fvn_forms.specs.Order.{same_flat}
use Rattle.fvn_forms.proofs.Order.{same_flat_is}
use Rattle.fvn_combine_nodes.specs.Table.{NodeTable}
use Rattle.fvn_combine_nodes.specs.States.{class_of}
use Rattle.fvn_combine_nodes.specs.declared.state.State.{State}
use Rattle.fvn_combine_inferring.specs.Sorted.{GoWithSorts}
use Rattle.fvn_combine_inferring.specs.Rows.{times, IsSummand, IsAmong, HoldsSummands}

-- a list of one number is that one alone
pub one_alone : (xs : List ℕ) (n : ℕ) → length xs ≡ 1 → xs ≡ get_or xs 0 n ∷ []
one_alone [] n e = absurd (omega (arith, e))
one_alone (x ∷ []) n e = refl
one_alone (x ∷ y ∷ xs) n e = absurd (omega (arith, e))

module _ (d : Declarations) (t : NodeTable) (s : State) (sorted : Bool) (f : OpId) where
  -- one class alone holds what is among its summands
  pub alone_holds : (k l : ℕ) (ys : List ℕ) → ys ≡ l ∷ [] → IsAmong d t s f k ys → HoldsSummands d t s sorted f k l
  alone_holds k l ys is among values go q =
      let w = times d s f values q in
      let a = among values go.go q in
      let b = ap (sum_by w) is in
      let c = sum_by-cons w l [] in
      let z : sum_by w [] ≡ 0 = refl in
      omega (arith, a, b, c, z)

  -- what has the one summand of a class holds its summands
  pub single_holds : (k l : ℕ) → IsSummand d t s sorted f k → ((values : ℕ → FlatTerm) → GoWithSorts d t s sorted values → 0 < times d s f values (values (class_of s k)) l) → HoldsSummands d t s sorted f k l
  single_holds k l one some values go q = at (same_flat q v) refl
    where
      v : FlatTerm
      v = values (class_of s k)

      own : times d s f values q k ≡ one_if (same_flat q v) + 0
      own = ap (count q) (one values go)

      at : (b : Bool) → same_flat q v ≡ b → times d s f values q k ≤ times d s f values q l
      at true e =
          let a = own in
          let b = ap one_if e in
          let c = some values go in
          let m = ap (λ x. times d s f values x l) (same_flat_is q v e) in
          omega (arith, a, b, c, m)
      at false e = let a = own in let b = ap one_if e in omega (arith, a, b)

-- the one number of a list is below what all are below
pub alone_within : (n l : ℕ) (ys : List ℕ) → ys ≡ l ∷ [] → All (λ y. y < n) ys → l < n
alone_within n l ys is below = All-head (λ y. y < n) l [] (subst (All (λ y. y < n)) is below)
