-- Sums that add just the classes of a side of a row.
use Rattle.std.proofs.Common.{◌≡◌, ℕ, List, [], ◌∷◌, length, refl, sym, ap, ◌∙◌, arith, Option, Some, None}
use Rattle.std.specs.Prelude.{IfSome, sum_by}
use Rattle.std.proofs.lemmas.List.{nil_from_length}
use Rattle.fvn_terms.specs.declared.plain.OpId.{OpId}
use Rattle.fvn_terms.specs.declared.declarations.Declarations.{Declarations}
use Rattle.fvn_combine_nodes.specs.Table.{NodeTable}
use Rattle.fvn_combine_nodes.specs.declared.state.State.{State}
use Rattle.fvn_combine_inferring.specs.Rows.{times, AreSides}
use Rattle.fvn_combine_inferring.specs.inner.Lists.{IsCancelled}

-- lists of which nothing is left weigh the same
pub same_sums : (xs ys kept more : List ℕ) → IsCancelled xs ys kept more → length kept ≡ 0 → length more ≡ 0 → (w : ℕ → ℕ) → sum_by w xs ≡ sum_by w ys
same_sums xs ys kept more h k m w =
    let a = h.balance w in
    let b = ap (sum_by w) (nil_from_length kept k) in
    let c = ap (sum_by w) (nil_from_length more m) in
    let z : sum_by w [] ≡ 0 = refl in
    omega (arith, a, b, c, z)

module _ (d : Declarations) (t : NodeTable) (s : State) (f : OpId) where
  -- what has the summands of one list has those of another that weighs the same
  pub same_sides : (js xs ys : List ℕ) → AreSides d t s f js xs → ((w : ℕ → ℕ) → sum_by w xs ≡ sum_by w ys) → AreSides d t s f js ys
  same_sides js xs ys h same values go q = h values go q ∙ same (times d s f values q)

  -- one side has the summands of a node that has those of the other
  pub stands : (xs ys : List ℕ) → AreSides d t s f xs ys → (o : Option ℕ) → IfSome o (λ j. AreSides d t s f (j ∷ []) ys) → IfSome o (λ j. AreSides d t s f xs (j ∷ []))
  stands xs ys h None u = tt
  stands xs ys h (Some j) u = λ values go q. h values go q ∙ sym (u values go q)
