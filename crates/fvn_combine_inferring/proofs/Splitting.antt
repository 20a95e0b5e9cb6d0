-- Classes that are replaced by the classes that they add.
use Rattle.std.proofs.Common.{◌≡◌, ℕ, ◌+◌, ◌<◌, true, false, List, [], ◌∷◌, ◌++◌, length, get_or, set, refl, sym, ap, ◌∙◌, subst, inl, inr, arith, All, Option, Some, None}
use Rattle.std.specs.Prelude.{Bool, IfSome, sum_by}
use Rattle.std.proofs.lemmas.Bool.{cases_eq, cases_lt}
use Rattle.std.proofs.lemmas.List.{length-set, length_push, get_or-set_same, get_or-set_other, get_or_append_left, get_or_past}
use Rattle.std.proofs.lemmas.List.Elements.{All-nil, All-cons, All-append, All-push, All-set}
use Rattle.std.proofs.lemmas.List.Sums.{sum_by-cons, sum_by-set, sum_by_push, sum_by-append}
use Rattle.fvn_terms.specs.declared.plain.OpId.{OpId}
use Rattle.fvn_combine_nodes.specs.Table.{NodeTable}
use Rattle.fvn_combine_nodes.specs.declared.state.State.{State}
use Rattle.fvn_combine_inferring.specs.declared.rows.Row.{Row}
use Rattle.fvn_combine_inferring.specs.inner.Lists.{IsCancelled, IsWithout}
use Rattle.fvn_combine_inferring.specs.inner.Splits.{IsSplit, AreSplits, IsUnsplit, noted, AreWithin, IsSplitPlace, IsExpression, IsSum, IsReduced}

-- no place is noted yet, or one more
pub unsplit_none : IsUnsplit 0 []
unsplit_none = (refl, All-nil (λ (o : Option (ℕ × ℕ)). o ≡ None))

pub unsplit_more : (n : ℕ) (splits : List (Option (ℕ × ℕ))) → IsUnsplit n splits → IsUnsplit (n + 1) (splits ++ None ∷ [])
unsplit_more n splits h = (length_push splits None ∙ ap (λ k. k + 1) h.0, All-push (λ (o : Option (ℕ × ℕ)). o ≡ None) splits None h.1 refl)

-- beyond the places there is none
none_noted : (splits : List (Option (ℕ × ℕ))) → All (λ o. o ≡ None) splits → (k : ℕ) → get_or splits k None ≡ None
none_noted splits h k = elim (cases_lt k (length splits)) [
  | inl l ↦ h k None l
  | inr g ↦ get_or_past splits k None g
]

module _ (t : NodeTable) (s : State) (f : OpId) where
  -- no split is noted yet
  pub no_splits : (splits : List (Option (ℕ × ℕ))) → IsUnsplit (length t.nodes) splits → AreSplits t s f splits
  no_splits splits e = record {
    as_many = e.0;
    each = λ k p h. absurd (let n : None ≡ Some p = sym (none_noted splits e.1 k) ∙ h in cc);
  }

  -- one more
  pub more_splits : (splits : List (Option (ℕ × ℕ))) (k : ℕ) → k < length splits → AreSplits t s f splits → (o : Option (ℕ × ℕ)) → IfSome o (IsSplit t s f k) → AreSplits t s f (noted splits k o)
  more_splits splits k l h None n = h
  more_splits splits k l h (Some q) n = record {
    as_many = length-set splits k (Some q) ∙ h.as_many;
    each = λ m p e. elim (cases_eq m k) [
      | inl same ↦
          let at : get_or (set splits k (Some q)) m None ≡ Some q = ap (λ x. get_or (set splits k (Some q)) x None) same ∙ get_or-set_same splits k (Some q) None l in
          let is : Some q ≡ Some p = sym at ∙ e in
          let one : q ≡ p = cc in
          subst (λ x. IsSplit t s f x p) (sym same) (subst (IsSplit t s f k) one n)
      | inr other ↦ h.each m p (sym (get_or-set_other splits k m (Some q) None other) ∙ e)
    ];
  }

module _ (splits : List (Option (ℕ × ℕ))) where
  pub alone_is : (k : ℕ) (list : List ℕ) → k < length splits → list ≡ k ∷ [] → IsExpression splits k list
  alone_is k list l e = subst (IsExpression splits k) (sym e) (record {
    weight = λ w a. let n = sum_by-cons w k [] in let z : sum_by w [] ≡ 0 = refl in omega (arith, n, z);
    below = All-cons (λ i. i < length splits) k [] l (All-nil (λ i. i < length splits));
  })

  -- a class made way for two
  pub split_more : AreWithin splits → (k : ℕ) (list after : List ℕ) (place : ℕ) (b : Bool) → place < length list → IsExpression splits k list → IsSplitPlace splits list after place b → IsExpression splits k after
  split_more within k list after place false l h e = subst (IsExpression splits k) (sym e) h
  split_more within k list after place true l h (p, at, e) = subst (IsExpression splits k) (sym e) (record {
    weight = λ w additive.
        let longer = list ++ p.1 ∷ [] in
        let n = length_push list p.1 in
        let a = sum_by-set w longer place p.0 0 (omega (arith, n, l)) in
        let b = sum_by_push w list p.1 in
        let c = ap w (get_or_append_left list (p.1 ∷ []) 0 place l) in
        let d = additive (get_or list place 0) p at in
        let f = h.weight w additive in
        omega (arith, a, b, c, d, f);
    below =
        let P = λ (i : ℕ). i < length splits in
        let q = within (get_or list place 0) p at in
        All-set P (list ++ p.1 ∷ []) place p.0 q.0 (All-push P list p.1 h.below q.1);
  })

  -- both classes as sums, one after the other
  pub sum_is : (a b : ℕ) (first second list : List ℕ) → IsExpression splits a first → IsExpression splits b second → list ≡ first ++ second → IsSum splits a b list
  sum_is a b first second list ea eb is = record {
    weight = λ w additive.
        let x = ea.weight w additive in
        let y = eb.weight w additive in
        let u = ap (sum_by w) is ∙ sum_by-append w first second in
        omega (arith, x, y, u);
    below = let P = λ (i : ℕ). i < length splits in subst (All P) (sym is) (All-append P first second ea.below eb.below);
  }

  -- both sides of what is left of an equation weigh the same
  pub reduced_is : (unit : Option ℕ) (k a b : ℕ) (whole added now rest left right : List ℕ) → IsSum splits a b added → IsExpression splits k whole
      → IsCancelled added whole now rest → IsWithout unit now left → IsWithout unit rest right → (row : Row) → row.left.items ≡ left → row.right.items ≡ right → IsReduced splits unit k a b row
  reduced_is unit k a b whole added now rest left right sum ek c wl wr row left_is right_is = record {
    weight = λ w additive nothing equation.
        let u = sum.weight w additive in
        let z = ek.weight w additive in
        let v = c.balance w in
        let p = ap (sum_by w) left_is ∙ wl.balance w nothing in
        let q = ap (sum_by w) right_is ∙ wr.balance w nothing in
        omega (arith, z, u, v, p, q, equation);
    left =
        let n = length splits in
        let P = λ (i : ℕ). i < n in
        subst (All P) (sym left_is) (wl.below n (c.below_left n sum.below));
    right =
        let n = length splits in
        subst (All (λ i. i < n)) (sym right_is) (wr.below n (c.below_right n ek.below));
  }

  -- the list is longer by one
  pub split_longer : (list after : List ℕ) (place : ℕ) → IsSplitPlace splits list after place true → length after ≡ length list + 1
  split_longer list after place (p, at, e) = ap length e ∙ length-set (list ++ p.1 ∷ []) place p.0 ∙ length_push list p.1
