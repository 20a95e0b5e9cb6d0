-- Lists of operators that head values.
use Rattle.std.proofs.Common.{◌≡◌, ℕ, ◌<◌, ◌≤◌, List, [], ◌∷◌, length, get_or, set, refl, sym, ap, ◌∙◌, subst, inl, inr, arith, Option, Some, None}
use Rattle.std.specs.Prelude.{Bool, sum_by}
use Rattle.std.proofs.lemmas.Bool.{cases_eq, cases_lt}
use Rattle.std.proofs.lemmas.List.{length-set, get_or-set_same, get_or-set_other}
use Rattle.std.proofs.lemmas.List.Sums.{sum_by-cons, get_or-le-sum_by}
use Rattle.fvn_terms.specs.declared.plain.OpId.{OpId}
use Rattle.fvn_terms.specs.declared.declarations.Declarations.{Declarations}
use Rattle.fvn_forms.specs.Flat.{FlatTerm}
use Rattle.fvn_forms.specs.InOrder.{count}
use Rattle.fvn_forms.proofs.InOrder.{count_itself}
use Rattle.fvn_flat.specs.Forms.{head_of}
use Rattle.fvn_combine_nodes.specs.Table.{NodeTable}
use Rattle.fvn_combine_nodes.specs.States.{IsClosed, class_of}
use Rattle.fvn_combine_nodes.specs.declared.state.State.{State}
use Rattle.fvn_combine_leaves.specs.Readings.{AreHeads}
use Rattle.fvn_combine_bounds.specs.CombineChoicesTables.{HasSums}
use Rattle.fvn_combine_bounds.specs.CombineCompleteObeying.{IsSumOf}
use Rattle.fvn_combine_inferring.specs.Sorted.{GoWithSorts}
use Rattle.fvn_combine_inferring.specs.Rows.{many, times, AreSides}
use Rattle.fvn_combine_inferring.specs.inner.Bounds.{HasTwoSummands, IsPart}
use Rattle.fvn_combine_inferring.proofs.Values.{head_of_solid}
use Rattle.fvn_combine_inferring.proofs.Headed.{large_sum}
use Rattle.fvn_combine_inferring.proofs.Told.{same_many, one_summand, other_times}
use Rattle.fvn_combine_inferring.specs.Inferred.{TellHeads}

module _ (d : Declarations) (t : NodeTable) (s : State) (sorted : Bool) where
  -- those that a reading notes
  pub read_heads : HasSums d t → IsClosed d t s → (heads : List (Option OpId)) → AreHeads d t (class_of s) heads → TellHeads d t s sorted heads
  read_heads has closed heads are = record {
    as_many = are.as_many;
    joined = λ k f l e some values go. absurd (some ((are.exact k f l).0 e).no_identity);
    headed = λ k f l e values go. head_of_solid d t has s closed values go.go f k ((are.exact k f l).0 e);
  }

  -- one more
  pub more_heads : (heads : List (Option OpId)) (k : ℕ) (f : OpId) → k < length heads → TellHeads d t s sorted heads → ((values : ℕ → FlatTerm) → GoWithSorts d t s sorted values → IsSumOf f (values k)) → TellHeads d t s sorted (set heads k (Some f))
  more_heads heads k f l h new = record {
    as_many = length-set heads k (Some f) ∙ h.as_many;
    joined = λ m g within e some values go. elim (cases_eq m k) [
      | inl same ↦
          let at : Some f ≡ Some g = sym (get_or-set_same heads k (Some f) None l) ∙ ap (λ x. get_or (set heads k (Some f)) x None) (sym same) ∙ e in
          let one : f ≡ g = cc in
          subst (λ (x : ℕ). IsSumOf g (values x)) (sym same) (subst (λ (o : OpId). IsSumOf o (values k)) one (new values go))
      | inr other ↦ h.joined m g within (sym (get_or-set_other heads k m (Some f) None other) ∙ e) some values go
    ];
    headed = λ m g within e values go. elim (cases_eq m k) [
      | inl same ↦
          let at : get_or (set heads k (Some f)) m None ≡ Some f = ap (λ x. get_or (set heads k (Some f)) x None) same ∙ get_or-set_same heads k (Some f) None l in
          ap (λ x. head_of (values x)) same ∙ ap head_of (new values go).1 ∙ sym at ∙ e
      | inr other ↦ h.headed m g within (sym (get_or-set_other heads k m (Some f) None other) ∙ e) values go
    ];
  }

  -- a class with two summands is a sum by the operator
  pub large_joined : (f : OpId) (i : ℕ) → HasTwoSummands d t s sorted f i → (values : ℕ → FlatTerm) → GoWithSorts d t s sorted values → IsSumOf f (values (class_of s i))
  large_joined f i two values go = large_sum d f (values (class_of s i)) (two values go)

  -- it has two where two classes that it adds have one for sure
  pub two_summands : (f : OpId) (i n : ℕ) (list : List ℕ) → AreSides d t s f (i ∷ []) list → ((values : ℕ → FlatTerm) → GoWithSorts d t s sorted values → n ≤ sum_by (many d s f values) list) → 2 ≤ n → HasTwoSummands d t s sorted f i
  two_summands f i n list sides least two values go =
      let a = same_many d t s sorted f values (i ∷ []) list (sides values go.go) in
      let b = sum_by-cons (many d s f values) i [] in
      let z : sum_by (many d s f values) [] ≡ 0 = refl in
      let c = least values go in
      omega (arith, a, b, z, c, two)

  -- where one of the classes that it adds has a summand, and another value, it has two
  pub beside_others : (f : OpId) (i k : ℕ) (list : List ℕ) (j : ℕ) → AreSides d t s f (i ∷ []) list → j < length list → k ≡ get_or list j 0 → IsPart d t s sorted f k i → HasTwoSummands d t s sorted f i
  beside_others f i k list j sides within is part values go = elim (cases_lt (many d s f values i) 2) [
    | inr two ↦ omega (arith, two)
    | inl few ↦
        let some = part.some values go in
        let q = values (class_of s k) in
        let long = one_of (many d s f values) (same_many d t s sorted f values (i ∷ []) list (sides values go.go)) in
        let one = ap (count q) (one_summand d t s sorted f values go k (omega (arith, long, few)) some) in
        let once = count_itself q [] in
        let among = one_of (times d s f values q) (sides values go.go q) in
        let none = other_times d t s sorted f values go q i (omega (arith, few)) (part.other values go) in
        absurd (omega (arith, one, once, among, none))
  ]
    where
      one_of : (w : ℕ → ℕ) → sum_by w (i ∷ []) ≡ sum_by w list → w k ≤ w i
      one_of w e =
          let a = sum_by-cons w i [] in
          let z : sum_by w [] ≡ 0 = refl in
          let b = get_or-le-sum_by w list j 0 within in
          let c = ap w is in
          omega (arith, a, z, b, c, e)
