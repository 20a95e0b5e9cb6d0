-- Classes whose values have one of two heads.
use Rattle.std.proofs.Common.{◌≡◌, ◌⊎◌, ℕ, ◌<◌, ◌≤◌, List, [], ◌∷◌, length, sym, ap, ◌∙◌, refl, subst, slice_get, inl, inr, arith, Option, Some, None}
use Rattle.std.specs.Prelude.{Bool, slice_index_or}
use Rattle.fvn_terms.specs.declared.plain.OpId.{OpId}
use Rattle.fvn_terms.specs.declared.declarations.Declarations.{Declarations}
use Rattle.fvn_terms.specs.Signature.{axioms}
use Rattle.fvn_terms.specs.Equality.{IsAssociative}
use Rattle.fvn_forms.specs.Flat.{FlatTerm}
use Rattle.fvn_forms.specs.InOrder.{count}
use Rattle.fvn_forms.specs.Canon.{parts}
use Rattle.fvn_flat.specs.Forms.{head_of}
use Rattle.fvn_combine_nodes.specs.Table.{NodeTable, IsWellMade}
use Rattle.fvn_combine_nodes.specs.States.{IsClosed, class_of}
use Rattle.fvn_combine_nodes.specs.declared.state.State.{State}
use Rattle.fvn_combine_systems.specs.NodeSystems.{addends}
use Rattle.fvn_combine_systems.proofs.Members.{addends_over}
use Rattle.fvn_combine_bounds.specs.CombineChoicesTables.{HasSums}
use Rattle.fvn_combine_bounds.specs.CombineCompleteObeying.{GoWith}
use Rattle.fvn_combine_inferring.specs.Sorted.{GoWithSorts}
use Rattle.fvn_combine_inferring.specs.Inferred.{TellHeads, HaveTwoValues}
use Rattle.fvn_combine_inferring.specs.Rows.{summands, many, IsSummand}
use Rattle.fvn_combine_inferring.specs.inner.Bounds.{IsOtherHead, IsNotedApart, IsNotedOfEither, HasEitherHead, IsAddedLast, AreUnlike}
use Rattle.fvn_combine_inferring.specs.inner.Splits.{IsSplit}
use Rattle.fvn_combine_inferring.proofs.Values.{own_name, name_within, headed_summand}
use Rattle.fvn_combine_inferring.proofs.Headed.{headed_part, large_sum}
use Rattle.fvn_combine_inferring.proofs.Added.{Adds, turned, alone, adds, many_adds}

-- a sum of a class that g heads as one summand, and of another class: g heads it, or f
sum_head : (d : Declarations) (t : NodeTable) (s : State) (f : OpId) (values : ℕ → FlatTerm) (go_with : GoWith d t s values) (g : OpId) (i a b : ℕ) → Adds d t s f values go_with i a b → summands d s f values a ≡ values (class_of s a) ∷ [] → head_of (values (class_of s a)) ≡ Some g → (head_of (values (class_of s i)) ≡ Some f) ⊎ (head_of (values (class_of s i)) ≡ Some g)
sum_head d t s f values go_with g i a b h one head = at (summands d s f values b) refl
  where
    at : (l : List FlatTerm) → summands d s f values b ≡ l → (head_of (values (class_of s i)) ≡ Some f) ⊎ (head_of (values (class_of s i)) ≡ Some g)
    at [] e = inr (ap head_of (alone d t s f values go_with i a b h e) ∙ head)
    at (x ∷ l) e =
        let m = many_adds d t s f values go_with i a b h in
        let n = ap length e in
        let k = ap length one in
        inl (ap head_of (large_sum d f (values (class_of s i)) (omega (arith, m, n, k))).1)

-- a class that has the value of another one, or two summands, has the other one's head, or is a sum
last_head : (d : Declarations) (t : NodeTable) (s : State) (f : OpId) (values : ℕ → FlatTerm) (g : OpId) (i j : ℕ) → (2 ≤ many d s f values i) ⊎ (values (class_of s i) ≡ values (class_of s j)) → (head_of (values (class_of s j)) ≡ Some f) ⊎ (head_of (values (class_of s j)) ≡ Some g) → (head_of (values (class_of s i)) ≡ Some f) ⊎ (head_of (values (class_of s i)) ≡ Some g)
last_head d t s f values g i j (inl two) either = inl (ap head_of (large_sum d f (values (class_of s i)) two).1)
last_head d t s f values g i j (inr same) (inl e) = inl (ap head_of same ∙ e)
last_head d t s f values g i j (inr same) (inr e) = inr (ap head_of same ∙ e)

-- a class that has the value of a sum has that of what is added last, or two summands
step_on : (d : Declarations) (t : NodeTable) (s : State) (f : OpId) (values : ℕ → FlatTerm) (go_with : GoWith d t s values) (i j a b : ℕ) → Adds d t s f values go_with j a b → 1 ≤ many d s f values b → values (class_of s i) ≡ values (class_of s j) → (2 ≤ many d s f values i) ⊎ (values (class_of s i) ≡ values (class_of s b))
step_on d t s f values go_with i j a b h some same = at (summands d s f values a) refl
  where
    at : (l : List FlatTerm) → summands d s f values a ≡ l → (2 ≤ many d s f values i) ⊎ (values (class_of s i) ≡ values (class_of s b))
    at [] e = inr (same ∙ alone d t s f values go_with j b a (turned d t s f values go_with j a b h) e)
    at (x ∷ l) e =
        let m = many_adds d t s f values go_with j a b h in
        let n = ap length e in
        let k = ap (λ v. length (parts d f v)) same in
        inl (omega (arith, m, n, k, some))

-- a node has the summands of both nodes that it adds
pub node_adds : (d : Declarations) (t : NodeTable) (s : State) → IsClosed d t s → IsWellMade t → HasSums d t → (f : OpId) → IsAssociative (axioms d f) → (j : ℕ) → j < length t.nodes → (p : ℕ × ℕ) → addends f (slice_get t.nodes j) ≡ Some p → (p.0 < length t.nodes) × (p.1 < length t.nodes) → (values : ℕ → FlatTerm) (go_with : GoWith d t s values) → Adds d t s f values go_with j p.0 p.1
node_adds d t s closed made has f assoc j within p e l values go_with q =
    let split : IsSplit t s f (class_of s j) (class_of s p.0, class_of s p.1) = record {
      member = j;
      left = p.0;
      right = p.1;
      over = addends_over f (slice_get t.nodes j) p e;
      of = refl;
      first = refl;
      second = refl;
    } in
    let h = adds d t made has s closed f assoc j within (class_of s p.0, class_of s p.1) split values go_with q in
    let a = ap (λ k. count q (parts d f (values k))) (own_name d t s closed p.0 l.0) in
    let b = ap (λ k. count q (parts d f (values k))) (own_name d t s closed p.1 l.1) in
    omega (arith, h, a, b)

module _ (d : Declarations) (t : NodeTable) (s : State) (sorted : Bool) where
  module _ (closed : IsClosed d t s) (heads : List (Option OpId)) (are : TellHeads d t s sorted heads) where
    -- what is noted of a class heads its value
    pub noted_head : (k : ℕ) (f : OpId) → k < length t.nodes → slice_index_or heads (class_of s k) None ≡ Some f → HasEitherHead d t s sorted k (f, f)
    noted_head k f l e values go = inl (are.headed (class_of s k) f (name_within d t s closed k l) e values go)

    module _ (f : OpId) (k : ℕ) (l : k < length t.nodes) (g : OpId) (told : IsNotedApart d f heads (class_of s k) g) (values : ℕ → FlatTerm) (go : GoWithSorts d t s sorted values) where
      noted_summand : summands d s f values k ≡ values (class_of s k) ∷ []
      noted_summand = headed_summand d t s closed sorted heads are values go f k l (g, told.0, told.1)

      noted_value : head_of (values (class_of s k)) ≡ Some g
      noted_value = are.headed (class_of s k) g (name_within d t s closed k l) told.0 values go

    module _ (made : IsWellMade t) (has : HasSums d t) (f : OpId) (assoc : IsAssociative (axioms d f)) where
      -- what a last node adds last is added last
      pub last_step : (i j : ℕ) → j < length t.nodes → (p : ℕ × ℕ) → addends f (slice_get t.nodes j) ≡ Some p → (p.0 < length t.nodes) × (p.1 < length t.nodes) → IsAddedLast d t s sorted f i j → IsAddedLast d t s sorted f i p.1
      last_step i j within p e l last values go some =
          let h = node_adds d t s closed made has f assoc j within p e l values go.go in
          let m = many_adds d t s f values go.go j p.0 p.1 h in
          elim (last values go (omega (arith, m, some))) [
            | inl two ↦ inl two
            | inr same ↦ step_on d t s f values go.go i j p.0 p.1 h some same
          ]

      -- a sum has the head that is noted of a class that it adds, or is a sum of several
      pub added_either : (i j : ℕ) → j < length t.nodes → IsAddedLast d t s sorted f i j → (p : ℕ × ℕ) → addends f (slice_get t.nodes j) ≡ Some p → (p.0 < length t.nodes) × (p.1 < length t.nodes) → (g : OpId) → IsNotedOfEither d f heads (class_of s p.0) (class_of s p.1) g → HasEitherHead d t s sorted i (f, g)
      added_either i j within last p e l g either values go =
          let h = node_adds d t s closed made has f assoc j within p e l values go.go in
          let m = many_adds d t s f values go.go j p.0 p.1 h in
          elim either [
            | inl told ↦
                let one = noted_summand f p.0 l.0 g told values go in
                let n = ap length one in
                last_head d t s f values g i j (last values go (omega (arith, m, n))) (sum_head d t s f values go.go g j p.0 p.1 h one (noted_value f p.0 l.0 g told values go))
            | inr told ↦
                let one = noted_summand f p.1 l.1 g told values go in
                let n = ap length one in
                last_head d t s f values g i j (last values go (omega (arith, m, n))) (sum_head d t s f values go.go g j p.1 p.0 (turned d t s f values go.go j p.0 p.1 h) one (noted_value f p.1 l.1 g told values go))
          ]

  -- what a member has the class has
  pub member_either : (i k : ℕ) → class_of s i ≡ class_of s k → (p : OpId × OpId) → HasEitherHead d t s sorted i p → HasEitherHead d t s sorted k p
  member_either i k same p h values go =
      subst (λ c. (head_of (values c) ≡ Some p.0) ⊎ (head_of (values c) ≡ Some p.1)) same (h values go)

  -- a value that one of two other operators heads is one summand
  pub either_summand : (f : OpId) (k : ℕ) (p : OpId × OpId) → HasEitherHead d t s sorted k p → IsOtherHead d f p.0 → IsOtherHead d f p.1 → IsSummand d t s sorted f k
  either_summand f k p h first second values go = elim (h values go) [
    | inl e ↦ headed_part d f p.0 first.0 first.1 (values (class_of s k)) e
    | inr e ↦ headed_part d f p.1 second.0 second.1 (values (class_of s k)) e
  ]

  -- values without a possible head in common differ
  pub either_differ : (i j : ℕ) (p q : OpId × OpId) → HasEitherHead d t s sorted i p → HasEitherHead d t s sorted j q → AreUnlike p q → HaveTwoValues d t s sorted i j
  either_differ i j p q a b other values go e = elim (a values go) [
    | inl x ↦ elim (b values go) [ inl y ↦ other.0 (one p.0 q.0 x y) | inr y ↦ other.1 (one p.0 q.1 x y) ]
    | inr x ↦ elim (b values go) [ inl y ↦ other.2 (one p.1 q.0 x y) | inr y ↦ other.3 (one p.1 q.1 x y) ]
  ]
    where
      one : (f g : OpId) → head_of (values (class_of s i)) ≡ Some f → head_of (values (class_of s j)) ≡ Some g → f ≡ g
      one f g x y = let z : Some f ≡ Some g = sym x ∙ ap head_of e ∙ y in cc
