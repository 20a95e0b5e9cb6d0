-- What marks of classes say of values that go with a state.
use Rattle.std.proofs.Common.{◌≡◌, ℕ, ◌+◌, ◌<◌, ◌≤◌, true, false, List, [], ◌∷◌, ◌++◌, length, get_or, refl, sym, ap, ◌∙◌, subst, inl, inr, arith, All}
use Rattle.std.specs.Prelude.{Bool}
use Rattle.std.proofs.lemmas.Bool.{cases_eq, cases_lt, false≢true}
use Rattle.std.proofs.lemmas.List.{length-set, length_push, get_or-set_other, get_or_past}
use Rattle.std.proofs.lemmas.List.Elements.{All-nil, All-push}
use Rattle.fvn_terms.specs.declared.plain.OpId.{OpId}
use Rattle.fvn_terms.specs.declared.declarations.Declarations.{Declarations}
use Rattle.fvn_terms.specs.Signature.{axioms}
use Rattle.fvn_terms.specs.Equality.{IsAssociative}
use Rattle.fvn_forms.specs.Flat.{FlatTerm}
use Rattle.fvn_combine_nodes.specs.Table.{NodeTable}
use Rattle.fvn_combine_nodes.specs.States.{class_of}
use Rattle.fvn_combine_nodes.specs.declared.state.State.{State}
use Rattle.fvn_combine_bounds.specs.Narrow.{IsNarrow, IsNeverIdentity}
use Rattle.fvn_combine_inferring.specs.Rows.{summands, many, HasSummand, HasFewSummands}
use Rattle.fvn_combine_inferring.specs.inner.Bounds.{AreMarks, IsMarked, IsUnmarked, marked}

-- one place more is marked, or not
pub more_marked : (n : ℕ) (P : ℕ → Type 0) (marks : List Bool) (k : ℕ) (is : Bool) → k < length marks → (is ≡ true → P k) → AreMarks n P marks → AreMarks n P (marked marks k is)
more_marked n P marks k false l here h = h
more_marked n P marks k true l here h = record {
  as_many = length-set marks k true ∙ h.as_many;
  each = λ m e. elim (cases_eq m k) [
    | inl same ↦ subst P (sym same) (here refl)
    | inr other ↦ h.each m (sym (get_or-set_other marks k m true false other) ∙ e)
  ];
}

-- no place is marked yet, or one more
pub unmarked_none : IsUnmarked 0 []
unmarked_none = (refl, All-nil (λ b. b ≡ false))

pub unmarked_more : (n : ℕ) (marks : List Bool) → IsUnmarked n marks → IsUnmarked (n + 1) (marks ++ false ∷ [])
unmarked_more n marks h = (length_push marks false ∙ ap (λ k. k + 1) h.0, All-push (λ b. b ≡ false) marks false h.1 refl)

-- beyond the places there is none
nowhere : (marks : List Bool) → All (λ b. b ≡ false) marks → (k : ℕ) → get_or marks k false ≡ false
nowhere marks h k = elim (cases_lt k (length marks)) [
  | inl l ↦ h k false l
  | inr g ↦ get_or_past marks k false g
]

-- where none is marked nothing is said
pub none_marked : (n : ℕ) (P : ℕ → Type 0) (marks : List Bool) → IsUnmarked n marks → AreMarks n P marks
none_marked n P marks h = record {
  as_many = h.0;
  each = λ k e. absurd (false≢true (sym (nowhere marks h.1 k) ∙ e));
}

module _ (d : Declarations) (t : NodeTable) (s : State) (sorted : Bool) (f : OpId) where
  -- a class that is never the identity has a summand
  pub other_summand : (marks : List Bool) → AreMarks (length t.nodes) (IsNeverIdentity d t (class_of s) f) marks → (k : ℕ) → IsMarked sorted marks (class_of s k) → HasSummand d t s sorted f k
  other_summand marks are k h values go = at (summands d s f values k) refl
    where
      at : (l : List FlatTerm) → summands d s f values k ≡ l → 1 ≤ many d s f values k
      at [] e = absurd ((go.heeded h.0).some f (class_of s k) (are.each (class_of s k) h.1) e)
      at (q ∷ l) e = let n = ap length e in omega (arith, n)

  -- a narrow class has one at most
  pub narrow_few : IsAssociative (axioms d f) → (marks : List Bool) → AreMarks (length t.nodes) (IsNarrow d t (class_of s) f) marks → (k : ℕ) → IsMarked sorted marks (class_of s k) → HasFewSummands d t s sorted f k
  narrow_few assoc marks are k h values go = (go.heeded h.0).once f assoc (class_of s k) (are.each (class_of s k) h.1)
