-- The best of two searches, one after the other.
use Rattle.std.proofs.Common.{◌≡◌, ℕ, ◌+◌, ◌<◌, ◌≤◌, List, length, get_or, All, refl, sym, subst, subst₂, Option, None, Some}
use Rattle.std.proofs.lemmas.List.Elements.{All-get_or}
use Rattle.std.specs.Prelude.{IfSome}
use Rattle.fvn_combine_nodes.specs.States.{IsOpen}
use Rattle.fvn_combine_nodes.specs.declared.state.State.{State}
use Rattle.fvn_combine_questions.specs.declared.best.Ranked.{Ranked}
use Rattle.fvn_combine_questions.specs.inner.Ranks.{IsOpenRanked, IsBestOr}
use Rattle.fvn_combine_questions.proofs.Passing.{more_below, more_above}

module _ (s : State) where
  -- the classes of two columns, of which it is open whether they are one
  pub open_ranked : (columns : List ℕ) → All (λ k. k < length s.names) columns → (i j : ℕ) → i < length columns → j < length columns → (pair : Ranked) → pair.left ≡ get_or columns i 0 → pair.right ≡ get_or columns j 0 → IsOpen s (get_or columns i 0) (get_or columns j 0) → IsOpenRanked s pair
  open_ranked columns within i j l m pair left right is = (
    subst (λ k. k < length s.names) (sym left) (All-get_or (λ k. k < length s.names) columns i 0 l within),
    subst (λ k. k < length s.names) (sym right) (All-get_or (λ k. k < length s.names) columns j 0 m within),
    subst₂ (IsOpen s) (sym left) (sym right) is,
  )

  -- where nothing is asked, the pair from before stays
  pub best_before : (P : Type 0) (o : Option Ranked) → IfSome o (IsOpenRanked s) → P → IsBestOr s o P o
  best_before P None asked p = (refl, p)
  best_before P (Some pair) asked p = asked

  -- what is best is open
  pub best_asked : (P : Type 0) (a o : Option Ranked) → IsBestOr s a P o → IfSome o (IsOpenRanked s)
  best_asked P a None h = tt
  best_asked P a (Some pair) h = h

  -- what follows where there is none
  pub best_weaker : (P Q : Type 0) (a o : Option Ranked) → (o ≡ None → P → Q) → IsBestOr s a P o → IsBestOr s a Q o
  best_weaker P Q a None f h = (h.0, f refl h.1)
  best_weaker P Q a (Some pair) f h = h

  -- one search after another
  pub best_after : (P Q R : Type 0) (a b o : Option Ranked) → (P → Q → R) → IsBestOr s a P b → IsBestOr s b Q o → IsBestOr s a R o
  best_after P Q R a b None f h k =
      let first = subst (IsBestOr s a P) k.0 h in
      (first.0, f first.1 k.1)
  best_after P Q R a b (Some pair) f h k = k

  -- one more number, of which the fact holds where there is none
  pub best_below : (P : ℕ → Type 0) (a o : Option Ranked) (i : ℕ) → (o ≡ None → P i) → IsBestOr s a ((k : ℕ) → k < i → P k) o → IsBestOr s a ((k : ℕ) → k < i + 1 → P k) o
  best_below P a o i own = best_weaker ((k : ℕ) → k < i → P k) ((k : ℕ) → k < i + 1 → P k) a o (λ none below. more_below P i below (own none))

  -- one more number that is searched, from the last one down, where something holds
  pub best_above_where : (C : Type 0) (P : ℕ → Type 0) (a b o : Option Ranked) (n step k : ℕ) → (C → k + step + 1 ≡ n) → IsBestOr s a (C → (j : ℕ) → j < n → n ≤ j + step → P j) b → IsBestOr s b (C → P k) o → IsBestOr s a (C → (j : ℕ) → j < n → n ≤ j + (step + 1) → P j) o
  best_above_where C P a b o n step k is = best_after (C → (j : ℕ) → j < n → n ≤ j + step → P j) (C → P k) (C → (j : ℕ) → j < n → n ≤ j + (step + 1) → P j) a b o (λ h own full. more_above P n step k (is full) (h full) (own full))

  -- the same, where it always holds
  pub best_above : (P : ℕ → Type 0) (a b o : Option Ranked) (n step k : ℕ) → k + step + 1 ≡ n → IsBestOr s a ((j : ℕ) → j < n → n ≤ j + step → P j) b → IsBestOr s b (P k) o → IsBestOr s a ((j : ℕ) → j < n → n ≤ j + (step + 1) → P j) o
  best_above P a b o n step k is = best_after ((j : ℕ) → j < n → n ≤ j + step → P j) (P k) ((j : ℕ) → j < n → n ≤ j + (step + 1) → P j) a b o (more_above P n step k is)
