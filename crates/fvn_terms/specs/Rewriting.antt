-- Rewriting with equations from left to right, modulo the axioms (Peterson and Stickel 1981).
use Rattle.std.specs.Prelude.{◌≤◌, ◌⊎◌, ℕ, zero, suc, List, [], ◌∷◌, Contains}
use Rattle.std.specs.List.{AllZip}
use Rattle.fvn_terms.specs.declared.plain.Var.{Var}
use Rattle.fvn_terms.specs.declared.plain.SortId.{SortId}
use Rattle.fvn_terms.specs.declared.declarations.Declarations.{Declarations}
use Rattle.fvn_terms.specs.Term.{Term}
use Rattle.fvn_terms.specs.Substitution.{Substitution, apply, Occurs}
use Rattle.fvn_terms.specs.Signature.{IsTerm}
use Rattle.fvn_terms.specs.Places.{AtOnePlace}
use Rattle.fvn_terms.specs.Equality.{BEqual}
use Rattle.fvn_terms.specs.Sorts.{HasSort, IsWellSorted}
use Rattle.fvn_terms.specs.Theory.{Equations, IsRule}

-- each variable of a right side stands in the left side
abbrev pub BringsNoVariable : Equations → Type 0
BringsNoVariable equations = (left right : Term) → Contains equations (left, right) → (x : Var) → Occurs x right → Occurs x left

module _ (d : Declarations) (equations : Equations) where
  -- one step: up to the axioms, an instance of the left side of an equation is replaced, at one place, by the same instance of its right side
  pub record Rewrites (t u : Term) : Type 0 where
    pub from : Term
    pub to : Term
    pub before : BEqual d t from
    pub replaced : AtOnePlace (IsRule d equations) from to
    pub after : BEqual d to u

  -- so many steps in a row; no step leads to each term that is equal modulo the axioms
  abbrev pub TermSequence : ℕ → Term → Term → Type 0
  TermSequence zero t u = BEqual d t u
  TermSequence (suc k) t u = (v : Term) × (Rewrites t v × TermSequence k v u)

  -- one member steps, and each other member goes to a term that is equal to it modulo the axioms
  abbrev pub ListRewrites : List Term → List Term → Type 0
  ListRewrites [] us = ⊥
  ListRewrites (t ∷ ts) [] = ⊥
  ListRewrites (t ∷ ts) (u ∷ us) = (Rewrites t u × AllZip (BEqual d) ts us) ⊎ (BEqual d t u × ListRewrites ts us)

  -- so many steps of a list in a row; no step leads to each list whose members are equal to its own modulo the axioms
  abbrev pub ListSequence : ℕ → List Term → List Term → Type 0
  ListSequence zero ts us = AllZip (BEqual d) ts us
  ListSequence (suc k) ts us = (vs : List Term) × (ListRewrites ts vs × ListSequence k vs us)

  -- some step leads on from the term
  abbrev pub IsReducible : Term → Type 0
  IsReducible t = (u : Term) × Rewrites t u

  -- no step leads on from the term
  abbrev pub IsIrreducible : Term → Type 0
  IsIrreducible t = (u : Term) → Rewrites t u → ⊥

  -- no step leads on from the list
  abbrev pub IsIrreducibleList : List Term → Type 0
  IsIrreducibleList ts = (us : List Term) → ListRewrites ts us → ⊥

  -- for each term there is a number that the length of no sequence from it exceeds
  abbrev pub IsTerminating : Type 0
  IsTerminating = (t : Term) → IsTerm d t → (most : ℕ) × ((k : ℕ) (u : Term) → TermSequence k t u → k ≤ most)

  -- sequences from both terms end in terms that are equal modulo the axioms
  pub record AreJoinable (t u : Term) : Type 0 where
    pub left : Term
    pub right : Term
    pub left_steps : ℕ
    pub right_steps : ℕ
    pub left_reached : TermSequence left_steps t left
    pub right_reached : TermSequence right_steps u right
    pub equal : BEqual d left right

  -- whenever two sequences begin at one term, their ends are joinable
  abbrev pub IsConfluent : Type 0
  IsConfluent = (t u v : Term) (j k : ℕ) → IsTerm d t → TermSequence j t u → TermSequence k t v → AreJoinable u v

-- an equation with these sides is sort-decreasing: each instance of its right side has all sorts of that of its left side
abbrev pub IsSortDecreasing : Declarations → Term → Term → Type 0
IsSortDecreasing d left right = (s : Substitution) → IsWellSorted d s → (q : SortId) → HasSort d (apply s left) q → HasSort d (apply s right) q
