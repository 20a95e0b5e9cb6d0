-- What the answers to a question promise, whatever an answer is.
use Rattle.std.specs.Prelude.{◌≢◌, ℕ, List, All, Any, Contains}
use Rattle.fvn_terms.specs.CompleteSets.{IsApart, IsShortest}

-- What is asked: which values are answers, and which of two is an instance of the other; which are solutions, and which
-- solution is one that an answer stands for; what a line denotes; and what is trusted of the equations.
pub record Promise (A : Type 0) : Type 1 where
  pub IsOne : A → Type 0
  -- the first is an instance of the second
  pub IsBelow : A → A → Type 0
  pub IsSolution : A → Type 0
  -- the solution, which stands first, is one that the answer stands for
  pub IsReached : A → A → Type 0
  pub Denotes : List ℕ → A → Type 0
  pub Trusted : Type 0

module _ {A : Type 0} (promise : Promise A) where
  -- each solution is one that some of these stands for, and no complete set of answers has fewer members
  pub record AreAll (answers : List A) : Type 0 where
    pub complete : (s : A) → promise.IsSolution s → Any (promise.IsReached s) answers
    pub shortest : IsShortest promise.IsOne promise.IsBelow answers

  -- These are answers, none an instance of another; where the search came to its end, and what is trusted holds, they are
  -- all.
  pub record IsHeadline (IsWhole : Type 0) (answers : List A) : Type 0 where
    pub sound : All promise.IsOne answers
    pub apart : IsApart promise.IsBelow answers
    pub all : IsWhole → promise.Trusted → AreAll answers

  -- The same of lines and what they denote: each denotes an answer, those of two lines are no instances of one another,
  -- and where the search came to its end, each solution is one that the answer of some line stands for.
  pub record IsHeadlineOfLines (IsWhole : Type 0) (lines : List (List ℕ)) : Type 0 where
    pub denoted : (line : List ℕ) → Contains lines line → (a : A) × promise.Denotes line a
    pub sound : (line : List ℕ) → Contains lines line → (a : A) → promise.Denotes line a → promise.IsOne a
    pub apart : (line other : List ℕ) → Contains lines line → Contains lines other → line ≢ other →
        (a b : A) → promise.Denotes line a → promise.Denotes other b → promise.IsBelow a b → ⊥
    pub complete : IsWhole → promise.Trusted → (s : A) → promise.IsSolution s →
        (line : List ℕ) × (a : A) × (Contains lines line × promise.Denotes line a × promise.IsReached s a)
