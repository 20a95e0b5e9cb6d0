-- Complete sets of solutions, for any notion of a solution and of an instance (Baader and Nipkow, Term Rewriting and All That, 1998, ch. 10).
use Rattle.std.specs.Prelude.{◌≤◌, List, length, All, AllPairs, Any}

-- none is an instance of another
abbrev pub IsApart : {A : Type 0} → (A → A → Type 0) → List A → Type 0
IsApart IsInstanceOf set = AllPairs (λ s c. (IsInstanceOf s c → ⊥) × (IsInstanceOf c s → ⊥)) set

module _ {A : Type 0} (IsSolution : A → Type 0) (IsInstanceOf : A → A → Type 0) where
  -- these are solutions, and every solution is an instance of one of them
  pub record IsCompleteSet (set : List A) : Type 0 where
    pub sound : All IsSolution set
    pub complete : (u : A) → IsSolution u → Any (IsInstanceOf u) set

  -- no complete set has fewer members
  abbrev pub IsShortest : List A → Type 0
  IsShortest set = (others : List A) → IsCompleteSet others → length set ≤ length others

  -- a solution of which every solution is an instance
  pub record IsMostGeneral (s : A) : Type 0 where
    pub solution : IsSolution s
    pub general : (u : A) → IsSolution u → IsInstanceOf u s
