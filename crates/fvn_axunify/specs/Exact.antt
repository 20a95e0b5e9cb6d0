-- When exactly an end comes, and which number is the next.
use Rattle.std.specs.Prelude.{◌≡◌, ◌↔◌, ◌⊎◌, ◌+◌, ◌≤◌, ◌<◌, ℕ, List, length, Any}
use Rattle.fvn_flat.specs.Bindings.{Bindings}
use Rattle.fvn_flat.specs.Solving.{symbols_of_pairs}
use Rattle.fvn_flat.specs.declared.solver.Pairs.{Pairs}
use Rattle.fvn_flat.specs.declared.solver.Solved.{Solved}
use Rattle.fvn_flat.specs.declared.solver.SolveEnd.TheVariants.{Unifiers, Size}
use Rattle.fvn_flat.specs.declared.solver.SizeCause.TheVariants.{Problem}
use Rattle.fvn_refine.specs.Refinements.{variables_of_terms}

-- the number is the first, or one above that of some variable in a value
abbrev pub IsJustAbove : ℕ → List Bindings → ℕ → Type 0
IsJustAbove first unifiers next = (next ≡ first) ⊎ Any (λ s. Any (λ y. next ≡ y.name + 1) (variables_of_terms s)) unifiers

-- An answer to these pairs with new variables from `first` on, at most so many unifiers and at most so many symbols.
module _ (given : Pairs) (first most_unifiers most_symbols : ℕ) (r : Solved) where
  -- the limit of unifiers is told exactly where it is reached, and it is never passed
  pub record IsUnifiersExact : Type 0 where
    pub few : length r.unifiers ≤ most_unifiers
    pub full : (r.end ≡ Unifiers) ↔ (length r.unifiers ≡ most_unifiers)

  -- the problem is said to be too large exactly where it is
  abbrev pub IsSizeExact : Type 0
  IsSizeExact = ((p : Pairs) × (r.end ≡ Size (Problem p))) ↔ (most_symbols < symbols_of_pairs given.pairs)

  -- both, and the next number is no greater than it has to be
  pub record IsExact : Type 0 where
    pub unifiers : IsUnifiersExact
    pub size : IsSizeExact
    pub next : IsJustAbove first r.unifiers r.next_fresh
