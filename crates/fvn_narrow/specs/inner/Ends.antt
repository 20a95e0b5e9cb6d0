-- The end of an expansion, from that of a solver's answer.
use Rattle.std.specs.Prelude.{◌≡◌, ◌≢◌, ◌⊎◌, List}
use Rattle.fvn_flat.specs.Bindings.{Bindings}
use Rattle.fvn_flat.specs.declared.solver.Pairs.{Pairs}
use Rattle.fvn_flat.specs.declared.solver.Solved.{Solved}
use Rattle.fvn_flat.specs.declared.solver.SolveEnd.{SolveEnd}
use Rattle.fvn_flat.specs.declared.solver.SolveEnd.TheVariants.{Complete, Basis as BasisThere, Unifiers as UnifiersThere, Size as SizeThere}
use Rattle.fvn_exploring.specs.declared.ends.ExpandEnd.{ExpandEnd}
use Rattle.fvn_exploring.specs.declared.ends.ExpandEnd.TheVariants.{Whole, Size, Basis, Unifiers}
use Rattle.fvn_exploring.specs.declared.ends.Expansion.{Expansion}

-- the end to which an answer with these unifiers and this end leads
abbrev pub end_after : Pairs → List Bindings → SolveEnd → ExpandEnd
end_after given unifiers Complete = Whole
end_after given unifiers (BasisThere f system) = Basis f system
end_after given unifiers UnifiersThere = Unifiers given unifiers
end_after given unifiers (SizeThere cause) = Size cause

-- the end to which the answer leads
abbrev pub solver_end : Pairs → Solved → ExpandEnd
solver_end given solved = end_after given solved.unifiers solved.end

-- the same children; the end is that at which they stopped, or that to which the answer leads
pub record AreEnded (given : Pairs) (solved : Solved) (grown e : Expansion) : Type 0 where
  pub children : e.children ≡ grown.children
  pub end : ((grown.end ≡ Whole) × (e.end ≡ solver_end given solved)) ⊎ ((grown.end ≢ Whole) × (e.end ≡ grown.end))
