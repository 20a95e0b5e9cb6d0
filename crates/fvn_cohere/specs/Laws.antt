-- Laws of equations that are checked.
use Rattle.std.specs.Prelude.{List, All}
use Rattle.fvn_terms.specs.declared.declarations.Declarations.{Declarations}
use Rattle.fvn_theory.specs.declared.equation.Equation.{Equation}
use Rattle.fvn_theory.specs.Equations.{equations_of, IsReadableEquation}
use Rattle.fvn_rewrite_laws.specs.Admissible.{AreAdmissible}
use Rattle.fvn_cohere.specs.LeftFaults.{AreHarmless}

-- readable equations none of whose left sides is at fault are admissible
abbrev pub HarmlessEquationsAreAdmissible : Type 0
HarmlessEquationsAreAdmissible =
    (d : Declarations) (equations : List Equation) → All (IsReadableEquation d) equations →
    AreHarmless d (equations_of equations) → AreAdmissible d (equations_of equations)
