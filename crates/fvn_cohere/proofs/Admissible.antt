-- Equations none of whose left sides is at fault.
use Rattle.std.proofs.Common.{sym, subst}
use Rattle.std.proofs.lemmas.List.Elements.{All-contains}
use Rattle.fvn_base.proofs.Membership.{map_contains}
use Rattle.fvn_terms.specs.declared.declarations.Declarations.{Declarations}
use Rattle.fvn_theory.specs.declared.equation.Equation.{Equation}
use Rattle.fvn_theory.specs.Equations.{sides_of, IsReadableEquation}
use Rattle.fvn_rewrite_laws.specs.Admissible.{IsAdmissible}
use Rattle.fvn_cohere.specs.LeftFaults.{IsHarmless}
use Rattle.fvn_cohere.specs.Laws.{HarmlessEquationsAreAdmissible}
use Rattle.fvn_cohere.proofs.Firsts.{kinded}

admissible : (d : Declarations) (e : Equation) → IsReadableEquation d e → IsHarmless d (sides_of e).0 → IsAdmissible d (sides_of e)
admissible d e r h = record { kinded = kinded d e r; no_variable = h.no_variable; no_identity = h.no_identity }

pub harmless-admissible : HarmlessEquationsAreAdmissible
harmless-admissible d equations readable harmless equation listed =
    let w = map_contains sides_of equations equation listed in
    subst (IsAdmissible d) w.1.1
    (admissible d w.0 (All-contains (IsReadableEquation d) equations w.0 readable w.1.0) (subst (λ e. IsHarmless d e.0) (sym w.1.1) (harmless equation listed)))
