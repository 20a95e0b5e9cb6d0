-- What makes no sums is free or commutative.
use Rattle.std.proofs.Common.{◌≡◌, Bool, true, false, sym, ◌∙◌}
use Rattle.std.specs.Prelude.{◌↔◌, IsTrue, not}
use Rattle.fvn_terms.specs.declared.declarations.Axioms.{Axioms}
use Rattle.fvn_terms.specs.declared.declarations.Axioms.TheVariants.{Free, Comm, AssocComm, AssocCommId}
use Rattle.fvn_terms.specs.Equality.{is_sum}
use Rattle.fvn_flat.specs.SolvedLists.{IsSimple}

pub simple_told : (a : Axioms) (simple : Bool) → simple ≡ not (is_sum a) → IsTrue simple ↔ IsSimple a
simple_told Free simple e = (λ h. tt, λ h. e)
simple_told Comm simple e = (λ h. tt, λ h. e)
simple_told AssocComm simple e = (λ h. let z : true ≡ false = sym h ∙ e in cc, λ h. absurd h)
simple_told (AssocCommId o) simple e = (λ h. let z : true ≡ false = sym h ∙ e in cc, λ h. absurd h)
