-- How a verdict is told.
use Rattle.std.proofs.Common.{◌≡◌, ℕ, List, [], ◌∷◌, ◌++◌, refl, sym, ap, ◌∙◌, subst}
use Rattle.std.specs.Prelude.{◌↔◌, Contains}
use Rattle.fvn_base.proofs.Membership.{contains_here, contains_none}
use Rattle.fvn_base.specs.declared.limits.TheConstants.{TERM_SYMBOLS}
use Rattle.fvn_terms.specs.declared.declarations.Declarations.{Declarations}
use Rattle.fvn_terms.specs.Substitution.{value}
use Rattle.fvn_syntax.specs.Pieces.{Text}
use Rattle.fvn_theory.specs.declared.equation.Equation.{Equation}
use Rattle.fvn_theory.specs.declared.bounds.Bounds.{Bounds}
use Rattle.fvn_theory.specs.Equations.{equations_of}
use Rattle.fvn_verify.specs.Verdicts.{setting, IsVerdict}
use Rattle.fvn_module.specs.Contents.{Contents}
use Rattle.fvn_problems.specs.declared.problem.Problem.{Problem}
use Rattle.fvn_problems.specs.declared.bindings.Bindings.{Bindings}
use Rattle.fvn_verify.specs.declared.verdict.Verdict.{Verdict}
use Rattle.fvn_verify.specs.declared.verdict.Verdict.TheVariants.{Yes, No, Steps, Size}
use Rattle.fvn_answer.specs.declared.end.End.{End}
use Rattle.fvn_answer.specs.Answers.{ended, IsAnswerText}
use Rattle.fvn_cmd.specs.declared.status.Status.{Status}
use Rattle.fvn_cmd_verify.specs.Verdicts.{status_of_verdict, IsLastLine, IsVerdictText, IsToldAs, TellsVerdict}
use Rattle.fvn_cmd_verify.specs.inner.Steps.{FitsVerdict}

-- of no lines none is shown
none_shown : (lines : List Text) → ((line : Text) → Contains lines line ↔ Contains [] line) → lines ≡ []
none_shown [] e = refl
none_shown (l ∷ ls) e = absurd (contains_none l ((e l).0 (contains_here l ls)))

-- an answer without lines is the line of its end
pub last_line : (m : Contents) (ending : End) (text : List ℕ) → IsAnswerText m.signature m.names [] ending text → IsLastLine m ending text
last_line m ending text h = record {
  last = h.last;
  end_line = h.end_line;
  text_is = h.text_is ∙ ap (λ lines. ended (lines ++ h.last ∷ [])) (none_shown h.lines h.in_order.exact);
}

-- the form that is told of a verdict is flat and well-kinded
module _ (d : Declarations) (equations : List Equation) (bounds : Bounds) (p : Problem) (b : Bindings) where
  pub fits_verdict : (v : Verdict) → IsVerdict (setting d (equations_of equations) (value b.subst.pairs) bounds) p.pairs v → FitsVerdict d v
  fits_verdict Yes h = tt
  fits_verdict (No n l r) h = tt
  fits_verdict (Steps start reached) h = h.1.1.start_fits
  fits_verdict (Size f) h = tt

-- a verdict by the equations of a module is one in the module
pub told_verdict_on : (m : Contents) (equations : List Equation) → equations ≡ m.equations → (steps : ℕ) (p : Problem) (b : Bindings) (v : Verdict) →
    IsVerdict (setting m.signature (equations_of equations) (value b.subst.pairs) (record { steps = steps; size = TERM_SYMBOLS })) p.pairs v → (status : Status) (text : List ℕ) → IsToldAs m steps v status text →
    TellsVerdict m steps p b status text
told_verdict_on m equations equations_are steps p b v h status text told = (
  v,
  (
    subst (λ es. IsVerdict (setting m.signature (equations_of es) (value b.subst.pairs) (record { steps = steps; size = TERM_SYMBOLS })) p.pairs v) equations_are h,
    told,
  ),
)

-- a verdict is told as it is one of these
pub told_as : (m : Contents) (steps : ℕ) (v w : Verdict) → v ≡ w → (status : Status) (text : List ℕ) → status ≡ status_of_verdict w → IsVerdictText m steps w text → IsToldAs m steps v status text
told_as m steps v w is status text e h = subst (λ u. IsToldAs m steps u status text) (sym is) (record { status_is = e; text_tells = h })
