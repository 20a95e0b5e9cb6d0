-- What is proved of all verdicts.
use Rattle.std.specs.Prelude.{◌≡◌, ℕ, List, [], All}
use Rattle.fvn_terms.specs.declared.plain.Plain.{Plain}
use Rattle.fvn_terms.specs.declared.declarations.Declarations.{Declarations}
use Rattle.fvn_terms.specs.Signature.{KeepsKinds}
use Rattle.fvn_terms.specs.Substitution.{Substitution}
use Rattle.fvn_terms.specs.Theory.{Equations}
use Rattle.fvn_terms.specs.Rewriting.{IsConfluent}
use Rattle.fvn_forms.specs.FitsKinds.{FitsKinds}
use Rattle.fvn_theory.specs.declared.bounds.Bounds.{Bounds}
use Rattle.fvn_rewrite_laws.specs.Kinds.{AreOfOneKind}
use Rattle.fvn_verify.specs.declared.verdict.Verdict.{Verdict}
use Rattle.fvn_verify.specs.declared.verdict.Verdict.TheVariants.{Yes, No, Steps, Size}
use Rattle.fvn_verify.specs.Verdicts.{setting, IsVerdict}

-- not one of them yes and the other no, and where both are no, of one pair
abbrev pub Agree : Verdict → Verdict → Type 0
Agree Yes Yes = Unit
Agree Yes (No number left right) = ⊥
Agree Yes (Steps start end) = Unit
Agree Yes (Size f) = Unit
Agree (No number left right) Yes = ⊥
Agree (No number left right) (No other first second) = number ≡ other
Agree (No number left right) (Steps start end) = Unit
Agree (No number left right) (Size f) = Unit
Agree (Steps start end) v = Unit
Agree (Size f) v = Unit

-- Where the equations are confluent, verdicts on pairs under one substitution agree, whatever the limits on steps and
-- symbols were.
abbrev pub VerdictsAgree : Type 0
VerdictsAgree =
    (d : Declarations) (equations : Equations) → IsConfluent d equations →
    (s : Substitution) (pairs : List (Plain × Plain)) (bounds others : Bounds) (v w : Verdict) →
    IsVerdict (setting d equations s bounds) pairs v → IsVerdict (setting d equations s others) pairs w → Agree v w

-- Without equations there is one verdict at most on pairs under a substitution, whatever the limits on steps were.
abbrev pub VerdictsWithoutEquationsAreDetermined : Type 0
VerdictsWithoutEquationsAreDetermined =
    (d : Declarations) → FitsKinds d → (s : Substitution) → KeepsKinds d s →
    (pairs : List (Plain × Plain)) → All (AreOfOneKind d) pairs → (steps others size : ℕ) (v w : Verdict) →
    IsVerdict (setting d [] s (record { steps = steps; size = size })) pairs v →
    IsVerdict (setting d [] s (record { steps = others; size = size })) pairs w → v ≡ w
