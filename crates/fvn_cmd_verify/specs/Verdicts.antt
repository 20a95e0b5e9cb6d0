-- How a verdict is told, and with which status.
use Rattle.std.specs.Prelude.{◌≡◌, ℕ, List, Some, None}
use Rattle.fvn_base.specs.declared.limits.TheConstants.{TERM_SYMBOLS}
use Rattle.fvn_terms.specs.Substitution.{value}
use Rattle.fvn_module.specs.Contents.{Contents}
use Rattle.fvn_theory.specs.Equations.{equations_of}
use Rattle.fvn_problems.specs.declared.problem.Problem.{Problem}
use Rattle.fvn_problems.specs.declared.bindings.Bindings.{Bindings}
use Rattle.fvn_verify.specs.declared.verdict.Verdict.{Verdict}
use Rattle.fvn_verify.specs.declared.verdict.Verdict.TheVariants.{Yes, No, Steps, Size}
use Rattle.fvn_verify.specs.Verdicts.{Setting, setting, IsVerdict}
use Rattle.fvn_cmd_texts.specs.Verdicts.{verdict_text}
use Rattle.fvn_answer.specs.declared.end.End.{End}
use Rattle.fvn_answer.specs.declared.end.End.TheVariants as end
use Rattle.fvn_answer.specs.Answers.{IsEndLine}
use Rattle.fvn_cmd.specs.declared.status.Status.{Status}
use Rattle.fvn_cmd.specs.declared.status.Status.TheVariants.{Solved, Nothing, Ended}
use Rattle.fvn_cmd.specs.Texts.{line}

-- the status that goes with a verdict
abbrev pub status_of_verdict : Verdict → Status
status_of_verdict Yes = Solved
status_of_verdict (No number left right) = Nothing
status_of_verdict (Steps start reached) = Ended
status_of_verdict (Size form) = Ended

module _ (m : Contents) where
  -- the text is the line of this end alone
  pub record IsLastLine (ending : End) (text : List ℕ) : Type 0 where
    pub last : List ℕ
    pub end_line : IsEndLine m.signature m.names ending last
    pub text_is : text ≡ line last

  module _ (steps : ℕ) where
    -- what is told of a verdict: `yes`, the number of a pair, so many steps from a side, or so many symbols
    abbrev pub IsVerdictText : Verdict → List ℕ → Type 0
    IsVerdictText Yes text = text ≡ line (verdict_text None)
    IsVerdictText (No number left right) text = text ≡ line (verdict_text (Some number))
    IsVerdictText (Steps start reached) text = IsLastLine (end.Steps steps start) text
    IsVerdictText (Size form) text = IsLastLine (end.Size TERM_SYMBOLS) text

    -- this status and this text tell the verdict
    pub record IsToldAs (v : Verdict) (status : Status) (text : List ℕ) : Type 0 where
      pub status_is : status ≡ status_of_verdict v
      pub text_tells : IsVerdictText v text

    -- what sides are rewritten in: the module under the bindings, with the limits on steps and symbols
    abbrev pub setting_under : Bindings → Setting
    setting_under b =
        setting m.signature (equations_of m.equations) (value b.subst.pairs)
        (record { steps = steps; size = TERM_SYMBOLS })

    -- the verdict is one on the problem under the bindings, in the theory of the module
    abbrev pub IsVerdictOn : Problem → Bindings → Verdict → Type 0
    IsVerdictOn p b v = IsVerdict (setting_under b) p.pairs v

    -- this status and this text tell a verdict on the problem under the bindings
    abbrev pub TellsVerdict : Problem → Bindings → Status → List ℕ → Type 0
    TellsVerdict p b status text = (v : Verdict) × (IsVerdictOn p b v × IsToldAs v status text)
