-- What a verdict of `verify` promises, in words over its status and its text.
use Rattle.std.specs.Prelude.{ℕ, ◌≡◌, ◌⊎◌, List, All, Some, None}
use Rattle.fvn_terms.specs.declared.plain.Plain.{Plain}
use Rattle.fvn_terms.specs.Rewriting.{IsConfluent}
use Rattle.fvn_forms.specs.Flat.{FlatTerm}
use Rattle.fvn_module.specs.Contents.{Contents}
use Rattle.fvn_theory.specs.Equations.{equations_of}
use Rattle.fvn_problems.specs.declared.problem.Problem.{Problem}
use Rattle.fvn_problems.specs.declared.bindings.Bindings.{Bindings}
use Rattle.fvn_verify.specs.declared.verdict.Verdict.{Verdict}
use Rattle.fvn_verify.specs.declared.verdict.Verdict.TheVariants.{Yes, No, Steps, Size}
use Rattle.fvn_verify.specs.Verdicts.{sides_in_turn, IsUnfinished, IsTooLarge, IsFirstDifference}
use Rattle.fvn_cmd_texts.specs.Verdicts.{verdict_text}
use Rattle.fvn_cmd.specs.declared.status.Status.{Status}
use Rattle.fvn_cmd.specs.declared.status.Status.TheVariants.{Solved, Nothing, Ended}
use Rattle.fvn_cmd.specs.Texts.{line, Is}
use Rattle.fvn_cmd_verify.specs.Verdicts.{setting_under}
use Rattle.fvn_cmd_verify.specs.Replies.{AreSolvedBy}

-- the equations of the module are confluent
abbrev pub AreConfluentIn : Contents → Type 0
AreConfluentIn m = IsConfluent m.signature (equations_of m.equations)

-- two replies are one where the equations are confluent and neither ended at a bound
abbrev pub AreOneIfConfluent : Contents → Status → List ℕ → Status → List ℕ → Type 0
AreOneIfConfluent m s t u v = AreConfluentIn m → (s ≡ Ended → ⊥) → (u ≡ Ended → ⊥) → Is s t u v

-- normal forms of all sides decided: no bound ended the search
abbrev pub IsDecided : Verdict → Type 0
IsDecided Yes = Unit {0}
IsDecided (No number left right) = Unit {0}
IsDecided (Steps start reached) = ⊥
IsDecided (Size form) = ⊥

module _ (m : Contents) (p : Problem) (b : Bindings) (steps : ℕ) where
  -- the line `yes`: the sides of each pair are equal in the theory
  pub record TellsYes (status : Status) (text : List ℕ) : Type 0 where
    pub told : Is Solved (line (verdict_text None)) status text
    pub solved : AreSolvedBy m p b

  -- The line `no i`: normal forms of all sides were found, and pair i is the first whose forms differ; where the
  -- equations are confluent, its sides are not equal in the theory.
  pub record TellsNo (status : Status) (text : List ℕ) : Type 0 where
    pub number : ℕ
    pub left : FlatTerm
    pub right : FlatTerm
    pub told : Is Nothing (line (verdict_text (Some number))) status text
    pub first : IsFirstDifference (setting_under m steps b) p.pairs number left right

  -- one of these two lines
  abbrev pub TellsYesOrNo : Status → List ℕ → Type 0
  TellsYesOrNo status text = TellsYes status text ⊎ TellsNo status text

  -- No bound is met at a side under the bindings: nothing that `steps` steps lead to can be rewritten further, and
  -- nothing that at most so many lead to has too many symbols.
  pub record StaysWithin (t : Plain) : Type 0 where
    pub few : (start end : FlatTerm) → IsUnfinished (setting_under m steps b) t start end → ⊥
    pub small : (f : FlatTerm) → IsTooLarge (setting_under m steps b) t f → ⊥

  -- no bound is met at any side of the problem
  abbrev pub AllStayWithin : Type 0
  AllStayWithin = All StaysWithin (sides_in_turn p.pairs)

  -- What a status and a text tell that are a verdict: at Solved the bindings solve the problem; at Nothing `no i` comes,
  -- and where the equations are confluent the bindings do not solve it; and where no bound is met, one of the two comes.
  pub record IsVerdictExact (status : Status) (text : List ℕ) : Type 0 where
    pub yes : status ≡ Solved → AreSolvedBy m p b
    pub no : status ≡ Nothing → TellsNo status text
    pub refuted : status ≡ Nothing → AreConfluentIn m → AreSolvedBy m p b → ⊥
    pub no_event : AllStayWithin → TellsYesOrNo status text
