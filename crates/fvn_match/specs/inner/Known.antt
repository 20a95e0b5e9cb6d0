-- Patterns of a sum whose values are known.
use Rattle.std.specs.Prelude.{◌≡◌, ◌≤◌, ◌↔◌, length, sum as std_sum, Option, Some, None}
use Rattle.fvn_terms.specs.declared.plain.Var.{Var}
use Rattle.fvn_terms.specs.declared.declarations.Declarations.{Declarations}
use Rattle.fvn_terms.specs.Substitution.{Occurs}
use Rattle.fvn_forms.specs.Flat.{FlatTerm, plain}
use Rattle.fvn_forms.specs.InOrder.{count}
use Rattle.fvn_forms.specs.Canon.{inst}
use Rattle.fvn_forms.specs.Settled.{Settled}
use Rattle.fvn_flat.specs.Bindings.{Bindings, bound}
use Rattle.fvn_match.specs.inner.Tallies.{AddsUp}
use Rattle.fvn_match.specs.inner.Summands.{references}
use Rattle.fvn_match.specs.inner.Candidates.{Values, Agrees, IsCandidate}
use Rattle.fvn_match.specs.inner.Goals.{pieces_of, SumHolds, weight_of, patterns_of}
use Rattle.fvn_match.specs.declared.goals.SumGoal.{SumGoal}
use Rattle.fvn_match.specs.declared.known.Open.{Open}

-- in each signature in which the pattern is flat, all values that agree make this form of it
abbrev pub IsKnown : Bindings → FlatTerm → FlatTerm → Type 0
IsKnown b p v = (d : Declarations) → Settled d p → (c : Values) → Agrees b c → inst d c p ≡ v

-- each variable of the form is bound
abbrev pub AreBound : Bindings → FlatTerm → Type 0
AreBound b p = (x : Var) → Occurs x (plain p) → (v : FlatTerm) × (bound b x ≡ Some v)

-- all values that agree make this form of the pattern
abbrev pub MakesOnly : Declarations → Bindings → FlatTerm → FlatTerm → Type 0
MakesOnly d b p v = (c : Values) → Agrees b c → inst d c p ≡ v

-- what is said of a sum under the values that were bound
module _ (d : Declarations) (b : Bindings) (goal : SumGoal) where
  -- what is left asks the same of every candidate that agrees
  pub record IsOpen (open_ : Open) : Type 0 where
    pub same : (c : Values) → IsCandidate d c → Agrees b c → SumHolds d goal c ↔ AddsUp d goal.op (references open_.patterns.items) (pieces_of goal) open_.left.items c
    pub among : (q : FlatTerm) → 1 ≤ count q (references open_.patterns.items) → 1 ≤ count q (patterns_of goal)
    pub lighter : weight_of (references open_.patterns.items) ≤ weight_of (patterns_of goal)
    pub long : length open_.left.items ≡ length goal.left.now
    pub fewer : std_sum open_.left.items ≤ std_sum goal.left.now

  -- what is left of the goal; none where no candidate that agrees meets it
  abbrev pub LeavesOpen : Option Open → Type 0
  LeavesOpen None = (c : Values) → IsCandidate d c → Agrees b c → SumHolds d goal c → ⊥
  LeavesOpen (Some open_) = IsOpen open_
