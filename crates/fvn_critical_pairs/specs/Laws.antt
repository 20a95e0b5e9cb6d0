-- Laws of overlaps: they decide confluence, and the unifiers of their problems decide them.
use Rattle.std.specs.Prelude.{ℕ, List, All, Contains}
use Rattle.fvn_terms.specs.declared.declarations.Declarations.{Declarations}
use Rattle.fvn_terms.specs.Term.{Term}
use Rattle.fvn_terms.specs.Substitution.{Substitution, apply}
use Rattle.fvn_terms.specs.Unifiers.{IsUnifier}
use Rattle.fvn_terms.specs.Rewriting.{IsTerminating, IsConfluent}
use Rattle.fvn_forms.specs.Flat.{plain}
use Rattle.fvn_theory.specs.declared.equation.Equation.{Equation}
use Rattle.fvn_theory.specs.Equations.{equations_of}
use Rattle.fvn_flat.specs.OneAnswer.{IsCompleteFor}
use Rattle.fvn_rewrite_laws.specs.Losses.{AreSortDecreasing}
use Rattle.fvn_rewrite_rules.specs.declared.rule.Rule.{Rule}
use Rattle.fvn_rewrite_rules.specs.Given.{RuleLists}
use Rattle.fvn_rewrite_peaks.specs.Peaks.{StepsJoin}
use Rattle.fvn_lifting.specs.Meetings.{IsOverNew}
use Rattle.fvn_lifting.specs.Laws.{AreUsed}
use Rattle.fvn_critical_pairs.specs.Overlaps.{Overlap, inner_result, overlap_problem, IsOverlap, JoinsUnder, Joins, SubsumeAll, IsJoined}
use Rattle.fvn_critical_pairs.specs.Divergence.{StepsBy, Diverge}

-- each of the chosen rules is joined
abbrev pub AreAllJoined : Declarations → RuleLists → List Rule → Type 0
AreAllJoined d lists chosen =
    (rule : Rule) → Contains chosen rule → IsJoined d (equations_of lists.equations) lists chosen rule

-- where all overlaps join of rules that subsume those of sort-decreasing equations, any two steps from one term join
abbrev pub OverlapsOfRulesDecideSteps : Type 0
OverlapsOfRulesDecideSteps =
    (d : Declarations) (lists : RuleLists) → AreUsed d (equations_of lists.equations) lists →
    AreSortDecreasing d (equations_of lists.equations) →
    (chosen : List Rule) → SubsumeAll d lists.rules chosen → AreAllJoined d lists chosen →
    StepsJoin d (equations_of lists.equations)

-- and where the equations terminate too, they are confluent
abbrev pub OverlapsOfRulesDecideConfluence : Type 0
OverlapsOfRulesDecideConfluence =
    (d : Declarations) (lists : RuleLists) → AreUsed d (equations_of lists.equations) lists →
    AreSortDecreasing d (equations_of lists.equations) →
    (chosen : List Rule) → SubsumeAll d lists.rules chosen → AreAllJoined d lists chosen →
    IsTerminating d (equations_of lists.equations) → IsConfluent d (equations_of lists.equations)

-- where both results join under each of a complete list of unifiers over new variables, the overlap joins
abbrev pub UnifiersDecideOverlaps : Type 0
UnifiersDecideOverlaps =
    (d : Declarations) (lists : RuleLists) → AreUsed d (equations_of lists.equations) lists →
    (next : ℕ) (o : Overlap) → IsOverlap d lists next o →
    (unifiers : List Substitution) → IsCompleteFor d (overlap_problem o) unifiers →
    All (IsOverNew next (overlap_problem o)) unifiers →
    All (JoinsUnder d (equations_of lists.equations) o) unifiers → Joins d (equations_of lists.equations) o

-- both results under a unifier are reached by one step from the outer left side under it, by one equation each
pub record AreBothReached (d : Declarations) (equations : List Equation) (o : Overlap) (s : Substitution) : Type 0 where
  pub outer : StepsBy d equations o.outer.equation (apply s (plain o.outer.left)) (apply s (plain o.outer.right))
  pub inner : StepsBy d equations o.inner.equation (apply s (plain o.outer.left)) (apply s (plain (inner_result o)))

-- both results of each overlap are reached so
abbrev pub OverlapsAreSteps : Type 0
OverlapsAreSteps =
    (d : Declarations) (lists : RuleLists) → AreUsed d (equations_of lists.equations) lists →
    (next : ℕ) (o : Overlap) → IsOverlap d lists next o →
    (s : Substitution) → IsUnifier d (overlap_problem o) s → AreBothReached d lists.equations o s

-- no equations are confluent that diverge
abbrev pub DivergenceExcludesConfluence : Type 0
DivergenceExcludesConfluence =
    (d : Declarations) (equations : List Equation) (m n : ℕ) (t u : Term) → Diverge d equations m n t u →
    IsConfluent d (equations_of equations) → ⊥
