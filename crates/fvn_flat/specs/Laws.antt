-- Laws of flat pairs and of answers to them.
use Rattle.std.specs.Prelude.{◌≡◌, ℕ, map}
use Rattle.fvn_terms.specs.declared.declarations.Declarations.{Declarations}
use Rattle.fvn_terms.specs.Unifiers.{Problem}
use Rattle.fvn_forms.specs.FitsKinds.{FitsKinds}
use Rattle.fvn_flat.specs.Problems.{IsProblem, plain_pairs, flat_pairs, ArePairsEqual}
use Rattle.fvn_flat.specs.OneAnswer.{HaveOneAnswer}
use Rattle.fvn_flat.specs.PlainPairs.{HasRoom, IsAnswerTo}
use Rattle.fvn_flat.specs.Solving.{IsGiven, substitution, AreUnifiers, AreApart, AreComplete}
use Rattle.fvn_flat.specs.declared.solver.Pairs.{Pairs}
use Rattle.fvn_flat.specs.declared.solver.Solved.{Solved}
use Rattle.fvn_flat.specs.declared.solver.SolveEnd.TheVariants.{Complete}

-- problems whose pairs are equal modulo the axioms have one answer
abbrev pub EqualPairsHaveOneAnswer : Type 0
EqualPairsHaveOneAnswer = (d : Declarations) (problem other : Problem) → ArePairsEqual d problem other → HaveOneAnswer d problem other

-- flattened pairs have the answer of the plain pairs
abbrev pub FlattenedPairsHaveOneAnswer : Type 0
FlattenedPairsHaveOneAnswer = (d : Declarations) → FitsKinds d → (problem : Problem) → IsProblem d problem →
    HaveOneAnswer d problem (plain_pairs (flat_pairs d problem))

-- flattened pairs of terms of one kind may be given to a solver
abbrev pub FlattenedPairsAreGiven : Type 0
FlattenedPairsAreGiven = (d : Declarations) → FitsKinds d → (problem : Problem) → IsProblem d problem →
    (given : Pairs) → given.pairs ≡ flat_pairs d problem → (first : ℕ) → HasRoom problem first →
    IsGiven d given first

-- an answer to the flattened pairs is one to the pairs
abbrev pub AnswersToFlattenedPairs : Type 0
AnswersToFlattenedPairs =
    (d : Declarations) → FitsKinds d → (problem : Problem) → IsProblem d problem → (given : Pairs) →
    given.pairs ≡ flat_pairs d problem → (r : Solved) → AreUnifiers d given r → AreApart d given r →
    AreComplete d given r →
    IsAnswerTo d problem (map substitution r.unifiers) (r.end ≡ Complete)
