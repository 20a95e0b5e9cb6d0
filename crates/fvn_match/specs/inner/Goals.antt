-- The goals of a search, and what they ask.
use denote.Ref.{Bor}
use Rattle.std.specs.Prelude.{◌≡◌, ◌<◌, ◌^◌, ℕ, ◌+◌, List, [], ◌∷◌, length, map, sum as std_sum, drop, Contains, Option, Some, None, MatchOption}
use Rattle.std.specs.List.{AllZip, AllByRecursion, insert}
use Rattle.fvn_terms.specs.declared.plain.Var.{Var}
use Rattle.fvn_terms.specs.declared.plain.SortId.{SortId}
use Rattle.fvn_terms.specs.declared.declarations.Rank.{Rank}
use Rattle.fvn_terms.specs.declared.declarations.Declarations.{Declarations}
use Rattle.fvn_terms.specs.Signature.{kind, declared, axioms, HasKind}
use Rattle.fvn_terms.specs.Equality.{IsAssociative}
use Rattle.fvn_forms.specs.Flat.{FlatTerm, FlatTerms, fvar, fapp, fnone, fmore, plain}
use Rattle.fvn_forms.specs.Canon.{sum, inst}
use Rattle.fvn_forms.specs.Settled.{IsPiece, Settled}
use Rattle.fvn_flat.specs.Bindings.{Bindings, bound, value}
use Rattle.fvn_match.specs.inner.Choices.{reduced}
use Rattle.fvn_match.specs.inner.Tallies.{repeated, AreDistinct, AddsUp}
use Rattle.fvn_match.specs.inner.Summands.{references}
use Rattle.fvn_match.specs.inner.Candidates.{Values, IsCandidate}
use Rattle.fvn_match.specs.declared.goals.Binding.{Binding}
use Rattle.fvn_match.specs.declared.goals.Goals.{Goals, Done, Lists', Pairs'}
use Rattle.fvn_match.specs.declared.goals.SumGoal.{SumGoal}
use Rattle.fvn_match.specs.declared.goals.Bound.{Bound, Nothing, Bind', Several'}

-- the values with those of more variables, the last of which is the newest
abbrev pub with_bindings : Bindings → List Binding → Bindings
with_bindings b [] = b
with_bindings b (p ∷ ps) = with_bindings ((p.name, p.value.now) ∷ b) ps

-- what x is bound to, if it is
abbrev pub IsBoundTo : Bindings → Var → Option (Bor FlatTerm) → Type 0
IsBoundTo b x found = MatchOption found (bound b x ≡ None) (λ t. bound b x ≡ Some t.now)

-- the variables that were bound, with their values
abbrev pub bindings_of : Bound → Bindings
bindings_of Nothing = []
bindings_of (Bind' x t p rest) = (x, t.now) ∷ bindings_of rest
bindings_of (Several' values r rest) = with_bindings (bindings_of rest) values.pairs.now

-- the patterns of a sum
abbrev pub patterns_of : SumGoal → List FlatTerm
patterns_of goal = map (λ p. p.now) goal.patterns.now

-- its pieces
abbrev pub pieces_of : SumGoal → List FlatTerm
pieces_of goal = map (λ t. t.now) goal.pieces.now

-- the sums and one more, which may stand anywhere among them
abbrev pub IsOneMore : SumGoal → List SumGoal → List SumGoal → Type 0
IsOneMore goal sums all = (i : ℕ) × (all ≡ insert sums i goal)

module _ (d : Declarations) where
  -- under c each pattern is its target
  abbrev pub AllMake : List FlatTerm → List FlatTerm → Values → Type 0
  AllMake ps ts c = AllZip (λ p t. inst d c p ≡ t) ps ts

  -- what a sum asks of c
  abbrev pub SumHolds : SumGoal → Values → Type 0
  SumHolds goal = AddsUp d goal.op (patterns_of goal) (pieces_of goal) goal.left.now

  -- what sums ask of c
  abbrev pub SumsHold : List SumGoal → Values → Type 0
  SumsHold [] c = Unit {0}
  SumsHold (goal ∷ rest) c = SumHolds goal c × SumsHold rest c

  -- what goals ask of c, and then sums
  abbrev pub Asked : Goals → List SumGoal → Values → Type 0
  Asked Done sums c = SumsHold sums c
  Asked (Lists' ps ts r rest) sums c = AllMake ps.now ts.now c × Asked rest sums c
  Asked (Pairs' pairs r rest) sums c =
      AllMake (references pairs.patterns.now) (references pairs.targets.now) c × Asked rest sums c

  -- what k copies of a pattern ask that are to be this choice of the pieces of a sum, and the other patterns, and then sums
  abbrev pub ChoiceAsked : SumGoal → FlatTerm → ℕ → List ℕ → List SumGoal → Values → Type 0
  ChoiceAsked goal p k chosen sums c =
      (inst d c p ≡ sum d goal.op (repeated (pieces_of goal) chosen)) × (AddsUp d goal.op (drop k (patterns_of goal)) (pieces_of goal) (reduced k goal.left.now chosen) c × SumsHold sums c)

  -- the two are flat forms of one kind
  pub record IsPair (p t : FlatTerm) : Type 0 where
    pub pattern : Settled d p
    pub target : Settled d t
    pub of_kind : SortId
    pub pattern_kind : HasKind d (plain p) of_kind
    pub target_kind : HasKind d (plain t) of_kind

  -- patterns and targets of goals are flat forms of one kind
  abbrev pub GoalsFit : Goals → Type 0
  GoalsFit Done = Unit {0}
  GoalsFit (Lists' ps ts r rest) = AllZip IsPair ps.now ts.now × GoalsFit rest
  GoalsFit (Pairs' pairs r rest) =
      AllZip IsPair (references pairs.patterns.now) (references pairs.targets.now) × GoalsFit rest

  -- a flat form of the kind
  pub record IsFlatOf (k : SortId) (t : FlatTerm) : Type 0 where
    pub flat : Settled d t
    pub has_kind : HasKind d (plain t) k

  -- patterns and different pieces of a sum are flat forms of the kind of an associative operator; each piece has its number
  pub record SumFits (goal : SumGoal) : Type 0 where
    pub associative : IsAssociative (axioms d goal.op)
    pub rank : Rank
    pub listed : Contains (declared d goal.op).ranks rank
    pub patterns : AllByRecursion (IsFlatOf (kind d rank.result)) (patterns_of goal)
    pub pieces : AllByRecursion (IsFlatOf (kind d rank.result)) (pieces_of goal)
    pub each_is_one : AllByRecursion (IsPiece d goal.op) (pieces_of goal)
    pub distinct : AreDistinct (pieces_of goal)
    pub long : length goal.left.now ≡ length goal.pieces.now
    pub small : std_sum goal.left.now < 2 ^ 64

  -- the sums fit
  abbrev pub SumsFit : List SumGoal → Type 0
  SumsFit [] = Unit {0}
  SumsFit (goal ∷ rest) = SumFits goal × SumsFit rest

  -- goals, sums and values so far that go together
  pub record StateFits (goals : Goals) (waiting : List SumGoal) (so_far : Bound) : Type 0 where
    pub pairs : GoalsFit goals
    pub sums : SumsFit waiting
    pub values : IsCandidate d (value (bindings_of so_far))

-- a number for each form that falls as a search takes it apart
abbrev mutual
  pub weight : FlatTerm → ℕ
  weight (fvar x) = 1
  weight (fapp f joined ts) = weights ts + 1

  -- that of arguments
  pub weights : FlatTerms → ℕ
  weights fnone = 0
  weights (fmore t ts) = weight t + 2 + weights ts

-- that of a list of patterns
abbrev pub weight_of : List FlatTerm → ℕ
weight_of [] = 0
weight_of (t ∷ ts) = weight t + 2 + weight_of ts

-- that of goals
abbrev pub goals_weight : Goals → ℕ
goals_weight Done = 0
goals_weight (Lists' ps ts r rest) = weight_of ps.now + 1 + goals_weight rest
goals_weight (Pairs' pairs r rest) = weight_of (references pairs.patterns.now) + 1 + goals_weight rest

-- that of a sum
abbrev pub sum_weight : SumGoal → ℕ
sum_weight goal = weight_of (patterns_of goal) + 1

-- that of sums
abbrev pub sums_weight : List SumGoal → ℕ
sums_weight [] = 0
sums_weight (goal ∷ rest) = sum_weight goal + sums_weight rest
