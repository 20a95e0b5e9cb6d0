-- Laws of leaves that are opened.
use Rattle.std.specs.Prelude.{◌≡◌, ◌↔◌, ℕ, ◌≤◌, Bool, true, List, length, Option}
use Rattle.std.specs.List.{AllZip}
use Rattle.fvn_terms.specs.declared.plain.OpId.{OpId}
use Rattle.fvn_terms.specs.declared.declarations.Declarations.{Declarations}
use Rattle.fvn_terms.specs.Substitution.{Substitution}
use Rattle.fvn_terms.specs.Unifiers.{Problem}
use Rattle.fvn_forms.specs.FitsKinds.{FitsKinds}
use Rattle.fvn_forms.specs.Good.{IsGood}
use Rattle.fvn_lindio.specs.declared.system.System.{System}
use Rattle.fvn_lindio.specs.declared.system.Solution.{Solution}
use Rattle.fvn_flat.specs.Problems.{IsProblem, variables_of}
use Rattle.fvn_flat.specs.Solving.{IsGiven, IsBasisCause, problem_of}
use Rattle.fvn_flat.specs.SolvedLists.{IsKindUnifier}
use Rattle.fvn_flat.specs.declared.solver.Pairs.{Pairs}
use Rattle.fvn_combine_nodes.specs.Table.{NodeTable, IsWellMade, IsTableOf}
use Rattle.fvn_combine_nodes.specs.Classes.{IsNodePartition}
use Rattle.fvn_combine_nodes.specs.States.{Admits, IsClosed, class_of}
use Rattle.fvn_combine_nodes.specs.Unifiers.{value_at, kernel}
use Rattle.fvn_combine_nodes.specs.declared.state.State.{State}
use Rattle.fvn_combine_leaves.specs.Bases.{AreBases, HaveAlive}
use Rattle.fvn_combine_leaves.specs.Leaves.{IsLeaf}
use Rattle.fvn_combine_leaves.specs.Readings.{IsReading}
use Rattle.fvn_combine_leaves.specs.declared.reading.Reading.{Reading}
use Rattle.fvn_combine_choices.specs.Choosing.{Systems, Choice, AreSystems, IsPossible}
use Rattle.fvn_combine_admissible.specs.Listed.{systems_of, choice_of, tag_in}
use Rattle.fvn_combine_complete.specs.Alive.{ListsAlive}
use Rattle.fvn_combine_complete.specs.CoveringChoices.{IsCovering}
use Rattle.fvn_combine_complete.specs.Full.{IsFull}
use Rattle.fvn_combine_complete.specs.Obeying.{ObeyHeads}
use Rattle.fvn_combine_bounds.specs.Narrow.{KeepsBounds, KeepsSorts}
use Rattle.fvn_acunify_product.specs.Tags.{IsOption}
use Rattle.fvn_acunify_product.specs.Wheels.{Wheel, IsChoice}
use Rattle.fvn_combine_candidates.specs.declared.sharing.SharedClass.{SharedClass}
use Rattle.fvn_combine_candidates.specs.Refusals.{IsFirstRefused}
use Rattle.fvn_combine_candidates.specs.Sharing.{AreSharedClasses}
use Rattle.fvn_combine_candidates.specs.Tags.{tag_counts, AreTags}
use Rattle.fvn_combine_candidates.specs.Turning.{AreWheels, LeaveNoAlias, HaveBounds, AreWithin}

-- there are no more sum operators than subterms
abbrev pub SumOperatorsAreFew : Type 0
SumOperatorsAreFew = (d : Declarations) (t : NodeTable) (class : ℕ → ℕ) (r : Reading) → IsReading d t class r → length r.sums ≤ length t.subterms

-- the minimal solutions of all sum operators go with their systems
abbrev pub BasesMakeSystems : Type 0
BasesMakeSystems =
    (d : Declarations) (t : NodeTable) (class : ℕ → ℕ) (r : Reading) → IsReading d t class r
    → (bases : List (List Solution)) → AreBases r.sums bases → AreSystems d t class (systems_of r bases)

-- where none that is alive is left out of the lists, none is of the systems
abbrev pub AliveBasesMakeAlive : Type 0
AliveBasesMakeAlive =
    (d : Declarations) (t : NodeTable) (s : State) (r : Reading) → IsReading d t (class_of s) r → (bases : List (List Solution)) → AreBases r.sums bases
    → HaveAlive d t s r.sums bases → ListsAlive d t s (systems_of r bases)

-- a system that is refused at a partition of a given problem's nodes is why a solver ends
abbrev pub RefusalsAreCauses : Type 0
RefusalsAreCauses =
    (d : Declarations) (given : Pairs) (first : ℕ) → IsGiven d given first → (t : NodeTable) → IsWellMade t → IsTableOf d (problem_of given) t
    → (class : ℕ → ℕ) → IsNodePartition d t class → (r : Reading) → IsReading d t class r
    → (f : OpId) (system : System) → IsFirstRefused r.sums f system → IsBasisCause d given f system

-- tags by options and a number for each sum operator are a possible choice that is full, and within the wheels' bounds, exactly where each number
-- is a choice of its wheel and no class is an alias
abbrev pub ListedChoicesArePossible : Type 0
ListedChoicesArePossible =
    (d : Declarations) → FitsKinds d → (problem : Problem) → IsProblem d problem → (t : NodeTable) → IsWellMade t → IsTableOf d problem t
    → (class : ℕ → ℕ) (r : Reading) → IsReading d t class r → (bases : List (List Solution)) → AreBases r.sums bases
    → (sorted : Bool) (shared : List SharedClass) → AreSharedClasses d t class sorted shared → (options : List ℕ) (tags : List (Option OpId)) → AreTags shared options tags
    → (wheels : List Wheel) → AreWheels d t class (tag_in tags) r.sums bases wheels → (numbers : List ℕ) → length numbers ≡ length r.sums
    → (IsPossible d t class (systems_of r bases) (choice_of r tags numbers) × IsFull d t class (systems_of r bases) (choice_of r tags numbers) × AreWithin wheels numbers)
    ↔ (AllZip IsChoice wheels numbers × LeaveNoAlias d t class (tag_in tags) r.sums bases numbers)

-- a choice that keeps to what sorts ask is within the wheels' bounds
abbrev pub SortedChoicesAreWithin : Type 0
SortedChoicesAreWithin =
    (d : Declarations) (t : NodeTable) (class : ℕ → ℕ) (r : Reading) → IsReading d t class r
    → (bases : List (List Solution)) → AreBases r.sums bases → (tags : List (Option OpId))
    → (wheels : List Wheel) → AreWheels d t class (tag_in tags) r.sums bases wheels → (sorted : Bool) → HaveBounds d t class sorted r.sums wheels
    → (numbers : List ℕ) → length numbers ≡ length r.sums
    → (sorted ≡ true → KeepsBounds d t class (systems_of r bases) (choice_of r tags numbers)) → AreWithin wheels numbers

-- a choice that covers a unifier, and keeps to what sorts ask where they are heeded, can be listed: by an option for each shared class, and a number
-- for each sum operator; what is listed keeps to it too, and has the choice's tags
abbrev pub CoveringChoicesAreListed : Type 0
CoveringChoicesAreListed =
    (d : Declarations) (problem : Problem) (t : NodeTable) → IsWellMade t → (s : State) → IsClosed d t s → (r : Reading) → IsReading d t (class_of s) r
    → (sorted : Bool) (shared : List SharedClass) → AreSharedClasses d t (class_of s) sorted shared
    → (y : Systems) (u : Substitution) (c : Choice) → IsCovering d problem t s y u c → (sorted ≡ true → KeepsBounds d t (class_of s) y c)
    → (options : List ℕ) × (numbers : List ℕ) × AllZip IsOption (tag_counts shared) options × (length numbers ≡ length r.sums)
    × ((tags : List (Option OpId)) → AreTags shared options tags → IsCovering d problem t s y u (choice_of r tags numbers)
    × (sorted ≡ true → KeepsBounds d t (class_of s) y (choice_of r tags numbers)) × ((k : ℕ) → tag_in tags k ≡ c.tag k))

-- at a leaf that admits its partition, each unifier on kinds whose values obey the leaf's heads, which keeps the sorts of the problem's variables where sorts are heeded, is covered by a
-- choice that can be listed: by an option for each shared class, and, under their tags, by numbers that are choices of the wheels and make no class an alias
abbrev pub ListsCover : Type 0
ListsCover =
    (d : Declarations) → IsGood d → (problem : Problem) → IsProblem d problem → (t : NodeTable) → IsWellMade t → IsTableOf d problem t
    → (s : State) (heads : List (Option OpId)) → IsLeaf d t heads s → (r : Reading) → IsReading d t (class_of s) r → (bases : List (List Solution)) → AreBases r.sums bases → HaveAlive d t s r.sums bases
    → (sorted : Bool) (shared : List SharedClass) → AreSharedClasses d t (class_of s) sorted shared → (u : Substitution) → IsKindUnifier d problem u → Admits s (kernel d u t.nodes) → ObeyHeads d t s heads (value_at d u t.nodes)
    → (sorted ≡ true → KeepsSorts d (variables_of problem) u)
    → (options : List ℕ) × (numbers : List ℕ) × AllZip IsOption (tag_counts shared) options
    × ((tags : List (Option OpId)) → AreTags shared options tags → IsCovering d problem t s (systems_of r bases) u (choice_of r tags numbers)
    × ((wheels : List Wheel) → AreWheels d t (class_of s) (tag_in tags) r.sums bases wheels → HaveBounds d t (class_of s) sorted r.sums wheels
    → AllZip IsChoice wheels numbers × LeaveNoAlias d t (class_of s) (tag_in tags) r.sums bases numbers))
