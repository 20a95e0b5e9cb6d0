-- Laws of values at a leaf.
use Rattle.std.specs.Prelude.{◌≡◌, ℕ, ◌<◌, ◌≤◌, Bool, true, List, [], length, slice_index, slice_index_or, Option, Contains}
use Rattle.fvn_terms.specs.declared.plain.OpId.{OpId}
use Rattle.fvn_terms.specs.declared.declarations.Declarations.{Declarations}
use Rattle.fvn_terms.specs.Substitution.{Substitution}
use Rattle.fvn_terms.specs.Unifiers.{Problem}
use Rattle.fvn_forms.specs.Flat.{FlatTerm}
use Rattle.fvn_forms.specs.FitsKinds.{FitsKinds}
use Rattle.fvn_forms.specs.Good.{IsGood}
use Rattle.fvn_forms.specs.InOrder.{SameCounts}
use Rattle.fvn_forms.specs.Canon.{parts}
use Rattle.fvn_lindio.specs.declared.system.System.{System}
use Rattle.fvn_lindio.specs.Systems.{IsMinimal, IsUnused, Solves, rows_of}
use Rattle.fvn_acunify.specs.ValidChoice.{chosen, column_sum, IsValid}
use Rattle.fvn_flat.specs.Bindings.{Bindings}
use Rattle.fvn_flat.specs.Problems.{IsProblem, variables_of}
use Rattle.fvn_flat.specs.SolvedLists.{IsKindUnifier, Plan}
use Rattle.fvn_combine_nodes.specs.Table.{NodeTable, IsWellMade, IsTableOf}
use Rattle.fvn_combine_nodes.specs.Laws.{class_at}
use Rattle.fvn_combine_nodes.specs.States.{Admits, IsClosed, class_of}
use Rattle.fvn_combine_nodes.specs.Unifiers.{value_at, kernel}
use Rattle.fvn_combine_nodes.specs.declared.state.State.{State}
use Rattle.fvn_combine_systems.specs.NodeSystems.{IsNodeSystem}
use Rattle.fvn_combine_systems.specs.Values.{Counts}
use Rattle.fvn_combine_supports.specs.Pieces.{has_some, number_of, AreMadeUp, Meets, StandAlone}
use Rattle.fvn_combine_leaves.specs.Leaves.{IsLeaf, IsNearLeaf, IsSumOperator, IsUnfilled}
use Rattle.fvn_combine_leaves.specs.Readings.{IsReading}
use Rattle.fvn_combine_leaves.specs.declared.reading.Reading.{Reading}
use Rattle.fvn_combine_choices.specs.Binding.{AreAsked}
use Rattle.fvn_combine_choices.specs.Choosing.{Systems, Choice, AreSystems, IsPossible, Falls}
use Rattle.fvn_combine_choices.specs.Covering.{CoversOnKinds}
use Rattle.fvn_combine_choices.specs.Plans.{IsPlanBy, AreBindingsBy, unfolds_to}
use Rattle.fvn_combine_complete.specs.CoveringChoices.{IsAfterNumbersOf, IsCovering}
use Rattle.fvn_combine_complete.specs.Alive.{HasAlive, ListsAlive}
use Rattle.fvn_combine_complete.specs.Full.{IsFull}
use Rattle.fvn_combine_complete.specs.LaidOut.{laid_out}
use Rattle.fvn_combine_complete.specs.Obeyed.{AreObeying}
use Rattle.fvn_combine_choices.specs.Tables.{HasSums}
use Rattle.fvn_combine_complete.specs.Obeying.{IsTold, GoWith, ObeyHeads, TagsFollow, ObeyTags}

-- what is counted of each flat form in the columns of f solves f's system, and meets what is asked of the choice
pub record CountsMeet (d : Declarations) (f : OpId) (values : ℕ → FlatTerm) (columns : List ℕ) (system : System) (basis : List (List ℕ)) (constants : List ℕ) (may_be_zero : List Bool) : Type 0 where
  pub counted : FlatTerm → List ℕ
  pub counts : (q : FlatTerm) → Counts d f values columns (rows_of system) q (counted q)
  pub solve : (q : FlatTerm) → Solves system.columns (rows_of system) (counted q)
  pub meets : Meets constants may_be_zero basis counted (λ j. values (slice_index columns j))

-- minimal solutions that are chosen, with their pieces, which make up what is counted
pub record IsChosen (d : Declarations) (f : OpId) (values : ℕ → FlatTerm) (columns : List ℕ) (system : System) (basis : List (List ℕ)) (constants : List ℕ) (may_be_zero : List Bool) : Type 0 where
  pub counted : FlatTerm → List ℕ
  pub counts : (q : FlatTerm) → Counts d f values columns (rows_of system) q (counted q)
  pub pieces : List (List FlatTerm)
  pub made_up : AreMadeUp system.columns basis counted pieces
  pub valid : IsValid constants may_be_zero basis (number_of pieces)
  -- a solution that is chosen and has a constant has the value of its class as its one piece
  pub stand : StandAlone constants basis pieces (λ j. values (slice_index columns j))

-- what is counted of values that go with a leaf, and obey its heads, and tags that follow these, meets what is asked for each sum operator
abbrev pub ValuesMeetWhatIsAsked : Type 0
ValuesMeetWhatIsAsked =
    (d : Declarations) (t : NodeTable) → IsWellMade t → HasSums d t → (s : State) (heads : List (Option OpId)) → IsLeaf d t heads s → IsTold d t (class_of s)
    → (values : ℕ → FlatTerm) → GoWith d t s values → ObeyHeads d t s heads values → (tag : ℕ → Option OpId) → ObeyTags d t (class_of s) tag values → TagsFollow d t (class_of s) tag values heads
    → (f : OpId) → IsSumOperator d t f → (columns : List ℕ) (system : System) → IsNodeSystem t (class_of s) f columns system
    → (basis : List (List ℕ)) → ((v : List ℕ) → Contains basis v → IsMinimal system.columns (rows_of system) v)
    → (constants : List ℕ) (may_be_zero : List Bool) → AreAsked d t (class_of s) tag f columns constants may_be_zero
    → CountsMeet d f values columns system basis constants may_be_zero

-- such values choose minimal solutions for each sum operator
abbrev pub ValuesChoose : Type 0
ValuesChoose =
    (d : Declarations) (t : NodeTable) → IsWellMade t → HasSums d t → (s : State) (heads : List (Option OpId)) → IsLeaf d t heads s → IsTold d t (class_of s)
    → (values : ℕ → FlatTerm) → GoWith d t s values → ObeyHeads d t s heads values → (tag : ℕ → Option OpId) → ObeyTags d t (class_of s) tag values → TagsFollow d t (class_of s) tag values heads
    → (f : OpId) → IsSumOperator d t f → (columns : List ℕ) (system : System) → IsNodeSystem t (class_of s) f columns system
    → (basis : List (List ℕ)) → ((v : List ℕ) → Contains basis v → IsMinimal system.columns (rows_of system) v)
    → HasAlive d t s f columns system basis
    → (constants : List ℕ) (may_be_zero : List Bool) → AreAsked d t (class_of s) tag f columns constants may_be_zero
    → IsChosen d f values columns system basis constants may_be_zero

-- the summands of the value of a used column's class are the pieces, laid out as the column says
abbrev pub ValuesAreLaidOut : Type 0
ValuesAreLaidOut =
    (d : Declarations) (f : OpId) (values : ℕ → FlatTerm) (columns : List ℕ) (system : System)
    → (basis : List (List ℕ)) → ((v : List ℕ) → Contains basis v → IsMinimal system.columns (rows_of system) v)
    → (constants : List ℕ) (may_be_zero : List Bool) → (ch : IsChosen d f values columns system basis constants may_be_zero)
    → (j : ℕ) → j < length columns → (IsUnused (rows_of system) j → ⊥)
    → SameCounts (parts d f (values (slice_index columns j))) (laid_out j ch.pieces basis)

-- a value with two summands or more is no sum of a single constant: where a solution that is chosen has its column and a constant, the choice has two there
abbrev pub NoAliases : Type 0
NoAliases =
    (d : Declarations) (f : OpId) (values : ℕ → FlatTerm) (columns : List ℕ) (system : System)
    → (basis : List (List ℕ)) → ((v : List ℕ) → Contains basis v → IsMinimal system.columns (rows_of system) v)
    → (constants : List ℕ) (may_be_zero : List Bool) → (ch : IsChosen d f values columns system basis constants may_be_zero)
    → (i j c : ℕ) → i < length basis → has_some (slice_index_or ch.pieces i []) ≡ true → j < length columns → (IsUnused (rows_of system) j → ⊥) → Contains constants c
    → 2 ≤ length (parts d f (values (slice_index columns j))) → 0 < slice_index (slice_index_or basis i []) j → 0 < slice_index (slice_index_or basis i []) c
    → 2 ≤ column_sum j (chosen (number_of ch.pieces) basis)

-- a reading of a closed state tells what heads and uses all classes
abbrev pub ReadingsTell : Type 0
ReadingsTell = (d : Declarations) (t : NodeTable) (s : State) → IsClosed d t s → (r : Reading) → IsReading d t (class_of s) r → IsTold d t (class_of s)

-- the table of a well-kinded problem has sums over two subterms, and the identities of its operators
abbrev pub TablesHaveSums : Type 0
TablesHaveSums = (d : Declarations) → FitsKinds d → (problem : Problem) → IsProblem d problem → (t : NodeTable) → IsWellMade t → IsTableOf d problem t → HasSums d t

-- values that go with a leaf, and obey its heads, obey some tags that follow these
abbrev pub TagsExist : Type 0
TagsExist =
    (d : Declarations) (t : NodeTable) → IsWellMade t → HasSums d t → (s : State) (heads : List (Option OpId)) → IsLeaf d t heads s → IsTold d t (class_of s) → (y : Systems) → AreSystems d t (class_of s) y
    → (values : ℕ → FlatTerm) → GoWith d t s values → ObeyHeads d t s heads values
    → (tag : ℕ → Option OpId) × ObeyTags d t (class_of s) tag values × TagsFollow d t (class_of s) tag values heads

-- values that a unifier gives go with each state that admits its partition
abbrev pub UnifiersGoWith : Type 0
UnifiersGoWith =
    (d : Declarations) → FitsKinds d → (problem : Problem) → IsProblem d problem → (t : NodeTable) → IsWellMade t → IsTableOf d problem t
    → (u : Substitution) → IsKindUnifier d problem u → (s : State) → IsClosed d t s → Admits s (kernel d u t.nodes) → GoWith d t s (value_at d u t.nodes)

-- values that go with a leaf and obey its heads obey a possible choice that is full, and whose tags follow the heads
abbrev pub ValuesObeyChoices : Type 0
ValuesObeyChoices =
    (d : Declarations) → IsGood d → (t : NodeTable) → IsWellMade t → HasSums d t → (s : State) (heads : List (Option OpId)) → IsLeaf d t heads s → IsTold d t (class_of s)
    → (y : Systems) → AreSystems d t (class_of s) y → ListsAlive d t s y → (values : ℕ → FlatTerm) → GoWith d t s values → ObeyHeads d t s heads values
    → (c : Choice) × IsPossible d t (class_of s) y c × IsFull d t (class_of s) y c × AreObeying d t (class_of s) y c values × TagsFollow d t (class_of s) c.tag values heads

-- where values go with a state that is nearly a leaf, and obey these heads, each used class that has a summand for sure is in a minimal solution
-- that is live: where one is in none, there are no such values
abbrev pub UnfilledHasNoValues : Type 0
UnfilledHasNoValues =
    (d : Declarations) (t : NodeTable) → IsWellMade t → HasSums d t → (s : State) (heads : List (Option OpId)) → IsNearLeaf d t s
    → (f : OpId) (k : ℕ) → IsUnfilled d t heads s f k
    → (values : ℕ → FlatTerm) → GoWith d t s values → ObeyHeads d t s heads values → ⊥

-- where values obey a choice, a class needs only classes of a lower rank
abbrev pub ObeyedChoicesFall : Type 0
ObeyedChoicesFall =
    (d : Declarations) (t : NodeTable) → IsWellMade t → HasSums d t → (s : State) (heads : List (Option OpId)) → IsLeaf d t heads s → IsTold d t (class_of s)
    → (y : Systems) → AreSystems d t (class_of s) y → (values : ℕ → FlatTerm) → GoWith d t s values
    → (c : Choice) → AreObeying d t (class_of s) y c values → (rank : ℕ → ℕ) × Falls d t (class_of s) y c rank

-- where a unifier's values obey a choice, what the bindings of its plan unfold to covers the unifier
abbrev pub ObeyedChoicesCover : Type 0
ObeyedChoicesCover =
    (d : Declarations) → IsGood d → (problem : Problem) → IsProblem d problem → (t : NodeTable) → IsWellMade t → IsTableOf d problem t
    → (s : State) (heads : List (Option OpId)) → IsLeaf d t heads s → IsTold d t (class_of s) → (y : Systems) → AreSystems d t (class_of s) y
    → (u : Substitution) → IsKindUnifier d problem u → Admits s (kernel d u t.nodes)
    → (c : Choice) → AreObeying d t (class_of s) y c (value_at d u t.nodes)
    → (first next : ℕ) (plan : Plan) → IsAfterNumbersOf problem first → IsPlanBy d t (class_of s) y c first next plan
    → (bindings : Bindings) → AreBindingsBy d problem (class_at t (class_of s)) plan bindings
    → CoversOnKinds d (variables_of problem) (unfolds_to d bindings) u

-- at a leaf that admits its partition, each unifier on kinds whose values obey the leaf's heads is covered by some choice
abbrev pub LeavesCover : Type 0
LeavesCover =
    (d : Declarations) → IsGood d → (problem : Problem) → IsProblem d problem → (t : NodeTable) → IsWellMade t → IsTableOf d problem t
    → (s : State) (heads : List (Option OpId)) → IsLeaf d t heads s → IsTold d t (class_of s) → (y : Systems) → AreSystems d t (class_of s) y → ListsAlive d t s y
    → (u : Substitution) → IsKindUnifier d problem u → Admits s (kernel d u t.nodes) → ObeyHeads d t s heads (value_at d u t.nodes)
    → (c : Choice) × IsCovering d problem t s y u c
