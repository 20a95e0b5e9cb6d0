-- Systems and choices, as lists that go with what is read of a state.
use Rattle.std.specs.Prelude.{ℕ, if◌then◌else◌, List, [], ◌∷◌, map, slice_index_or, Option, None}
use Rattle.fvn_terms.specs.declared.plain.OpId.{OpId}
use Rattle.fvn_forms.specs.Canon.{same_op}
use Rattle.fvn_lindio.specs.declared.system.System.{System}
use Rattle.fvn_lindio.specs.declared.system.Solution.{Solution}
use Rattle.fvn_lindio.specs.Systems.{vectors_of}
use Rattle.fvn_combine_leaves.specs.declared.reading.Sums.{Sums}
use Rattle.fvn_combine_leaves.specs.declared.reading.Reading.{Reading}
use Rattle.fvn_combine_choices.specs.Choosing.{Systems, Choice}

-- the tag of class k, where one is listed for each node
abbrev pub tag_in : List (Option OpId) → ℕ → Option OpId
tag_in tags k = slice_index_or tags k None

-- what is listed at the place of the operator; where there is no such place, other
abbrev pub at_operator : {A : Type 0} → A → List Sums → List A → OpId → A
at_operator other [] xs f = other
at_operator other (s ∷ sums) [] f = other
at_operator other (s ∷ sums) (x ∷ xs) f = if same_op s.operator f then x else at_operator other sums xs f

-- the system of no equations in no unknowns
abbrev pub empty_system : System
empty_system = record { columns = 0; rows = [] }

-- the systems that are read, with these minimal solutions, a list for each sum operator
abbrev pub systems_of : Reading → List (List Solution) → Systems
systems_of r bases = record {
  columns = at_operator [] r.sums (map (λ s. s.columns) r.sums);
  system = at_operator empty_system r.sums (map (λ s. s.system) r.sums);
  basis = at_operator [] r.sums (map vectors_of bases);
}

-- the choice of these tags, one for each node, and these numbers, one for each sum operator
abbrev pub choice_of : Reading → List (Option OpId) → List ℕ → Choice
choice_of r tags numbers = record { tag = tag_in tags; number = at_operator 0 r.sums numbers }
