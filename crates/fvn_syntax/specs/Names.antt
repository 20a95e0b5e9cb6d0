-- What single names and sorts stand for.
use Rattle.std.specs.Prelude.{ℕ, ◌+◌, ◌==◌, Bool, true, false, if◌then◌else◌, List, [], ◌∷◌, length, take, drop, slice_get, slice_index_or, Option, Some, None}
use Rattle.fvn_terms.specs.declared.plain.OpId.{OpId}
use Rattle.fvn_terms.specs.declared.plain.SortId.{SortId}
use Rattle.fvn_terms.specs.declared.declarations.Rank.{Rank}
use Rattle.fvn_terms.specs.declared.declarations.Declarations.{Declarations}
use Rattle.fvn_terms.specs.Signature.{kind, declared}
use Rattle.fvn_syntax.specs.declared.names.Names.{Names}
use Rattle.fvn_syntax.specs.declared.naming.Meaning.{Meaning}
use Rattle.fvn_syntax.specs.declared.naming.Meaning.TheVariants.{Constant, Variable}
use Rattle.fvn_syntax.specs.declared.sorts.RawSort.{RawSort}
use Rattle.fvn_syntax.specs.declared.sorts.RawSort.TheVariants.{Name, Kind}
use Rattle.fvn_syntax.specs.Pieces.{Text}
use Rattle.fvn_syntax.specs.Texts.{place}

-- a place in what is behind a byte, or else the byte's own where it is a colon
abbrev pub behind_byte : (colon : Bool) → Option ℕ → Option ℕ
behind_byte colon (Some i) = Some (i + 1)
behind_byte true None = Some 0
behind_byte false None = None

-- the place of the last colon of a text
abbrev pub last_colon : Text → Option ℕ
last_colon [] = None
last_colon (b ∷ w) = behind_byte (b == 58) (last_colon w)

-- the sort at a place
abbrev pub sort_at : Option ℕ → Option SortId
sort_at None = None
sort_at (Some i) = Some (record { 0 = i })

-- the operator at a place
abbrev pub op_at : Option ℕ → Option OpId
op_at None = None
op_at (Some i) = Some (record { 0 = i })

-- the variable of this name, where there is a sort
abbrev pub of_sort : Text → Option SortId → Option (Text × SortId)
of_sort name None = None
of_sort name (Some s) = Some (name, s)

-- the kind of a sort, in the list of all kinds
abbrev pub kind_in : List SortId → SortId → SortId
kind_in kinds s = slice_index_or kinds s.0 s

-- the two sorts are one
abbrev pub same_sort : SortId → SortId → Bool
same_sort s q = s.0 == q.0

module _ (sorts : List Text) where
  -- the sort of a name
  abbrev pub sort_named : Text → Option SortId
  sort_named w = sort_at (place sorts w)

  -- what is before and after the colon at a place, where the one is not empty and the other is a sort
  abbrev pub split_at : Text → Option ℕ → Option (Text × SortId)
  split_at w None = None
  split_at w (Some i) = if i == 0 then None else of_sort (take i w) (sort_named (drop (i + 1) w))

  -- NAME:SORT, split at its last colon
  abbrev pub sorted_name : Text → Option (Text × SortId)
  sorted_name w = split_at w (last_colon w)

-- the kind, where the sort is of it
abbrev pub if_of_kind : List SortId → SortId → Option SortId → Option SortId
if_of_kind kinds k None = None
if_of_kind kinds k (Some s) = if same_sort (kind_in kinds s) k then Some k else None

-- the kind of a sort, where there is one
abbrev pub kind_of : List SortId → Option SortId → Option SortId
kind_of kinds None = None
kind_of kinds (Some s) = Some (kind_in kinds s)

module _ (sorts : List Text) (kinds : List SortId) where
  -- the kind, where all these are sorts of it
  abbrev pub kind_of_all : Option SortId → List Text → Option SortId
  kind_of_all None ss = None
  kind_of_all (Some k) [] = Some k
  kind_of_all (Some k) (s ∷ ss) = kind_of_all (if_of_kind kinds k (sort_named sorts s)) ss

  -- the kind of the sorts of a bracket, which are all of one kind
  abbrev pub bracket : Text → List Text → Option SortId
  bracket s ss = kind_of_all (kind_of kinds (sort_named sorts s)) ss

  -- the sort that is written
  abbrev pub resolve_sort : RawSort → Option SortId
  resolve_sort (Name s) = sort_named sorts s
  resolve_sort (Kind s ss) = bracket s ss

-- what a variable's name stands for
abbrev pub variable_of : Option (Text × SortId) → Option Meaning
variable_of None = None
variable_of (Some x) = Some (Variable x.0 x.1)

-- the sort of the declared variable at a place
abbrev pub declared_sort : List SortId → Option ℕ → Option SortId
declared_sort sorts None = None
declared_sort sorts (Some i) = slice_get sorts i

-- the sorts of the arguments in the first declaration
abbrev pub first_args : List Rank → List SortId
first_args [] = []
first_args (r ∷ rs) = r.args

-- the sort of the result in the first declaration
abbrev pub first_result : List Rank → SortId
first_result [] = record { 0 = 0 }
first_result (r ∷ rs) = r.result

module _ (d : Declarations) where
  -- the sorts of an operator's arguments, in its first declaration
  abbrev pub args_of : OpId → List SortId
  args_of f = first_args (declared d f).ranks

  -- the number of an operator's arguments
  abbrev pub arity_of : OpId → ℕ
  arity_of f = length (args_of f)

  -- the kind of an operator's results
  abbrev pub result_of : OpId → SortId
  result_of f = kind d (first_result (declared d f).ranks)

  -- the operator, where it takes no arguments
  abbrev pub if_constant : Option OpId → Option OpId
  if_constant None = None
  if_constant (Some f) = if arity_of f == 0 then Some f else None

module _ (names : Names) where
  -- the operator of a name
  abbrev pub op_named : Text → Option OpId
  op_named w = op_at (place names.ops w)

  -- a declared variable, or else NAME:SORT
  abbrev pub variable_or : Text → Option SortId → Option (Text × SortId)
  variable_or w None = sorted_name names.sorts w
  variable_or w (Some s) = Some (w, s)

  -- the variable of a name
  abbrev pub variable_named : Text → Option (Text × SortId)
  variable_named w = variable_or w (declared_sort names.variables.sorts (place names.variables.texts w))

  -- a constant, or else a variable
  abbrev pub constant_or : Text → Option OpId → Option Meaning
  constant_or w None = variable_of (variable_named w)
  constant_or w (Some f) = Some (Constant f)

-- the constant of a name
abbrev pub constant_named : Declarations → Names → Text → Option OpId
constant_named d names w = if_constant d (op_named names w)

-- A name alone is a declared constant, or else a declared variable, or else NAME:SORT.
abbrev pub resolve_name : Declarations → Names → Text → Option Meaning
resolve_name d names w = constant_or names w (constant_named d names w)
