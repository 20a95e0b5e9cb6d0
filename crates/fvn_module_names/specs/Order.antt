-- The order of sorts that statements declare, and the kinds that follow from it.
use Rattle.std.specs.Prelude.{Bool, ◌&&◌, if◌then◌else◌, List, [], ◌∷◌, ◌++◌, map, length, Option, Some, None}
use Rattle.std.specs.List.{list_any}
use Rattle.fvn_terms.specs.declared.plain.SortId.{SortId}
use Rattle.fvn_forms.specs.SortOrder.{same_sort}
use Rattle.fvn_signature_draft.specs.declared.collected.Collected.{Collected}
use Rattle.fvn_signature_draft.specs.Collected.{kinds}
use Rattle.fvn_syntax.specs.Pieces.{Text}
use Rattle.fvn_syntax.specs.Names.{sort_named}
use Rattle.fvn_module_syntax.specs.declared.statement.Statement.{Statement}
use Rattle.fvn_module_syntax.specs.declared.statement.Statement.TheVariants.{Sorts, Subsorts, Operator, Operators, Variables, Equation}
use Rattle.fvn_module_names.specs.Names.{sorts_of}

-- the list with this at the end, where nothing in it is the same
abbrev pub with_new : {A : Type 0} → (A → A → Bool) → List A → A → List A
with_new same xs x = if list_any (same x) xs then xs else xs ++ (x ∷ [])

-- the list with these, each of which is put at the end where it is new
abbrev pub with_all : {A : Type 0} → (A → A → Bool) → List A → List A → List A
with_all same xs [] = xs
with_all same xs (y ∷ ys) = with_all same (with_new same xs y) ys

-- whether two pairs of sorts are the same
abbrev pub same_pair : SortId × SortId → SortId × SortId → Bool
same_pair p q = same_sort p.0 q.0 && same_sort p.1 q.1

-- the list, with the sort before it where there is one
abbrev pub with_sort : Option SortId → List SortId → List SortId
with_sort None ss = ss
with_sort (Some s) ss = s ∷ ss

-- each of the lower sorts with each of the upper ones
abbrev pub crossed : List SortId → List SortId → List (SortId × SortId)
crossed [] qs = []
crossed (s ∷ ss) qs = map (λ q. (s, q)) qs ++ crossed ss qs

module _ (sorts : List Text) where
  -- the declared sorts among these names
  abbrev pub declared_among : List Text → List SortId
  declared_among [] = []
  declared_among (w ∷ ws) = with_sort (sort_named sorts w) (declared_among ws)

  -- each sort of a group is below each sort of the next one
  abbrev pub pairs_between : List Text → List (List Text) → List (SortId × SortId)
  pairs_between g [] = []
  pairs_between g (h ∷ hs) = crossed (declared_among g) (declared_among h) ++ pairs_between h hs

  -- the pairs of neighbouring groups
  abbrev pub pairs_of_groups : List (List Text) → List (SortId × SortId)
  pairs_of_groups [] = []
  pairs_of_groups (g ∷ gs) = pairs_between g gs

  -- the pairs that a statement declares
  abbrev pub pairs_in : Statement → List (SortId × SortId)
  pairs_in (Sorts plural names) = []
  pairs_in (Subsorts plural groups) = pairs_of_groups groups
  pairs_in (Operator name rank attributes) = []
  pairs_in (Operators names rank attributes) = []
  pairs_in (Variables plural names sort) = []
  pairs_in (Equation label left right marks) = []

  -- the pairs so far with those that statements declare, each once
  abbrev pub with_pairs : List (SortId × SortId) → List Statement → List (SortId × SortId)
  with_pairs ps [] = ps
  with_pairs ps (st ∷ sts) = with_pairs (with_all same_pair ps (pairs_in st)) sts

  -- sorts and their order, without an operator
  abbrev pub ordered : List Statement → Collected
  ordered sts = record { sorts = length sorts; below = with_pairs [] sts; operators = 0; declarations = [] }

  -- the kind of each sort, and then of each kind
  abbrev pub kinds_of : List Statement → List SortId
  kinds_of sts = kinds (ordered sts)

-- the kinds of the sorts that statements declare
abbrev pub kinds_in : List Statement → List SortId
kinds_in sts = kinds_of (sorts_of sts) sts
