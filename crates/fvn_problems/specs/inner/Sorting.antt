-- The least sort of a written term, piece by piece, with what is not closed on a stack.
use Rattle.std.specs.Prelude.{◌≡◌, Bool, false, ◌&&◌, nat_eq, if◌then◌else◌, List, [], ◌∷◌, ◌++◌, map, reverse, Option, Some, None, Ok, codes}
use Rattle.fvn_lex.specs.Cut.{Piece}
use Rattle.fvn_terms.specs.declared.plain.OpId.{OpId}
use Rattle.fvn_terms.specs.declared.plain.SortId.{SortId}
use Rattle.fvn_terms.specs.declared.declarations.Declarations.{Declarations}
use Rattle.fvn_terms.specs.Signature.{kind, axioms}
use Rattle.fvn_terms.specs.Term.{Term}
use Rattle.fvn_forms.specs.Canon.{as_constant, canon}
use Rattle.fvn_terms.specs.Equality.{identity, is_sum}
use Rattle.fvn_forms.specs.LeastSort.{least_sort}
use Rattle.fvn_forms.specs.Ranks.{result}
use Rattle.fvn_terms.specs.Plain.{term}
use Rattle.fvn_terms.specs.Sorts.{IsLeastSort}
use Rattle.fvn_syntax.specs.declared.names.Names.{Names}
use Rattle.fvn_syntax.specs.Raw.{RawTerm, spell, IsWritten}
use Rattle.fvn_syntax.specs.Resolve.{Resolved, resolve}
use Rattle.fvn_syntax.specs.Scope.{Scope}
use Rattle.fvn_syntax.specs.Names.{constant_named, variable_named, op_named, sort_named}
use Rattle.fvn_syntax.specs.Pieces.{Text, is_special, is_colon_name}
use Rattle.fvn_problems.specs.declared.sorting.Sorted.{Sorted}
use Rattle.fvn_problems.specs.declared.sorting.Frame.{Frame}
use Rattle.fvn_problems.specs.declared.sorting.Frame.TheVariants.{Round, Call}
use Rattle.fvn_problems.specs.declared.sorting.Spot.{Spot}
use Rattle.fvn_problems.specs.declared.sorting.Spot.TheVariants.{Wanted, Named, Bracket, Whole}
use Rattle.fvn_problems.specs.declared.sorting.Walk.{Walk}

-- the least sort of a term, and its flat form's operator where this is a constant
abbrev pub sorted_of : Declarations → Term → Sorted
sorted_of d t = record { sort = least_sort d (canon d t); constant = as_constant (canon d t) }

-- a term of this sort that is no constant
abbrev pub of_sort : SortId → Sorted
of_sort s = record { sort = s; constant = None }

-- the sort, or the first where there is none
abbrev pub or_first_sort : Option SortId → SortId
or_first_sort None = record { 0 = 0 }
or_first_sort (Some s) = s

-- the operator, or the first where there is none
abbrev pub or_first_op : Option OpId → OpId
or_first_op None = record { 0 = 0 }
or_first_op (Some f) = f

-- the sort of a variable
abbrev pub sort_of_variable : Option (Text × SortId) → Option SortId
sort_of_variable None = None
sort_of_variable (Some x) = Some x.1

-- whether there are two operators, and they are one
abbrev pub same_constant : Option OpId → Option OpId → Bool
same_constant None g = false
same_constant (Some e) None = false
same_constant (Some e) (Some g) = nat_eq e.0 g.0

-- what is not closed, the innermost first, and what was read last
pub record State : Type 0 where
  pub frames : List Frame
  pub spot : Spot

-- the state of these frames and what was read last
abbrev pub state : List Frame → Spot → State
state frames spot = record { frames = frames; spot = spot }

-- the walk of the program as a state
abbrev pub view : Walk → State
view w = state (reverse w.frames.items) w.spot

module _ (d : Declarations) where
  -- a constant
  abbrev pub of_constant : OpId → Sorted
  of_constant f = record { sort = result d f []; constant = Some f }

  -- a sum of two terms, of which one may be the identity
  abbrev pub sum_of_two : OpId → Sorted → Sorted → Sorted
  sum_of_two f a b =
      if same_constant (identity (axioms d f)) a.constant then b
      else if same_constant (identity (axioms d f)) b.constant then a
      else of_sort (result d f (a.sort ∷ b.sort ∷ []))

  -- a right-nested sum of one or more terms
  abbrev pub sum_of : OpId → Sorted → List Sorted → Sorted
  sum_of f a [] = a
  sum_of f a (b ∷ bs) = sum_of_two f a (sum_of f b bs)

  -- one or more arguments of a sum
  abbrev pub sum_of_all : OpId → List Sorted → Sorted
  sum_of_all f [] = of_constant f
  sum_of_all f (a ∷ vs) = sum_of f a vs

  -- an operator over one or more arguments
  abbrev pub over : OpId → List Sorted → Sorted
  over f vs = if is_sum (axioms d f) then sum_of_all f vs else of_sort (result d f (map (λ a. a.sort) vs))

  -- a piece behind a whole term
  abbrev pub behind : Sorted → Piece → List Frame → State
  behind v p [] = state [] (Whole v)
  behind v p (Round ∷ fs) = state fs (Whole v)
  behind v p (Call f vs ∷ fs) =
      if is_special (codes ",") p then state (Call f (vs ++ (v ∷ [])) ∷ fs) Wanted
      else state fs (Whole (over f (vs ++ (v ∷ []))))

module _ (d : Declarations) (names : Names) where
  -- a constant, or else a variable of its sort
  abbrev pub leaf_of : Text → Option OpId → Sorted
  leaf_of w None = of_sort (or_first_sort (sort_of_variable (variable_named names w)))
  leaf_of w (Some f) = of_constant d f

  -- a name alone
  abbrev pub leaf : Text → Sorted
  leaf w = leaf_of w (constant_named d names w)

  -- the kind of a sort's name
  abbrev pub kind_named : Text → SortId
  kind_named w = kind d (or_first_sort (sort_named names.sorts w))

  -- the kind of the first sort of a bracket
  abbrev pub first_kind : Option SortId → Text → SortId
  first_kind None w = kind_named w
  first_kind (Some k) w = k

  -- one more piece
  abbrev pub step_at : List Frame → Piece → Spot → State
  step_at fs p Wanted = if is_special (codes "(") p then state (Round ∷ fs) Wanted else state fs (Named p.text)
  step_at fs p (Named w) =
      if is_special (codes "(") p then state (Call (or_first_op (op_named names w)) [] ∷ fs) Wanted
      else if is_colon_name w && is_special (codes "[") p then state fs (Bracket None)
      else behind d (leaf w) p fs
  step_at fs p (Bracket k) =
      if is_special (codes "]") p then state fs (Whole (of_sort (or_first_sort k)))
      else if is_special (codes ",") p then state fs (Bracket k)
      else state fs (Bracket (Some (first_kind k p.text)))
  step_at fs p (Whole v) = behind d v p fs

  -- one more piece of the walk
  abbrev pub step : State → Piece → State
  step st p = step_at st.frames p st.spot

  -- the term that ends after what was read last
  abbrev pub finish : Spot → Sorted
  finish Wanted = of_sort (record { 0 = 0 })
  finish (Named w) = leaf w
  finish (Bracket k) = of_sort (record { 0 = 0 })
  finish (Whole v) = v

  -- the term at the end of the pieces
  unfoldable pub run : State → List Piece → Sorted
  run st [] = finish st.spot
  run st (p ∷ ps) = run (step st p) ps

-- each written term of the row that stands for a term has this least sort
abbrev pub HasLeastSort : Scope → List Piece → SortId → Type 0
HasLeastSort c row s =
    (t : RawTerm) (before : List Text) (r : Resolved) → IsWritten t → row ≡ spell t → resolve c before t ≡ Ok r →
    IsLeastSort c.declarations (term r.term) s
