-- The reader of what a term stands for, piece by piece, with what is not closed on a stack.
use Rattle.std.specs.Prelude.{ℕ, ◌≡◌, ◌⊎◌, ◌-◌, Bool, true, false, ◌&&◌, nat_le, if◌then◌else◌, List, [], ◌∷◌, ◌++◌, length, reverse, Result, Ok, Err, Option, Some, None, codes}
use Rattle.fvn_lex.specs.Cut.{Piece}
use Rattle.fvn_terms.specs.declared.plain.OpId.{OpId}
use Rattle.fvn_terms.specs.declared.plain.SortId.{SortId}
use Rattle.fvn_terms.specs.declared.plain.Plain.{Plain}
use Rattle.fvn_terms.specs.declared.plain.Plain.TheVariants.{Var as AVar}
use Rattle.fvn_terms.specs.Signature.{kind, axioms}
use Rattle.fvn_syntax.specs.declared.fault.TermFault.{TermFault}
use Rattle.fvn_syntax.specs.declared.fault.TermFault.TheVariants.{UnknownName, NoMemory}
use Rattle.fvn_syntax.specs.declared.seen.Seen.{Seen}
use Rattle.fvn_syntax.specs.declared.seen.Kinded.{Kinded}
use Rattle.fvn_syntax.specs.declared.reading.Frame.{Frame}
use Rattle.fvn_syntax.specs.declared.reading.Frame.TheVariants.{Round, Call}
use Rattle.fvn_syntax.specs.declared.reading.Spot.{Spot}
use Rattle.fvn_syntax.specs.declared.reading.Spot.TheVariants.{Wanted, Named, Sorts, Whole}
use Rattle.fvn_syntax.specs.declared.reading.Reading.{Reading}
use Rattle.fvn_syntax.specs.Scope.{Scope}
use Rattle.fvn_syntax.specs.Pieces.{Text, is_special, is_colon_name, without_last}
use Rattle.fvn_terms.specs.Equality.{is_sum}
use Rattle.fvn_syntax.specs.Names.{resolve_name, op_named, sort_named, kind_of, if_of_kind}
use Rattle.fvn_syntax.specs.Resolve.{Resolved, bind, checked, the_variable, resolve_meaning, apply}
use Rattle.fvn_syntax.specs.Readings.{sum_or_most}

-- what is not closed, the innermost first, what was read last, and what was seen so far
pub record State : Type 0 where
  pub frames : List Frame
  pub spot : Spot
  pub seen : Seen

-- the state of these frames, what was read last and what was seen
abbrev pub state : List Frame → Spot → Seen → State
state frames spot seen = record { frames = frames; spot = spot; seen = seen }

-- the reading of the program as a state
abbrev pub view : Reading → State
view r = state (reverse r.frames.items) r.spot r.seen

-- nothing read so far
abbrev pub start : Seen → State
start seen = state [] Wanted seen

-- the same of a reading or a fault
abbrev pub result_view : Result Reading TermFault → Result State TermFault
result_view (Ok r) = Ok (view r)
result_view (Err fault) = Err fault

-- The program's next reading is what is wanted, or both have this fault; want of memory may come in place of either.
abbrev pub Reaches : Result State TermFault → Result Reading TermFault → Type 0
Reaches wanted (Ok next) = wanted ≡ Ok (view next)
Reaches wanted (Err fault) = (fault ≡ NoMemory) ⊎ (wanted ≡ Err fault)

-- What is given is what is wanted, or both have this fault; want of memory may come in place of either.
abbrev pub Gives : {A : Type 0} → Result A TermFault → Result A TermFault → Type 0
Gives wanted (Ok x) = wanted ≡ Ok x
Gives wanted (Err fault) = (fault ≡ NoMemory) ⊎ (wanted ≡ Err fault)

-- a term in place of those that are not built
abbrev pub unbuilt : Plain
unbuilt = AVar (record { name = 0; sort = record { 0 = 0 }; fresh = false })

-- the symbols that an application adds: a sum of n arguments is nested n - 1 times
abbrev pub own_symbols : (sum : Bool) → ℕ → ℕ
own_symbols true n = n - 1
own_symbols false n = 1

-- the state behind a whole term
abbrev pub whole : List Frame → Kinded × Seen → Result State TermFault
whole fs x = Ok (state fs (Whole x.0) x.1)

-- the state behind a name and the parenthesis that opens its arguments
abbrev pub open_call : List Frame → Seen → Option OpId → Result State TermFault
open_call fs s None = Err UnknownName
open_call fs s (Some f) = Ok (state (Call f [] [] ∷ fs) Wanted s)

-- the state behind one more sort of a bracket, where the sorts so far are of one kind
abbrev pub read_sort : List Frame → Seen → Text → Option SortId → Result State TermFault
read_sort fs s x None = Err UnknownName
read_sort fs s x (Some k) = Ok (state fs (Sorts x (Some k)) s)

module _ (c : Scope) where
  -- the kind of a bracket, with one more of its sorts
  abbrev pub next_kind : Option SortId → Text → Option SortId
  next_kind None w = kind_of c.declarations.kinds (sort_named c.names.sorts w)
  next_kind (Some k) w = if_of_kind c.declarations.kinds k (sort_named c.names.sorts w)

module _ (limit : ℕ) where
  -- the term, where there are no more symbols than the limit
  abbrev pub kept : (count : ℕ) → Plain → Plain
  kept count t = if nat_le count limit then t else unbuilt

  -- a whole term of so many symbols more
  abbrev pub grown : ℕ → Seen → Resolved → Kinded × Seen
  grown n s r =
      (record { term = kept (sum_or_most s.count n) r.term; kind = r.kind }, record { texts = r.texts; count = sum_or_most s.count n })

  module _ (c : Scope) where
    -- a name alone
    abbrev pub leaf : Seen → Text → Result (Kinded × Seen) TermFault
    leaf s w = bind (resolve_meaning c s.texts (resolve_name c.declarations c.names w)) (λ r. Ok (grown 1 s r))

    -- a variable of a sort
    abbrev pub sorted_leaf : Seen → Text → SortId → Kinded × Seen
    sorted_leaf s x k = grown 1 s (the_variable s.texts x k (kind c.declarations k))

    -- an operator over its arguments
    abbrev pub closed : Seen → OpId → List SortId → List Plain → Result (Kinded × Seen) TermFault
    closed s f ks ts =
        bind (apply c.declarations f (record { terms = ts; kinds = ks; texts = s.texts }))
        (λ r. Ok (grown (own_symbols (is_sum (axioms c.declarations f)) (length ks)) s r))

    -- a piece behind the last of these arguments
    abbrev pub behind_argument : List Frame → Seen → Piece → OpId → List SortId → List Plain → Result State TermFault
    behind_argument fs s p f ks ts =
        if is_special (codes ",") p then Ok (state (Call f ks ts ∷ fs) Wanted s) else bind (closed s f ks ts) (whole fs)

    -- a piece behind a whole term
    abbrev pub behind : Kinded × Seen → Piece → List Frame → Result State TermFault
    behind x p [] = Ok (state [] (Whole x.0) x.1)
    behind x p (Round ∷ fs) = Ok (state fs (Whole x.0) x.1)
    behind x p (Call f ks ts ∷ fs) = behind_argument fs x.1 p f (ks ++ (x.0.kind ∷ [])) (ts ++ (x.0.term ∷ []))

    -- the state behind the end of a bracket, a variable of its kind
    abbrev pub end_sorts : List Frame → Seen → Text → Option SortId → Result State TermFault
    end_sorts fs s x None = Err UnknownName
    end_sorts fs s x (Some k) = whole fs (sorted_leaf s x k)

    -- one more piece
    abbrev pub step_at : List Frame → Seen → Piece → Spot → Result State TermFault
    step_at fs s p Wanted =
        if is_special (codes "(") p then Ok (state (Round ∷ fs) Wanted s) else Ok (state fs (Named p.text) s)
    step_at fs s p (Named w) =
        if is_special (codes "(") p then open_call fs s (op_named c.names w)
        else if is_colon_name w && is_special (codes "[") p
        then checked c.guarded (without_last w) (Ok (state fs (Sorts (without_last w) None) s))
        else bind (leaf s w) (λ x. behind x p fs)
    step_at fs s p (Sorts x k) =
        if is_special (codes "]") p then end_sorts fs s x k
        else if is_special (codes ",") p then Ok (state fs (Sorts x k) s)
        else read_sort fs s x (next_kind c k p.text)
    step_at fs s p (Whole v) = behind (v, s) p fs

    -- one more piece of the reading
    abbrev pub step : State → Piece → Result State TermFault
    step st p = step_at st.frames st.seen p st.spot

    -- the term that ends after what was read last
    abbrev pub finish_at : Seen → Spot → Result (Kinded × Seen) TermFault
    finish_at s Wanted = Err UnknownName
    finish_at s (Named w) = leaf s w
    finish_at s (Sorts x k) = Err UnknownName
    finish_at s (Whole v) = Ok (v, s)

    -- the term at the end of the pieces
    unfoldable pub run : State → List Piece → Result (Kinded × Seen) TermFault
    run st [] = finish_at st.seen st.spot
    run st (p ∷ ps) = bind (step st p) (λ next. run next ps)
