-- What written terms stand for: a term and its kind, or the first fault.
use Rattle.std.specs.Prelude.{ℕ, ◌+◌, ◌==◌, Bool, true, false, ◌&&◌, not, nat_le, if◌then◌else◌, List, [], ◌∷◌, length, slice_index_or, Result, Ok, Err, Option, Some, None}
use Rattle.fvn_terms.specs.declared.plain.OpId.{OpId}
use Rattle.fvn_terms.specs.declared.plain.SortId.{SortId}
use Rattle.fvn_terms.specs.declared.plain.Plain.{Plain}
use Rattle.fvn_terms.specs.declared.plain.Plain.TheVariants.{Var as AVar, App}
use Rattle.fvn_terms.specs.declared.declarations.Declarations.{Declarations}
use Rattle.fvn_terms.specs.Signature.{kind, axioms}
use Rattle.fvn_terms.specs.Term.{none}
use Rattle.fvn_terms.specs.Plain.{terms}
use Rattle.fvn_syntax.specs.declared.fault.TermFault.{TermFault}
use Rattle.fvn_syntax.specs.declared.fault.TermFault.TheVariants.{ReservedName, UnknownName, Arity, WrongKind}
use Rattle.fvn_syntax.specs.Scope.{Scope}
use Rattle.fvn_syntax.specs.Pieces.{Text, is_reserved, without_last}
use Rattle.fvn_syntax.specs.Raw.{RawTerm, RawTerms, name, call, round, kind_variable, last, and}
use Rattle.fvn_syntax.specs.Texts.{place_or_end, with_text}
use Rattle.fvn_syntax.specs.declared.naming.Meaning.{Meaning}
use Rattle.fvn_syntax.specs.declared.naming.Meaning.TheVariants.{Constant, Variable}
use Rattle.fvn_terms.specs.Equality.{is_sum}
use Rattle.fvn_syntax.specs.Names.{resolve_name, op_named, bracket, args_of, arity_of, result_of, same_sort}

-- a term with its kind, and the names of the variables so far, in order of first occurrence
pub record Resolved : Type 0 where
  pub term : Plain
  pub kind : SortId
  pub texts : List Text

-- the same of several terms
pub record AllResolved : Type 0 where
  pub terms : List Plain
  pub kinds : List SortId
  pub texts : List Text

-- the first fault, or what follows
abbrev pub bind : {A B : Type 0} → Result A TermFault → (A → Result B TermFault) → Result B TermFault
bind (Ok a) next = next a
bind (Err fault) next = Err fault

-- the value, or this fault
abbrev pub or_fault : {A : Type 0} → TermFault → Option A → Result A TermFault
or_fault fault None = Err fault
or_fault fault (Some a) = Ok a

-- the variable of a name and a sort: the first of its name has the next number
abbrev pub the_variable : List Text → Text → SortId → SortId → Resolved
the_variable texts x s k = record {
  term = AVar (record { name = place_or_end texts x; sort = s; fresh = false });
  kind = k;
  texts = with_text texts x;
}

-- f(t1,f(t2,..)), right-nested
abbrev pub nested : OpId → Plain → List Plain → Plain
nested f t [] = t
nested f t (u ∷ us) = App f (terms (t ∷ nested f u us ∷ []))

-- one or more terms, right-nested
abbrev pub nested_all : OpId → List Plain → Plain
nested_all f [] = App f none
nested_all f (t ∷ ts) = nested f t ts

-- a sum of two or more arguments is right-nested
abbrev pub applied : (sum : Bool) → OpId → List Plain → Plain
applied true f ts = nested_all f ts
applied false f ts = App f (terms ts)

-- sums take two or more arguments, other operators as many as declared
abbrev pub fits_number : (sum : Bool) → (arity : ℕ) → ℕ → Bool
fits_number true arity n = nat_le 2 n
fits_number false arity n = arity == n

-- in a problem or a term text no variable's name may begin with `#`
abbrev pub checked : {A : Type 0} → (guarded : Bool) → Text → Result A TermFault → Result A TermFault
checked guarded x r = if guarded && is_reserved x then Err ReservedName else r

module _ (d : Declarations) where
  -- the kind that is wanted at a place; the arguments of a sum are all of one kind
  abbrev pub wanted : (sum : Bool) → OpId → ℕ → SortId
  wanted true f i = kind d (slice_index_or (args_of d f) 0 (record { 0 = 0 }))
  wanted false f i = kind d (slice_index_or (args_of d f) i (record { 0 = 0 }))

  -- each kind from the i-th on is the one that is wanted
  abbrev pub fit_from : (sum : Bool) → OpId → ℕ → List SortId → Bool
  fit_from sum f i [] = true
  fit_from sum f i (k ∷ ks) = same_sort k (wanted sum f i) && fit_from sum f (i + 1) ks

  -- the fault of an application: the number of arguments, and then their kinds
  abbrev pub application_fault : (sum : Bool) → OpId → List SortId → Option TermFault
  application_fault sum f ks =
      if not (fits_number sum (arity_of d f) (length ks)) then Some Arity
      else if not (fit_from sum f 0 ks) then Some WrongKind
      else None

  -- the value, where there is no fault
  abbrev pub unless : {A : Type 0} → Option TermFault → A → Result A TermFault
  unless None a = Ok a
  unless (Some fault) a = Err fault

  -- an operator over its arguments
  abbrev pub apply : OpId → AllResolved → Result Resolved TermFault
  apply f r =
      unless (application_fault (is_sum (axioms d f)) f r.kinds)
      (record { term = applied (is_sum (axioms d f)) f r.terms; kind = result_of d f; texts = r.texts })

module _ (s : Scope) where
  -- a constant with its kind
  abbrev pub the_constant : List Text → OpId → Resolved
  the_constant texts f = record { term = App f none; kind = result_of s.declarations f; texts = texts }

  -- the term of what a name alone stands for
  abbrev pub resolve_meaning : List Text → Option Meaning → Result Resolved TermFault
  resolve_meaning texts None = Err UnknownName
  resolve_meaning texts (Some (Constant f)) = Ok (the_constant texts f)
  resolve_meaning texts (Some (Variable x q)) = checked s.guarded x (Ok (the_variable texts x q (kind s.declarations q)))

  -- the variable of a name and a kind
  abbrev pub resolve_kind : List Text → Text → Option SortId → Result Resolved TermFault
  resolve_kind texts x None = Err UnknownName
  resolve_kind texts x (Some k) = Ok (the_variable texts x k (kind s.declarations k))

  -- What a written term stands for, or its first fault from left to right: a name is tested where it
  -- stands, an application after its arguments.
  abbrev mutual
    pub resolve : List Text → RawTerm → Result Resolved TermFault
    resolve texts (name w) = resolve_meaning texts (resolve_name s.declarations s.names w)
    resolve texts (round t) = resolve texts t
    resolve texts (kind_variable x first others) =
        checked s.guarded (without_last x) (resolve_kind texts (without_last x) (bracket s.names.sorts s.declarations.kinds first others))
    resolve texts (call w ts) =
        bind (or_fault UnknownName (op_named s.names w)) (λ f. bind (resolve_all texts ts) (apply s.declarations f))

    -- the same of one or more written terms, each with the names of those before it
    pub resolve_all : List Text → RawTerms → Result AllResolved TermFault
    resolve_all texts (last t) =
        bind (resolve texts t) (λ r. Ok (record { terms = r.term ∷ []; kinds = r.kind ∷ []; texts = r.texts }))
    resolve_all texts (and t ts) =
        bind (resolve texts t) (λ r. bind (resolve_all r.texts ts)
        (λ rs. Ok (record { terms = r.term ∷ rs.terms; kinds = r.kind ∷ rs.kinds; texts = rs.texts })))
