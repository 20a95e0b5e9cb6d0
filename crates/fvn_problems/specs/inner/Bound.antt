-- What the steps of the reader of bindings answer.
use Rattle.std.specs.Prelude.{ℕ, ◌≡◌, ◌<◌, ◌≤◌, ◌↔◌, ◌⊎◌, ◌/◌, ◌%◌, ◌++◌, ◌&&◌, Bool, false, not, nat_eq, if◌then◌else◌, IsTrue, List, [], ◌∷◌, map, slice_get, All, Contains, Option, Some, None}
use Rattle.std.specs.List.{AllByRecursion}
use Rattle.fvn_base.specs.declared.limits.TheConstants.{TERM_SYMBOLS}
use Rattle.fvn_lex.specs.Cut.{Piece}
use Rattle.fvn_terms.specs.declared.plain.Var.{Var}
use Rattle.fvn_terms.specs.declared.plain.SortId.{SortId}
use Rattle.fvn_terms.specs.declared.plain.Plain.{Plain}
use Rattle.fvn_terms.specs.declared.plain.Plain.TheVariants.{Var as AVar, App}
use Rattle.fvn_terms.specs.Term.{nodes}
use Rattle.fvn_terms.specs.Plain.{term}
use Rattle.fvn_syntax.specs.declared.seen.Seen.{Seen}
use Rattle.fvn_syntax.specs.Pieces.{Text}
use Rattle.fvn_syntax.specs.Raw.{RawTerm, spell, IsWritten}
use Rattle.fvn_syntax.specs.Readings.{sum_or_most}
use Rattle.fvn_syntax.specs.Scope.{Scope}
use Rattle.fvn_syntax.specs.Texts.{place}
use Rattle.fvn_problems.specs.declared.fault.ProblemFault.{ProblemFault}
use Rattle.fvn_problems.specs.declared.fault.ProblemFault.TheVariants.{NoMemory}
use Rattle.fvn_problems.specs.declared.problem.Problem.{Problem}
use Rattle.fvn_problems.specs.declared.bindings.Bindings.{Bindings}
use Rattle.fvn_problems.specs.declared.split.Halves.{Halves}
use Rattle.fvn_problems.specs.Spelling.{RawPair, IsAlone, IsWrittenBinding}
use Rattle.fvn_problems.specs.Bindings.{written_variable, BindsOnce, IsVariableOf, IsBindingOf, IsBindingFault, AreBindingsOf, IsLarge, AreBindings, IsFault}
use Rattle.fvn_problems.specs.inner.Split.{halves_of}

-- a text with a sort
abbrev pub with_sort : SortId → Option Text → Option (Text × SortId)
with_sort s None = None
with_sort s (Some x) = Some (x, s)

-- the text and the sort of a term that is a variable
abbrev pub text_and_sort : List Text → Plain → Option (Text × SortId)
text_and_sort texts (AVar x) = with_sort x.sort (slice_get texts x.name)
text_and_sort texts (App f ts) = None

-- the name and the sort of each variable that is written so
abbrev pub Writes : Scope → List Piece → Option (Text × SortId) → Type 0
Writes c row v = (t : RawTerm) → IsWritten t → IsAlone t → row ≡ spell t → v ≡ written_variable c t

-- x is the variable of the problem with this text and sort
pub record IsTheVariable (p : Problem) (text : Text) (sort : SortId) (x : Var) : Type 0 where
  pub sort_is : x.sort ≡ sort
  pub named : slice_get p.names.texts x.name ≡ Some text
  pub not_fresh : x.fresh ≡ false
  pub listed : Contains p.vars x

-- whether x is a variable with the text of this number and this sort
abbrev pub is_named : ℕ → SortId → Var → Bool
is_named name sort x = nat_eq x.name name && nat_eq x.sort.0 sort.0 && not x.fresh

-- a text and a sort as one text
abbrev pub key_of : Text × SortId → Text
key_of v = v.0 ++ (v.1.0 / 256 ∷ v.1.0 % 256 ∷ [])

-- the keys of what is there, one after another
abbrev pub keys_of : List (Option (Text × SortId)) → List Text
keys_of [] = []
keys_of (None ∷ vs) = keys_of vs
keys_of (Some v ∷ vs) = key_of v ∷ keys_of vs

-- the keys with this one, where it is new
abbrev pub with_key : List Text → Text → Option ℕ → Option (List Text)
with_key keys key None = Some (keys ++ (key ∷ []))
with_key keys key (Some i) = None

-- the keys with that of what is written, where it is new
abbrev pub with_written : List Text → Option (Text × SortId) → Option (List Text)
with_written keys None = Some keys
with_written keys (Some v) = with_key keys (key_of v) (place keys (key_of v))

-- the halves are those of a written binding
pub record IsBound (h : Halves) (raw : RawPair) : Type 0 where
  pub written : IsWrittenBinding raw
  pub is : h ≡ halves_of raw

-- the halves are those of written bindings
pub record AreBound (list : List Halves) (raws : List RawPair) : Type 0 where
  pub written : AllByRecursion IsWrittenBinding raws
  pub are : list ≡ map halves_of raws

module _ (c : Scope) where
  -- the keys after what is written in the row, or that it was there
  abbrev pub Adds : (keys : List Text) → List Piece → (fresh : Bool) → (after : List Text) → Type 0
  Adds keys row fresh after =
      (t : RawTerm) → IsWritten t → IsAlone t → row ≡ spell t → with_written keys (written_variable c t) ≡ (if fresh then Some after else None)

  -- no variable is bound twice exactly where the test tells so
  abbrev pub TellsOnce : List Halves → Bool → Type 0
  TellsOnce list once = (raws : List RawPair) → AreBound list raws → IsTrue once ↔ BindsOnce c raws

  module _ (p : Problem) where
    -- the variable of the problem that is written
    abbrev pub Finds : List Piece → Option Var → Type 0
    Finds row None = (t : RawTerm) → IsWritten t → IsAlone t → row ≡ spell t → (x : Var) → IsVariableOf c p t x → ⊥
    Finds row (Some x) = (t : RawTerm) → IsWritten t → IsAlone t → row ≡ spell t → IsVariableOf c p t x

    -- a binding stands for what was read: the names and the number of symbols of its term are told in any case, the
    -- term only within the limit of symbols
    pub record IsBindingRead (before : List Text) (raw : RawPair) (read : (Var × Plain) × Seen) : Type 0 where
      pub pair : Var × Plain
      pub stands : IsBindingOf c p before raw pair (read.1).texts
      pub count : (read.1).count ≡ sum_or_most 0 (nodes (term pair.1))
      pub built : (read.1).count ≤ TERM_SYMBOLS → read.0 ≡ pair

    -- each written binding of these halves stands for what was read
    abbrev pub ReadsBinding : List Text → Halves → (Var × Plain) × Seen → Type 0
    ReadsBinding before h read = (raw : RawPair) → IsBound h raw → IsBindingRead before raw read

    -- each written binding of these halves has this first fault
    abbrev pub RefusesBinding : List Text → Halves → ProblemFault → Type 0
    RefusesBinding before h fault = (fault ≡ NoMemory) ⊎ ((raw : RawPair) → IsBound h raw → IsBindingFault c p before raw fault)

    -- the same of several bindings; `most` is the greatest number of symbols
    pub record AreBindingsRead (raws : List RawPair) (pairs : List (Var × Plain)) (texts : List Text) (most : ℕ) : Type 0 where
      pub true_pairs : List (Var × Plain)
      pub stand : AreBindingsOf c p p.names.texts raws true_pairs texts
      pub built : most ≤ TERM_SYMBOLS → (pairs ≡ true_pairs) × All (λ s. nodes (term s.1) ≤ TERM_SYMBOLS) true_pairs
      pub large : TERM_SYMBOLS < most → IsLarge c p true_pairs

    -- each list of written bindings with these halves binds this
    abbrev pub Binds : List Halves → Bindings → Type 0
    Binds list b = (raws : List RawPair) → AreBound list raws → AreBindings c p raws b

    -- each list of written bindings with these halves has this first fault
    abbrev pub BindsNothing : List Halves → ProblemFault → Type 0
    BindsNothing list fault = (raws : List RawPair) → AreBound list raws → (fault ≡ NoMemory) ⊎ IsFault c p raws fault
