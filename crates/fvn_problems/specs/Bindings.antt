-- What a binding text binds in a problem, and its first fault.
use Rattle.std.specs.Prelude.{◌≡◌, ◌≢◌, ◌<◌, ◌≤◌, ◌⊎◌, false, List, [], ◌∷◌, slice_get, All, AllPairs, Contains, Option, Some, None, Ok, Err}
use Rattle.fvn_base.specs.declared.limits.TheConstants.{TERM_SYMBOLS}
use Rattle.fvn_terms.specs.declared.plain.Var.{Var}
use Rattle.fvn_terms.specs.declared.plain.Plain.{Plain}
use Rattle.fvn_terms.specs.declared.plain.SortId.{SortId}
use Rattle.fvn_terms.specs.declared.declarations.Declarations.{Declarations}
use Rattle.fvn_terms.specs.Term.{nodes}
use Rattle.fvn_terms.specs.Plain.{term}
use Rattle.fvn_terms.specs.Signature.{kind}
use Rattle.fvn_terms.specs.Sorts.{HasSort}
use Rattle.fvn_terms.specs.Substitution.{Occurs}
use Rattle.fvn_syntax.specs.declared.fault.TermFault.{TermFault}
use Rattle.fvn_syntax.specs.declared.names.Names.{Names}
use Rattle.fvn_syntax.specs.declared.naming.Meaning.{Meaning}
use Rattle.fvn_syntax.specs.declared.naming.Meaning.TheVariants.{Constant, Variable}
use Rattle.fvn_syntax.specs.Names.{of_sort, bracket, resolve_name}
use Rattle.fvn_syntax.specs.Pieces.{Text, without_last}
use Rattle.fvn_syntax.specs.Raw.{RawTerm, name, call, round, kind_variable}
use Rattle.fvn_syntax.specs.Scope.{Scope}
use Rattle.fvn_syntax.specs.Resolve.{Resolved, resolve}
use Rattle.fvn_problems.specs.declared.fault.ProblemFault.{ProblemFault}
use Rattle.fvn_problems.specs.declared.fault.ProblemFault.TheVariants.{UnknownName, WrongKind, WrongSort, TooLarge}
use Rattle.fvn_problems.specs.declared.problem.Problem.{Problem}
use Rattle.fvn_problems.specs.declared.bindings.Bindings.{Bindings}
use Rattle.fvn_problems.specs.Faults.{fault_of, IsFirstFault, ButForMemory}
use Rattle.fvn_problems.specs.Scopes.{unguarded}
use Rattle.fvn_problems.specs.Spelling.{RawPair, IsBindingText}

-- the name and the sort of what a name alone stands for, where this is a variable
abbrev pub variable_of : Option Meaning → Option (Text × SortId)
variable_of None = None
variable_of (Some (Constant f)) = None
variable_of (Some (Variable x s)) = Some (x, s)

module _ (c : Scope) where
  -- the name and the sort of the variable that is written, where it is one
  abbrev pub written_variable : RawTerm → Option (Text × SortId)
  written_variable (name w) = variable_of (resolve_name c.declarations c.names w)
  written_variable (call w ts) = None
  written_variable (round t) = None
  written_variable (kind_variable x s ss) =
      of_sort (without_last x) (bracket c.names.sorts c.declarations.kinds s ss)

  -- both are variables, and of one name and sort
  pub record AreOneVariable (v w : RawTerm) : Type 0 where
    pub variable : Text × SortId
    pub first : written_variable v ≡ Some variable
    pub second : written_variable w ≡ Some variable

  -- no variable is bound twice
  abbrev pub BindsOnce : List RawPair → Type 0
  BindsOnce bs = AllPairs (λ a b. AreOneVariable a.left b.left → ⊥) bs

  module _ (p : Problem) where
    -- what is written is the variable x of the problem
    pub record IsVariableOf (v : RawTerm) (x : Var) : Type 0 where
      pub text : Text
      pub stands : written_variable v ≡ Some (text, x.sort)
      pub named : slice_get p.names.texts x.name ≡ Some text
      pub not_fresh : x.fresh ≡ false
      pub listed : Contains p.vars x

    -- the binding gives a variable of the problem a term of its sort; `before` are the names of the variables
    -- up to the binding, and `after` those up to its end
    pub record IsBindingOf (before : List Text) (raw : RawPair) (b : Var × Plain) (after : List Text) :
        Type 0 where
      pub variable : IsVariableOf raw.left b.0
      pub resolved : Resolved
      pub stands : resolve c before raw.right ≡ Ok resolved
      pub one_kind : resolved.kind ≡ kind c.declarations b.0.sort
      pub sorted : HasSort c.declarations (term resolved.term) b.0.sort
      pub term_is : b.1 ≡ resolved.term
      pub names : after ≡ resolved.texts

    -- the first fault of a binding: that it binds no variable of the problem, or a fault of its term, or that
    -- the term is of another kind, or not of the variable's sort
    pub data IsBindingFault (before : List Text) (raw : RawPair) (fault : ProblemFault) : Type 0 where
      no_variable : ((x : Var) → IsVariableOf raw.left x → ⊥) →
          fault ≡ UnknownName → IsBindingFault before raw fault
      in_term : (x : Var) → IsVariableOf raw.left x → (first : TermFault) →
          resolve c before raw.right ≡ Err first → fault ≡ fault_of first → IsBindingFault before raw fault
      other_kind : (x : Var) → IsVariableOf raw.left x → (r : Resolved) → resolve c before raw.right ≡ Ok r →
          r.kind ≢ kind c.declarations x.sort → fault ≡ WrongKind → IsBindingFault before raw fault
      other_sort : (x : Var) → IsVariableOf raw.left x → (r : Resolved) → resolve c before raw.right ≡ Ok r →
          r.kind ≡ kind c.declarations x.sort → (HasSort c.declarations (term r.term) x.sort → ⊥) →
          fault ≡ WrongSort → IsBindingFault before raw fault

    -- the bindings, one after another, are these
    abbrev pub AreBindingsOf : List Text → List RawPair → List (Var × Plain) → List Text → Type 0
    AreBindingsOf before [] [] after = before ≡ after
    AreBindingsOf before [] (b ∷ bs) after = ⊥
    AreBindingsOf before (r ∷ rs) [] after = ⊥
    AreBindingsOf before (r ∷ rs) (b ∷ bs) after =
        (next : List Text) × (IsBindingOf before r b next × AreBindingsOf next rs bs after)

    -- the first fault of bindings, from left to right
    abbrev pub IsBindingsFault : List Text → List RawPair → ProblemFault → Type 0
    IsBindingsFault before [] fault = ⊥
    IsBindingsFault before (r ∷ rs) fault =
        IsBindingFault before r fault
        ⊎ ((b : Var × Plain) × (next : List Text) × (IsBindingOf before r b next × IsBindingsFault next rs fault))

    -- the term of some binding has too many symbols
    abbrev pub IsLarge : List (Var × Plain) → Type 0
    IsLarge bs = (b : Var × Plain) × (Contains bs b × (TERM_SYMBOLS < nodes (term b.1)))

    -- What written bindings bind. The numbers of the problem's variables stay; behind them, numbers stand for
    -- the names of other variables, in order of first occurrence.
    pub record AreBindings (raw : List RawPair) (b : Bindings) : Type 0 where
      pub names : List Text
      pub pairs : AreBindingsOf p.names.texts raw b.subst.pairs names
      pub small : All (λ s. nodes (term s.1) ≤ TERM_SYMBOLS) b.subst.pairs

    -- the first fault of written bindings: one from left to right, or else the size of a term
    pub data IsFault (raw : List RawPair) (fault : ProblemFault) : Type 0 where
      in_bindings : IsBindingsFault p.names.texts raw fault → IsFault raw fault
      too_large : (bs : List (Var × Plain)) (after : List Text) → AreBindingsOf p.names.texts raw bs after →
          IsLarge bs → fault ≡ TooLarge → IsFault raw fault

module _ (d : Declarations) (names : Names) (p : Problem) (bytes : Text) where
  -- The bytes are these bindings, and none binds a variable that another one binds.
  abbrev pub IsText : List RawPair → Type 0
  IsText raw = IsBindingText bytes raw × BindsOnce (unguarded d names) raw

  -- In the signature and its names, the bytes are a binding text, and bind this in the problem.
  pub record IsBindings (b : Bindings) : Type 0 where
    pub raw : List RawPair
    pub text : IsText raw
    pub bound : AreBindings (unguarded d names) p raw b

  -- The bytes bind nothing else.
  abbrev pub IsOnlyBindings : Bindings → Type 0
  IsOnlyBindings b = (other : Bindings) → IsBindings other → other ≡ b

  -- The first fault of the bytes as a binding text.
  abbrev pub RefusesBindings : ProblemFault → Type 0
  RefusesBindings = IsFirstFault IsText (IsFault (unguarded d names) p) bytes

  -- But for want of memory, the bytes are no binding text in the problem.
  abbrev pub HasNoBindings : ProblemFault → Type 0
  HasNoBindings = ButForMemory ((b : Bindings) → IsBindings b → ⊥)

-- each bound variable is one of the problem
abbrev pub AreOfProblem : Problem → Bindings → Type 0
AreOfProblem p b = All (λ s. Contains p.vars s.0) b.subst.pairs

-- no variable has two terms
abbrev pub AreDistinct : Bindings → Type 0
AreDistinct b = AllPairs (λ s t. s.0 ≢ t.0) b.subst.pairs

-- each variable in a term has a text with its number
abbrev pub AreNotFresh : Bindings → Type 0
AreNotFresh b = All (λ s. (x : Var) → Occurs x (term s.1) → x.fresh ≡ false) b.subst.pairs
