-- What written equations stand for, and their first fault.
use Rattle.std.specs.Prelude.{ℕ, ◌≡◌, ◌≢◌, ◌+◌, ◌<◌, ◌≤◌, ◌⊎◌, List, [], ◌∷◌, ◌++◌, length, Ok, Err}
use Rattle.fvn_base.specs.declared.limits.TheConstants.{TEXT_SYMBOLS}
use Rattle.fvn_terms.specs.declared.plain.Var.{Var}
use Rattle.fvn_terms.specs.Term.{nodes}
use Rattle.fvn_terms.specs.Plain.{term}
use Rattle.fvn_terms.specs.Substitution.{Occurs}
use Rattle.fvn_syntax.specs.declared.fault.TermFault.{TermFault}
use Rattle.fvn_syntax.specs.declared.fault.TermFault.TheVariants as term_fault
use Rattle.fvn_syntax.specs.Raw.{RawTerm, spell, IsWritten}
use Rattle.fvn_syntax.specs.Scope.{Scope}
use Rattle.fvn_syntax.specs.Resolve.{Resolved, resolve}
use Rattle.fvn_module_syntax.specs.declared.statement.Statement.{Statement}
use Rattle.fvn_module_syntax.specs.declared.statement.Statement.TheVariants as statement
use Rattle.fvn_theory.specs.declared.equation.Equation.{Equation}
use Rattle.fvn_module.specs.declared.sides.Sides.{Sides}
use Rattle.fvn_module.specs.declared.fault.Place.TheVariants as place
use Rattle.fvn_module.specs.declared.fault.ModuleFault.{ModuleFault}
use Rattle.fvn_module.specs.declared.fault.ModuleFault.TheVariants.{UnknownName, Arity, WrongKind, ExtraVariable, TooMany, NoMemory}

-- The equations among statements.

-- the equations among statements, of which the first has this number
abbrev pub equations_from : ℕ → List Statement → List Sides
equations_from n [] = []
equations_from n (statement.Sorts plural names ∷ sts) = equations_from (n + 1) sts
equations_from n (statement.Subsorts plural groups ∷ sts) = equations_from (n + 1) sts
equations_from n (statement.Operator name rank attributes ∷ sts) = equations_from (n + 1) sts
equations_from n (statement.Operators names rank attributes ∷ sts) = equations_from (n + 1) sts
equations_from n (statement.Variables plural names sort ∷ sts) = equations_from (n + 1) sts
equations_from n (statement.Equation label left right marks ∷ sts) =
    record { number = n; left = left; right = right } ∷ equations_from (n + 1) sts

-- the equations among the statements of a module
abbrev pub equations_in : List Statement → List Sides
equations_in = equations_from 1

-- The tokens of the sides are these written terms.
pub record AreWrittenAs (e : Sides) (left right : RawTerm) : Type 0 where
  pub left_written : IsWritten left
  pub right_written : IsWritten right
  pub left_spelled : e.left ≡ spell left
  pub right_spelled : e.right ≡ spell right

-- each variable of the second term is one of the first
abbrev pub BringsNone : Resolved → Resolved → Type 0
BringsNone left right = (x : Var) → Occurs x (term right.term) → Occurs x (term left.term)

-- neither term has too many symbols
abbrev pub AreSmall : Resolved → Resolved → Type 0
AreSmall left right = (nodes (term left.term) ≤ TEXT_SYMBOLS) × (nodes (term right.term) ≤ TEXT_SYMBOLS)

-- a term has too many symbols
abbrev pub IsLarge : Resolved → Resolved → Type 0
IsLarge left right = (TEXT_SYMBOLS < nodes (term left.term)) ⊎ (TEXT_SYMBOLS < nodes (term right.term))

-- the fault of an equation in this statement in which this is the first fault of a term; equations may have
-- variables of any name
abbrev pub fault_of : ℕ → TermFault → ModuleFault
fault_of n term_fault.ReservedName = UnknownName n
fault_of n term_fault.UnknownName = UnknownName n
fault_of n term_fault.Arity = Arity n
fault_of n term_fault.WrongKind = WrongKind n
fault_of n term_fault.NoMemory = NoMemory

module _ (c : Scope) where
  -- The sides stand for two terms; variables are numbered by their names, from left to right.
  pub record StandFor (left right : RawTerm) : Type 0 where
    pub first : Resolved
    pub second : Resolved
    pub left_stands : resolve c [] left ≡ Ok first
    pub right_stands : resolve c first.texts right ≡ Ok second

  -- The sides are this equation: its terms are of one kind, neither is too large, and the right one has no
  -- variable of its own.
  pub record IsEquationOf (e : Sides) (q : Equation) : Type 0 where
    pub left : RawTerm
    pub right : RawTerm
    pub written : AreWrittenAs e left right
    pub stand : StandFor left right
    pub one_kind : stand.first.kind ≡ stand.second.kind
    pub small : AreSmall stand.first stand.second
    pub brings_none : BringsNone stand.first stand.second
    pub left_is : q.left ≡ stand.first.term
    pub right_is : q.right ≡ stand.second.term

  -- The first fault of an equation with these written sides, where n is the number of its statement and k its own:
  -- the first of its left side, or else of its right side, or that they are of two kinds, that one is too large, or
  -- that the right one has a variable of its own.
  pub data IsFaultOf (n k : ℕ) (left right : RawTerm) (fault : ModuleFault) : Type 0 where
    in_left : (first : TermFault) → resolve c [] left ≡ Err first →
        fault ≡ fault_of n first → IsFaultOf n k left right fault
    in_right : (r : Resolved) → resolve c [] left ≡ Ok r → (first : TermFault) → resolve c r.texts right ≡ Err first →
        fault ≡ fault_of n first → IsFaultOf n k left right fault
    two_kinds : (s : StandFor left right) → s.first.kind ≢ s.second.kind →
        fault ≡ WrongKind n → IsFaultOf n k left right fault
    too_large : (s : StandFor left right) → s.first.kind ≡ s.second.kind → IsLarge s.first s.second →
        fault ≡ TooMany (place.Equation k) → IsFaultOf n k left right fault
    extra_variable : (s : StandFor left right) → s.first.kind ≡ s.second.kind → AreSmall s.first s.second →
        (BringsNone s.first s.second → ⊥) → fault ≡ ExtraVariable k → IsFaultOf n k left right fault

  -- the equations, one after another, are these
  abbrev pub AreEquationsOf : List Sides → List Equation → Type 0
  AreEquationsOf [] [] = Unit {0}
  AreEquationsOf [] (q ∷ qs) = ⊥
  AreEquationsOf (e ∷ es) [] = ⊥
  AreEquationsOf (e ∷ es) (q ∷ qs) = IsEquationOf e q × AreEquationsOf es qs

  -- The first fault of equations: those before it have none.
  pub record IsFirstFaultOf (es : List Sides) (fault : ModuleFault) : Type 0 where
    pub before : List Sides
    pub sides : Sides
    pub after : List Sides
    pub split : es ≡ before ++ (sides ∷ after)
    pub found : List Equation
    pub faultless : AreEquationsOf before found
    pub left : RawTerm
    pub right : RawTerm
    pub written : AreWrittenAs sides left right
    pub wrong : IsFaultOf sides.number (length before + 1) left right fault
