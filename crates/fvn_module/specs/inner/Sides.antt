-- What is answered for the sides of an equation.
use Rattle.std.specs.Prelude.{ℕ, ◌≡◌, ◌≢◌, ◌<◌, ◌≤◌, ◌-◌, ◌^◌, ◌⊎◌, min, List, [], Ok, Err}
use Rattle.fvn_lex.specs.Cut.{Piece}
use Rattle.fvn_base.specs.declared.limits.TheConstants.{TEXT_SYMBOLS}
use Rattle.fvn_terms.specs.declared.plain.Var.{Var}
use Rattle.fvn_terms.specs.Term.{Term, Terms, nodes}
use Rattle.fvn_terms.specs.Plain.{term}
use Rattle.fvn_terms.specs.Substitution.{Occurs, OccursAmong}
use Rattle.fvn_syntax.specs.declared.fault.TermFault.{TermFault}
use Rattle.fvn_syntax.specs.Pieces.{Text}
use Rattle.fvn_syntax.specs.Raw.{RawTerm, spell, IsWritten, IsTermBefore}
use Rattle.fvn_syntax.specs.Scope.{Scope}
use Rattle.fvn_syntax.specs.Resolve.{Resolved, resolve}
use Rattle.fvn_syntax.specs.declared.seen.Kinded.{Kinded}
use Rattle.fvn_module.specs.declared.equations.Side.{Side}
use Rattle.fvn_module.specs.declared.sides.Sides.{Sides}
use Rattle.fvn_module.specs.declared.fault.ModuleFault.{ModuleFault}
use Rattle.fvn_theory.specs.declared.equation.Equation.{Equation}
use Rattle.fvn_module.specs.declared.fault.Place.TheVariants as place
use Rattle.fvn_module.specs.declared.fault.ModuleFault.TheVariants.{WrongKind, ExtraVariable, TooMany, NoMemory}
use Rattle.fvn_module.specs.Equations.{fault_of, AreWrittenAs, IsFaultOf}

-- each variable of the second term is one of the first
abbrev pub AllOccur : Term → Term → Type 0
AllOccur left t = (x : Var) → Occurs x t → Occurs x left

-- each variable of these terms is one of the first
abbrev pub AllOfAllOccur : Term → Terms → Type 0
AllOfAllOccur left ts = (x : Var) → OccursAmong x ts → Occurs x left

-- the written term stands for the side that was read
pub record IsReadAs (c : Scope) (before : List Text) (t : RawTerm) (s : Side) : Type 0 where
  pub resolved : Resolved
  pub stands : resolve c before t ≡ Ok resolved
  pub kind : s.read.kind ≡ resolved.kind
  pub texts : s.texts ≡ resolved.texts
  pub count : s.count ≡ min (nodes (term resolved.term)) (2 ^ 64 - 1)
  pub built : s.count ≤ TEXT_SYMBOLS → s.read.term ≡ resolved.term

-- each written term of these tokens stands for the side that was read
abbrev pub IsRead : Scope → List Text → List Piece → Side → Type 0
IsRead c before row s = (t : RawTerm) → IsWritten t → row ≡ spell t → IsReadAs c before t s

-- the written term has this first fault
pub record IsFaulty (c : Scope) (number : ℕ) (before : List Text) (t : RawTerm) (fault : ModuleFault) : Type 0 where
  pub first : TermFault
  pub stands : resolve c before t ≡ Err first
  pub is : fault ≡ fault_of number first

-- memory was refused, or each written term of these tokens has this first fault
abbrev pub IsReadRefused : Scope → ℕ → List Text → List Piece → ModuleFault → Type 0
IsReadRefused c number before row fault =
    (fault ≡ NoMemory) ⊎ ((t : RawTerm) → IsWritten t → row ≡ spell t → IsFaulty c number before t fault)

-- the tokens of both sides are terms
pub record AreTerms (e : Sides) : Type 0 where
  pub left : IsTermBefore [] e.left
  pub right : IsTermBefore [] e.right

-- the equation with this number has this first fault
pub record HasFault (c : Scope) (k : ℕ) (e : Sides) (fault : ModuleFault) : Type 0 where
  pub left : RawTerm
  pub right : RawTerm
  pub written : AreWrittenAs e left right
  pub wrong : IsFaultOf c e.number k left right fault

-- the two sides in a statement with this number, of which the left one has so many symbols, are this equation
pub record IsJudged (number : ℕ) (left : Kinded) (count : ℕ) (right : Side) (q : Equation) : Type 0 where
  pub one_kind : left.kind ≡ right.read.kind
  pub left_small : count ≤ TEXT_SYMBOLS
  pub right_small : right.count ≤ TEXT_SYMBOLS
  pub brings_none : AllOccur (term left.term) (term right.read.term)
  pub left_is : q.left ≡ left.term
  pub right_is : q.right ≡ right.read.term

-- why two sides are no equation
pub data IsJudgedFault (k number : ℕ) (left : Kinded) (count : ℕ) (right : Side) (fault : ModuleFault) : Type 0 where
  two_kinds : left.kind ≢ right.read.kind → fault ≡ WrongKind number → IsJudgedFault k number left count right fault
  too_large : left.kind ≡ right.read.kind → (TEXT_SYMBOLS < count) ⊎ (TEXT_SYMBOLS < right.count) →
      fault ≡ TooMany (place.Equation k) → IsJudgedFault k number left count right fault
  extra_variable : left.kind ≡ right.read.kind → count ≤ TEXT_SYMBOLS → right.count ≤ TEXT_SYMBOLS →
      (AllOccur (term left.term) (term right.read.term) → ⊥) →
      fault ≡ ExtraVariable k → IsJudgedFault k number left count right fault
