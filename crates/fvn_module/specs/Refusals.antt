-- The first fault of a text that is no module.
use Rattle.std.specs.Prelude.{ℕ, ◌≡◌, ◌≤◌, ◌⊎◌, List, [], length, slice_get, Some}
use Rattle.fvn_lex.specs.Cut.{Piece}
use Rattle.fvn_lex.specs.Parts.{HasPieces, IsFirstFault as IsFirstLexFault}
use Rattle.fvn_base.specs.declared.limits.TheConstants.{EQUATIONS}
use Rattle.fvn_terms.specs.declared.plain.SortId.{SortId}
use Rattle.fvn_signature_draft.specs.declared.collected.Collected.{Collected}
use Rattle.fvn_signature_draft.specs.Tops.{tops}
use Rattle.fvn_sorts.specs.declared.conditions.fault.SigFault.{SigFault}
use Rattle.fvn_sorts.specs.declared.conditions.fault.SigFault.TheVariants.{TooMany as TooManyThings}
use Rattle.fvn_sorts.specs.Faults.{HasNoFault, IsFirstFault as IsFirstSignatureFault}
use Rattle.fvn_syntax.specs.Pieces.{Text}
use Rattle.fvn_syntax.specs.declared.names.Names.{Names}
use Rattle.fvn_module_syntax.specs.declared.form.Form.{Form}
use Rattle.fvn_module_statements.specs.declared.form.FormFault.{FormFault}
use Rattle.fvn_module_statements.specs.declared.form.FormFault.TheVariants as form
use Rattle.fvn_module_statements.specs.Forms.{IsFirstFault as IsFirstFormFault}
use Rattle.fvn_module_names.specs.declared.fault.NameFault.{NameFault}
use Rattle.fvn_module_names.specs.declared.fault.NameFault.TheVariants as name
use Rattle.fvn_module_declarations.specs.Module.{names_alone, collected_in}
use Rattle.fvn_module_names.specs.Faults.{HasNames, IsFirstFault as IsFirstNameFault}
use Rattle.fvn_module.specs.declared.fault.Place.{Place}
use Rattle.fvn_module.specs.declared.fault.Place.TheVariants as place
use Rattle.fvn_module.specs.declared.fault.ModuleFault.{ModuleFault}
use Rattle.fvn_module.specs.declared.fault.ModuleFault.TheVariants.{Lex, Header, Statement, UnknownName, Twice, Arity, WrongKind, LeftOut, Signature, VariableLeft, ExtraVariable, IdentityLeft, TooMany, TooLong, NoMemory}
use Rattle.fvn_module.specs.declared.sides.Sides.{Sides}
use Rattle.fvn_module.specs.Equations.{equations_in, IsFirstFaultOf}
use Rattle.fvn_module.specs.ModuleText.{IsWrittenAs, scope_in}

-- the sorts after which the kinds are named are told with every fault but that there is too much of something
abbrev pub tops_told : SigFault → Collected → List SortId
tops_told TooManyThings c = []
tops_told fault c = tops c

module _ (bytes : Text) where
  -- the bytes have tokens, and this is the first fault of their frame and their statements
  pub record HasFormFault (fault : FormFault) : Type 0 where
    pub row : List Piece
    pub cut : HasPieces bytes row
    pub first : IsFirstFormFault row fault

  -- each statement has a form, and this is the first fault among their names
  pub record HasNameFault (fault : NameFault) : Type 0 where
    pub form : Form
    pub written : IsWrittenAs bytes form
    pub first : IsFirstNameFault form.statements fault

  -- no name is at fault, and this is the first fault of the signature, told with the names of sorts and operators,
  -- and with the sorts after which the kinds are named
  pub record HasSignatureFault (fault : SigFault) (names : Names) (tops : List SortId) : Type 0 where
    pub form : Form
    pub written : IsWrittenAs bytes form
    pub named : HasNames form.statements
    pub first : IsFirstSignatureFault (collected_in form.statements) fault
    pub names_are : names ≡ names_alone form
    pub tops_are : tops ≡ tops_told fault (collected_in form.statements)

  -- the signature is good, and in this statement stands one equation too many
  pub record HasTooManyEquations (n : ℕ) : Type 0 where
    pub form : Form
    pub written : IsWrittenAs bytes form
    pub named : HasNames form.statements
    pub good : HasNoFault (collected_in form.statements)
    pub sides : Sides
    pub next : slice_get (equations_in form.statements) EQUATIONS ≡ Some sides
    pub number : n ≡ sides.number

  -- there are not too many equations, and this is the first fault among them
  pub record HasEquationFault (fault : ModuleFault) : Type 0 where
    pub form : Form
    pub written : IsWrittenAs bytes form
    pub named : HasNames form.statements
    pub good : HasNoFault (collected_in form.statements)
    pub few : length (equations_in form.statements) ≤ EQUATIONS
    pub first : IsFirstFaultOf (scope_in form) (equations_in form.statements) fault

  -- too many equations, or an equation with too many symbols
  abbrev pub HasTooMany : Place → Type 0
  HasTooMany (place.Statement n) = HasTooManyEquations n
  HasTooMany (place.Equation k) = HasEquationFault (TooMany (place.Equation k))

  -- The first fault of the bytes. Want of memory says nothing of them; what becomes of a left side, and the number
  -- of bytes, are not asked here.
  abbrev pub Refuses : ModuleFault → Type 0
  Refuses (Lex fault) = IsFirstLexFault bytes fault
  Refuses Header = HasFormFault form.Header
  Refuses (Statement n) = HasFormFault (form.Statement n)
  Refuses (UnknownName n) = HasNameFault (name.UnknownName n) ⊎ HasEquationFault (UnknownName n)
  Refuses (Twice n) = HasNameFault (name.Twice n)
  Refuses (Arity n) = HasEquationFault (Arity n)
  Refuses (WrongKind n) = HasEquationFault (WrongKind n)
  Refuses (LeftOut n feature) = HasFormFault (form.LeftOut n feature)
  Refuses (Signature fault names tops) = HasSignatureFault fault names tops
  Refuses (VariableLeft k) = ⊥
  Refuses (ExtraVariable k) = HasEquationFault (ExtraVariable k)
  Refuses (IdentityLeft k) = ⊥
  Refuses (TooMany place) = HasTooMany place
  Refuses TooLong = ⊥
  Refuses NoMemory = Unit {0}
