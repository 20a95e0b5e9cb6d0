-- What the steps of the reader answer.
use Rattle.std.specs.Prelude.{ℕ, ◌≡◌, ◌≤◌, ◌⊎◌, List, length, slice_get, All, Some}
use Rattle.fvn_lex.specs.declared.token.LexFault.{LexFault}
use Rattle.fvn_lex.specs.declared.token.LexFault.TheVariants as lexed
use Rattle.fvn_lex.specs.Cut.{Piece}
use Rattle.fvn_lex.specs.Parts.{HasPieces}
use Rattle.fvn_lex.specs.Join.{IsPiece}
use Rattle.fvn_base.specs.declared.limits.TheConstants.{EQUATIONS}
use Rattle.fvn_forms.specs.Good.{IsGood}
use Rattle.fvn_signature_draft.specs.Collected.{completed}
use Rattle.fvn_sorts.specs.Faults.{HasNoFault, IsFirstFault as IsFirstSignatureFault}
use Rattle.fvn_module_syntax.specs.declared.statement.Statement.{Statement}
use Rattle.fvn_module_syntax.specs.declared.form.Form.{Form}
use Rattle.fvn_module_statements.specs.declared.form.FormFault.TheVariants as form
use Rattle.fvn_module_statements.specs.Forms.{IsFormOf, IsFirstFault as IsFirstFormFault}
use Rattle.fvn_module_names.specs.declared.fault.NameFault.TheVariants as name
use Rattle.fvn_signature_draft.specs.declared.collected.Collected.{Collected}
use Rattle.fvn_syntax.specs.declared.names.Names.{Names}
use Rattle.fvn_module_names.specs.Variables.{no_variables}
use Rattle.fvn_module_declarations.specs.Module.{names_in, names_alone, collected_in}
use Rattle.fvn_module_names.specs.Faults.{HasNames, IsFirstFault as IsFirstNameFault}
use Rattle.fvn_module.specs.declared.signing.Signed.{Signed}
use Rattle.fvn_theory.specs.declared.equation.Equation.{Equation}
use Rattle.fvn_module.specs.declared.sides.Sides.{Sides}
use Rattle.fvn_module.specs.declared.fault.Place.TheVariants as place
use Rattle.fvn_module.specs.declared.fault.ModuleFault.{ModuleFault}
use Rattle.fvn_module.specs.declared.fault.ModuleFault.TheVariants.{Lex, Header, Statement as AtStatement, UnknownName, Twice, Arity, WrongKind, LeftOut, Signature, VariableLeft, ExtraVariable, IdentityLeft, TooMany, TooLong, NoMemory}
use Rattle.fvn_syntax.specs.Pieces.{Text}
use Rattle.fvn_module.specs.Contents.{Contents, scope_of}
use Rattle.fvn_module.specs.ModuleText.{IsWrittenAs, Declares, HasNoModule}
use Rattle.fvn_module.specs.Refusals.{Refuses, tops_told}
use Rattle.fvn_module.specs.Equations.{equations_in, AreEquationsOf, IsFirstFaultOf}

-- the fault of a text that has no tokens for this reason
abbrev pub fault_of_cut : LexFault → ModuleFault
fault_of_cut (lexed.BadByte n) = Lex (lexed.BadByte n)
fault_of_cut (lexed.BlockComment n) = Lex (lexed.BlockComment n)
fault_of_cut lexed.NoMemory = NoMemory

-- the first fault of the frame and the statements of these tokens
abbrev pub IsFormRefused : List Piece → ModuleFault → Type 0
IsFormRefused row (Lex fault) = ⊥
IsFormRefused row Header = IsFirstFormFault row form.Header
IsFormRefused row (AtStatement n) = IsFirstFormFault row (form.Statement n)
IsFormRefused row (UnknownName n) = ⊥
IsFormRefused row (Twice n) = ⊥
IsFormRefused row (Arity n) = ⊥
IsFormRefused row (WrongKind n) = ⊥
IsFormRefused row (LeftOut n feature) = IsFirstFormFault row (form.LeftOut n feature)
IsFormRefused row (Signature fault names tops) = ⊥
IsFormRefused row (VariableLeft k) = ⊥
IsFormRefused row (ExtraVariable k) = ⊥
IsFormRefused row (IdentityLeft k) = ⊥
IsFormRefused row (TooMany place) = ⊥
IsFormRefused row TooLong = ⊥
IsFormRefused row NoMemory = Unit {0}

-- no name is at fault, and this is the signature with its names
pub record IsSigned (f : Form) (s : Signed) : Type 0 where
  pub named : HasNames f.statements
  pub no_fault : HasNoFault (collected_in f.statements)
  pub good : IsGood s.signature
  pub signature : s.signature ≡ completed (collected_in f.statements)
  pub names : s.names ≡ names_in f

-- the first fault among names or of the signature
abbrev pub IsSigningRefused : Form → ModuleFault → Type 0
IsSigningRefused f (Lex fault) = ⊥
IsSigningRefused f Header = ⊥
IsSigningRefused f (AtStatement n) = ⊥
IsSigningRefused f (UnknownName n) = IsFirstNameFault f.statements (name.UnknownName n)
IsSigningRefused f (Twice n) = IsFirstNameFault f.statements (name.Twice n)
IsSigningRefused f (Arity n) = ⊥
IsSigningRefused f (WrongKind n) = ⊥
IsSigningRefused f (LeftOut n feature) = ⊥
IsSigningRefused f (Signature fault names tops) =
    HasNames f.statements × IsFirstSignatureFault (collected_in f.statements) fault × (names ≡ names_alone f)
    × (tops ≡ tops_told fault (collected_in f.statements))
IsSigningRefused f (VariableLeft k) = ⊥
IsSigningRefused f (ExtraVariable k) = ⊥
IsSigningRefused f (IdentityLeft k) = ⊥
IsSigningRefused f (TooMany place) = ⊥
IsSigningRefused f TooLong = ⊥
IsSigningRefused f NoMemory = Unit {0}

-- what was collected has no fault, and this is the signature with these names
pub record IsFinished (given : Names) (c : Collected) (s : Signed) : Type 0 where
  pub no_fault : HasNoFault c
  pub good : IsGood s.signature
  pub signature : s.signature ≡ completed c
  pub names : s.names ≡ given

-- the names without the variables
abbrev pub alone : Names → Names
alone names = record names { variables = no_variables }

-- the first fault of what was collected
abbrev pub IsFinishRefused : Names → Collected → ModuleFault → Type 0
IsFinishRefused given c (Lex fault) = ⊥
IsFinishRefused given c Header = ⊥
IsFinishRefused given c (AtStatement n) = ⊥
IsFinishRefused given c (UnknownName n) = ⊥
IsFinishRefused given c (Twice n) = ⊥
IsFinishRefused given c (Arity n) = ⊥
IsFinishRefused given c (WrongKind n) = ⊥
IsFinishRefused given c (LeftOut n feature) = ⊥
IsFinishRefused given c (Signature fault names tops) = IsFirstSignatureFault c fault × (names ≡ alone given) × (tops ≡ tops_told fault c)
IsFinishRefused given c (VariableLeft k) = ⊥
IsFinishRefused given c (ExtraVariable k) = ⊥
IsFinishRefused given c (IdentityLeft k) = ⊥
IsFinishRefused given c (TooMany place) = ⊥
IsFinishRefused given c TooLong = ⊥
IsFinishRefused given c NoMemory = Unit {0}

-- there are not too many equations, and these are they
pub record AreRead (s : Signed) (sts : List Statement) (qs : List Equation) : Type 0 where
  pub few : length (equations_in sts) ≤ EQUATIONS
  pub equations : AreEquationsOf (scope_of s.signature s.names) (equations_in sts) qs

-- there is one equation too many, in this statement
pub record AreTooMany (sts : List Statement) (n : ℕ) : Type 0 where
  pub sides : Sides
  pub next : slice_get (equations_in sts) EQUATIONS ≡ Some sides
  pub number : n ≡ sides.number

-- why equations are refused
pub data AreRefused (s : Signed) (sts : List Statement) (fault : ModuleFault) : Type 0 where
  no_memory : fault ≡ NoMemory → AreRefused s sts fault
  too_many : (n : ℕ) → AreTooMany sts n → fault ≡ TooMany (place.Statement n) → AreRefused s sts fault
  at_equation : length (equations_in sts) ≤ EQUATIONS → IsFirstFaultOf (scope_of s.signature s.names) (equations_in sts) fault →
      AreRefused s sts fault

-- these tokens are no other module
abbrev pub IsOnlyForm : List Piece → Form → Type 0
IsOnlyForm row f = (other : Form) → IsFormOf row other → other ≡ f

-- the written module is that of tokens, each of which stands alone
pub record IsWritable (f : Form) : Type 0 where
  pub row : List Piece
  pub pieces : All IsPiece row
  pub is : IsFormOf row f

-- the first fault of every text that is written so, which then declares nothing
pub record IsFormFault (f : Form) (fault : ModuleFault) : Type 0 where
  pub refuses : (bytes : Text) → IsWrittenAs bytes f → Refuses bytes fault
  pub none : (fault ≡ NoMemory) ⊎ ((m : Contents) → Declares f m → ⊥)

-- the tokens are one written module, which declares this
pub record IsModuleOf (row : List Piece) (m : Contents) : Type 0 where
  pub form : Form
  pub is : IsFormOf row form
  pub only : IsOnlyForm row form
  pub declares : Declares form m

-- the first fault of every text with these tokens, which are then no module that declares anything
pub record IsRowFault (row : List Piece) (fault : ModuleFault) : Type 0 where
  pub refuses : (bytes : Text) → HasPieces bytes row → Refuses bytes fault
  pub none : (fault ≡ NoMemory) ⊎ ((f : Form) → IsFormOf row f → (m : Contents) → Declares f m → ⊥)

-- the bytes have tokens, which are one written module that declares this
pub record IsModuleAlone (bytes : Text) (m : Contents) : Type 0 where
  pub row : List Piece
  pub cut : HasPieces bytes row
  pub module_of : IsModuleOf row m

-- the first fault of the bytes, which are then no module
pub record IsTextFault (bytes : Text) (fault : ModuleFault) : Type 0 where
  pub refuses : Refuses bytes fault
  pub none : HasNoModule bytes fault
