-- Which texts are modules, and what these declare.
use Rattle.std.specs.Prelude.{◌≡◌, ◌≤◌, ◌⊎◌, List, length}
use Rattle.fvn_lex.specs.Cut.{Piece}
use Rattle.fvn_lex.specs.Parts.{HasPieces}
use Rattle.fvn_base.specs.declared.limits.TheConstants.{EQUATIONS}
use Rattle.fvn_signature_draft.specs.Collected.{completed}
use Rattle.fvn_sorts.specs.Faults.{HasNoFault}
use Rattle.fvn_syntax.specs.Pieces.{Text}
use Rattle.fvn_syntax.specs.Scope.{Scope}
use Rattle.fvn_module_syntax.specs.declared.form.Form.{Form}
use Rattle.fvn_module_statements.specs.Forms.{IsFormOf}
use Rattle.fvn_module_declarations.specs.Module.{names_in, collected_in}
use Rattle.fvn_module_names.specs.Faults.{HasNames}
use Rattle.fvn_module.specs.declared.fault.ModuleFault.{ModuleFault}
use Rattle.fvn_module.specs.declared.fault.ModuleFault.TheVariants.{NoMemory}
use Rattle.fvn_module.specs.Contents.{Contents, scope_of}
use Rattle.fvn_module.specs.Equations.{equations_in, AreEquationsOf}

-- the bytes are written as this module
pub record IsWrittenAs (bytes : Text) (f : Form) : Type 0 where
  pub row : List Piece
  pub cut : HasPieces bytes row
  pub form : IsFormOf row f

-- what the names of a written module are read in
abbrev pub scope_in : Form → Scope
scope_in f = scope_of (completed (collected_in f.statements)) (names_in f)

-- The written module declares this: no name in it is at fault; what is collected of sorts and operators is a good
-- signature; there are not too many equations, and each is one.
pub record Declares (f : Form) (m : Contents) : Type 0 where
  pub named : HasNames f.statements
  pub good : HasNoFault (collected_in f.statements)
  pub few : length (equations_in f.statements) ≤ EQUATIONS
  pub signature : m.signature ≡ completed (collected_in f.statements)
  pub names : m.names ≡ names_in f
  pub equations : AreEquationsOf (scope_in f) (equations_in f.statements) m.equations

-- The bytes are a module, and declare this.
pub record IsModule (bytes : Text) (m : Contents) : Type 0 where
  pub form : Form
  pub written : IsWrittenAs bytes form
  pub declares : Declares form m

-- The bytes declare nothing else.
abbrev pub IsOnlyModule : Text → Contents → Type 0
IsOnlyModule bytes m = (other : Contents) → IsModule bytes other → other ≡ m

-- But for want of memory, the bytes are no module.
abbrev pub HasNoModule : Text → ModuleFault → Type 0
HasNoModule bytes fault = (fault ≡ NoMemory) ⊎ ((m : Contents) → IsModule bytes m → ⊥)
