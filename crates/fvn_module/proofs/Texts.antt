-- From statements to texts.
use Rattle.std.proofs.Common.{◌≡◌, ◌⊎◌, ◌<◌, ◌≤◌, List, length, Result, inl, inr, refl, sym, ap, ◌∙◌, subst, arith}
use Rattle.std.specs.Prelude.{IfOk}
use Rattle.fvn_lex.specs.declared.token.LexFault.{LexFault}
use Rattle.fvn_lex.specs.declared.token.LexFault.TheVariants as lexed
use Rattle.fvn_lex.specs.Cut.{Piece}
use Rattle.fvn_lex.specs.Parts.{HasPieces, IsFirstFault}
use Rattle.fvn_lex.proofs.RowPieces.{pieces-once, no-pieces}
use Rattle.fvn_base.specs.declared.limits.TheConstants.{SORTS, OPERATORS}
use Rattle.fvn_signature_draft.specs.declared.collected.Collected.{Collected}
use Rattle.fvn_signature_draft.specs.Tops.{tops}
use Rattle.fvn_sorts.specs.declared.conditions.fault.SigFault.{SigFault}
use Rattle.fvn_sorts.specs.Faults.{IsTooLarge, IsFirstFault as IsFirstSignatureFault}
use Rattle.fvn_sorts.specs.declared.conditions.fault.SigFault.TheVariants as sig
use Rattle.fvn_syntax.specs.Pieces.{Text}
use Rattle.fvn_syntax.specs.Scope.{IsNumbered}
use Rattle.fvn_module_syntax.specs.declared.form.Form.{Form}
use Rattle.fvn_module_statements.specs.Forms.{IsFormOf}
use Rattle.fvn_module_declarations.specs.Module.{names_in}
use Rattle.fvn_module_names.specs.Names.{sorts_of, operators_of}
use Rattle.fvn_module.specs.declared.signing.Signed.{Signed}
use Rattle.fvn_module.specs.declared.fault.ModuleFault.{ModuleFault}
use Rattle.fvn_module.specs.declared.fault.ModuleFault.TheVariants.{Lex, NoMemory}
use Rattle.fvn_forms.specs.Good.{IsGood}
use Rattle.fvn_signature.specs.Queries.{IsCompleted}
use Rattle.fvn_theory.specs.declared.equation.Equation.{Equation}
use Rattle.fvn_module.specs.Equations.{equations_in, AreEquationsOf}
use Rattle.fvn_module.specs.Readable.{IsReadable}
use Rattle.fvn_module.specs.Contents.{Contents, scope_of}
use Rattle.fvn_module.specs.ModuleText.{scope_in, Declares, IsOnlyModule, HasNoModule}
use Rattle.fvn_module.specs.Refusals.{tops_told}
use Rattle.fvn_module.specs.inner.Steps.{fault_of_cut, IsWritable, AreRead, IsSigned, IsSigningRefused, AreRefused, IsFormFault, IsRowFault, IsModuleAlone, IsTextFault}
use Rattle.fvn_module.proofs.Results.{on_ok}
use Rattle.fvn_module.proofs.Determined.{declared-once}
use Rattle.fvn_module.proofs.Excluded.{not-signing, not-equations}
use Rattle.fvn_module.proofs.ReadableModules.{readable-module}
use Rattle.fvn_module.proofs.Told.{told-signing, told-equations}

-- what has no fault has few sorts and operators
pub few-sorts : (f : Form) (s : Signed) → IsSigned f s → length (sorts_of f.statements) ≤ SORTS
few-sorts f s h = omega (arith, λ (more : SORTS < length (sorts_of f.statements)). h.no_fault sig.TooMany (inl more))

pub few-operators : (f : Form) (s : Signed) → IsSigned f s → length (operators_of f.statements) ≤ OPERATORS
few-operators f s h = omega (arith, λ (more : OPERATORS < length (operators_of f.statements)). h.no_fault sig.TooMany (inr (inl more)))

pub numbered : (f : Form) (s : Signed) → IsSigned f s → IsNumbered s.names
numbered f s h =
    let a = few-sorts f s h in
    let b = few-operators f s h in
    subst IsNumbered (sym h.names) (omega (arith, a), omega (arith, b))

memory-or-not : (fault : ModuleFault) → (fault ≡ NoMemory) ⊎ (fault ≡ NoMemory → ⊥)
memory-or-not NoMemory = inl refl
memory-or-not fault = inr (λ e. cc)

-- where this would follow from a declared module, none is declared, but for want of memory
but-for-memory : (f : Form) (fault : ModuleFault) → ((m : Contents) → Declares f m → fault ≡ NoMemory) →
    (fault ≡ NoMemory) ⊎ ((m : Contents) → Declares f m → ⊥)
but-for-memory f fault h = go (memory-or-not fault) where
  go : (fault ≡ NoMemory) ⊎ (fault ≡ NoMemory → ⊥) → (fault ≡ NoMemory) ⊎ ((m : Contents) → Declares f m → ⊥)
  go (inl e) = inl e
  go (inr differ) = inr (λ m d. differ (h m d))

pub signing-fault : (f : Form) (fault : ModuleFault) → IsSigningRefused f fault → IsFormFault f fault
signing-fault f fault h = record {
  refuses = λ bytes w. told-signing bytes f w fault h;
  none = but-for-memory f fault (λ m d. not-signing f m d fault h);
}

pub signed-fault : (f : Form) (s : Signed) → IsSigned f s → (fault : ModuleFault) → AreRefused s f.statements fault → IsFormFault f fault
signed-fault f s g fault h = record {
  refuses = λ bytes w. told-equations bytes f w s g fault h;
  none = but-for-memory f fault (λ m d. not-equations f m d s g fault h);
}

-- where what was collected is not too large, the sorts after which kinds are named are told
pub tops-of : (c : Collected) (fault : SigFault) → (IsTooLarge c → ⊥) → IsFirstSignatureFault c fault → tops c ≡ tops_told fault c
tops-of c sig.TooMany small h = absurd (small h.0)
tops-of c fault small h = refl

-- what was read with a signature is readable
pub signed-readable : (f : Form) → IsWritable f → (s : Signed) → IsSigned f s → IsCompleted s.signature → (es : List Equation) →
    AreRead s f.statements es → IsReadable (record { signature = s.signature; names = s.names; equations = es })
signed-readable f w s g completed es r =
    let e : scope_of s.signature s.names ≡ scope_in f = ap (λ x. scope_of x s.names) g.signature ∙ ap (scope_of _) g.names in
    let x = readable-module f w.row w.pieces w.is g.named (subst IsGood g.signature g.good) (subst IsCompleted g.signature completed) r.few es
    (subst (λ c. AreEquationsOf c (equations_in f.statements) es) e r.equations) in
    subst (λ n. IsReadable (record { signature = s.signature; names = n; equations = es })) (sym g.names)
    (subst (λ d. IsReadable (record { signature = d; names = names_in f; equations = es })) (sym g.signature) x)

module _ (bytes : Text) where
  same-row : (row other : List Piece) → HasPieces bytes row → HasPieces bytes other → other ≡ row
  same-row row other a b = pieces-once bytes other row b a

  only-module : (m : Contents) → IsModuleAlone bytes m → IsOnlyModule bytes m
  only-module m a other b =
      let x = a.module_of in
      let e : b.written.row ≡ a.row = same-row a.row b.written.row a.cut b.written.cut in
      let g : b.form ≡ x.form = x.only b.form (subst (λ r. IsFormOf r b.form) e b.written.form) in
      declared-once x.form other m (subst (λ f. Declares f other) g b.declares) x.declares

  pub alone-only : (r : Result Contents ModuleFault) → IfOk r (IsModuleAlone bytes) → IfOk r (IsOnlyModule bytes)
  alone-only r h = on_ok (IsModuleAlone bytes) (IsOnlyModule bytes) r only-module h

  lex-fault : (fault : LexFault) → IsFirstFault bytes fault → IsTextFault bytes (Lex fault)
  lex-fault fault h = record {
    refuses = h;
    none = inr (λ m d. no-pieces bytes fault d.written.row h d.written.cut);
  }

  pub cut-fault : (fault : LexFault) → (fault ≡ lexed.NoMemory) ⊎ IsFirstFault bytes fault → IsTextFault bytes (fault_of_cut fault)
  cut-fault (lexed.BadByte n) (inl e) = cc
  cut-fault (lexed.BadByte n) (inr h) = lex-fault (lexed.BadByte n) h
  cut-fault (lexed.BlockComment n) (inl e) = cc
  cut-fault (lexed.BlockComment n) (inr h) = lex-fault (lexed.BlockComment n) h
  cut-fault lexed.NoMemory h = record { refuses = tt; none = inl refl }

  pub row-told : (row : List Piece) → HasPieces bytes row → (fault : ModuleFault) → IsRowFault row fault → IsTextFault bytes fault
  row-told row cut fault h = record { refuses = h.refuses bytes cut; none = go h.none } where
    go : (fault ≡ NoMemory) ⊎ ((f : Form) → IsFormOf row f → (m : Contents) → Declares f m → ⊥) → HasNoModule bytes fault
    go (inl e) = inl e
    go (inr k) =
        inr (λ m d. k d.form (subst (λ r. IsFormOf r d.form) (pieces-once bytes d.written.row row d.written.cut cut) d.written.form) m d.declares)
