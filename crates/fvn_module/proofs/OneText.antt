-- A text is one module at most, or has one first fault at most.
use Rattle.std.proofs.Common.{◌≡◌, ◌⊎◌, ℕ, ◌≤◌, List, length, Some, inl, inr, refl, sym, ap, ◌∙◌, subst, arith}
use Rattle.std.specs.Prelude.{slice_get}
use Rattle.std.proofs.lemmas.Option.{slice_get_within}
use Rattle.fvn_lex.specs.declared.token.LexFault.{LexFault}
use Rattle.fvn_lex.specs.Cut.{Piece}
use Rattle.fvn_lex.specs.Parts.{HasPieces, IsFirstFault as IsFirstLexFault}
use Rattle.fvn_lex.proofs.RowPieces.{pieces-once, no-pieces, first-once}
use Rattle.fvn_base.specs.declared.limits.TheConstants.{EQUATIONS}
use Rattle.fvn_terms.specs.declared.plain.SortId.{SortId}
use Rattle.fvn_sorts.specs.declared.conditions.fault.SigFault.{SigFault}
use Rattle.fvn_sorts.specs.Faults.{HasNoFault, IsFirstFault as IsFirstSignatureFault}
use Rattle.fvn_syntax.specs.Pieces.{Text}
use Rattle.fvn_syntax.specs.declared.names.Names.{Names}
use Rattle.fvn_module_syntax.specs.declared.form.Form.{Form}
use Rattle.fvn_module_statements.specs.declared.form.FormFault.{FormFault}
use Rattle.fvn_module_statements.specs.declared.form.FormFault.TheVariants as form
use Rattle.fvn_module_statements.specs.Forms.{IsFormOf, IsFirstFault as IsFirstFormFault}
use Rattle.fvn_module_statements.specs.Laws.{StatementsAreDetermined}
use Rattle.fvn_module_names.specs.declared.fault.NameFault.{NameFault}
use Rattle.fvn_module_names.specs.declared.fault.NameFault.TheVariants as name
use Rattle.fvn_module_declarations.specs.Module.{names_alone, collected_in}
use Rattle.fvn_module_names.specs.Faults.{HasNames, IsFirstFault as IsFirstNameFault}
use Rattle.fvn_module.specs.declared.fault.Place.TheVariants as place
use Rattle.fvn_module.specs.declared.fault.ModuleFault.{ModuleFault}
use Rattle.fvn_module.specs.declared.fault.ModuleFault.TheVariants.{Lex, Header, Statement, UnknownName, Twice, Arity, WrongKind, LeftOut, Signature, VariableLeft, ExtraVariable, IdentityLeft, TooMany, TooLong, NoMemory}
use Rattle.fvn_module.specs.Contents.{Contents}
use Rattle.fvn_module.specs.Equations.{equations_in, IsFirstFaultOf}
use Rattle.fvn_module.specs.ModuleText.{IsWrittenAs, scope_in, Declares, IsModule}
use Rattle.fvn_module.specs.Refusals.{tops_told, HasFormFault, HasNameFault, HasSignatureFault, HasTooManyEquations, HasEquationFault, Refuses}
use Rattle.fvn_module.proofs.Determined.{declared-once}
use Rattle.fvn_module.proofs.Excluded.{no-name-fault, no-first-fault}
use Rattle.fvn_module.proofs.OneForm.{one-form, one-form-fault, form-or-fault}
use Rattle.fvn_module.proofs.OneFault.{name-fault-once, signature-fault-once, first-fault-once}

module _ (law : StatementsAreDetermined) (bytes : Text) where
  row-once : (row other : List Piece) → HasPieces bytes row → HasPieces bytes other → row ≡ other
  row-once row other a b = pieces-once bytes row other a b

  written-once : (f g : Form) → IsWrittenAs bytes f → IsWrittenAs bytes g → f ≡ g
  written-once f g h k =
      let e = row-once h.row k.row h.cut k.cut in
      one-form law k.row f g (subst (λ r. IsFormOf r f) e h.form) k.form

  pub module-once : (m k : Contents) → IsModule bytes m → IsModule bytes k → m ≡ k
  module-once m k a b =
      let e = written-once a.form b.form a.written b.written in
      declared-once b.form m k (subst (λ f. Declares f m) e a.declares) b.declares

  -- Where a text is refused.

  -- the fault of a form, as that of a module
  abbrev of-form : FormFault → ModuleFault
  of-form form.Header = Header
  of-form (form.Statement n) = Statement n
  of-form (form.LeftOut n feature) = LeftOut n feature
  of-form form.NoMemory = NoMemory

  -- the fault of a name, as that of a module
  abbrev of-name : NameFault → ModuleFault
  of-name (name.UnknownName n) = UnknownName n
  of-name (name.Twice n) = Twice n
  of-name name.NoMemory = NoMemory

  -- the step at which a fault is found
  data Step (f : ModuleFault) : Type 0 where
    no_memory : f ≡ NoMemory → Step f
    at_bytes : (x : LexFault) → IsFirstLexFault bytes x → f ≡ Lex x → Step f
    at_form : (x : FormFault) → HasFormFault bytes x → f ≡ of-form x → Step f
    at_name : (x : NameFault) → HasNameFault bytes x → f ≡ of-name x → Step f
    at_signature : (x : SigFault) (names : Names) (tops : List SortId) → HasSignatureFault bytes x names tops → f ≡ Signature x names tops → Step f
    at_number : (n : ℕ) → HasTooManyEquations bytes n → f ≡ TooMany (place.Statement n) → Step f
    at_equation : HasEquationFault bytes f → Step f

  step : (f : ModuleFault) → Refuses bytes f → Step f
  step (Lex x) h = at_bytes x h refl
  step Header h = at_form form.Header h refl
  step (Statement n) h = at_form (form.Statement n) h refl
  step (UnknownName n) (inl h) = at_name (name.UnknownName n) h refl
  step (UnknownName n) (inr h) = at_equation h
  step (Twice n) h = at_name (name.Twice n) h refl
  step (Arity n) h = at_equation h
  step (WrongKind n) h = at_equation h
  step (LeftOut n x) h = at_form (form.LeftOut n x) h refl
  step (Signature x names tops) h = at_signature x names tops h refl
  step (VariableLeft k) h = absurd h
  step (ExtraVariable k) h = at_equation h
  step (IdentityLeft k) h = absurd h
  step (TooMany (place.Statement n)) h = at_number n h refl
  step (TooMany (place.Equation k)) h = at_equation h
  step TooLong h = absurd h
  step NoMemory h = no_memory refl

  form-at : (x : FormFault) → HasFormFault bytes x → (f : Form) → IsWrittenAs bytes f → ⊥
  form-at x h f w =
      let e = row-once w.row h.row w.cut h.cut in
      form-or-fault law h.row f (subst (λ r. IsFormOf r f) e w.form) x h.first

  name-at : (x : NameFault) → HasNameFault bytes x → (f : Form) → IsWrittenAs bytes f → HasNames f.statements → ⊥
  name-at x h f w n =
      let e = written-once f h.form w h.written in
      no-name-fault h.form.statements x h.first (subst (λ g. HasNames g.statements) e n)

  signature-at : (x : SigFault) (names : Names) (tops : List SortId) → HasSignatureFault bytes x names tops → (f : Form) → IsWrittenAs bytes f → HasNoFault (collected_in f.statements) → ⊥
  signature-at x names tops h f w n =
      let e = written-once f h.form w h.written in
      let good : HasNoFault (collected_in h.form.statements) = subst (λ g. HasNoFault (collected_in g.statements)) e n in
      good x h.first.0

  number-at : (n : ℕ) → HasTooManyEquations bytes n → (f : Form) → IsWrittenAs bytes f → length (equations_in f.statements) ≤ EQUATIONS → ⊥
  number-at n h f w few =
      let e = written-once f h.form w h.written in
      let less : length (equations_in h.form.statements) ≤ EQUATIONS = subst (λ g. length (equations_in g.statements) ≤ EQUATIONS) e few in
      let there = slice_get_within (equations_in h.form.statements) EQUATIONS h.sides h.next in
      absurd (omega (arith, less, there))

  abbrev Told : ModuleFault → ModuleFault → Type 0
  Told f g = (f ≡ NoMemory) ⊎ ((g ≡ NoMemory) ⊎ (f ≡ g))

  bytes-once : (x y : LexFault) → IsFirstLexFault bytes x → IsFirstLexFault bytes y → Lex x ≡ Lex y
  bytes-once x y h k = ap Lex (first-once bytes x y h k)

  form-once : (x y : FormFault) → HasFormFault bytes x → HasFormFault bytes y → x ≡ y
  form-once x y h k =
      let e = row-once h.row k.row h.cut k.cut in
      one-form-fault law k.row x y (subst (λ r. IsFirstFormFault r x) e h.first) k.first

  name-once : (x y : NameFault) → HasNameFault bytes x → HasNameFault bytes y → x ≡ y
  name-once x y h k =
      let e = written-once h.form k.form h.written k.written in
      name-fault-once k.form.statements x y (subst (λ f. IsFirstNameFault f.statements x) e h.first) k.first

  signature-once : (x y : SigFault) (names others : Names) (tops lows : List SortId) → HasSignatureFault bytes x names tops → HasSignatureFault bytes y others lows →
      Signature x names tops ≡ Signature y others lows
  signature-once x y names others tops lows h k =
      let e = written-once h.form k.form h.written k.written in
      let a : x ≡ y = signature-fault-once (collected_in k.form.statements) x y (subst (λ f. IsFirstSignatureFault (collected_in f.statements) x) e h.first) k.first in
      let b : names ≡ others = h.names_are ∙ ap names_alone e ∙ sym k.names_are in
      let c : tops ≡ lows = h.tops_are ∙ ap (λ f. tops_told x (collected_in f.statements)) e ∙ ap (λ z. tops_told z (collected_in k.form.statements)) a ∙ sym k.tops_are in
      ap (λ z. Signature z names tops) a ∙ ap (λ z. Signature y z tops) b ∙ ap (Signature y others) c

  number-once : (n m : ℕ) → HasTooManyEquations bytes n → HasTooManyEquations bytes m → n ≡ m
  number-once n m h k =
      let e = written-once h.form k.form h.written k.written in
      let a : slice_get (equations_in k.form.statements) EQUATIONS ≡ Some h.sides = subst (λ f. slice_get (equations_in f.statements) EQUATIONS ≡ Some h.sides) e h.next in
      let b : h.sides ≡ k.sides = (let c = k.next in cc) in
      h.number ∙ ap (λ s. s.number) b ∙ sym k.number

  equation-once : (f g : ModuleFault) → HasEquationFault bytes f → HasEquationFault bytes g → f ≡ g
  equation-once f g h k =
      let e = written-once h.form k.form h.written k.written in
      first-fault-once (scope_in k.form) (equations_in k.form.statements) f g (subst (λ x. IsFirstFaultOf (scope_in x) (equations_in x.statements) f) e h.first) k.first

  meet : (f g : ModuleFault) → Step f → Step g → Told f g
  meet f g (no_memory e) s = inl e
  meet f g (at_bytes x h e) (no_memory d) = inr (inl d)
  meet f g (at_form x h e) (no_memory d) = inr (inl d)
  meet f g (at_name x h e) (no_memory d) = inr (inl d)
  meet f g (at_signature x names tops h e) (no_memory d) = inr (inl d)
  meet f g (at_number n h e) (no_memory d) = inr (inl d)
  meet f g (at_equation h) (no_memory d) = inr (inl d)
  meet f g (at_bytes x h e) (at_bytes y k d) = inr (inr (e ∙ bytes-once x y h k ∙ sym d))
  meet f g (at_bytes x h e) (at_form y k d) = absurd (no-pieces bytes x k.row h k.cut)
  meet f g (at_bytes x h e) (at_name y k d) = absurd (no-pieces bytes x k.written.row h k.written.cut)
  meet f g (at_bytes x h e) (at_signature y others lows k d) = absurd (no-pieces bytes x k.written.row h k.written.cut)
  meet f g (at_bytes x h e) (at_number m k d) = absurd (no-pieces bytes x k.written.row h k.written.cut)
  meet f g (at_bytes x h e) (at_equation k) = absurd (no-pieces bytes x k.written.row h k.written.cut)
  meet f g (at_form x h e) (at_bytes y k d) = absurd (no-pieces bytes y h.row k h.cut)
  meet f g (at_form x h e) (at_form y k d) = inr (inr (e ∙ ap of-form (form-once x y h k) ∙ sym d))
  meet f g (at_form x h e) (at_name y k d) = absurd (form-at x h k.form k.written)
  meet f g (at_form x h e) (at_signature y others lows k d) = absurd (form-at x h k.form k.written)
  meet f g (at_form x h e) (at_number m k d) = absurd (form-at x h k.form k.written)
  meet f g (at_form x h e) (at_equation k) = absurd (form-at x h k.form k.written)
  meet f g (at_name x h e) (at_bytes y k d) = absurd (no-pieces bytes y h.written.row k h.written.cut)
  meet f g (at_name x h e) (at_form y k d) = absurd (form-at y k h.form h.written)
  meet f g (at_name x h e) (at_name y k d) = inr (inr (e ∙ ap of-name (name-once x y h k) ∙ sym d))
  meet f g (at_name x h e) (at_signature y others lows k d) = absurd (name-at x h k.form k.written k.named)
  meet f g (at_name x h e) (at_number m k d) = absurd (name-at x h k.form k.written k.named)
  meet f g (at_name x h e) (at_equation k) = absurd (name-at x h k.form k.written k.named)
  meet f g (at_signature x names tops h e) (at_bytes y k d) = absurd (no-pieces bytes y h.written.row k h.written.cut)
  meet f g (at_signature x names tops h e) (at_form y k d) = absurd (form-at y k h.form h.written)
  meet f g (at_signature x names tops h e) (at_name y k d) = absurd (name-at y k h.form h.written h.named)
  meet f g (at_signature x names tops h e) (at_signature y others lows k d) = inr (inr (e ∙ signature-once x y names others tops lows h k ∙ sym d))
  meet f g (at_signature x names tops h e) (at_number m k d) = absurd (signature-at x names tops h k.form k.written k.good)
  meet f g (at_signature x names tops h e) (at_equation k) = absurd (signature-at x names tops h k.form k.written k.good)
  meet f g (at_number n h e) (at_bytes y k d) = absurd (no-pieces bytes y h.written.row k h.written.cut)
  meet f g (at_number n h e) (at_form y k d) = absurd (form-at y k h.form h.written)
  meet f g (at_number n h e) (at_name y k d) = absurd (name-at y k h.form h.written h.named)
  meet f g (at_number n h e) (at_signature y others lows k d) = absurd (signature-at y others lows k h.form h.written h.good)
  meet f g (at_number n h e) (at_number m k d) = inr (inr (e ∙ ap (λ i. TooMany (place.Statement i)) (number-once n m h k) ∙ sym d))
  meet f g (at_number n h e) (at_equation k) = absurd (number-at n h k.form k.written k.few)
  meet f g (at_equation h) (at_bytes y k d) = absurd (no-pieces bytes y h.written.row k h.written.cut)
  meet f g (at_equation h) (at_form y k d) = absurd (form-at y k h.form h.written)
  meet f g (at_equation h) (at_name y k d) = absurd (name-at y k h.form h.written h.named)
  meet f g (at_equation h) (at_signature y others lows k d) = absurd (signature-at y others lows k h.form h.written h.good)
  meet f g (at_equation h) (at_number m k d) = absurd (number-at m k h.form h.written h.few)
  meet f g (at_equation h) (at_equation k) = inr (inr (equation-once f g h k))

  -- A module that is refused.

  apart : (f : ModuleFault) (m : Contents) → Step f → IsModule bytes m → f ≡ NoMemory
  apart f m (no_memory e) a = e
  apart f m (at_bytes x h e) a = absurd (no-pieces bytes x a.written.row h a.written.cut)
  apart f m (at_form x h e) a = absurd (form-at x h a.form a.written)
  apart f m (at_name x h e) a = absurd (name-at x h a.form a.written a.declares.named)
  apart f m (at_signature x names tops h e) a = absurd (signature-at x names tops h a.form a.written a.declares.good)
  apart f m (at_number n h e) a = absurd (number-at n h a.form a.written a.declares.few)
  apart f m (at_equation h) a =
      let e = written-once a.form h.form a.written h.written in
      let d : Declares h.form m = subst (λ x. Declares x m) e a.declares in
      absurd (no-first-fault (scope_in h.form) (equations_in h.form.statements) m.equations d.equations f h.first)

  pub fault-once : (f g : ModuleFault) → Refuses bytes f → Refuses bytes g → (f ≡ NoMemory) ⊎ ((g ≡ NoMemory) ⊎ (f ≡ g))
  fault-once f g h k = meet f g (step f h) (step g k)

  pub refused-apart : (f : ModuleFault) (m : Contents) → Refuses bytes f → IsModule bytes m → f ≡ NoMemory
  refused-apart f m h a = apart f m (step f h) a
