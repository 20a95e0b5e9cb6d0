-- What is refused is told by the first fault of the text.
use Rattle.std.proofs.Common.{◌≡◌, ℕ, List, inl, inr, sym, ap, ◌∙◌, subst}
use Rattle.fvn_lex.specs.Cut.{Piece}
use Rattle.fvn_lex.specs.Parts.{HasPieces}
use Rattle.fvn_syntax.specs.declared.fault.TermFault.{TermFault}
use Rattle.fvn_syntax.specs.declared.fault.TermFault.TheVariants as term_fault
use Rattle.fvn_syntax.specs.Pieces.{Text}
use Rattle.fvn_module_syntax.specs.declared.form.Form.{Form}
use Rattle.fvn_module.specs.declared.signing.Signed.{Signed}
use Rattle.fvn_module.specs.declared.fault.ModuleFault.{ModuleFault}
use Rattle.fvn_module.specs.declared.fault.ModuleFault.TheVariants.{Lex, Header, Statement as AtStatement, UnknownName, Twice, Arity, WrongKind, LeftOut, Signature, VariableLeft, ExtraVariable, IdentityLeft, TooMany, TooLong, NoMemory}
use Rattle.fvn_module.specs.Contents.{scope_of}
use Rattle.fvn_module.specs.Equations.{fault_of, IsFaultOf, in_left, in_right, two_kinds, too_large, extra_variable, IsFirstFaultOf, equations_in}
use Rattle.fvn_module.specs.ModuleText.{IsWrittenAs, scope_in}
use Rattle.fvn_module.specs.Refusals.{HasEquationFault, HasTooManyEquations, Refuses}
use Rattle.fvn_module.specs.inner.Steps.{IsFormRefused, IsSigned, IsSigningRefused, AreRefused, no_memory, too_many, at_equation}

module _ (bytes : Text) where
  pub told-form : (row : List Piece) → HasPieces bytes row → (fault : ModuleFault) → IsFormRefused row fault → Refuses bytes fault
  told-form row cut (Lex fault) h = absurd h
  told-form row cut Header h = record { row = row; cut = cut; first = h }
  told-form row cut (AtStatement n) h = record { row = row; cut = cut; first = h }
  told-form row cut (UnknownName n) h = absurd h
  told-form row cut (Twice n) h = absurd h
  told-form row cut (Arity n) h = absurd h
  told-form row cut (WrongKind n) h = absurd h
  told-form row cut (LeftOut n feature) h = record { row = row; cut = cut; first = h }
  told-form row cut (Signature fault names tops) h = absurd h
  told-form row cut (VariableLeft k) h = absurd h
  told-form row cut (ExtraVariable k) h = absurd h
  told-form row cut (IdentityLeft k) h = absurd h
  told-form row cut (TooMany place) h = absurd h
  told-form row cut TooLong h = absurd h
  told-form row cut NoMemory h = tt

  module _ (f : Form) (w : IsWrittenAs bytes f) where
    pub told-signing : (fault : ModuleFault) → IsSigningRefused f fault → Refuses bytes fault
    told-signing (Lex fault) h = absurd h
    told-signing Header h = absurd h
    told-signing (AtStatement n) h = absurd h
    told-signing (UnknownName n) h = inl (record { form = f; written = w; first = h })
    told-signing (Twice n) h = record { form = f; written = w; first = h }
    told-signing (Arity n) h = absurd h
    told-signing (WrongKind n) h = absurd h
    told-signing (LeftOut n feature) h = absurd h
    told-signing (Signature fault names tops) h = record { form = f; written = w; named = h.0; first = h.1; names_are = h.2; tops_are = h.3 }
    told-signing (VariableLeft k) h = absurd h
    told-signing (ExtraVariable k) h = absurd h
    told-signing (IdentityLeft k) h = absurd h
    told-signing (TooMany place) h = absurd h
    told-signing TooLong h = absurd h
    told-signing NoMemory h = tt

    told-term : (n : ℕ) (first : TermFault) → HasEquationFault bytes (fault_of n first) → Refuses bytes (fault_of n first)
    told-term n term_fault.ReservedName h = inr h
    told-term n term_fault.UnknownName h = inr h
    told-term n term_fault.Arity h = h
    told-term n term_fault.WrongKind h = h
    told-term n term_fault.NoMemory h = tt

    told-equation : (fault : ModuleFault) (h : HasEquationFault bytes fault) → Refuses bytes fault
    told-equation fault h = go h.first.wrong where
      P : ModuleFault → Type 0
      P x = HasEquationFault bytes x → Refuses bytes x

      go : {n k : ℕ} → IsFaultOf (scope_in h.form) n k h.first.left h.first.right fault → Refuses bytes fault
      go {n} {k} (in_left first stands is) = subst P (sym is) (told-term n first) h
      go {n} {k} (in_right x stands first right is) = subst P (sym is) (told-term n first) h
      go {n} {k} (two_kinds s differ is) = subst P (sym is) (λ x. x) h
      go {n} {k} (too_large s same large is) = subst P (sym is) (λ x. x) h
      go {n} {k} (extra_variable s same small extra is) = subst P (sym is) (λ x. x) h

    pub told-equations : (s : Signed) → IsSigned f s → (fault : ModuleFault) → AreRefused s f.statements fault → Refuses bytes fault
    told-equations s g fault (no_memory is) = subst (Refuses bytes) (sym is) tt
    told-equations s g fault (too_many n t is) =
        let x : HasTooManyEquations bytes n = record { form = f; written = w; named = g.named; good = g.no_fault; sides = t.sides; next = t.next; number = t.number } in
        subst (Refuses bytes) (sym is) x
    told-equations s g fault (at_equation few first) =
        let e : scope_of s.signature s.names ≡ scope_in f = ap (λ x. scope_of x s.names) g.signature ∙ ap (scope_of _) g.names in
        told-equation fault (record {
          form = f;
          written = w;
          named = g.named;
          good = g.no_fault;
          few = few;
          first = subst (λ c. IsFirstFaultOf c (equations_in f.statements) fault) e first;
        })
