-- What is asked of bindings that are unfolded.
use Rattle.std.specs.Prelude.{◌≡◌, All}
use Rattle.fvn_terms.specs.declared.plain.Var.{Var}
use Rattle.fvn_terms.specs.declared.declarations.Declarations.{Declarations}
use Rattle.fvn_terms.specs.Signature.{kind, HasKind}
use Rattle.fvn_forms.specs.Flat.{FlatTerm, plain, symbols}
use Rattle.fvn_forms.specs.Settled.{Settled}
use Rattle.fvn_flat.specs.Bindings.{Bindings}
use Rattle.fvn_combine_choices.specs.Plans.{unfolds_to, size_in}

module _ (d : Declarations) where
  -- the form is flat in the signature, and of the kind of the variable that is bound to it
  pub record IsFitting (b : Var × FlatTerm) : Type 0 where
    pub flat : Settled d b.1
    pub kinded : HasKind d (plain b.1) (kind d b.0.sort)

  -- the symbols of what a bound variable unfolds to are those of its form over what the variables in it unfold to
  abbrev pub AddUp : Bindings → Type 0
  AddUp bindings = All (λ b. symbols (unfolds_to d bindings b.0) ≡ size_in (λ x. symbols (unfolds_to d bindings x)) b.1) bindings
