-- The forms that a sum is built of: those of its arguments, and in place of an argument that is again a sum those of that one's.
use Rattle.std.specs.Prelude.{◌≡◌, ◌&&◌, if◌then◌else◌, List, [], ◌∷◌, ◌++◌}
use Rattle.fvn_terms.specs.declared.plain.OpId.{OpId}
use Rattle.fvn_terms.specs.declared.declarations.Declarations.{Declarations}
use Rattle.fvn_terms.specs.Term.{Term, Terms, var, app, none, more}
use Rattle.fvn_terms.specs.Signature.{axioms}
use Rattle.fvn_terms.specs.Equality.{is_sum}
use Rattle.fvn_forms.specs.Flat.{FlatTerm, fvar, fconstant}
use Rattle.fvn_forms.specs.Canon.{same_op, canon}

module _ (d : Declarations) (f : OpId) where
  abbrev mutual
    -- of a nested sum of f the forms of its arguments, of every other term its form alone
    pub gathered_of : Term → List FlatTerm
    gathered_of (var x) = fvar x ∷ []
    gathered_of (app g none) = fconstant g ∷ []
    gathered_of (app g (more t ts)) = if same_op f g && is_sum (axioms d f) then gathered_of t ++ gathered ts
        else canon d (app g (more t ts)) ∷ []

    -- those of each argument in turn
    pub gathered : Terms → List FlatTerm
    gathered none = []
    gathered (more t ts) = gathered_of t ++ gathered ts

  -- these are the arguments of a nested sum of f
  pub record IsNested (t : Term) (us : Terms) : Type 0 where
    pub heads : t ≡ app f us
    pub gathers : gathered_of t ≡ gathered us
