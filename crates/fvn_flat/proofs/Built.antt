-- What an operator builds, by what is asked of its axioms.
use Rattle.std.proofs.Common.{◌≡◌, true, false, nat_eq, List, [], ◌∷◌, length, refl}
use Rattle.fvn_terms.specs.declared.plain.OpId.{OpId}
use Rattle.fvn_terms.specs.declared.declarations.Axioms.{Axioms}
use Rattle.fvn_terms.specs.declared.declarations.Axioms.TheVariants.{Free, Comm, AssocComm, AssocCommId}
use Rattle.fvn_terms.specs.declared.declarations.Declarations.{Declarations}
use Rattle.fvn_terms.specs.Signature.{axioms}
use Rattle.fvn_terms.specs.Equality.{is_sum, is_commutative}
use Rattle.fvn_forms.specs.Flat.{FlatTerm, fapp, fpack}
use Rattle.fvn_forms.specs.InOrder.{sort}
use Rattle.fvn_forms.specs.Canon.{all_parts, sum, built, build}

module _ (d : Declarations) (f : OpId) where
  over_sums : (a : Axioms) (l : List FlatTerm) → is_sum a ≡ true → built d a f l ≡ sum d f (all_parts d f l)
  over_sums Free l s = cc
  over_sums Comm l s = cc
  over_sums AssocComm l s = refl
  over_sums (AssocCommId e) l s = refl

  in_order : (a : Axioms) (l : List FlatTerm) → is_sum a ≡ false → is_commutative a ≡ true → built d a f l ≡ fapp f false (fpack (sort l))
  in_order Free l s c = cc
  in_order Comm l s c = refl
  in_order AssocComm l s c = cc
  in_order (AssocCommId e) l s c = cc

  as_given : (a : Axioms) (l : List FlatTerm) → is_sum a ≡ false → is_commutative a ≡ false → built d a f l ≡ fapp f false (fpack l)
  as_given Free l s c = refl
  as_given Comm l s c = cc
  as_given AssocComm l s c = cc
  as_given (AssocCommId e) l s c = cc

  -- a sum of all summands
  pub built_of_sums : (l : List FlatTerm) → nat_eq (length l) 0 ≡ false → is_sum (axioms d f) ≡ true → build d f l ≡ sum d f (all_parts d f l)
  built_of_sums [] some s = cc
  built_of_sums (t ∷ ts) some s = over_sums (axioms d f) (t ∷ ts) s

  -- the arguments in order
  pub built_in_order : (l : List FlatTerm) → nat_eq (length l) 0 ≡ false → is_sum (axioms d f) ≡ false → is_commutative (axioms d f) ≡ true → build d f l ≡ fapp f false (fpack (sort l))
  built_in_order [] some s c = cc
  built_in_order (t ∷ ts) some s c = in_order (axioms d f) (t ∷ ts) s c

  -- the arguments as they are
  pub built_as_given : (l : List FlatTerm) → nat_eq (length l) 0 ≡ false → is_sum (axioms d f) ≡ false → is_commutative (axioms d f) ≡ false → build d f l ≡ fapp f false (fpack l)
  built_as_given [] some s c = cc
  built_as_given (t ∷ ts) some s c = as_given (axioms d f) (t ∷ ts) s c
