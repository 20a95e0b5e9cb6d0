-- Induction over terms and over flat forms, whose arguments are one list.
use Rattle.std.proofs.Common.{◌≡◌, Bool, List, [], ◌∷◌, refl, ap, subst}
use Rattle.std.specs.List.{AllByRecursion}
use Rattle.fvn_terms.specs.declared.plain.Var.{Var}
use Rattle.fvn_terms.specs.declared.plain.OpId.{OpId}
use Rattle.fvn_terms.specs.Term.{Term, Terms, var, app, none, more, pack}
use Rattle.fvn_forms.specs.Flat.{FlatTerm, FlatTerms, fvar, fapp, fnone, fmore, fpack, funpack}
use Rattle.fvn_forms.proofs.Sums.{fpack-funpack}

-- the arguments as a list
abbrev pub unpack : Terms → List Term
unpack none = []
unpack (more t ts) = t ∷ unpack ts

pub pack-unpack : (ts : Terms) → pack (unpack ts) ≡ ts
pack-unpack none = refl
pack-unpack (more t ts) = ap (more t) (pack-unpack ts)

pub unpack-pack : (l : List Term) → unpack (pack l) ≡ l
unpack-pack [] = refl
unpack-pack (t ∷ l) = ap (λ m. t ∷ m) (unpack-pack l)

module _ (P : Term → Type 0) (variables : (x : Var) → P (var x)) (operators : (f : OpId) (l : List Term) → AllByRecursion P l → P (app f (pack l))) where
  mutual
    pub term_induction : (t : Term) → P t
    term_induction (var x) = variables x
    term_induction (app f ts) = subst (λ us. P (app f us)) (pack-unpack ts) (operators f (unpack ts) (terms_induction ts))

    pub terms_induction : (ts : Terms) → AllByRecursion P (unpack ts)
    terms_induction none = tt
    terms_induction (more t ts) = (term_induction t, terms_induction ts)

module _ (P : FlatTerm → Type 0) (variables : (x : Var) → P (fvar x)) (operators : (f : OpId) (joined : Bool) (l : List FlatTerm) → AllByRecursion P l → P (fapp f joined (fpack l))) where
  mutual
    pub flat_induction : (t : FlatTerm) → P t
    flat_induction (fvar x) = variables x
    flat_induction (fapp f joined ts) = subst (λ us. P (fapp f joined us)) (fpack-funpack ts) (operators f joined (funpack ts) (flats_induction ts))

    pub flats_induction : (ts : FlatTerms) → AllByRecursion P (funpack ts)
    flats_induction fnone = tt
    flats_induction (fmore t ts) = (flat_induction t, flats_induction ts)
