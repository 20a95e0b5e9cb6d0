-- Terms of which each operator bears a sort.
-- J. A. Goguen and J. Meseguer, Order-sorted algebra I, 1992.
use Rattle.std.specs.Prelude.{◌≡◌, ◌+◌, ℕ, false, List, [], ◌∷◌, map, Option, Some, None}
use Rattle.fvn_terms.specs.declared.plain.Var.{Var}
use Rattle.fvn_terms.specs.declared.plain.OpId.{OpId}
use Rattle.fvn_terms.specs.declared.plain.SortId.{SortId}
use Rattle.fvn_terms.specs.declared.declarations.Axioms.TheVariants.{Free}
use Rattle.fvn_terms.specs.declared.declarations.Declarations.{Declarations}
use Rattle.fvn_terms.specs.Signature.{axioms, IsTerm}
use Rattle.fvn_terms.specs.Term.{Term, Terms}
use Rattle.fvn_forms.specs.Flat.{FlatTerm, FlatTerms, fvar, fapp, fnone, fmore, plain, plain_all}
use Rattle.fvn_forms.specs.Ranks.{result}

mutual
  -- a term is a variable, or an operator, with a sort, over a list of terms
  pub data SortedTerm : Type 0 where
    svar : Var → SortedTerm
    sapp : OpId → SortId → SortedTerms → SortedTerm

  -- a list of such terms, as arguments
  pub data SortedTerms : Type 0 where
    snone : SortedTerms
    smore : SortedTerm → SortedTerms → SortedTerms

-- a list of terms as arguments
abbrev pub spack : List SortedTerm → SortedTerms
spack [] = snone
spack (t ∷ ts) = smore t (spack ts)

-- arguments as a list of terms
abbrev pub sunpack : SortedTerms → List SortedTerm
sunpack snone = []
sunpack (smore t ts) = t ∷ sunpack ts

-- the sort that the term bears
abbrev pub sort_of : SortedTerm → SortId
sort_of (svar x) = x.sort
sort_of (sapp f s ts) = s

-- the operator that heads the term
abbrev pub operator_of : SortedTerm → Option OpId
operator_of (svar x) = None
operator_of (sapp f s ts) = Some f

-- the arguments of the term; a variable has none
abbrev pub parts_of : SortedTerm → List SortedTerm
parts_of (svar x) = []
parts_of (sapp f s ts) = sunpack ts

abbrev mutual
  -- the number of variables and operators, by which recursions over the term end
  pub weight : SortedTerm → ℕ
  weight (svar x) = 1
  weight (sapp f s ts) = weight_all ts + 1

  -- that of all terms of a list together
  pub weight_all : SortedTerms → ℕ
  weight_all snone = 0
  weight_all (smore t ts) = weight t + weight_all ts

abbrev mutual
  -- the flat form without the sorts, where no operator has axioms
  pub form_of : SortedTerm → FlatTerm
  form_of (svar x) = fvar x
  form_of (sapp f s ts) = fapp f false (forms_of ts)

  -- those of a list
  pub forms_of : SortedTerms → FlatTerms
  forms_of snone = fnone
  forms_of (smore t ts) = fmore (form_of t) (forms_of ts)

-- the term without the sorts
abbrev pub term_of : SortedTerm → Term
term_of t = plain (form_of t)

-- the terms of a list without the sorts
abbrev pub terms_of : List SortedTerm → Terms
terms_of ts = plain_all (forms_of (spack ts))

module _ (d : Declarations) where
  abbrev mutual
    -- no operator has axioms, and each bears the least sort that it has over those of its arguments
    pub IsSorted : SortedTerm → Type 0
    IsSorted (svar x) = Unit {0}
    IsSorted (sapp f s ts) = (axioms d f ≡ Free) × ((s ≡ result d f (map sort_of (sunpack ts))) × AreSorted ts)

    -- the same of a list
    pub AreSorted : SortedTerms → Type 0
    AreSorted snone = Unit {0}
    AreSorted (smore t ts) = IsSorted t × AreSorted ts

  -- a well-kinded term with the right sorts
  pub record IsValue (t : SortedTerm) : Type 0 where
    pub sorted : IsSorted t
    pub kinded : IsTerm d (term_of t)
