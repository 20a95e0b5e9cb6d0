-- The definitions computed over one small signature.
use Rattle.std.proofs.Common.{◌≡◌, ℕ, true, false, List, [], ◌∷◌, refl}
use Rattle.fvn_terms.specs.declared.plain.OpId.{OpId}
use Rattle.fvn_terms.specs.declared.plain.SortId.{SortId}
use Rattle.fvn_terms.specs.declared.declarations.Axioms.TheVariants.{Free, Comm, AssocComm, AssocCommId}
use Rattle.fvn_terms.specs.declared.declarations.Rank.{Rank}
use Rattle.fvn_terms.specs.declared.declarations.Declarations.{Declarations}
use Rattle.fvn_terms.specs.Term.{Term}
use Rattle.fvn_terms.specs.Equality.{two, constant}
use Rattle.fvn_forms.specs.Flat.{fapp, fpack, fconstant, plain}
use Rattle.fvn_forms.specs.Canon.{canon}
use Rattle.fvn_forms.specs.SortOrder.{reaches, at_or_below}
use Rattle.fvn_forms.specs.Ranks.{result}
use Rattle.fvn_forms.specs.LeastSort.{least_sort}

abbrev op : ℕ → OpId
op n = record { 0 = n }

abbrev sort : ℕ → SortId
sort n = record { 0 = n }

abbrev rank : List SortId → SortId → Rank
rank args result = record { args = args; result = result }

-- sorts NonZero < Number and their kind; constants zero, one and two; plus with identity zero, times without, a commutative pair, a free list
abbrev number : Declarations
number = record {
  sorts = 2;
  kinds = sort 2 ∷ sort 2 ∷ sort 2 ∷ [];
  below = (sort 0, sort 1) ∷ [];
  ops =
      record { axioms = Free; ranks = rank [] (sort 1) ∷ [] }
      ∷ record { axioms = Free; ranks = rank [] (sort 0) ∷ [] }
      ∷ record { axioms = Free; ranks = rank [] (sort 0) ∷ [] }
      ∷ record { axioms = AssocCommId (op 0); ranks = rank (sort 1 ∷ sort 1 ∷ []) (sort 1) ∷ rank (sort 0 ∷ sort 1 ∷ []) (sort 0) ∷ [] }
      ∷ record { axioms = AssocComm; ranks = rank (sort 1 ∷ sort 1 ∷ []) (sort 1) ∷ [] }
      ∷ record { axioms = Comm; ranks = rank (sort 1 ∷ sort 1 ∷ []) (sort 1) ∷ [] }
      ∷ record { axioms = Free; ranks = rank (sort 1 ∷ sort 1 ∷ []) (sort 1) ∷ [] }
      ∷ [];
}

abbrev zero_ : Term
zero_ = constant (op 0)

abbrev one_ : Term
one_ = constant (op 1)

abbrev two_ : Term
two_ = constant (op 2)

-- plus(plus(two, zero), plus(one, two)) is the sum of one, two and two
sums_are_joined : canon number (two (op 3) (two (op 3) two_ zero_) (two (op 3) one_ two_)) ≡ fapp (op 3) true (fpack (fconstant (op 1) ∷ fconstant (op 2) ∷ fconstant (op 2) ∷ []))
sums_are_joined = refl

-- plus(zero, zero) is zero, and plus(zero, one) is one
identities_vanish : canon number (two (op 3) zero_ zero_) ≡ fconstant (op 0)
identities_vanish = refl

one_is_left : canon number (two (op 3) zero_ one_) ≡ fconstant (op 1)
one_is_left = refl

-- times(zero, one) keeps zero, which is the identity of another operator
other_identities_stay : canon number (two (op 4) one_ zero_) ≡ fapp (op 4) true (fpack (fconstant (op 0) ∷ fconstant (op 1) ∷ []))
other_identities_stay = refl

-- the pair of two and one is that of one and two; the list is not
pairs_are_turned : canon number (two (op 5) two_ one_) ≡ fapp (op 5) false (fpack (fconstant (op 1) ∷ fconstant (op 2) ∷ []))
pairs_are_turned = refl

lists_are_not : canon number (two (op 6) two_ one_) ≡ fapp (op 6) false (fpack (fconstant (op 2) ∷ fconstant (op 1) ∷ []))
lists_are_not = refl

-- the plain term of a sum of three is nested to the right
sums_are_nested : plain (canon number (two (op 3) (two (op 3) two_ one_) two_)) ≡ two (op 3) one_ (two (op 3) two_ two_)
sums_are_nested = refl

-- a number above zero and any number are together above zero, in either order, and a sum with zero is seen without it
sums_above_zero : least_sort number (canon number (two (op 3) (two (op 4) one_ one_) two_)) ≡ sort 0
unfolding result reaches at_or_below
sums_above_zero = refl

without_zero : least_sort number (canon number (two (op 3) zero_ two_)) ≡ sort 0
unfolding result reaches at_or_below
without_zero = refl
