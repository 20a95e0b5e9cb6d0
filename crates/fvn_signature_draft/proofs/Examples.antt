-- The definitions computed over one small signature.
use Rattle.std.proofs.Common.{◌≡◌, ℕ, false, [], ◌∷◌, refl, ap, arith}
use Rattle.fvn_terms.specs.declared.plain.SortId.{SortId}
use Rattle.fvn_terms.specs.declared.declarations.Declarations.{Declarations}
use Rattle.fvn_terms.specs.Signature.{kind}
use Rattle.fvn_forms.specs.SortOrder.{reaches, at_or_below}
use Rattle.fvn_signature.specs.Joined.{Joined, upward, downward, there}
use Rattle.fvn_signature.specs.Queries.{direct_subsorts, IsKind}
use Rattle.fvn_signature_draft.specs.declared.collected.Collected.{Collected}
use Rattle.fvn_signature_draft.specs.Collected.{kinds, completed}
use Rattle.fvn_signature_draft.proofs.Components.{kinds_are_components}

abbrev sort : ℕ → SortId
sort n = record { 0 = n }

-- sorts Low < Middle < Left, Low < Left, Low < Right, and Alone
abbrev five : Collected
five = record {
  sorts = 5;
  below = (sort 0, sort 1) ∷ (sort 1, sort 2) ∷ (sort 0, sort 2) ∷ (sort 0, sort 3) ∷ [];
  operators = 0;
  declarations = [];
}

abbrev signature : Declarations
signature = completed five

-- Low, Middle, Left and Right have the first kind, Alone has the second
kinds_are : kinds five ≡ sort 5 ∷ sort 5 ∷ sort 5 ∷ sort 5 ∷ sort 6 ∷ sort 5 ∷ sort 6 ∷ []
unfolding kinds reaches
kinds_are = refl

-- Left and Right are joined, by way of Low
left_and_right : Joined five.below (sort 2) (sort 3)
left_and_right = downward {q = sort 0} (2, omega arith, refl) (upward (3, omega arith, refl) there)

-- Right and Alone are not
right_and_alone : Joined five.below (sort 3) (sort 4) → ⊥
unfolding kinds reaches
right_and_alone w =
    let same : (kind signature (sort 3)).0 ≡ (kind signature (sort 4)).0 = ap (λ (k : SortId). k.0) ((kinds_are_components five (sort 3) (sort 4) (omega arith) (omega arith)).1 w) in
    let first : (kind signature (sort 3)).0 ≡ 5 = refl in
    let second : (kind signature (sort 4)).0 ≡ 6 = refl in
    omega arith

-- right below Left is Middle, and not Low; right below the first kind are Left and Right
below_left : direct_subsorts signature (sort 2) ≡ sort 1 ∷ []
unfolding kinds reaches at_or_below direct_subsorts
below_left = refl

below_kind : direct_subsorts signature (sort 5) ≡ sort 2 ∷ sort 3 ∷ []
unfolding kinds reaches at_or_below direct_subsorts
below_kind = refl

-- Right is not at or above Left, though joined with it
not_upward : at_or_below signature (sort 2) (sort 3) ≡ false
unfolding kinds reaches at_or_below
not_upward = refl

-- nothing is right below Low, though Low is at or below itself
below_low : direct_subsorts signature (sort 0) ≡ []
unfolding kinds reaches at_or_below direct_subsorts
below_low = refl

five_is_kind : IsKind signature (sort 5)
unfolding kinds reaches
five_is_kind = record { after_sorts = omega arith; listed = omega arith }

-- seven is past the kinds
seven_is_none : IsKind signature (sort 7) → ⊥
unfolding kinds reaches
seven_is_none h = let l = h.listed in omega arith
