-- How members of one class are made alike.
use Rattle.std.proofs.Common.{◌≡◌, ◌≢◌, ◌⊎◌, ℕ, ◌<◌, Bool, true, false, ◌||◌, List, [], ◌∷◌, length, map, get_or, refl, sym, ap, ◌∙◌, subst, inl, inr, arith, All}
use Rattle.std.proofs.lemmas.Bool.{eqb-true, or_cases, or_parts, or_from, not_from_false}
use Rattle.std.proofs.lemmas.List.{get_or-map, length-map, same_lists}
use Rattle.fvn_terms.specs.declared.plain.OpId.{OpId}
use Rattle.fvn_terms.specs.declared.declarations.Axioms.TheVariants.{Free, Comm}
use Rattle.fvn_terms.specs.declared.declarations.Declarations.{Declarations}
use Rattle.fvn_terms.specs.Signature.{axioms}
use Rattle.fvn_terms.specs.Equality.{IsAssociative}
use Rattle.fvn_flat.specs.Partitions.{HasNoIdentity}
use Rattle.fvn_combine_nodes.specs.Classes.{AreTogether, MeetEitherWay, MeetInPairs, AreAlike}
use Rattle.fvn_combine_nodes.specs.States.{Admits, IsNaming, class_of, is_same, is_apart, IsOpen}
use Rattle.fvn_combine_nodes.specs.declared.state.State.{State}
use Rattle.fvn_combine_tree.specs.inner.Closing.{is_straight}
use Rattle.fvn_combine_nodes.proofs.Lists.{two_items}
use Rattle.fvn_combine_nodes.proofs.Admitting.{admits_same, admits_apart}

-- lists of nodes in one class, place by place
pub together-at : (class : ℕ → ℕ) (ks ls : List ℕ) → AreTogether class ks ls → (i : ℕ) → i < length ks → i < length ls → class (get_or ks i 0) ≡ class (get_or ls i 0)
together-at class ks ls e i h g = sym (get_or-map class ks i 0 0 h) ∙ ap (λ ns. get_or ns i 0) e ∙ get_or-map class ls i 0 0 g

pub together-length : (class : ℕ → ℕ) (ks ls : List ℕ) → AreTogether class ks ls → length ks ≡ length ls
together-length class ks ls e = sym (length-map ks class) ∙ ap length e ∙ length-map ls class

pub together-from : (class : ℕ → ℕ) (ks ls : List ℕ) → length ks ≡ length ls → ((i : ℕ) → i < length ks → class (get_or ks i 0) ≡ class (get_or ls i 0)) → AreTogether class ks ls
together-from class ks ls n same =
    same_lists (map class ks) (map class ls) (length-map ks class ∙ n ∙ sym (length-map ls class))
    (
    λ i d h.
    let l : i < length ks = let m = length-map ks class in omega arith in
    let r : i < length ls = omega arith in
    get_or-map class ks i 0 d l ∙ same i l ∙ sym (get_or-map class ls i 0 d r)
    )

-- straight on where one of the two pairs is in one class, or one of those across is kept apart
pub straight : (s : State) → IsNaming s → (a b v w : ℕ) → a < length s.names → b < length s.names → v < length s.names → w < length s.names → is_straight s a b v w ≡ true →
    (class : ℕ → ℕ) → Admits s class → MeetEitherWay class a b v w → (class a ≡ class v) × (class b ≡ class w)
straight s naming a b v w la lb lv lw e class h (inl m) = m
straight s naming a b v w la lb lv lw e class h (inr m) = elim (or_cases ((is_same s a v || is_same s b w) || is_apart s a w) (is_apart s b v) e) [
  | inl f ↦ elim (or_cases (is_same s a v || is_same s b w) (is_apart s a w) f) [
    | inl g ↦ elim (or_cases (is_same s a v) (is_same s b w) g) [
      | inl t ↦ let p : class a ≡ class v = admits_same s class h a v la lv (eqb-true (class_of s a) (class_of s v) t) in (p, m.1 ∙ sym p ∙ m.0)
      | inr t ↦ let p : class b ≡ class w = admits_same s class h b w lb lw (eqb-true (class_of s b) (class_of s w) t) in (m.0 ∙ sym p ∙ m.1, p)
    ]
    | inr t ↦ absurd (admits_apart s naming class h a w la lw t m.0)
  ]
  | inr t ↦ absurd (admits_apart s naming class h b v lb lv t m.1)
]

pub crosswise : (class : ℕ → ℕ) (a b v w : ℕ) → MeetEitherWay class a b v w → MeetEitherWay class a b w v
crosswise class a b v w (inl m) = inr m
crosswise class a b v w (inr m) = inl m

-- where neither is known, the question is open
pub undecided : (s : State) (a b v w : ℕ) → is_straight s a b v w ≡ false → is_straight s a b w v ≡ false → IsOpen s a v
undecided s a b v w e f =
    let one = or_parts ((is_same s a v || is_same s b w) || is_apart s a w) (is_apart s b v) e in
    let two = or_parts (is_same s a v || is_same s b w) (is_apart s a w) one.0 in
    let three = or_parts (is_same s a v) (is_same s b w) two.0 in
    let cross = or_parts ((is_same s a w || is_same s b v) || is_apart s a v) (is_apart s b w) f in
    let apart = or_parts (is_same s a w || is_same s b v) (is_apart s a v) cross.0 in
    not_from_false (is_same s a v || is_apart s a v) (or_from (is_same s a v) (is_apart s a v) three.0 apart.1)

pub pairs_meet : (class : ℕ → ℕ) (ks ls : List ℕ) → length ks ≡ 2 → length ls ≡ 2 → MeetInPairs (λ a v. ⊥) ks ls class → MeetEitherWay class (get_or ks 0 0) (get_or ks 1 0) (get_or ls 0 0) (get_or ls 1 0)
pairs_meet class ks ls e f h = elim (h (get_or ks 0 0) (get_or ks 1 0) (get_or ls 0 0) (get_or ls 1 0) (two_items ks e) (two_items ls f)) [ inl m ↦ m | inr n ↦ absurd n ]

pub meet_in_pairs : (Undecided : ℕ → ℕ → Type 0) (class : ℕ → ℕ) (ks ls : List ℕ) → MeetEitherWay class (get_or ks 0 0) (get_or ks 1 0) (get_or ls 0 0) (get_or ls 1 0) ⊎ Undecided (get_or ks 0 0) (get_or ls 0 0) → MeetInPairs Undecided ks ls class
meet_in_pairs Undecided class ks ls h a b v w e f =
    subst (λ ns. MeetEitherWay class (get_or ns 0 0) (get_or ns 1 0) v w ⊎ Undecided (get_or ns 0 0) v) e
    (subst (λ ns. MeetEitherWay class (get_or ks 0 0) (get_or ks 1 0) (get_or ns 0 0) (get_or ns 1 0) ⊎ Undecided (get_or ks 0 0) (get_or ns 0 0)) f h)

pub no_pair : (Undecided : ℕ → ℕ → Type 0) (class : ℕ → ℕ) (ks ls : List ℕ) → (length ks ≢ 2) ⊎ (length ls ≢ 2) → MeetInPairs Undecided ks ls class
no_pair Undecided class ks ls (inl n) a b v w e f = absurd (n (ap length e))
no_pair Undecided class ks ls (inr n) a b v w e f = absurd (n (ap length f))

module _ (d : Declarations) (Undecided : ℕ → ℕ → Type 0) (class : ℕ → ℕ) (f g : OpId) (ks ls : List ℕ) where
  -- nothing is asked of operators of which one has an identity
  pub alike_identity : (HasNoIdentity (axioms d f) → HasNoIdentity (axioms d g) → ⊥) → AreAlike d Undecided class f g ks ls
  alike_identity n = record {
    one_head = λ a b. absurd (n a b);
    free = λ e same. absurd (n (subst HasNoIdentity (sym e) tt) (subst HasNoIdentity (sym (ap (axioms d) (sym same) ∙ e)) tt));
    commutative = λ e same. absurd (n (subst HasNoIdentity (sym e) tt) (subst HasNoIdentity (sym (ap (axioms d) (sym same) ∙ e)) tt));
  }

  module _ (one : f ≡ g) where
    pub alike_free : axioms d f ≡ Free → AreTogether class ks ls → AreAlike d Undecided class f g ks ls
    alike_free e h = record { one_head = λ a b. one; free = λ _ _. h; commutative = λ c _. cc }

    pub alike_commutative : axioms d f ≡ Comm → MeetInPairs Undecided ks ls class → AreAlike d Undecided class f g ks ls
    alike_commutative e h = record { one_head = λ a b. one; free = λ c _. cc; commutative = λ _ _. h }

    pub alike_associative : IsAssociative (axioms d f) → AreAlike d Undecided class f g ks ls
    alike_associative e = record { one_head = λ a b. one; free = λ c _. absurd (subst IsAssociative c e); commutative = λ c _. absurd (subst IsAssociative c e) }

-- what holds of four
pub four : (P : ℕ → Type 0) (a b v w : ℕ) → All P (a ∷ b ∷ v ∷ w ∷ []) → P a × P b × P v × P w
four P a b v w h = (h 0 0 (omega arith), h 1 0 (omega arith), h 2 0 (omega arith), h 3 0 (omega arith))

-- the first of four tests that holds decides
pub first_of_four : (p q r t : Bool) → p ≡ true → true ≡ (((p || q) || r) || t)
first_of_four true q r t e = refl
first_of_four false q r t e = cc

pub second_of_four : (p q r t : Bool) → p ≡ false → q ≡ true → true ≡ (((p || q) || r) || t)
second_of_four true true r t e f = refl
second_of_four false true r t e f = refl
second_of_four p false r t e f = cc

pub third_of_four : (p q r t : Bool) → p ≡ false → q ≡ false → r ≡ true → true ≡ (((p || q) || r) || t)
third_of_four true q r t e f g = cc
third_of_four false true r t e f g = cc
third_of_four false false true t e f g = refl
third_of_four false false false t e f g = cc

pub last_of_four : (p q r t : Bool) → p ≡ false → q ≡ false → r ≡ false → t ≡ (((p || q) || r) || t)
last_of_four p q r t e f g = ap (λ b. ((b || false) || false) || t) (sym e) ∙ ap (λ b. ((p || b) || false) || t) (sym f) ∙ ap (λ b. ((p || q) || b) || t) (sym g)
