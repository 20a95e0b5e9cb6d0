-- What holds of each element of a list, lists of one and of two, lists of lists, and whether a number stands in a list.
use Rattle.std.proofs.Common.{◌≡◌, ℕ, zero, suc, Bool, true, nat_eq, List, [], ◌∷◌, length, get_or, refl, sym, subst, inl, inr, arith, All, Contains}
use Rattle.std.specs.List.{flat_map, list_any}
use Rattle.std.proofs.lemmas.Bool.{eq-eqb, eqb-true, or_cases, or_left, or_right}
use Rattle.std.proofs.lemmas.List.Elements.{All-weaker, All-contains_itself, Contains-append_left, Contains-append_right, Contains-append_cases}
use Rattle.fvn_base.proofs.Membership.{contains_here, contains_later, contains_cases, contains_none}

-- what holds of each element
pub all_from : {X : Type 0} (P : X → Type 0) (xs : List X) → ((x : X) → Contains xs x → P x) → All P xs
all_from P xs h = All-weaker (Contains xs) P h xs (All-contains_itself xs)

-- a list of one
pub only_one : {X : Type 0} (x y : X) → Contains (y ∷ []) x → y ≡ x
only_one x y (zero, l, e) = e
only_one x y (suc k, l, e) = absurd (omega (arith, l))

-- an element of one of the lists
pub contains_flat_map : {X A : Type 0} (f : X → List A) (xs : List X) (x : X) (a : A) → Contains xs x → Contains (f x) a → Contains (flat_map f xs) a
contains_flat_map f [] x a c h = absurd (contains_none x c)
contains_flat_map f (y ∷ xs) x a c h = elim (contains_cases y xs x c) [
  | inl e ↦ Contains-append_left (f y) (flat_map f xs) a (subst (λ z. Contains (f z) a) (sym e) h)
  | inr r ↦ Contains-append_right (f y) (flat_map f xs) a (contains_flat_map f xs x a r h)
]

pub flat_map_contains : {X A : Type 0} (f : X → List A) (xs : List X) (a : A) → Contains (flat_map f xs) a → (x : X) × Contains xs x × Contains (f x) a
flat_map_contains f [] a c = absurd (contains_none a c)
flat_map_contains f (y ∷ xs) a c = elim (Contains-append_cases (f y) (flat_map f xs) a c) [
  | inl h ↦ (y, contains_here y xs, h)
  | inr r ↦ let q = flat_map_contains f xs a r in (q.0, contains_later y xs q.0 q.1, q.2)
]

-- a list of two
pub two_items : (ks : List ℕ) → length ks ≡ 2 → ks ≡ get_or ks 0 0 ∷ get_or ks 1 0 ∷ []
two_items [] e = absurd (omega arith)
two_items (a ∷ []) e = absurd (omega arith)
two_items (a ∷ b ∷ []) e = refl
two_items (a ∷ b ∷ k ∷ ks) e = absurd (omega arith)

-- whether y stands in the list
abbrev pub has : ℕ → List ℕ → Bool
has y xs = list_any (λ x. nat_eq x y) xs

pub has-contains : (y : ℕ) (xs : List ℕ) → has y xs ≡ true → Contains xs y
has-contains y [] e = cc
has-contains y (x ∷ xs) e = elim (or_cases (nat_eq x y) (has y xs) e) [
  | inl p ↦ (0, omega arith, eqb-true x y p)
  | inr q ↦ let r = has-contains y xs q in let l = r.1 in (suc r.0, omega (arith, l), r.2)
]

pub contains-has : (y : ℕ) (xs : List ℕ) → Contains xs y → has y xs ≡ true
contains-has y [] c = absurd (let l = c.1 in omega (arith, l))
contains-has y (x ∷ xs) (zero, l, e) = or_left (nat_eq x y) (has y xs) (eq-eqb x y e)
contains-has y (x ∷ xs) (suc k, l, e) = or_right (nat_eq x y) (has y xs) (contains-has y xs (k, omega (arith, l), e))
