-- The numbers of classes.
use Rattle.std.proofs.Common.{◌≡◌, ℕ, suc, true, false, List, [], ◌∷◌, map, refl, sym, ap, ◌∙◌, inl, inr, arith, Contains}
use Rattle.std.specs.Prelude.{nat_eq, if◌then◌else◌}
use Rattle.std.proofs.lemmas.Bool.{eq-eqb, eqb-true, cases_Bool, true≢false}
use Rattle.fvn_base.proofs.Membership.{contains_here, contains_cases, contains_none}
use Rattle.fvn_purify.specs.Splits.{number_in}
use Rattle.fvn_purify.proofs.Elements.{map_equal}

-- nodes of one class have one number
pub number_same : (class : ℕ → ℕ) (parts : List ℕ) (x y : ℕ) → class x ≡ class y → number_in class parts x ≡ number_in class parts y
number_same class [] x y e = refl
number_same class (p ∷ parts) x y e =
    let rest = number_same class parts x y e in
    ap (λ n. if nat_eq (class p) n then 0 else suc (number_in class parts x)) e ∙ ap (λ n. if nat_eq (class p) (class y) then 0 else suc n) rest

number_first : (class : ℕ → ℕ) (p : ℕ) (parts : List ℕ) (x : ℕ) → nat_eq (class p) (class x) ≡ true → number_in class (p ∷ parts) x ≡ 0
number_first class p parts x e = ap (λ b. if b then 0 else suc (number_in class parts x)) e

number_later : (class : ℕ → ℕ) (p : ℕ) (parts : List ℕ) (x : ℕ) → nat_eq (class p) (class x) ≡ false → number_in class (p ∷ parts) x ≡ suc (number_in class parts x)
number_later class p parts x e = ap (λ b. if b then 0 else suc (number_in class parts x)) e

pub nat_eq-same : (m n : ℕ) → m ≡ n → nat_eq m n ≡ true
nat_eq-same m n e = eq-eqb m n e

-- a part with the number of a node is in its class
pub number_tells : (class : ℕ → ℕ) (parts : List ℕ) (x y : ℕ) → Contains parts x → number_in class parts x ≡ number_in class parts y → class x ≡ class y
number_tells class [] x y h e = absurd (contains_none x h)
number_tells class (p ∷ parts) x y h e = elim (cases_Bool (nat_eq (class p) (class x))) [
  | inl t ↦ elim (cases_Bool (nat_eq (class p) (class y))) [
    | inl u ↦ sym (eqb-true (class p) (class x) t) ∙ eqb-true (class p) (class y) u
    | inr v ↦ absurd (let z : 0 ≡ suc (number_in class parts y) = sym (number_first class p parts x t) ∙ e ∙ number_later class p parts y v in omega arith)
  ]
  | inr f ↦ elim (cases_Bool (nat_eq (class p) (class y))) [
    | inl u ↦ absurd (let z : suc (number_in class parts x) ≡ 0 = sym (number_later class p parts x f) ∙ e ∙ number_first class p parts y u in omega arith)
    | inr v ↦ elim (contains_cases p parts x h) [
      | inl s ↦ absurd (true≢false (sym (nat_eq-same (class p) (class x) (ap class s)) ∙ f))
      | inr r ↦ number_tells class parts x y r (let z : suc (number_in class parts x) ≡ suc (number_in class parts y) = sym (number_later class p parts x f) ∙ e ∙ number_later class p parts y v in omega arith)
    ]
  ]
]

-- classes that tell the same parts apart have the same numbers
pub number_agrees : (class other : ℕ → ℕ) (parts : List ℕ) (x : ℕ) → ((p : ℕ) → Contains parts p → nat_eq (class p) (class x) ≡ nat_eq (other p) (other x)) → number_in class parts x ≡ number_in other parts x
number_agrees class other [] x h = refl
number_agrees class other (p ∷ parts) x h =
    let rest = number_agrees class other parts x (λ q c. h q (later p parts q c)) in
    ap (λ b. if b then 0 else suc (number_in class parts x)) (h p (contains_here p parts)) ∙ ap (λ n. if nat_eq (other p) (other x) then 0 else suc n) rest
  where
    later : (p : ℕ) (parts : List ℕ) (q : ℕ) → Contains parts q → Contains (p ∷ parts) q
    later p parts q c = (suc c.0, let l = c.1 in omega arith, c.2)

pub numbers_agree : (class other : ℕ → ℕ) (parts : List ℕ) → ((p q : ℕ) → Contains parts p → Contains parts q → nat_eq (class p) (class q) ≡ nat_eq (other p) (other q)) → map (number_in class parts) parts ≡ map (number_in other parts) parts
numbers_agree class other parts h = map_equal (number_in class parts) (number_in other parts) parts (λ x c. number_agrees class other parts x (λ p e. h p x e c))

-- two tests of equality that hold together are one
pub same_tests : (a b m n : ℕ) → (a ≡ b → m ≡ n) → (m ≡ n → a ≡ b) → nat_eq a b ≡ nat_eq m n
same_tests a b m n f g = elim (cases_Bool (nat_eq a b)) [
  | inl t ↦ t ∙ sym (nat_eq-same m n (f (eqb-true a b t)))
  | inr u ↦ elim (cases_Bool (nat_eq m n)) [
    | inl v ↦ absurd (true≢false (sym (nat_eq-same a b (g (eqb-true m n v))) ∙ u))
    | inr w ↦ u ∙ sym w
  ]
]
