-- Each step lowers the value, so that sequences are bounded by it.
use Rattle.std.proofs.Common.{◌≡◌, ◌≤◌, ◌<◌, ◌+◌, ◌-◌, ◌*◌, ℕ, zero, suc, Bool, true, false, List, [], ◌∷◌, ◌++◌, Contains, refl, sym, subst, ap, ◌∙◌, inl, inr, arith}
use Rattle.std.proofs.Math.Nat.{mul-add}
use Rattle.std.proofs.lemmas.Nat.{mul-le}
use Rattle.std.proofs.lemmas.List.Elements.{Contains-append_left, Contains-append_right}
use Rattle.fvn_base.proofs.Membership.{contains_here, contains_cases, contains_none}
use Rattle.fvn_terms.specs.declared.plain.Var.{Var}
use Rattle.fvn_terms.specs.declared.plain.OpId.{OpId}
use Rattle.fvn_terms.specs.declared.declarations.Declarations.{Declarations}
use Rattle.fvn_terms.specs.Term.{Term, Terms, var, app, none, more}
use Rattle.fvn_terms.specs.Substitution.{same_var, Occurs, OccursAmong}
use Rattle.fvn_terms.specs.Places.{AtOnePlace, AmongOnePlace, here, inside, first, later}
use Rattle.fvn_terms.specs.Theory.{Equations, IsRule}
use Rattle.fvn_terms.specs.Rewriting.{Rewrites, TermSequence, IsTerminating}
use Rattle.fvn_terms.proofs.Variables.{same_var_is, same_var_itself}
use Rattle.fvn_weights.specs.Values.{Linear, value, value_from, constant_of, one_at, factor_of, Fits, Falls}
use Rattle.fvn_weights.proofs.Linearity.{value_same, value_apply, value_sum}
use Rattle.fvn_weights.proofs.Kept.{equal_values}

-- the values of the listed variables; others have none
abbrev at_on : (Var → ℕ) → List Var → Var → ℕ
at_on at [] y = 0
at_on at (x ∷ xs) y = at_on at xs y + (at x - at_on at xs x) * one_at x y

-- one place more
more_at : (at : Var → ℕ) (x y : Var) (m n : ℕ) → (b : Bool) → same_var x y ≡ b → m ≤ at y → n ≤ at x → (x ≡ y → n ≡ m) → (m + (at x - n) * one_at x y ≤ at y) × (same_var x y ≡ true → m + (at x - n) * one_at x y ≡ at y)
more_at at x y m n true e p q h =
    let same = same_var_is x y e in
    let value_is : at x ≡ at y = ap at same in
    let part_is : n ≡ m = h same in
    rw e (omega arith, λ t. omega arith)
more_at at x y m n false e p q h = rw e (omega arith, λ t. absurd (let z : false ≡ true = t in cc))

-- no more than the value
at_most : (at : Var → ℕ) (xs : List Var) (y : Var) → at_on at xs y ≤ at y
at_most at [] y = omega arith
at_most at (x ∷ xs) y = (more_at at x y (at_on at xs y) (at_on at xs x) (same_var x y) refl (at_most at xs y) (at_most at xs x) (λ e. ap (at_on at xs) e)).0

-- and just the value at those that are listed
at_listed : (at : Var → ℕ) (xs : List Var) (y : Var) → Contains xs y → at_on at xs y ≡ at y
at_listed at [] y c = absurd (contains_none y c)
at_listed at (x ∷ xs) y c = go (same_var x y) refl (at_listed at xs y) where
  go : (b : Bool) → same_var x y ≡ b → (Contains xs y → at_on at xs y ≡ at y) → at_on at (x ∷ xs) y ≡ at y
  go true e rest = (more_at at x y (at_on at xs y) (at_on at xs x) (same_var x y) refl (at_most at xs y) (at_most at xs x) (λ q. ap (at_on at xs) q)).1 e
  go false e rest = elim (contains_cases x xs y c) [
    | inl s ↦ absurd (let z : false ≡ true = sym e ∙ subst (λ v. same_var x v ≡ true) s (same_var_itself x) in cc)
    | inr m ↦ let is = rest m in rw e (omega arith)
  ]

module _ (w : Linear) (l r : Term) (falls : Falls w l r) where
  falls_on : (at : Var → ℕ) (xs : List Var) → value w (at_on at xs) r < value w (at_on at xs) l
  falls_on at [] =
      let a : value w (at_on at []) r ≡ constant_of w r = value_same w (at_on at []) (λ x. 0) r (λ x o. refl) in
      let b : value w (at_on at []) l ≡ constant_of w l = value_same w (at_on at []) (λ x. 0) l (λ x o. refl) in
      let c = falls.constant in omega arith
  falls_on at (x ∷ xs) =
      let k : ℕ = at x - at_on at xs x in
      let a : value w (at_on at (x ∷ xs)) r ≡ value w (at_on at xs) r + k * factor_of w x r = value_sum w (at_on at xs) (one_at x) k r in
      let b : value w (at_on at (x ∷ xs)) l ≡ value w (at_on at xs) l + k * factor_of w x l = value_sum w (at_on at xs) (one_at x) k l in
      let c : k * factor_of w x r ≤ k * factor_of w x l = mul-le k (factor_of w x r) k (factor_of w x l) (omega arith) (falls.factors x) in
      let before = falls_on at xs in omega arith

abbrev mutual
  variables : Term → List Var
  variables (var x) = x ∷ []
  variables (app f ts) = variables_among ts

  variables_among : Terms → List Var
  variables_among none = []
  variables_among (more t ts) = variables t ++ variables_among ts

mutual
  listed : (x : Var) (t : Term) → Occurs x t → Contains (variables t) x
  listed x (var y) o = subst (λ z. Contains (y ∷ []) z) (sym o) (contains_here y [])
  listed x (app f ts) o = listed_among x ts o

  listed_among : (x : Var) (ts : Terms) → OccursAmong x ts → Contains (variables_among ts) x
  listed_among x none o = elim o [ ]
  listed_among x (more t ts) (inl o) = Contains-append_left (variables t) (variables_among ts) x (listed x t o)
  listed_among x (more t ts) (inr o) = Contains-append_right (variables t) (variables_among ts) x (listed_among x ts o)

-- a list with the variables of two terms
abbrev both : Term → Term → List Var
both l r = variables l ++ variables r

module _ (w : Linear) where
  -- an equation that falls makes the value less, whatever the values of its variables
  pub equation_falls : (l r : Term) → Falls w l r → (at : Var → ℕ) → value w at r < value w at l
  equation_falls l r falls at =
      let xs = both l r in
      let right : value w (at_on at xs) r ≡ value w at r =
      value_same w (at_on at xs) at r (λ x o. at_listed at xs x (Contains-append_right (variables l) (variables r) x (listed x r o))) in
      let left : value w (at_on at xs) l ≡ value w at l =
      value_same w (at_on at xs) at l (λ x o. at_listed at xs x (Contains-append_left (variables l) (variables r) x (listed x l o))) in
      let less = falls_on w l r falls at xs in omega arith

  -- a positive multiple keeps the order
  multiple : (c a b rest : ℕ) → 1 ≤ c → a < b → c * a + rest < c * b + rest
  multiple c a b rest p h =
      let more : c * (a + 1) ≤ c * b = mul-le c (a + 1) c b (omega arith) (omega arith) in
      let split : c * (a + 1) ≡ c * a + c * 1 = mul-add c a 1 in
      omega arith

  module _ (d : Declarations) (equations : Equations) (fit : (f : OpId) → Fits d w f)
      (fall : (left right : Term) → Contains equations (left, right) → Falls w left right) (at : Var → ℕ) where
    rule_falls : (t u : Term) → IsRule d equations t u → value w at u < value w at t
    rule_falls t u r =
        let from : value w at t ≡ value w (λ x. value w at (r.by x)) r.left = ap (value w at) r.from ∙ value_apply w at r.by r.left in
        let to : value w at u ≡ value w (λ x. value w at (r.by x)) r.right = ap (value w at) r.to ∙ value_apply w at r.by r.right in
        let less = equation_falls r.left r.right (fall r.left r.right r.listed) (λ x. value w at (r.by x)) in omega arith

    mutual
      place_falls : {t u : Term} → AtOnePlace (IsRule d equations) t u → value w at u < value w at t
      place_falls (here {t} {u} r) = rule_falls t u r
      place_falls (inside {f} {ts} {us} p) = let less = among_falls f 0 p in omega arith

      among_falls : {ts us : Terms} (f : OpId) (i : ℕ) → AmongOnePlace (IsRule d equations) ts us → value_from w at f i us < value_from w at f i ts
      among_falls f i (first {t} {u} {ts} p) = multiple (w.coefficient f i) (value w at u) (value w at t) (value_from w at f (i + 1) ts) ((fit f).positive i) (place_falls p)
      among_falls f i (later {t} {ts} {us} p) = let less = among_falls f (i + 1) p in omega arith

    step_falls : (t u : Term) → Rewrites d equations t u → value w at u < value w at t
    step_falls t u s =
        let before = equal_values d w fit at t s.from s.before in
        let after = equal_values d w fit at s.to u s.after in
        let less = place_falls s.replaced in omega arith

    -- a sequence has at most as many steps as the value of its start
    pub sequence_falls : (k : ℕ) (t u : Term) → TermSequence d equations k t u → value w at u + k ≤ value w at t
    sequence_falls zero t u equal = let same = equal_values d w fit at t u equal in omega arith
    sequence_falls (suc k) t u s =
        let less = step_falls t s.0 s.1.0 in
        let rest = sequence_falls k s.0 u s.1.1 in omega arith

-- where weights fit and each equation falls, the equations terminate
pub fitting_weights_terminate : (d : Declarations) (equations : Equations) (w : Linear) → ((f : OpId) → Fits d w f) →
    ((left right : Term) → Contains equations (left, right) → Falls w left right) → IsTerminating d equations
fitting_weights_terminate d equations w fit fall t is_term =
    (value w (λ x. 0) t, λ k u s. let most = sequence_falls w d equations fit fall (λ x. 0) k t u s in omega arith)
