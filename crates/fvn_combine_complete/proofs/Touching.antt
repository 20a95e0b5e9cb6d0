-- Solutions that are zero in all constant columns.
use Rattle.std.proofs.Common.{◌≡◌, ◌∙◌, sym, AllPairs, Option, ◌≢◌, ℕ, ◌+◌, List, [], ◌∷◌, get_or, refl, ap, subst, inl, inr, arith, Contains}
use Rattle.std.specs.Prelude.{Bool, ◌↔◌, nat_lt, cond}
use Rattle.std.proofs.lemmas.Bool.{cases_eq, lt-ltb}
use Rattle.std.proofs.lemmas.List.{get_or_default}
use Rattle.std.proofs.lemmas.List.Sums.{sum_by-cons}
use Rattle.fvn_base.proofs.Membership.{contains_here, contains_later, contains_cases, contains_none}
use Rattle.fvn_terms.specs.declared.plain.OpId.{OpId}
use Rattle.fvn_terms.specs.declared.declarations.Declarations.{Declarations}
use Rattle.fvn_acunify.specs.ValidChoice.{touched}
use Rattle.fvn_flat.specs.SolvedLists.{component}
use Rattle.fvn_combine_nodes.specs.Table.{NodeTable}
use Rattle.fvn_combine_choices.specs.Binding.{IsConstant, AreAsked}
use Rattle.fvn_combine_complete.proofs.Meeting.{component_at}

first_touched : (c : ℕ) (constants v : List ℕ) → touched (c ∷ constants) v ≡ cond (nat_lt 0 (get_or v c 0)) 1 0 + touched constants v
first_touched c constants v = sum_by-cons (λ j. cond (nat_lt 0 (get_or v j 0)) 1 0) c constants

pub touched_none : (constants v : List ℕ) → touched constants v ≡ 0 → (c : ℕ) → Contains constants c → get_or v c 0 ≡ 0
touched_none [] v e c m = absurd (contains_none c m)
touched_none (k ∷ constants) v e c m = elim (contains_cases k constants c m) [
  | inl same ↦ subst (λ j. get_or v j 0 ≡ 0) same zero_here
  | inr rest ↦ touched_none constants v (let s = first_touched k constants v in omega (arith, s, e)) c rest
]
  where
    zero_here : get_or v k 0 ≡ 0
    zero_here = elim (cases_eq (get_or v k 0) 0) [
      | inl z ↦ z
      | inr n ↦ absurd (
          let one = ap {B = ℕ} (λ b. cond b 1 0) (lt-ltb 0 (get_or v k 0) (omega (arith, n))) in
          let s = first_touched k constants v in
          omega (arith, one, s, e))
    ]

pub touched_from : (constants v : List ℕ) → ((c : ℕ) → Contains constants c → get_or v c 0 ≡ 0) → touched constants v ≡ 0
touched_from [] v h = refl
touched_from (k ∷ constants) v h =
    let s = first_touched k constants v in
    let z = ap {B = ℕ} (λ n. cond (nat_lt 0 n) 1 0) (h k (contains_here k constants)) in
    let rest = touched_from constants v (λ c m. h c (contains_later k constants c m)) in
    omega (arith, s, z, rest)

-- a solution is zero in all constant columns exactly where it has no constant
pub bare_is : (d : Declarations) (t : NodeTable) (class : ℕ → ℕ) (tag : ℕ → Option OpId) (f : OpId) (columns : List ℕ) → AllPairs ◌≢◌ columns → ((k : ℕ) → IsConstant d t class tag f k → Contains columns k)
    → (constants : List ℕ) (may_be_zero : List Bool) → AreAsked d t class tag f columns constants may_be_zero → (v : List ℕ) → (touched constants v ≡ 0) ↔ ((k : ℕ) → IsConstant d t class tag f k → component columns v k ≡ 0)
bare_is d t class tag f columns distinct listed constants may_be_zero asked v = (
  λ none k h.
      let m = listed k h in
      let of : get_or columns m.0 0 ≡ k = get_or_default columns m.0 0 k m.1 ∙ m.2 in
      ap (component columns v) (sym of)
      ∙ component_at columns v distinct m.0 m.1
      ∙ touched_none constants v none m.0 ((asked.are_constant m.0).1 (m.1, subst (IsConstant d t class tag f) (sym of) h)),
  λ bare. touched_from constants v (λ j m.
      let r = (asked.are_constant j).0 m in
      sym (component_at columns v distinct j r.0) ∙ bare (get_or columns j 0) r.1),
)
