-- A set of solutions that is complete and apart is shortest.
use Rattle.std.proofs.Common.{◌≡◌, ℕ, ◌<◌, ◌≤◌, List, length, get_or, sym, subst, inl, inr, ◌∙◌, arith}
use Rattle.std.specs.List.{Contains}
use Rattle.std.proofs.lemmas.Bool.{cases_order}
use Rattle.std.proofs.lemmas.List.{get_or_default}
use Rattle.fvn_base.proofs.Pigeonhole.{length-le_numbered}
use Rattle.fvn_terms.specs.CompleteSets.{IsCompleteSet, IsApart, IsShortest}

module _ {A : Type 0} (IsSolution : A → Type 0) (IsInstanceOf : A → A → Type 0) (transitive : (a b c : A) → IsInstanceOf a b → IsInstanceOf b c → IsInstanceOf a c) where
  module _ (set others : List A) (whole : IsCompleteSet IsSolution IsInstanceOf set) (apart : IsApart IsInstanceOf set) (given : IsCompleteSet IsSolution IsInstanceOf others) where
    -- x is an instance of the member of the other set with this number
    abbrev Under : A → ℕ → Type 0
    Under x k = (k < length others) × IsInstanceOf x (get_or others k x)

    under : (x : A) → Contains set x → (k : ℕ) × ((k < length others) × Under x k)
    under x m =
        let solution : IsSolution x = subst IsSolution m.2 (whole.sound m.0 x m.1) in
        let a = given.complete x solution in
        let k = a.0 in
        let within : k < length others = a.2 in
        let here : IsInstanceOf x (get_or others k x) = subst (IsInstanceOf x) (sym (get_or_default others k x a.1 within ∙ a.3)) a.4 in
        (k, (within, (within, here)))

    -- two members are under no one
    none_shared : (i j : ℕ) (d : A) → i < j → j < length set → (k : ℕ) → Under (get_or set i d) k → Under (get_or set j d) k → ⊥
    none_shared i j d l m k a b =
        let o = get_or others k d in
        let within : k < length others = a.0 in
        let first : IsInstanceOf (get_or set i d) o = subst (IsInstanceOf (get_or set i d)) (get_or_default others k (get_or set i d) d within) a.1 in
        let second : IsInstanceOf (get_or set j d) o = subst (IsInstanceOf (get_or set j d)) (get_or_default others k (get_or set j d) d within) b.1 in
        let up = whole.complete o (given.sound k d within) in
        let g = up.0 in
        let at : get_or set g d ≡ up.1 = get_or_default set g d up.1 up.2 ∙ up.3 in
        let over : IsInstanceOf o (get_or set g d) = subst (IsInstanceOf o) (sym at) up.4 in
        let x = transitive (get_or set i d) o (get_or set g d) first over in
        let y = transitive (get_or set j d) o (get_or set g d) second over in
        elim (cases_order g i) as (λ _. ⊥) [
          | inl e ↦ (apart i j d l m).1 (subst (λ n. IsInstanceOf (get_or set j d) (get_or set n d)) e y)
          | inr (inl before) ↦ (apart g i d before (omega (arith, l, m))).1 x
          | inr (inr after) ↦ (apart i g d after up.2).0 x
        ]

    fewest : length set ≤ length others
    fewest = length-le_numbered Under (length others) set under none_shared

  pub apart_and_complete_is_shortest : (set : List A) → IsCompleteSet IsSolution IsInstanceOf set → IsApart IsInstanceOf set → IsShortest IsSolution IsInstanceOf set
  apart_and_complete_is_shortest set whole apart others given = fewest set others whole apart given
