-- How chains are made, and what keys have to do with what is asked.
use Rattle.std.proofs.Common.{◌≡◌, ◌≢◌, ℕ, ◌+◌, ◌%◌, ◌<◌, ◌≤◌, List, [], ◌∷◌, length, map, get_or, set, refl, sym, ap, ◌∙◌, subst, inl, inr, arith}
use Rattle.std.proofs.lemmas.Bool.{cases_eq, cases_order}
use Rattle.std.proofs.lemmas.Nat.{mod_below}
use Rattle.std.proofs.lemmas.List.{get_or-set_same, get_or-set_other}
use Rattle.fvn_combine_nodes.specs.Classes.{AreTogether}
use Rattle.fvn_combine_tree.specs.inner.Chains.{mixed, mixed_all}

-- the last node so far under each key
abbrev pub IsLast : (count i : ℕ) → (keys last : List ℕ) → Type 0
IsLast count i keys last = (j : ℕ) → j < i → j < get_or last (get_or keys j 0 % count) 0

-- the first nodes are chained
abbrev pub IsBefore : (i : ℕ) → (keys before : List ℕ) → Type 0
IsBefore i keys before = (q j : ℕ) → q < i → j < q → get_or keys j 0 ≡ get_or keys q 0 → j < get_or before q 0

module _ (count i : ℕ) (keys last before : List ℕ) (within : i < count) where
  pub last_more : length last ≡ count → IsLast count i keys last → IsLast count (i + 1) keys (set last (get_or keys i 0 % count) (i + 1))
  last_more whole h j l =
      let slot : ℕ = get_or keys i 0 % count in
      let here : ℕ = get_or keys j 0 % count in
      elim (cases_eq here slot) [
        | inl e ↦
            let b : slot < count = mod_below (get_or keys i 0) count (omega arith) in
            let v : get_or (set last slot (i + 1)) here 0 ≡ i + 1 = ap (λ n. get_or (set last slot (i + 1)) n 0) e ∙ get_or-set_same last slot (i + 1) 0 (omega arith) in
            subst (λ n. j < n) (sym v) l
        | inr o ↦
            let other : j ≢ i = λ e. o (ap (λ n. get_or keys n 0 % count) e) in
            let v : get_or (set last slot (i + 1)) here 0 ≡ get_or last here 0 = get_or-set_other last slot here (i + 1) 0 o in
            subst (λ n. j < n) (sym v) (h j (below j other l))
      ]
    where
      below : (j : ℕ) → j ≢ i → j < i + 1 → j < i
      below j other l = elim (cases_eq j i) [ inl e ↦ absurd (other e) | inr o ↦ omega (arith, o) ]

  pub before_more : length before ≡ count → IsLast count i keys last → IsBefore i keys before → IsBefore (i + 1) keys (set before i (get_or last (get_or keys i 0 % count) 0))
  before_more whole h b q j l m e =
      let v : ℕ = get_or last (get_or keys i 0 % count) 0 in
      elim (cases_eq q i) [
        | inl is ↦
            let low : j < i = subst (λ n. j < n) is m in
            let same : get_or keys j 0 ≡ get_or keys i 0 = e ∙ ap (λ n. get_or keys n 0) is in
            let found : j < v = subst (λ k. j < get_or last (k % count) 0) same (h j low) in
            let at : get_or (set before i v) q 0 ≡ v = ap (λ n. get_or (set before i v) n 0) is ∙ get_or-set_same before i v 0 (omega arith) in
            subst (λ n. j < n) (sym at) found
        | inr o ↦
            let at : get_or (set before i v) q 0 ≡ get_or before q 0 = get_or-set_other before i q v 0 o in
            subst (λ n. j < n) (sym at) (b q j (below q o l) m e)
      ]
    where
      below : (q : ℕ) → q ≢ i → q < i + 1 → q < i
      below q other l = elim (cases_eq q i) [ inl e ↦ absurd (other e) | inr o ↦ omega (arith, o) ]

-- arguments in the same classes make one key
pub mixed_together : (class : ℕ → ℕ) (key : ℕ) (ks ls : List ℕ) → AreTogether class ks ls → mixed_all class key ks ≡ mixed_all class key ls
mixed_together class key [] [] e = refl
mixed_together class key [] (l ∷ ls) e = cc
mixed_together class key (k ∷ ks) [] e = cc
mixed_together class key (k ∷ ks) (l ∷ ls) e =
    let first : class k ≡ class l = cc in
    let rest : map class ks ≡ map class ls = cc in
    ap (λ n. mixed_all class (mixed key n) ks) first ∙ mixed_together class (mixed key (class l)) ks ls rest

-- what holds from one end on, at the node below it, and of nothing else from the next end on
pub from_next_end : (keys : List ℕ) (P : ℕ → Type 0) (i end j next : ℕ) → j + 1 ≡ end → ((m : ℕ) → m < j → get_or keys m 0 ≡ get_or keys i 0 → m < next) → ((m : ℕ) → end ≤ m → m < i → get_or keys m 0 ≡ get_or keys i 0 → P m) → P j → (m : ℕ) → next ≤ m → m < i → get_or keys m 0 ≡ get_or keys i 0 → P m
from_next_end keys P i end j next is above h p m low l e = elim (cases_order m j) [
  | inl same ↦ subst P (sym same) p
  | inr o ↦ elim o [
    | inl lt ↦ absurd (let n = above m lt e in omega arith)
    | inr gt ↦ h m (omega arith) l e
  ]
]
