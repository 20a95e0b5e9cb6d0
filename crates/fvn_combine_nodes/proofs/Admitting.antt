-- What the classes have that a state admits.
use Rattle.std.proofs.Common.{◌≡◌, ◌≢◌, ◌⊎◌, ℕ, ◌<◌, true, ◌&&◌, ◌||◌, List, [], ◌∷◌, length, map, get_or, refl, sym, ap, ◌∙◌, subst, inl, inr, arith, All}
use Rattle.std.proofs.lemmas.Bool.{eqb-true, or_cases, and_parts, or_from, not_from_false, cases_Bool}
use Rattle.std.proofs.lemmas.List.Elements.{All-head, All-tail}
use Rattle.std.proofs.lemmas.List.Folds.{Any-from_list_any}
use Rattle.fvn_combine_nodes.specs.Classes.{AreTogether}
use Rattle.fvn_combine_nodes.specs.States.{Admits, IsNaming, class_of, is_same, is_apart, is_open}
use Rattle.fvn_combine_nodes.specs.declared.state.State.{State}

-- a name is the number of a node
pub named_within : (s : State) → IsNaming s → (i : ℕ) → i < length s.names → class_of s i < length s.names
named_within s naming i h = let l = (naming.named i h).0 in omega arith

-- nodes of one class so far are in one class
pub admits_same : (s : State) (class : ℕ → ℕ) → Admits s class → (i j : ℕ) → i < length s.names → j < length s.names → class_of s i ≡ class_of s j → class i ≡ class j
admits_same s class h i j l m e = h.together i l ∙ ap class e ∙ sym (h.together j m)

-- nodes that are kept apart are in two classes
pub admits_apart : (s : State) → IsNaming s → (class : ℕ → ℕ) → Admits s class → (i j : ℕ) → i < length s.names → j < length s.names → is_apart s i j ≡ true → class i ≢ class j
admits_apart s naming class h i j l m e together =
    let found = Any-from_list_any (λ p. (is_same s p.0 i && is_same s p.1 j) || (is_same s p.0 j && is_same s p.1 i)) s.apart e in
    let k = found.0 in
    let p = found.1 in
    let at : get_or s.apart k p ≡ p = found.3 in
    let apart : class p.0 ≢ class p.1 = subst (λ q. class q.0 ≢ class q.1) at (h.apart k p found.2) in
    let within : (p.0 < length s.names) × (p.1 < length s.names) = subst (λ q. (q.0 < length s.names) × (q.1 < length s.names)) at (naming.kept k p found.2) in
    let same = λ (a b : ℕ) (u : a < length s.names) (v : b < length s.names) (t : is_same s a b ≡ true). admits_same s class h a b u v (eqb-true (class_of s a) (class_of s b) t) in
    elim (or_cases (is_same s p.0 i && is_same s p.1 j) (is_same s p.0 j && is_same s p.1 i) found.4) [
      | inl t ↦
          let both = and_parts (is_same s p.0 i) (is_same s p.1 j) t in
          apart (same p.0 i within.0 l both.0 ∙ together ∙ sym (same p.1 j within.1 m both.1))
      | inr t ↦
          let both = and_parts (is_same s p.0 j) (is_same s p.1 i) t in
          apart (same p.0 j within.0 m both.0 ∙ sym together ∙ sym (same p.1 i within.1 l both.1))
    ]

-- so are lists of nodes, place by place
pub admits_together : (s : State) (class : ℕ → ℕ) → Admits s class → (ks ls : List ℕ) → All (λ k. k < length s.names) ks → All (λ k. k < length s.names) ls → AreTogether (class_of s) ks ls → AreTogether class ks ls
admits_together s class h [] [] left right e = refl
admits_together s class h [] (l ∷ ls) left right e = cc
admits_together s class h (k ∷ ks) [] left right e = cc
admits_together s class h (k ∷ ks) (l ∷ ls) left right e =
    let P = λ (n : ℕ). n < length s.names in
    let first : class_of s k ≡ class_of s l = cc in
    let rest : map (class_of s) ks ≡ map (class_of s) ls = cc in
    let a : class k ≡ class l = admits_same s class h k l (All-head P k ks left) (All-head P l ls right) first in
    let b : map class ks ≡ map class ls = admits_together s class h ks ls (All-tail P k ks left) (All-tail P l ls right) rest in
    cc

-- the classes so far have what the state has, where nothing that is kept apart is in one class
pub admits_itself : (s : State) → IsNaming s → All (λ p. class_of s p.0 ≢ class_of s p.1) s.apart → Admits s (class_of s)
admits_itself s naming apart = record { together = λ i h. sym (naming.named i h).1; apart = apart }

-- two nodes are in one class, kept apart or open
pub decided : (s : State) (i j : ℕ) → (is_open s i j ≡ true) ⊎ ((class_of s i ≡ class_of s j) ⊎ (is_apart s i j ≡ true))
decided s i j = elim (cases_Bool (is_same s i j)) [
  | inl e ↦ inr (inl (eqb-true (class_of s i) (class_of s j) e))
  | inr n ↦ elim (cases_Bool (is_apart s i j)) [
    | inl a ↦ inr (inr a)
    | inr o ↦ inl (not_from_false (is_same s i j || is_apart s i j) (or_from (is_same s i j) (is_apart s i j) n o))
  ]
]
