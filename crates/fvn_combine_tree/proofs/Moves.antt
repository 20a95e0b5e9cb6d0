-- Moves one after another.
use Rattle.std.proofs.Common.{◌≡◌, ◌≢◌, ℕ, ◌<◌, sum, All, refl, sym, ap, ◌∙◌, subst, arith}
use Rattle.fvn_combine_nodes.specs.States.{Admits, IsNaming, class_of}
use Rattle.fvn_combine_nodes.specs.declared.state.State.{State}
use Rattle.fvn_combine_tree.specs.declared.closing.Move.{Move}
use Rattle.fvn_combine_tree.specs.declared.closing.Move.TheVariants.{Stays, Changes, Clashes}
use Rattle.fvn_combine_tree.specs.inner.Closing.{HasSameNodes, IsForced, HasMoved, then_move}

pub same_nodes : (s : State) → IsNaming s → HasSameNodes s s
same_nodes s naming = record { whole = refl; naming = naming; apart = refl }

pub same_nodes-trans : (a b c : State) → HasSameNodes a b → HasSameNodes b c → HasSameNodes a c
same_nodes-trans a b c p q = record { whole = q.whole ∙ p.whole; naming = q.naming; apart = q.apart ∙ p.apart }

-- the nodes stay, whatever the move
pub moved_nodes : (Holds : (ℕ → ℕ) → Type 0) (Settled : State → Type 0) (a b : State) (m : Move) → IsNaming a → HasMoved Holds Settled a b m → HasSameNodes a b
moved_nodes Holds Settled a b Stays naming h = subst (HasSameNodes a) (sym h.0) (same_nodes a naming)
moved_nodes Holds Settled a b Changes naming h = h.0
moved_nodes Holds Settled a b Clashes naming h = h.0

pub forced-refl : (Holds : (ℕ → ℕ) → Type 0) (a : State) → IsNaming a → IsForced Holds a a
forced-refl Holds a naming = record { coarser = λ k l. (naming.named k l).1; forced = λ class holds h. h }

pub forced-trans : (Holds : (ℕ → ℕ) → Type 0) (a b c : State) → IsNaming a → HasSameNodes a b → IsForced Holds a b → IsForced Holds b c → IsForced Holds a c
forced-trans Holds a b c naming nodes p q = record {
  coarser = λ k l.
      let w = nodes.whole in
      let m = (naming.named k l).0 in
      sym (q.coarser (class_of a k) (omega arith)) ∙ ap (class_of c) (p.coarser k l) ∙ q.coarser k (omega arith);
  forced = λ class holds h. q.forced class holds (p.forced class holds h);
}

-- what the second state has the first has
pub forced_grows : (Holds : (ℕ → ℕ) → Type 0) (a b : State) → IsNaming a → HasSameNodes a b → IsForced Holds a b → (class : ℕ → ℕ) → Admits b class → Admits a class
forced_grows Holds a b naming nodes p class h =
    let w = nodes.whole in
    record {
      together = λ k l.
          let m = (naming.named k l).0 in
          h.together k (omega arith) ∙ ap class (sym (p.coarser k l)) ∙ sym (h.together (class_of a k) (omega arith));
      apart = subst (All (λ p. class p.0 ≢ class p.1)) nodes.apart h.apart;
    }

-- two moves are one
pub moved-then : (Holds : (ℕ → ℕ) → Type 0) (S T : State → Type 0) (a b c : State) (m n : Move) → IsNaming a → HasMoved Holds S a b m → HasMoved Holds T b c n → HasMoved Holds (λ s. S s × T s) a c (then_move m n)
moved-then Holds S T a b c Stays Stays naming p q = (q.0 ∙ p.0, (p.1, subst T p.0 q.1))
moved-then Holds S T a b c Stays Changes naming p q = (
  subst (λ s. HasSameNodes s c) p.0 q.0,
  subst (λ s. IsForced Holds s c) p.0 q.1,
  subst (λ (s : State). sum c.names < sum s.names) p.0 q.2,
)
moved-then Holds S T a b c Stays Clashes naming p q = (
  subst (λ s. HasSameNodes s c) p.0 q.0,
  λ class holds h. q.1 class holds (subst (λ s. Admits s class) (sym p.0) h),
)
moved-then Holds S T a b c Changes Stays naming p q = (
  subst (HasSameNodes a) (sym q.0) p.0,
  subst (IsForced Holds a) (sym q.0) p.1,
  subst (λ (s : State). sum s.names < sum a.names) (sym q.0) p.2,
)
moved-then Holds S T a b c Changes Changes naming p q = (
  same_nodes-trans a b c p.0 q.0,
  forced-trans Holds a b c naming p.0 p.1 q.1,
  let x = p.2 in let y = q.2 in omega arith,
)
moved-then Holds S T a b c Changes Clashes naming p q = (same_nodes-trans a b c p.0 q.0, λ class holds h. q.1 class holds (p.1.forced class holds h))
moved-then Holds S T a b c Clashes n naming p q = (same_nodes-trans a b c p.0 (moved_nodes Holds T b c n p.0.naming q), p.1)

-- with more that holds, and less that is settled
pub moved-weaker : (Holds Known : (ℕ → ℕ) → Type 0) (S T : State → Type 0) (a b : State) (m : Move) → ((class : ℕ → ℕ) → Admits a class → Known class → Holds class) → (S a → T a) → HasMoved Holds S a b m → HasMoved Known T a b m
moved-weaker Holds Known S T a b Stays stronger weaker h = (h.0, weaker h.1)
moved-weaker Holds Known S T a b Changes stronger weaker h = (
  h.0,
  record { coarser = h.1.coarser; forced = λ class known admits. h.1.forced class (stronger class admits known) admits },
  h.2,
)
moved-weaker Holds Known S T a b Clashes stronger weaker h = (h.0, λ class known admits. h.1 class (stronger class admits known) admits)

-- where there is no partition, it does not matter what was to be settled
pub moved_clash : (Holds : (ℕ → ℕ) → Type 0) (S T : State → Type 0) (a b : State) (m : Move) → m ≡ Clashes → HasMoved Holds S a b m → HasMoved Holds T a b m
moved_clash Holds S T a b m e h = subst (HasMoved Holds T a b) (sym e) (subst (HasMoved Holds S a b) e h)
