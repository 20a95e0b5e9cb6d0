-- When it is decided which way commutative nodes meet.
use Rattle.std.proofs.Common.{◌≡◌, ◌≢◌, ◌⊎◌, ℕ, ◌<◌, true, false, not, ◌&&◌, ◌||◌, List, [], ◌∷◌, length, sym, ap, ◌∙◌, subst, inl, inr, Option, Some, None, slice_get}
use Rattle.std.proofs.lemmas.Bool.{eq-eqb, eqb-true, or_left, and_parts, and_from}
use Rattle.std.proofs.lemmas.Option.{slice_get_within}
use Rattle.fvn_terms.specs.declared.plain.Var.{Var as Variable}
use Rattle.fvn_terms.specs.declared.plain.OpId.{OpId}
use Rattle.fvn_terms.specs.declared.declarations.Axioms.TheVariants.{Comm}
use Rattle.fvn_terms.specs.declared.declarations.Declarations.{Declarations}
use Rattle.fvn_terms.specs.Signature.{axioms}
use Rattle.fvn_combine_nodes.specs.Table.{NodeTable, IsOver}
use Rattle.fvn_combine_nodes.specs.Classes.{MeetEitherWay, IsNodePartition}
use Rattle.fvn_combine_nodes.specs.States.{class_of, is_same, is_apart, IsOpen, IsClosed}
use Rattle.fvn_combine_nodes.specs.declared.state.State.{State}
use Rattle.fvn_combine_nodes.specs.declared.table.Node.TheVariants.{Var, App}
use Rattle.fvn_combine_questions.specs.inner.Swaps.{AreDecided, IsOpenFirst, IsUndecidedAt, IsNoSwap}
use Rattle.fvn_combine_nodes.proofs.Nodes.{over_unique}

-- nodes that are open are in two classes
open_differ : (s : State) (i j : ℕ) → IsOpen s i j → class_of s i ≢ class_of s j
open_differ s i j o e =
    let same : is_same s i j ≡ true = eq-eqb (class_of s i) (class_of s j) e in
    let either : (is_same s i j || is_apart s i j) ≡ true = or_left (is_same s i j) (is_apart s i j) same in
    let z : true ≡ false = sym o ∙ ap not either in
    cc

-- where the first are open and the nodes do not meet crosswise, they meet neither way
pub neither_way : (s : State) (a b v w : ℕ) → IsOpen s a v → (is_same s a w && is_same s b v) ≡ false → MeetEitherWay (class_of s) a b v w → ⊥
neither_way s a b v w o n (inl m) = open_differ s a v o m.0
neither_way s a b v w o n (inr m) =
    let z : true ≡ false = sym (and_from (is_same s a w) (is_same s b v) (eq-eqb (class_of s a) (class_of s w) m.0) (eq-eqb (class_of s b) (class_of s v) m.1)) ∙ n in
    cc

-- where they meet crosswise
pub crosswise : (s : State) (a b v w : ℕ) → (is_same s a w && is_same s b v) ≡ true → MeetEitherWay (class_of s) a b v w
crosswise s a b v w e =
    let both = and_parts (is_same s a w) (is_same s b v) e in
    inr (eqb-true (class_of s a) (class_of s w) both.0, eqb-true (class_of s b) (class_of s v) both.1)

module _ (d : Declarations) (t : NodeTable) where
  -- a variable has no swap
  pub no_swap_variable : (i : ℕ) (x : Variable) → slice_get t.nodes i ≡ Some (Var x) → IsNoSwap d t i
  no_swap_variable i x e f ks over is = absurd (let p : Some (Var x) ≡ Some (App f ks) = sym e ∙ over in cc)

  -- and neither has a node that another operator heads
  pub no_swap_over : (i : ℕ) (f : OpId) (ks : List ℕ) → IsOver t.nodes i f ks → (axioms d f ≡ Comm → ⊥) → IsNoSwap d t i
  no_swap_over i f ks over other g ls over' is = other (ap (axioms d) (over_unique t.nodes i f g ks ls over over').0 ∙ is)

module _ (d : Declarations) (t : NodeTable) (s : State) where
  pub decided_variable : (i j : ℕ) (x : Variable) → slice_get t.nodes i ≡ Some (Var x) → AreDecided d t s i j
  decided_variable i j x e f g ks ls a b = absurd (let p : Some (Var x) ≡ Some (App f ks) = sym e ∙ a in cc)

  pub decided_variable_right : (i j : ℕ) (x : Variable) → slice_get t.nodes j ≡ Some (Var x) → AreDecided d t s i j
  decided_variable_right i j x e f g ks ls a b = absurd (let p : Some (Var x) ≡ Some (App g ls) = sym e ∙ b in cc)

  module _ (closed : IsClosed d t s) where
    -- nodes of a closed state are as partitions ask, where nothing is open that decides which way they meet
    pub decided_from : (i j : ℕ) (f g : OpId) (ks ls : List ℕ) → IsOver t.nodes i f ks → IsOver t.nodes j g ls →
        (class_of s i ≡ class_of s j → axioms d f ≡ Comm → f ≡ g → (a b v w : ℕ) → ks ≡ a ∷ b ∷ [] → ls ≡ v ∷ w ∷ [] → MeetEitherWay (class_of s) a b v w ⊎ (IsOpen s a v → ⊥)) → AreDecided d t s i j
    decided_from i j f g ks ls left right nothing f' g' ks' ls' left' right' =
        let fit = closed.partition.nodes i j f' g' ks' ls' left' right' in
        let one = over_unique t.nodes i f' f ks' ks left' left in
        let two = over_unique t.nodes j g' g ls' ls right' right in
        record {
          congruent = fit.congruent;
          alike = λ e.
              let alike = fit.alike e in
              record {
                one_head = alike.one_head;
                free = alike.free;
                commutative = λ is same a b v w p q. elim (alike.commutative is same a b v w p q) [
                  | inl m ↦ inl m
                  | inr o ↦ elim (nothing e (sym (ap (axioms d) one.0) ∙ is) (sym one.0 ∙ same ∙ two.0) a b v w (sym one.1 ∙ p) (sym two.1 ∙ q)) [
                    | inl m ↦ inl m
                    | inr n ↦ absurd (n o)
                  ]
                ];
              };
        }

    pub decided_partition : ((i j : ℕ) → i < length t.nodes → j < length t.nodes → AreDecided d t s i j) → IsNodePartition d t (class_of s)
    decided_partition all = record {
      sides = closed.partition.sides;
      nodes = λ i j f g ks ls a b. all i j (slice_get_within t.nodes i (App f ks) a) (slice_get_within t.nodes j (App g ls) b) f g ks ls a b;
    }

    -- the first arguments, or none where these are not open
    pub swap_from : (i j : ℕ) (f g : OpId) (ks ls : List ℕ) → IsOver t.nodes i f ks → IsOver t.nodes j g ls → f ≡ g → axioms d f ≡ Comm → class_of s i ≡ class_of s j → (r : Option (ℕ × ℕ)) → IsOpenFirst s ks ls r → IsUndecidedAt d t s i j r
    swap_from i j f g ks ls left right one is e None h = decided_from i j f g ks ls left right (λ _ _ _ a b v w p q. h a b v w p q)
    swap_from i j f g ks ls left right one is e (Some p) h = record {
      left = i;
      right = j;
      operator = f;
      left_second = h.0;
      right_second = h.1;
      commutative = is;
      left_is = subst (IsOver t.nodes i f) h.2 left;
      right_is = subst (λ o. IsOver t.nodes j o (p.1 ∷ h.1 ∷ [])) (sym one) (subst (IsOver t.nodes j g) h.3 right);
      same = e;
      undecided = h.4;
      neither = h.5;
    }
