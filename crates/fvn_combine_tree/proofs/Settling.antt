-- What is settled of two nodes, and what partitions ask of them.
use Rattle.std.proofs.Common.{◌≡◌, ◌≢◌, ℕ, ◌%◌, ◌<◌, zero-le, Bool, true, false, not, ◌&&◌, ◌||◌, nat_eq, List, [], ◌∷◌, length, map, refl, sym, ap, ◌∙◌, subst, inl, inr, arith, All, Some, slice_get}
use Rattle.std.specs.List.{list_any}
use Rattle.std.proofs.lemmas.Bool.{cases_eq, cases_order, eqb-true, eq-eqb, ne_eqb, both_ways, or_parts}
use Rattle.std.proofs.lemmas.List.Elements.{All-nil, All-cons}
use Rattle.std.proofs.lemmas.List.Folds.{Any-from_list_any}
use Rattle.std.proofs.lemmas.Option.{slice_get_within}
use Rattle.fvn_terms.specs.declared.plain.Var.{Var as Variable}
use Rattle.fvn_terms.specs.declared.plain.OpId.{OpId}
use Rattle.fvn_terms.specs.declared.declarations.Declarations.{Declarations}
use Rattle.fvn_terms.specs.Signature.{axioms}
use Rattle.fvn_combine_nodes.specs.Table.{NodeTable, IsOver}
use Rattle.fvn_combine_nodes.specs.Classes.{AreTogether, MeetEitherWay, AreAlike, FitTogether, IsNodePartition}
use Rattle.fvn_combine_nodes.specs.States.{Admits, IsNaming, class_of, is_same, is_apart, is_open, IsOpen, IsClosed}
use Rattle.fvn_combine_nodes.specs.declared.state.State.{State}
use Rattle.fvn_combine_nodes.specs.declared.table.Node.TheVariants.{Var, App}
use Rattle.fvn_combine_tree.specs.declared.chains.By.TheVariants.{Class, Arguments}
use Rattle.fvn_combine_tree.specs.inner.Chains.{AreKeys, key_of, mixed_all}
use Rattle.fvn_combine_tree.specs.inner.Rounds.{AreSettled, AreChainsSettled, IsSettledBy, IsAllSettled}
use Rattle.fvn_combine_tree.specs.declared.chains.By.{By}
use Rattle.fvn_combine_nodes.proofs.Nodes.{over_unique}
use Rattle.fvn_combine_tree.proofs.Chaining.{mixed_together}
use Rattle.fvn_combine_nodes.proofs.Admitting.{admits_same, admits_together}

-- whether two nodes are open does not depend on their order
eq_swap : (a b : ℕ) → nat_eq a b ≡ nat_eq b a
eq_swap a b = elim (cases_eq a b) [
  | inl e ↦ eq-eqb a b e ∙ sym (eq-eqb b a (sym e))
  | inr n ↦ ne_eqb a b n ∙ sym (ne_eqb b a (λ e. n (sym e)))
]

or_swap : (x y : Bool) → (x || y) ≡ (y || x)
or_swap true true = refl
or_swap true false = refl
or_swap false true = refl
or_swap false false = refl

apart_swap : (s : State) (i j : ℕ) (ps : List (ℕ × ℕ)) → list_any (λ p. (is_same s p.0 i && is_same s p.1 j) || (is_same s p.0 j && is_same s p.1 i)) ps ≡ list_any (λ p. (is_same s p.0 j && is_same s p.1 i) || (is_same s p.0 i && is_same s p.1 j)) ps
apart_swap s i j [] = refl
apart_swap s i j (p ∷ ps) =
    ap (λ b. b || list_any (λ p. (is_same s p.0 i && is_same s p.1 j) || (is_same s p.0 j && is_same s p.1 i)) ps) (or_swap (is_same s p.0 i && is_same s p.1 j) (is_same s p.0 j && is_same s p.1 i))
    ∙ ap (λ b. ((is_same s p.0 j && is_same s p.1 i) || (is_same s p.0 i && is_same s p.1 j)) || b) (apart_swap s i j ps)

pub open_swap : (s : State) (i j : ℕ) → is_open s i j ≡ is_open s j i
open_swap s i j = ap (λ b. not (b || is_apart s i j)) (eq_swap (class_of s i) (class_of s j)) ∙ ap (λ b. not (is_same s j i || b)) (apart_swap s i j s.apart)

-- a node is not open with itself
pub open_itself : (s : State) (i : ℕ) → is_open s i i ≡ false
open_itself s i = ap (λ b. not (b || is_apart s i i)) (eq-eqb (class_of s i) (class_of s i) refl)

meet_swap : (class : ℕ → ℕ) (a b v w : ℕ) → MeetEitherWay class a b v w → MeetEitherWay class v w a b
meet_swap class a b v w (inl m) = inl (sym m.0, sym m.1)
meet_swap class a b v w (inr m) = inr (sym m.1, sym m.0)

module _ (d : Declarations) (t : NodeTable) (s : State) where
  alike_swap : (f g : OpId) (ks ls : List ℕ) → AreAlike d (IsOpen s) (class_of s) f g ks ls → AreAlike d (IsOpen s) (class_of s) g f ls ks
  alike_swap f g ks ls h = record {
    one_head = λ a b. sym (h.one_head b a);
    free = λ e same. sym (h.free (ap (axioms d) (sym same) ∙ e) (sym same));
    commutative = λ e same a b v w p q. elim (h.commutative (ap (axioms d) (sym same) ∙ e) (sym same) v w a b q p) [
      | inl m ↦ inl (meet_swap (class_of s) v w a b m)
      | inr o ↦ inr (open_swap s a v ∙ o)
    ];
  }

  pub settled_swap : (i j : ℕ) → AreSettled d t i j s → AreSettled d t j i s
  settled_swap i j h f g ks ls a b =
      let fit = h g f ls ks b a in
      record {
        congruent = λ same e. sym (fit.congruent (sym same) (sym e));
        alike = λ e. alike_swap g f ls ks (fit.alike (sym e));
      }

  pub settled_itself : (i : ℕ) → AreSettled d t i i s
  settled_itself i f g ks ls a b =
      let one = over_unique t.nodes i f g ks ls a b in
      record {
        congruent = λ _ _. refl;
        alike = λ _. record {
          one_head = λ _ _. one.0;
          free = λ _ _. ap (map (class_of s)) one.1;
          commutative = λ _ _ x y v w p q. let r : x ∷ y ∷ [] ≡ v ∷ w ∷ [] = sym p ∙ one.1 ∙ q in let xv : x ≡ v = cc in let yw : y ≡ w = cc in inl (inl (ap (class_of s) xv, ap (class_of s) yw));
        };
      }

  -- where each node is settled with those before it, all are
  pub settled_everywhere : IsAllSettled d t s → (i j : ℕ) → i < length t.nodes → j < length t.nodes → AreSettled d t i j s
  settled_everywhere h i j l m = elim (cases_order i j) [
    | inl e ↦ subst (λ k. AreSettled d t i k s) e (settled_itself i)
    | inr o ↦ elim o [
      | inl lt ↦ settled_swap j i (h j m i lt)
      | inr gt ↦ h i l j gt
    ]
  ]

  pub closed_from : length s.names ≡ length t.nodes → IsNaming s → All (λ p. class_of s p.0 ≡ class_of s p.1) t.sides → IsAllSettled d t s → All (λ p. class_of s p.0 ≢ class_of s p.1) s.apart → IsClosed d t s
  closed_from whole naming sides settled apart = record {
    whole = whole;
    naming = naming;
    partition = record {
      sides = sides;
      nodes = λ i j f g ks ls a b. settled_everywhere settled i j (slice_get_within t.nodes i (App f ks) a) (slice_get_within t.nodes j (App g ls) b) f g ks ls a b;
    };
    apart = apart;
  }

  pub settled_variable : (i j : ℕ) (x : Variable) → slice_get t.nodes i ≡ Some (Var x) → AreSettled d t i j s
  settled_variable i j x e f g ks ls a b = absurd (let p : Some (Var x) ≡ Some (App f ks) = sym e ∙ a in cc)

  pub settled_variable_right : (i j : ℕ) (x : Variable) → slice_get t.nodes j ≡ Some (Var x) → AreSettled d t i j s
  settled_variable_right i j x e f g ks ls a b = absurd (let p : Some (Var x) ≡ Some (App g ls) = sym e ∙ b in cc)

  module _ (i j : ℕ) (f g : OpId) (ks ls : List ℕ) (left : IsOver t.nodes i f ks) (right : IsOver t.nodes j g ls) where
    from_these : FitTogether d (IsOpen s) (class_of s) i j f g ks ls → AreSettled d t i j s
    from_these h f' g' ks' ls' a b =
        let one = over_unique t.nodes i f f' ks ks' left a in
        let two = over_unique t.nodes j g g' ls ls' right b in
        subst (λ o. FitTogether d (IsOpen s) (class_of s) i j o g' ks' ls') one.0
        (subst (λ o. FitTogether d (IsOpen s) (class_of s) i j f o ks' ls') two.0
        (subst (λ ns. FitTogether d (IsOpen s) (class_of s) i j f g ns ls') one.1 (subst (λ ns. FitTogether d (IsOpen s) (class_of s) i j f g ks ns) two.1 h)))

    pub settled_alike : class_of s i ≡ class_of s j → AreAlike d (IsOpen s) (class_of s) f g ks ls → AreSettled d t i j s
    settled_alike e h = from_these record { congruent = λ _ _. e; alike = λ _. h }

    pub settled_apart : class_of s i ≢ class_of s j → (f ≡ g → AreTogether (class_of s) ks ls → ⊥) → AreSettled d t i j s
    settled_apart n h = from_these record { congruent = λ same e. absurd (h same e); alike = λ e. absurd (n e) }

    pub known_alike : length s.names ≡ length t.nodes → (class : ℕ → ℕ) → Admits s class → IsNodePartition d t class → class_of s i ≡ class_of s j → AreAlike d (λ a v. ⊥) class f g ks ls
    known_alike whole class h partition e =
        let l = slice_get_within t.nodes i (App f ks) left in
        let m = slice_get_within t.nodes j (App g ls) right in
        (partition.nodes i j f g ks ls left right).alike (admits_same s class h i j (omega arith) (omega arith) e)

    pub known_congruent : (class : ℕ → ℕ) → Admits s class → IsNodePartition d t class → All (λ k. k < length s.names) ks → All (λ k. k < length s.names) ls → f ≡ g → AreTogether (class_of s) ks ls → class i ≡ class j
    known_congruent class h partition a b same e = (partition.nodes i j f g ks ls left right).congruent same (admits_together s class h ks ls a b e)

-- chains by keys have all that has alike what is said
pub settled_by : (d : Declarations) (t : NodeTable) (s : State) (by : By) (keys : List ℕ) → AreKeys t.nodes s.names by keys → AreChainsSettled d t keys (length t.nodes) s → IsSettledBy d t by s
settled_by d t s by keys are h i j f g ks ls l a b e = h i (slice_get_within t.nodes i (App f ks) a) j zero-le l (are j g ls b ∙ e ∙ sym (are i f ks a))

-- nodes ask nothing of one another, but of those in one class and of those with one operator over arguments in the same classes
pub all_settled : (d : Declarations) (t : NodeTable) (s : State) → IsSettledBy d t Class s → IsSettledBy d t Arguments s → IsAllSettled d t s
all_settled d t s one other i l j m f g ks ls a b = record {
  congruent = λ same e.
      let keys : key_of s.names Arguments j g ls ≡ key_of s.names Arguments i f ks = ap (λ (o : OpId). mixed_all (class_of s) o.0 ls % length s.names) (sym same) ∙ ap (λ n. n % length s.names) (sym (mixed_together (class_of s) f.0 ks ls e)) in
      (other i j f g ks ls m a b keys f g ks ls a b).congruent same e;
  alike = λ e. (one i j f g ks ls m a b (sym e) f g ks ls a b).alike e;
}

-- where nodes that are kept apart are in one class, there is no partition
pub apart_clash : (s : State) (class : ℕ → ℕ) → IsNaming s → Admits s class → list_any (λ p. is_same s p.0 p.1) s.apart ≡ true → ⊥
apart_clash s class naming h e =
    let found = Any-from_list_any (λ p. is_same s p.0 p.1) s.apart e in
    let k = found.0 in
    let p = found.1 in
    let apart = subst (λ q. class q.0 ≢ class q.1) found.3 (h.apart k p found.2) in
    let within = subst (λ q. (q.0 < length s.names) × (q.1 < length s.names)) found.3 (naming.kept k p found.2) in
    apart (admits_same s class h p.0 p.1 within.0 within.1 (eqb-true (class_of s p.0) (class_of s p.1) found.4))

-- else they are in two
pub apart_kept : (s : State) → list_any (λ p. is_same s p.0 p.1) s.apart ≡ false → All (λ p. class_of s p.0 ≢ class_of s p.1) s.apart
apart_kept s e = go s.apart e
  where
    go : (ps : List (ℕ × ℕ)) → list_any (λ p. is_same s p.0 p.1) ps ≡ false → All (λ p. class_of s p.0 ≢ class_of s p.1) ps
    go [] e = All-nil (λ p. class_of s p.0 ≢ class_of s p.1)
    go (p ∷ ps) e =
        let both = or_parts (is_same s p.0 p.1) (list_any (λ p. is_same s p.0 p.1) ps) e in
        All-cons (λ p. class_of s p.0 ≢ class_of s p.1) p ps (λ q. both_ways (is_same s p.0 p.1) both.0 (eq-eqb (class_of s p.0) (class_of s p.1) q)) (go ps both.1)

-- what was in one class stays so
pub same_kept : (before after : State) → ((k : ℕ) → k < length before.names → class_of after (class_of before k) ≡ class_of after k) → (i j : ℕ) → i < length before.names → j < length before.names → class_of before i ≡ class_of before j → class_of after i ≡ class_of after j
same_kept before after coarser i j l m e = sym (coarser i l) ∙ ap (class_of after) e ∙ coarser j m

pub sides_kept : (before after : State) → ((k : ℕ) → k < length before.names → class_of after (class_of before k) ≡ class_of after k) → (n : ℕ) → length before.names ≡ n → (sides : List (ℕ × ℕ)) → All (λ p. (p.0 < n) × (p.1 < n)) sides → All (λ p. class_of before p.0 ≡ class_of before p.1) sides → All (λ p. class_of after p.0 ≡ class_of after p.1) sides
sides_kept before after coarser n whole sides within h k e l = let w = within k e l in let a = w.0 in let b = w.1 in same_kept before after coarser _ _ (omega arith) (omega arith) (h k e l)
