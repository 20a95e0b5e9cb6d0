-- A leaf with all heads and ways is one split.
use Rattle.std.proofs.Common.{◌≡◌, ◌⊎◌, ℕ, ◌<◌, ◌≤◌, Bool, true, false, not, ◌&&◌, ◌||◌, List, [], ◌∷◌, map, length, refl, sym, ap, ◌∙◌, subst, inl, inr, arith, Contains}
use Rattle.std.specs.List.{list_any}
use Rattle.std.proofs.lemmas.Bool.{cases_order}
use Rattle.fvn_terms.specs.declared.plain.OpId.{OpId}
use Rattle.fvn_terms.specs.declared.declarations.Axioms.TheVariants.{Comm}
use Rattle.fvn_terms.specs.declared.declarations.Declarations.{Declarations}
use Rattle.fvn_terms.specs.Signature.{axioms}
use Rattle.fvn_combine_nodes.specs.Table.{IsOver}
use Rattle.fvn_combine_nodes.specs.Classes.{MeetEitherWay, IsNodePartition}
use Rattle.fvn_combine_nodes.specs.States.{IsClosed, IsOpen, class_of, is_same, is_apart, is_open}
use Rattle.fvn_combine_nodes.specs.declared.state.State.{State}
use Rattle.fvn_combine_nodes.proofs.Admitting.{admits_itself}
use Rattle.fvn_purify.specs.Parts.{Outline}
use Rattle.fvn_purify.specs.Splits.{number_in}
use Rattle.fvn_purify.specs.Cursor.{IsAheadOf}
use Rattle.fvn_purify.specs.inner.Choices.{split_of, AreStepped, IsDecided, IsLeaf}
use Rattle.fvn_purify.specs.declared.split.Split.{Split}
use Rattle.fvn_purify.specs.declared.choosing.Leaf.{Leaf}
use Rattle.fvn_purify.specs.declared.choosing.Partial.TheVariants.{Choosing}
use Rattle.fvn_purify.proofs.Numbers.{numbers_agree, same_tests}
use Rattle.fvn_purify.proofs.Decided.{one_operator, decided_tests}
use Rattle.fvn_purify.proofs.Expanding.{front_whole, whole_front}

-- it does not matter in which order two nodes are asked about
same_symm : (s : State) (i j : ℕ) → is_same s i j ≡ is_same s j i
same_symm s i j = same_tests (class_of s i) (class_of s j) (class_of s j) (class_of s i) (λ e. sym e) (λ e. sym e)

or_symm : (p q : Bool) → (p || q) ≡ (q || p)
or_symm true true = refl
or_symm true false = refl
or_symm false true = refl
or_symm false false = refl

apart_symm : (s : State) (i j : ℕ) → is_apart s i j ≡ is_apart s j i
apart_symm s i j = go s.apart
  where
    go : (list : List (ℕ × ℕ)) → list_any (λ p. (is_same s p.0 i && is_same s p.1 j) || (is_same s p.0 j && is_same s p.1 i)) list ≡ list_any (λ p. (is_same s p.0 j && is_same s p.1 i) || (is_same s p.0 i && is_same s p.1 j)) list
    go [] = refl
    go (p ∷ list) =
        let first = or_symm (is_same s p.0 i && is_same s p.1 j) (is_same s p.0 j && is_same s p.1 i) in
        let rest = go list in
        ap (λ b. b || list_any (λ p. (is_same s p.0 i && is_same s p.1 j) || (is_same s p.0 j && is_same s p.1 i)) list) first
        ∙ ap (λ b. ((is_same s p.0 j && is_same s p.1 i) || (is_same s p.0 i && is_same s p.1 j)) || b) rest

open_symm : (s : State) (i j : ℕ) → is_open s i j ≡ is_open s j i
open_symm s i j = ap (λ b. not (b || is_apart s i j)) (same_symm s i j) ∙ ap (λ b. not (is_same s j i || b)) (apart_symm s i j)

module _ (d : Declarations) (c : Outline) (fit : AreStepped d c) where
  -- commutative nodes of one class meet one way where no question is open
  module _ (s : State) (closed : IsClosed d c.table s) (none : IsDecided c s) where
    no_open : (i j a b v w : ℕ) (f : OpId) → axioms d f ≡ Comm → IsOver c.table.nodes i f (a ∷ b ∷ []) → IsOver c.table.nodes j f (v ∷ w ∷ []) → class_of s i ≡ class_of s j → IsOpen s a v → i < j → ⊥
    no_open i j a b v w f comm l m same o below =
        let listed : Contains c.places.pairs (i, j) = (fit.are.places.pairs.all (i, j)).1 (record { operator = f; commutative = comm; left = a ∷ b ∷ []; right = v ∷ w ∷ []; left_is = l; right_is = m; order = below }) in
        none a v (inr (inr ((i, j), listed, same, (f, f, b ∷ [], w ∷ [], l, m)))) o

    meet : (i j a b v w : ℕ) (f : OpId) → axioms d f ≡ Comm → IsOver c.table.nodes i f (a ∷ b ∷ []) → IsOver c.table.nodes j f (v ∷ w ∷ []) → class_of s i ≡ class_of s j → MeetEitherWay (class_of s) a b v w ⊎ IsOpen s a v → MeetEitherWay (class_of s) a b v w
    meet i j a b v w f comm l m same (inl h) = h
    meet i j a b v w f comm l m same (inr o) = elim (cases_order i j) [
      | inl e ↦
          let k : IsOver c.table.nodes j f (a ∷ b ∷ []) = subst (λ n. IsOver c.table.nodes n f (a ∷ b ∷ [])) e l in
          let t = (one_operator d c fit j f f (a ∷ b ∷ []) (v ∷ w ∷ []) k m).1 in
          let p : a ≡ v = cc in
          let q : b ≡ w = cc in
          inl (ap (class_of s) p, ap (class_of s) q)
      | inr r ↦ elim r [
        | inl lt ↦ absurd (no_open i j a b v w f comm l m same o lt)
        | inr gt ↦ absurd (no_open j i v w a b f comm m l (sym same) (subst (λ t. t ≡ true) (open_symm s a v) o) gt)
      ]
    ]

    -- so the classes are a partition
    pub leaf_partition : IsNodePartition d c.table (class_of s)
    leaf_partition = record {
      sides = closed.partition.sides;
      nodes = λ i j f g ks ls l m.
          let at = closed.partition.nodes i j f g ks ls l m in
          record {
            congruent = at.congruent;
            alike = λ same.
                let h = at.alike same in
                record {
                  one_head = h.one_head;
                  free = h.free;
                  commutative = λ comm one a b v w p q.
                      inl (meet i j a b v w f comm (subst (λ ns. IsOver c.table.nodes i f ns) p l) (subst (λ o. IsOver c.table.nodes j o (v ∷ w ∷ [])) (sym one) (subst (λ ns. IsOver c.table.nodes j g ns) q m)) same (h.commutative comm one a b v w p q));
                };
          };
    }

  -- what is ahead of such a leaf is its split
  pub leaf_is_split : (l : Leaf) → IsLeaf d c l → length l.heads ≡ length c.places.headed → length l.swaps ≡ length c.places.pairs → (split : Split) → IsAheadOf d c (Choosing l) split → split ≡ split_of c l
  leaf_is_split l leaf heads swaps split h =
      let numbers : split.class_of ≡ map (number_in (class_of l.state) c.places.parts) c.places.parts =
      h.split_by.numbers ∙ numbers_agree h.class (class_of l.state) c.places.parts (λ p q k m. decided_tests d c fit l.state leaf.closed leaf.decided h.class h.admits p q (inl (k, m)))
      in
      let one : split.heads ≡ l.heads = front_whole l.heads split.heads (heads ∙ sym h.split_by.all_heads) h.heads_begin in
      let two : split.swaps ≡ l.swaps = front_whole l.swaps split.swaps (swaps ∙ sym h.split_by.all_swaps) h.swaps_begin in
      ap (λ ns. record { class_of = ns; heads = split.heads; swaps = split.swaps }) numbers
      ∙ ap (λ hs. record { class_of = map (number_in (class_of l.state) c.places.parts) c.places.parts; heads = hs; swaps = split.swaps }) one
      ∙ ap (λ ws. record { class_of = map (number_in (class_of l.state) c.places.parts) c.places.parts; heads = l.heads; swaps = ws }) two

  pub split_is_ahead : (l : Leaf) → IsLeaf d c l → length l.heads ≡ length c.places.headed → length l.swaps ≡ length c.places.pairs → IsAheadOf d c (Choosing l) (split_of c l)
  split_is_ahead l leaf heads swaps = record {
    class = class_of l.state;
    partition = leaf_partition l.state leaf.closed leaf.decided;
    admits = admits_itself l.state leaf.closed.naming leaf.closed.apart;
    split_by = record { numbers = refl; heads = leaf.heads; all_heads = heads; swaps = leaf.swaps; all_swaps = swaps };
    heads_begin = whole_front l.heads;
    swaps_begin = whole_front l.swaps;
  }

  pub leaf_whole : (l : Leaf) → IsLeaf d c l → length c.places.headed ≤ length l.heads → length c.places.pairs ≤ length l.swaps → (split : Split) → (IsAheadOf d c (Choosing l) split → split ≡ split_of c l) × (split ≡ split_of c l → IsAheadOf d c (Choosing l) split)
  leaf_whole l leaf heads swaps split =
      let few = leaf.few_heads in
      let fews = leaf.few_swaps in
      let a : length l.heads ≡ length c.places.headed = omega arith in
      let b : length l.swaps ≡ length c.places.pairs = omega arith in
      (leaf_is_split l leaf a b split, λ e. subst (IsAheadOf d c (Choosing l)) (sym e) (split_is_ahead l leaf a b))
