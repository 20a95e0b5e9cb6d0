-- The heads of classes.
use Rattle.std.proofs.Common.{◌≡◌, ℕ, ◌+◌, ◌<◌, ◌≤◌, List, length, get_or, set, replicate, sym, ap, ◌∙◌, subst, inl, inr, arith, Option, Some, None}
use Rattle.std.specs.Prelude.{MatchOption}
use Rattle.std.proofs.lemmas.Bool.{cases_eq, cases_lt}
use Rattle.std.proofs.lemmas.List.{length-set, get_or-set_same, get_or-set_other, get_or-replicate, length-replicate}
use Rattle.fvn_terms.specs.declared.plain.OpId.{OpId}
use Rattle.fvn_terms.specs.declared.declarations.Declarations.{Declarations}
use Rattle.fvn_terms.specs.Signature.{axioms}
use Rattle.fvn_flat.specs.Partitions.{HasNoIdentity}
use Rattle.fvn_combine_nodes.specs.Table.{NodeTable, IsOver}
use Rattle.fvn_combine_nodes.specs.Classes.{IsPartitionBut}
use Rattle.fvn_combine_nodes.specs.declared.table.Node.TheVariants.{App}
use Rattle.fvn_combine_leaves.specs.Leaves.{IsSolid}
use Rattle.fvn_combine_leaves.specs.Readings.{AreHeads}
use Rattle.fvn_combine_reading.specs.inner.Reading.{noted, AreHeadsBelow}

module _ (d : Declarations) (t : NodeTable) (class : ℕ → ℕ) (Undecided : ℕ → ℕ → Type 0) (partition : IsPartitionBut d Undecided class t) where
  abbrev pub TellsHead : ℕ → Option OpId → Type 0
  TellsHead i o = MatchOption o ((f : OpId) (ks : List ℕ) → IsOver t.nodes i f ks → HasNoIdentity (axioms d f) → ⊥) (λ f. HasNoIdentity (axioms d f) × (ks : List ℕ) × IsOver t.nodes i f ks)

  pub no_heads : (heads : List (Option OpId)) → heads ≡ replicate (length t.nodes) None → AreHeadsBelow d t class 0 heads
  no_heads heads e = record {
    as_many = ap length e ∙ length-replicate (length t.nodes) None;
    exact = λ k f l. (
      λ h. absurd (let n : None ≡ Some f = sym (get_or-replicate (length t.nodes) k None None l) ∙ sym (ap (λ hs. get_or hs k None) e) ∙ h in cc),
      λ m. absurd (let b = m.1 in omega (arith, b)),
    );
  }

  -- two operators of one node are one
  same_node : (i : ℕ) (f g : OpId) (ks ls : List ℕ) → IsOver t.nodes i f ks → IsOver t.nodes i g ls → f ≡ g
  same_node i f g ks ls left right = let e : Some (App f ks) ≡ Some (App g ls) = sym left ∙ right in cc

  -- members of one class without identities have one operator
  one_head : (f g : OpId) (k : ℕ) → IsSolid d t class f k → IsSolid d t class g k → f ≡ g
  one_head f g k a b = ((partition.nodes a.member b.member f g a.arguments b.arguments a.over b.over).alike (a.of ∙ sym b.of)).one_head a.no_identity b.no_identity

  pub more_heads : (i : ℕ) (heads : List (Option OpId)) → class i < length t.nodes → AreHeadsBelow d t class i heads → (o : Option OpId) → TellsHead i o → AreHeadsBelow d t class (i + 1) (noted heads (class i) o)
  more_heads i heads within h None none = record {
    as_many = h.as_many;
    exact = λ k f l. (
      λ e. let m = (h.exact k f l).0 e in let b = m.1 in (m.0, omega (arith, b)),
      λ m. elim (cases_lt m.0.member i) [
        | inl below ↦ (h.exact k f l).1 (m.0, below)
        | inr above ↦
            let is : m.0.member ≡ i = let b = m.1 in omega (arith, above, b) in
            absurd (none f m.0.arguments (subst (λ n. IsOver t.nodes n f m.0.arguments) is m.0.over) m.0.no_identity)
      ],
    );
  }
  more_heads i heads within h (Some g) (bare, ls, here) = record {
    as_many = length-set heads (class i) (Some g) ∙ h.as_many;
    exact = λ k f l. elim (cases_eq k (class i)) [
      | inl same ↦ (
        λ e.
            let is : Some g ≡ Some f = sym (at_class k same) ∙ e in
            let one : g ≡ f = cc in
            (subst (λ f. IsSolid d t class f k) one (own k same), omega arith),
        λ m.
            let one : g ≡ f = one_head g f k (own k same) m.0 in
            at_class k same ∙ ap Some one,
      )
      | inr other ↦ (
        λ e. let m = (h.exact k f l).0 (sym (elsewhere k other) ∙ e) in let b = m.1 in (m.0, omega (arith, b)),
        λ m. elim (cases_lt m.0.member i) [
          | inl below ↦ elsewhere k other ∙ (h.exact k f l).1 (m.0, below)
          | inr above ↦
              let is : m.0.member ≡ i = let b = m.1 in omega (arith, above, b) in
              absurd (other (sym m.0.of ∙ ap class is))
        ],
      )
    ];
  }
    where
      own : (k : ℕ) → k ≡ class i → IsSolid d t class g k
      own k same = record { member = i; arguments = ls; over = here; of = sym same; no_identity = bare }

      at_class : (k : ℕ) → k ≡ class i → get_or (set heads (class i) (Some g)) k None ≡ Some g
      at_class k same = ap (λ n. get_or (set heads (class i) (Some g)) n None) same ∙ get_or-set_same heads (class i) (Some g) None (let n = h.as_many in omega (arith, within, n))

      elsewhere : (k : ℕ) → (k ≡ class i → ⊥) → get_or (set heads (class i) (Some g)) k None ≡ get_or heads k None
      elsewhere k other = get_or-set_other heads (class i) k (Some g) None other

  -- below all nodes are all nodes
  pub heads_are : (n : ℕ) (heads : List (Option OpId)) → length t.nodes ≤ n → ((i : ℕ) (f : OpId) (ks : List ℕ) → IsOver t.nodes i f ks → i < length t.nodes) → AreHeadsBelow d t class n heads → AreHeads d t class heads
  heads_are n heads all within h = record {
    as_many = h.as_many;
    exact = λ k f l. (
      λ e. ((h.exact k f l).0 e).0,
      λ s. (h.exact k f l).1 (s, let b = within s.member f s.arguments s.over in omega (arith, b, all)),
    );
  }
