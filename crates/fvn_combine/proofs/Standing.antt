-- Which unifiers stand for others: each for itself, and what stands for one of them.
use Rattle.std.proofs.Common.{◌≡◌, ◌≢◌, ℕ, ◌<◌, List, [], ◌∷◌, length, get_or, All, Contains, refl, sym, ◌∙◌, true}
use Rattle.std.specs.Prelude.{◌↔◌}
use Rattle.std.proofs.lemmas.Bool.{false≢true}
use Rattle.std.proofs.lemmas.List.Elements.{All-nil, All-cons, All-head, All-weaker, Contains-get_or}
use Rattle.fvn_terms.specs.Substitution.{Substitution}
use Rattle.fvn_flat.specs.Solving.{problem_of}
use Rattle.fvn_combine_nodes.specs.States.{Admits, IsClosed}
use Rattle.fvn_combine_nodes.specs.Unifiers.{kernel}
use Rattle.fvn_combine_nodes.specs.declared.state.State.{State}
use Rattle.fvn_combine_tree.specs.Trees.{AreKeptApart}
use Rattle.fvn_combine_loose.specs.Loose.{AreParted, ArePartedOpen}
use Rattle.fvn_combine_loose.specs.Laws.{IsLoosened, LooseClassesPart, MoreGeneralIsAPreorder}
use Rattle.fvn_combine.specs.Tasks.{Combining, IsCombining, IsWanted, StandsFor, HoldsFor}
use Rattle.fvn_combine.specs.inner.Found.{IsAdmittedBy, MayPart, MayPartOpen, PartUnderSome}

module _ (k : Combining) (is : IsCombining k) where
  module _ (preorder : MoreGeneralIsAPreorder) where
    pub stands_for_itself : (u : Substitution) → IsWanted k u → StandsFor k u u
    stands_for_itself u wanted = record {
      wanted = wanted;
      more_general = preorder.itself k.declarations is.good (problem_of k.given) is.is_given.kinds u;
      own = λ _. refl;
    }

    pub stands_after : (u v w : Substitution) → StandsFor k u v → StandsFor k v w → StandsFor k u w
    stands_after u v w a b = record {
      wanted = b.wanted;
      more_general = preorder.after k.declarations is.good (problem_of k.given) is.is_given.kinds u v w a.more_general b.more_general;
      own = λ e. b.own e ∙ a.own e;
    }

  -- what is loosened from a unifier stands for it, where more general ones are enough
  pub loosened_stands : k.general ≡ true → (s : State) (u v : Substitution) → IsWanted k u → IsLoosened k.declarations (problem_of k.given) k.table s u v → StandsFor k u v
  loosened_stands enough s u v wanted loosened = record {
    wanted = record { unifies = loosened.unifies; keeps_sorts = λ e. loosened.more_general.sorts (wanted.keeps_sorts e) };
    more_general = loosened.more_general;
    own = λ e. absurd (false≢true (sym e ∙ enough));
  }

  -- nodes of each pair that a loose class parts are in two classes under a unifier that stands for the other
  pub all_parted_admitted : LooseClassesPart → (s : State) → IsClosed k.declarations k.table s → (pairs : List (ℕ × ℕ)) → k.general ≡ true → All (λ p. AreParted k.declarations k.table s k.sorted p.0 p.1) pairs
      → (u : Substitution) → IsAdmittedBy k s u → HoldsFor k (λ v. Admits s (kernel k.declarations v k.table.nodes) × AreKeptApart pairs (kernel k.declarations v k.table.nodes)) u
  all_parted_admitted law s closed pairs enough own u h =
      let p = law k.declarations is.good (problem_of k.given) is.is_given.kinds k.table is.well_made is.table_of s closed k.sorted pairs own u h.0.unifies h.1 h.0.keeps_sorts in
      (p.0, loosened_stands enough s u p.0 h.0 p.1, (p.1.admits, p.2))

  -- pairs that may be parted, of which there are some, are so
  pub parted_open : LooseClassesPart → (s : State) → IsClosed k.declarations k.table s → (pairs : List (ℕ × ℕ)) → 0 < length pairs → All (MayPartOpen k s) pairs → PartUnderSome k s pairs
  parted_open law s closed pairs some own =
      let P = AreParted k.declarations k.table s k.sorted in
      let first : MayPartOpen k s (get_or pairs 0 (0, 0)) = own 0 (0, 0) some in
      let there : Contains pairs (get_or pairs 0 (0, 0)) = Contains-get_or pairs 0 (0, 0) some in
      record {
        within = All-weaker (MayPartOpen k s) (λ p. (p.0 < length k.table.nodes) × (p.1 < length k.table.nodes)) (λ p h. (h.0.parted.left, h.0.parted.right)) pairs own;
        some_open = ((get_or pairs 0 (0, 0)).0, (get_or pairs 0 (0, 0)).1, there, first.1);
        parted = all_parted_admitted law s closed pairs first.0.enough (All-weaker (MayPartOpen k s) (λ p. P p.0 p.1) (λ p h. h.0.parted) pairs own);
      }

  -- nodes that a loose class parts are in two classes under a unifier that stands for the other
  pub parted_admitted : LooseClassesPart → (s : State) → IsClosed k.declarations k.table s → (i j : ℕ) → MayPart k s i j → (u : Substitution) → IsAdmittedBy k s u
      → HoldsFor k (λ v. Admits s (kernel k.declarations v k.table.nodes) × (kernel k.declarations v k.table.nodes i ≢ kernel k.declarations v k.table.nodes j)) u
  parted_admitted law s closed i j may u h =
      let pairs : List (ℕ × ℕ) = (i, j) ∷ [] in
      let P = AreParted k.declarations k.table s k.sorted in
      let p = all_parted_admitted law s closed pairs may.enough (All-cons (λ p. P p.0 p.1) (i, j) [] may.parted (All-nil (λ p. P p.0 p.1))) u h in
      let class = kernel k.declarations p.0 k.table.nodes in
      (p.0, p.1, (p.2.0, All-head (λ q. class q.0 ≢ class q.1) (i, j) [] p.2.1))

-- what loose classes part may be parted where more general unifiers are enough
pub may_part_open : (k : Combining) → k.general ≡ true → (s : State) (pairs : List (ℕ × ℕ)) → All (ArePartedOpen k.declarations k.table s k.sorted) pairs → All (MayPartOpen k s) pairs
may_part_open k enough s pairs own = All-weaker (ArePartedOpen k.declarations k.table s k.sorted) (MayPartOpen k s) (λ p h. (record { enough = enough; parted = h.parted }, h.open_pair)) pairs own

-- what is so of each unifier that is asked for is so of one that stands for it
pub holds_both : (k : Combining) (P Q : Substitution → Type 0) → ((v : Substitution) → IsWanted k v → P v ↔ Q v) → (u : Substitution) → IsWanted k u → HoldsFor k P u ↔ HoldsFor k Q u
holds_both k P Q same u wanted = (λ h. (h.0, h.1, (same h.0 h.1.wanted).0 h.2), λ h. (h.0, h.1, (same h.0 h.1.wanted).1 h.2))
