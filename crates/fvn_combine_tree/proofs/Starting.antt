-- How states begin, and what is left of them after a question.
use Rattle.std.proofs.Common.{◌≡◌, ◌≢◌, ℕ, ◌+◌, ◌<◌, List, [], ◌∷◌, ◌++◌, length, take, get_or, refl, sym, ap, ◌∙◌, subst, arith, All, Contains, Option, Some, None}
use Rattle.std.proofs.lemmas.List.{take-take, get_or-take, length-take-le, get_or_default}
use Rattle.std.proofs.lemmas.List.Elements.{All-nil, All-cons, All-head, All-more, All-append, All-take, All-same, All-contains, Contains-append_left, Contains-append_right}
use Rattle.fvn_terms.specs.declared.declarations.Declarations.{Declarations}
use Rattle.fvn_combine_nodes.specs.Table.{NodeTable, IsWellMade}
use Rattle.fvn_combine_nodes.specs.Classes.{IsNodePartition}
use Rattle.fvn_combine_nodes.specs.States.{Admits, IsNaming, IsClosed, IsOpen, class_of}
use Rattle.fvn_combine_tree.specs.Questions.{IsStart, IsAnswer}
use Rattle.fvn_combine_tree.specs.Trees.{AreMet, AreKeptApart}
use Rattle.fvn_combine_nodes.specs.declared.state.State.{State}
use Rattle.fvn_combine_tree.specs.declared.closing.Move.{Move}
use Rattle.fvn_combine_tree.specs.declared.closing.Move.TheVariants.{Stays, Changes, Clashes}
use Rattle.fvn_combine_tree.specs.inner.Closing.{HasSameNodes, IsForced, HasMoved, IsClosureOf}
use Rattle.fvn_combine_tree.specs.inner.Starts.{IsSingles, IsJoinedFrom}
use Rattle.fvn_combine_nodes.proofs.Admitting.{admits_same, admits_itself}
use Rattle.fvn_combine_tree.proofs.Moves.{same_nodes, same_nodes-trans, forced-refl, forced-trans, forced_grows}
use Rattle.fvn_combine_tree.proofs.Settling.{sides_kept}
use Rattle.fvn_combine_tree.proofs.Openness.{open_falls, same_not_open, apart_not_open}

pub singles_naming : (n : ℕ) (s : State) → IsSingles n s → IsNaming s
singles_naming n s h = record {
  named = λ i l. let e = h.own i (let w = h.whole in omega arith) in (omega arith, ap (class_of s) e);
  kept = All-same (λ p. (p.0 < length s.names) × (p.1 < length s.names)) s.apart [] h.none (All-nil (λ p. (p.0 < length s.names) × (p.1 < length s.names)));
}

-- any classes have what singles have
singles_admit : (n : ℕ) (s : State) → IsSingles n s → (class : ℕ → ℕ) → Admits s class
singles_admit n s h class = record {
  together = λ i l. ap class (sym (h.own i (let w = h.whole in omega arith)));
  apart = All-same (λ p. class p.0 ≢ class p.1) s.apart [] h.none (All-nil (λ p. class p.0 ≢ class p.1));
}

-- a move that is no clash
pub moved_forced : (Holds : (ℕ → ℕ) → Type 0) (S : State → Type 0) (a b : State) (m : Move) → IsNaming a → m ≢ Clashes → HasMoved Holds S a b m → HasSameNodes a b × IsForced Holds a b
moved_forced Holds S a b Stays naming n h = (subst (HasSameNodes a) (sym h.0) (same_nodes a naming), subst (IsForced Holds a) (sym h.0) (forced-refl Holds a naming))
moved_forced Holds S a b Changes naming n h = (h.0, h.1)
moved_forced Holds S a b Clashes naming n h = absurd (n refl)

forced_weaker : (Holds Known : (ℕ → ℕ) → Type 0) (a b : State) → ((class : ℕ → ℕ) → Known class → Holds class) → IsForced Holds a b → IsForced Known a b
forced_weaker Holds Known a b stronger p = record { coarser = p.coarser; forced = λ class known h. p.forced class (stronger class known) h }

-- no sides are joined yet
pub joined_none : (s : State) → IsNaming s → IsJoinedFrom [] s s
joined_none s naming = record {
  nodes = same_nodes s naming;
  joined = λ class h. All-nil (λ p. class p.0 ≡ class p.1);
  forced = forced-refl (λ class. All (λ p. class p.0 ≡ class p.1) []) s naming;
}

-- the sides of one more pair
pub joined_more : (sides : List (ℕ × ℕ)) (i : ℕ) (p : ℕ × ℕ) → i < length sides → p ≡ get_or sides i (0, 0) → (a b e : State) (m : Move) → IsNaming a → (p.0 < length b.names) × (p.1 < length b.names) → IsJoinedFrom (take i sides) a b → HasMoved (λ class. class p.0 ≡ class p.1) (λ s. class_of s p.0 ≡ class_of s p.1) b e m → m ≢ Clashes → class_of e p.0 ≡ class_of e p.1 → IsJoinedFrom (take (i + 1) sides) a e
joined_more sides i p l is a b e m naming within so_far moved no_clash together =
    let one = moved_forced (λ class. class p.0 ≡ class p.1) (λ s. class_of s p.0 ≡ class_of s p.1) b e m so_far.nodes.naming no_clash moved in
    let Before : (ℕ → ℕ) → Type 0 = λ class. All (λ q. class q.0 ≡ class q.1) (take i sides) in
    let After : (ℕ → ℕ) → Type 0 = λ class. All (λ q. class q.0 ≡ class q.1) (take (i + 1) sides) in
    let shorter = λ (class : ℕ → ℕ) (h : After class). subst (All (λ q. class q.0 ≡ class q.1)) (take-take i (i + 1) sides (omega arith)) (All-take (λ q. class q.0 ≡ class q.1) i (take (i + 1) sides) h) in
    let last = λ (class : ℕ → ℕ) (h : After class). subst (λ q. class q.0 ≡ class q.1) (get_or-take (i + 1) sides i (0, 0) (omega arith) ∙ sym is) (h i (0, 0) (let n = length-take-le (i + 1) sides (omega arith) in omega arith)) in
    let w = one.0.whole in
    record {
      nodes = same_nodes-trans a b e so_far.nodes one.0;
      joined = λ class h.
          let here : class p.0 ≡ class p.1 = admits_same e class h p.0 p.1 (let v = within.0 in omega arith) (let v = within.1 in omega arith) together in
          All-more (λ q. class q.0 ≡ class q.1) sides i (0, 0) l (so_far.joined class (forced_grows (λ class. class p.0 ≡ class p.1) b e so_far.nodes.naming one.0 one.1 class h)) (subst (λ q. class q.0 ≡ class q.1) is here);
      forced = forced-trans After a b e naming so_far.nodes (forced_weaker Before After a b shorter so_far.forced) (forced_weaker (λ class. class p.0 ≡ class p.1) After b e last one.1);
    }

-- one pair is kept apart
pub one_pair : (class : ℕ → ℕ) (i j : ℕ) → class i ≢ class j → AreKeptApart ((i, j) ∷ []) class
one_pair class i j n = All-cons (λ p. class p.0 ≢ class p.1) (i, j) [] n (All-nil (λ p. class p.0 ≢ class p.1))

module _ (d : Declarations) (t : NodeTable) where
  module _ (s0 s1 : State) (singles : IsSingles (length t.nodes) s0) (joined : IsJoinedFrom t.sides s0 s1) where
    nothing_apart : All (λ p. class_of s1 p.0 ≢ class_of s1 p.1) s1.apart
    nothing_apart = All-same (λ p. class_of s1 p.0 ≢ class_of s1 p.1) s1.apart [] (joined.nodes.apart ∙ singles.none) (All-nil (λ p. class_of s1 p.0 ≢ class_of s1 p.1))

    pub started_sides : All (λ p. class_of s1 p.0 ≡ class_of s1 p.1) t.sides
    started_sides = joined.joined (class_of s1) (admits_itself s1 joined.nodes.naming nothing_apart)

    -- every partition has what a state has at the start
    start_admits : (class : ℕ → ℕ) → IsNodePartition d t class → Admits s1 class
    start_admits class partition = joined.forced.forced class partition.sides (singles_admit (length t.nodes) s0 singles class)

    pub start_is : (r : Option State) → IsClosureOf d t s1 r → IsStart d t r
    start_is None h = λ class partition. h class partition (start_admits class partition)
    start_is (Some r) h = (h.0, λ class partition. h.2.forced class partition (start_admits class partition))

  -- the nodes of each pair were joined, and of one pair they were open
  module _ (made : IsWellMade t) (s : State) (closed : IsClosed d t s) (pairs : List (ℕ × ℕ)) (within : All (λ p. (p.0 < length t.nodes) × (p.1 < length t.nodes)) pairs) (i j : ℕ) (listed : Contains pairs (i, j)) (open_now : IsOpen s i j) (s1 : State) (joined : IsJoinedFrom pairs s s1) where
    pub met_sides : All (λ p. class_of s1 p.0 ≡ class_of s1 p.1) t.sides
    met_sides = sides_kept s s1 joined.forced.coarser (length t.nodes) closed.whole t.sides made.sides closed.partition.sides

    pub met_is : (r : Option State) → IsClosureOf d t s1 r → IsAnswer d t s (AreMet pairs) r
    met_is None h = λ class partition admits e. h class partition (joined.forced.forced class e admits)
    met_is (Some r) h =
        let Known : (ℕ → ℕ) → Type 0 = λ class. IsNodePartition d t class × AreMet pairs class in
        let whole : IsForced Known s r = forced-trans Known s s1 r closed.naming joined.nodes (forced_weaker (AreMet pairs) Known s s1 (λ class k. k.1) joined.forced) (forced_weaker (IsNodePartition d t) Known s1 r (λ class k. k.0) h.2) in
        let all = same_nodes-trans s s1 r joined.nodes h.1 in
        let w = closed.whole in
        let one : (i < length t.nodes) × (j < length t.nodes) = All-contains (λ p. (p.0 < length t.nodes) × (p.1 < length t.nodes)) pairs (i, j) within listed in
        let l = one.0 in
        let m = one.1 in
        let holds : (class : ℕ → ℕ) → Admits r class → Admits s class × AreMet pairs class = (
        λ class a.
        let b = forced_grows (IsNodePartition d t) s1 r joined.nodes.naming h.1 h.2 class a in
        (forced_grows (AreMet pairs) s s1 closed.naming joined.nodes joined.forced class b, joined.joined class b)
        ) in
        let here : class_of r i ≡ class_of r j = All-contains (λ p. class_of r p.0 ≡ class_of r p.1) pairs (i, j) (holds (class_of r) (admits_itself r h.0.naming h.0.apart)).1 listed in
        record {
          closed = h.0;
          holds = holds;
          forced = λ class partition a e. h.2.forced class partition (joined.forced.forced class e a);
          falls = open_falls s r all.whole whole.coarser closed.naming (λ p c. subst (λ l. Contains l p) (sym all.apart) c) i j (omega arith) (omega arith) open_now (same_not_open r i j here);
        }

  module _ (made : IsWellMade t) (s : State) (closed : IsClosed d t s) (i j : ℕ) (left : i < length t.nodes) (right : j < length t.nodes) (open_now : IsOpen s i j) where
    left_in : i < length s.names
    left_in = let w = closed.whole in omega arith

    right_in : j < length s.names
    right_in = let w = closed.whole in omega arith

    -- the two nodes were joined
    module _ (s1 : State) (nodes : HasSameNodes s s1) (forced : IsForced (λ class. class i ≡ class j) s s1) (together : class_of s1 i ≡ class_of s1 j) where
      pub joined_sides : All (λ p. class_of s1 p.0 ≡ class_of s1 p.1) t.sides
      joined_sides = sides_kept s s1 forced.coarser (length t.nodes) closed.whole t.sides made.sides closed.partition.sides

      pub same_is : (r : Option State) → IsClosureOf d t s1 r → IsAnswer d t s (λ class. class i ≡ class j) r
      same_is None h = λ class partition admits e. h class partition (forced.forced class e admits)
      same_is (Some r) h =
          let Known : (ℕ → ℕ) → Type 0 = λ class. IsNodePartition d t class × (class i ≡ class j) in
          let whole : IsForced Known s r = forced-trans Known s s1 r closed.naming nodes (forced_weaker (λ class. class i ≡ class j) Known s s1 (λ class k. k.1) forced) (forced_weaker (IsNodePartition d t) Known s1 r (λ class k. k.0) h.2) in
          let all = same_nodes-trans s s1 r nodes h.1 in
          let w = nodes.whole in
          let l = left_in in
          let m = right_in in
          record {
            closed = h.0;
            holds = λ class a.
                let b = forced_grows (IsNodePartition d t) s1 r nodes.naming h.1 h.2 class a in (
                  forced_grows (λ class. class i ≡ class j) s s1 closed.naming nodes forced class b,
                  admits_same s1 class b i j (omega arith) (omega arith) together,
                );
            forced = λ class partition a e. h.2.forced class partition (forced.forced class e a);
            falls = open_falls s r all.whole whole.coarser closed.naming (λ p c. subst (λ l. Contains l p) (sym all.apart) c) i j l m open_now
                (same_not_open r i j (sym (h.2.coarser i (omega arith)) ∙ ap (class_of r) together ∙ h.2.coarser j (omega arith)));
          }

  -- the nodes of each pair are kept apart
  module _ (s : State) (closed : IsClosed d t s) (pairs : List (ℕ × ℕ)) (within : All (λ p. (p.0 < length t.nodes) × (p.1 < length t.nodes)) pairs) (s1 : State) (names : s1.names ≡ s.names) (apart : s1.apart ≡ s.apart ++ pairs) where
    class_is : (k : ℕ) → class_of s1 k ≡ class_of s k
    class_is k = ap (λ ns. get_or ns k 0) names

    n_is : length s1.names ≡ length s.names
    n_is = ap length names

    pub parted_naming : IsNaming s1
    parted_naming = record {
      named = λ k l. (
        let e = class_is k in let m = (closed.naming.named k (let n = n_is in omega arith)).0 in omega arith,
        ap (class_of s1) (class_is k) ∙ class_is (class_of s k) ∙ (closed.naming.named k (let n = n_is in omega arith)).1 ∙ sym (class_is k),
      );
      kept = let P = λ (p : ℕ × ℕ). (p.0 < length s1.names) × (p.1 < length s1.names) in
          let old : All P s.apart = subst (λ n. All (λ p. (p.0 < n) × (p.1 < n)) s.apart) (sym n_is) closed.naming.kept in
          let added : All P pairs = subst (λ n. All (λ p. (p.0 < n) × (p.1 < n)) pairs) (sym (n_is ∙ closed.whole)) within in
          All-same P s1.apart (s.apart ++ pairs) apart (All-append P s.apart pairs old added);
    }

    pub parted_sides : All (λ p. class_of s1 p.0 ≡ class_of s1 p.1) t.sides
    parted_sides = λ k e l. class_is _ ∙ closed.partition.sides k e l ∙ sym (class_is _)

    parted_admits : (class : ℕ → ℕ) → Admits s class → AreKeptApart pairs class → Admits s1 class
    parted_admits class a n = record {
      together = λ k l. a.together k (let m = n_is in omega arith) ∙ sym (ap class (class_is k));
      apart = All-same (λ p. class p.0 ≢ class p.1) s1.apart (s.apart ++ pairs) apart (All-append (λ p. class p.0 ≢ class p.1) s.apart pairs a.apart n);
    }

    there : (p : ℕ × ℕ) → Contains pairs p → Contains s1.apart p
    there p c = subst (λ l. Contains l p) (sym apart) (Contains-append_right s.apart pairs p c)

    kept_apart : (p : ℕ × ℕ) → Contains s.apart p → Contains s1.apart p
    kept_apart p c = subst (λ l. Contains l p) (sym apart) (Contains-append_left s.apart pairs p c)

    -- and those of one pair were open
    pub apart_is : (i j : ℕ) → Contains pairs (i, j) → IsOpen s i j → (r : Option State) → IsClosureOf d t s1 r → IsAnswer d t s (AreKeptApart pairs) r
    apart_is i j listed open_now None h = λ class partition admits n. h class partition (parted_admits class admits n)
    apart_is i j listed open_now (Some r) h =
        let P = λ (class : ℕ → ℕ) (p : ℕ × ℕ). class p.0 ≢ class p.1 in
        let one : (i < length t.nodes) × (j < length t.nodes) = All-contains (λ p. (p.0 < length t.nodes) × (p.1 < length t.nodes)) pairs (i, j) within listed in
        let w = closed.whole in
        let left = one.0 in
        let right = one.1 in
        record {
          closed = h.0;
          holds = λ class a.
              let b = forced_grows (IsNodePartition d t) s1 r parted_naming h.1 h.2 class a in (
                record {
                  together = λ k l. b.together k (let m = n_is in omega arith) ∙ ap class (class_is k);
                  apart = λ k e l. let c = kept_apart (get_or s.apart k e) (k, l, get_or_default s.apart k (get_or s.apart k e) e l) in subst (P class) c.2 (b.apart c.0 (get_or s.apart k e) c.1);
                },
                λ k e l. let c = there (get_or pairs k e) (k, l, get_or_default pairs k (get_or pairs k e) e l) in subst (P class) c.2 (b.apart c.0 (get_or pairs k e) c.1),
              );
          forced = λ class partition a n. h.2.forced class partition (parted_admits class a n);
          falls = open_falls s r (h.1.whole ∙ n_is) (λ k l. ap (class_of r) (sym (class_is k)) ∙ h.2.coarser k (let m = n_is in omega arith)) closed.naming
              (λ p c. subst (λ l. Contains l p) (sym h.1.apart) (kept_apart p c)) i j (omega (arith, left, w)) (omega (arith, right, w)) open_now
              (apart_not_open r i j (subst (λ l. Contains l (i, j)) (sym h.1.apart) (there (i, j) listed)));
        }

  -- what is left where the nodes of one pair are kept apart
  pub one_apart : (s : State) (i j : ℕ) (r : Option State) → IsAnswer d t s (AreKeptApart ((i, j) ∷ [])) r → IsAnswer d t s (λ class. class i ≢ class j) r
  one_apart s i j None h = λ class partition admits n. h class partition admits (one_pair class i j n)
  one_apart s i j (Some r) h = record {
    closed = h.closed;
    holds = λ class a. let b = h.holds class a in (b.0, All-head (λ p. class p.0 ≢ class p.1) (i, j) [] b.1);
    forced = λ class partition a n. h.forced class partition a (one_pair class i j n);
    falls = h.falls;
  }
