-- The values that go with a state: what heads them, and how many summands they have.
use Rattle.std.proofs.Common.{◌≡◌, ◌≢◌, ℕ, ◌+◌, ◌<◌, ◌≤◌, true, List, [], ◌∷◌, length, map, refl, sym, ap, ◌∙◌, arith, Option, Some}
use Rattle.std.specs.Prelude.{Bool}
use Rattle.std.specs.List.{AllByRecursion}
use Rattle.std.proofs.lemmas.List.{length-map}
use Rattle.std.proofs.lemmas.Option.{slice_get_within}
use Rattle.fvn_terms.specs.declared.plain.OpId.{OpId}
use Rattle.fvn_terms.specs.declared.declarations.Declarations.{Declarations}
use Rattle.fvn_terms.specs.Signature.{axioms}
use Rattle.fvn_terms.specs.Equality.{IsAssociative, identity}
use Rattle.fvn_forms.specs.Flat.{FlatTerm, fconstant}
use Rattle.fvn_forms.specs.InOrder.{count}
use Rattle.fvn_forms.specs.Canon.{parts}
use Rattle.fvn_forms.specs.Settled.{Settled}
use Rattle.fvn_forms.proofs.Build.{count_parts_build, parts_none, parts_identity}
use Rattle.fvn_flat.specs.Forms.{head_of}
use Rattle.fvn_flat.specs.Partitions.{HasNoIdentity}
use Rattle.fvn_combine_nodes.specs.Table.{NodeTable, IsWellMade}
use Rattle.fvn_combine_nodes.specs.States.{IsClosed, class_of, is_apart}
use Rattle.fvn_combine_nodes.specs.declared.state.State.{State}
use Rattle.fvn_combine_nodes.specs.declared.table.Node.TheVariants.{App}
use Rattle.fvn_combine_nodes.proofs.Admitting.{named_within}
use Rattle.fvn_combine_nodes.proofs.Nodes.{arguments_within}
use Rattle.fvn_combine_nodes.proofs.Heading.{some_part, build_head}
use Rattle.fvn_combine_leaves.specs.Leaves.{IsSolid}
use Rattle.fvn_combine_bounds.specs.CombineChoicesTables.{HasSums}
use Rattle.fvn_combine_bounds.specs.CombineCompleteObeying.{GoWith}
use Rattle.fvn_combine_inferring.specs.Sorted.{GoWithSorts}
use Rattle.fvn_combine_inferring.specs.Rows.{summands, times, many}
use Rattle.fvn_combine_inferring.specs.inner.Bounds.{IsHeadedApart, HaveTwoHeads}
use Rattle.fvn_combine_inferring.specs.inner.Splits.{IsUnitNode, IsUnitClass, IsSplit, AreSplits, IsAdditive, AreWithin}
use Rattle.fvn_combine_inferring.proofs.Headed.{headed_part}
use Rattle.fvn_combine_inferring.specs.Inferred.{TellHeads}

module _ (d : Declarations) (t : NodeTable) (s : State) (closed : IsClosed d t s) where
  -- the node that names a class is in it
  pub own_name : (i : ℕ) → i < length t.nodes → class_of s (class_of s i) ≡ class_of s i
  own_name i l = (closed.naming.named i (let w = closed.whole in omega (arith, l, w))).1

  pub name_within : (i : ℕ) → i < length t.nodes → class_of s i < length t.nodes
  name_within i l = let w = closed.whole in let n = named_within s closed.naming i (omega (arith, l, w)) in omega (arith, n, w)

  -- the classes of a split are nodes
  pub split_within : IsWellMade t → (f : OpId) (k : ℕ) (p : ℕ × ℕ) → IsSplit t s f k p → (p.0 < length t.nodes) × (p.1 < length t.nodes)
  split_within made f k p h =
      let args = arguments_within t.nodes made.ordered h.member f (h.left ∷ h.right ∷ []) h.over in
      let a = name_within h.left (args 0 0 (omega arith)) in
      let b = name_within h.right (args 1 0 (omega arith)) in
      let first = h.first in
      let second = h.second in
      (omega (arith, a, first), omega (arith, b, second))

  -- the classes of splits have places
  pub splits_within : IsWellMade t → (f : OpId) (splits : List (Option (ℕ × ℕ))) → AreSplits t s f splits → AreWithin splits
  splits_within made f splits are k p e =
      let n = are.as_many in
      let h = split_within made f k p (are.each k p e) in
      let a = h.0 in
      let b = h.1 in
      (omega (arith, n, a), omega (arith, n, b))

module _ (d : Declarations) (t : NodeTable) (has : HasSums d t) (s : State) (closed : IsClosed d t s) (values : ℕ → FlatTerm) (go_with : GoWith d t s values) where
  settled_values : (ks : List ℕ) → AllByRecursion (Settled d) (map (λ k. values (class_of s k)) ks)
  settled_values [] = tt
  settled_values (k ∷ ks) = (go_with.are.settled (class_of s k), settled_values ks)

  -- an operator without an identity that heads a member heads the value
  pub head_of_solid : (g : OpId) (k : ℕ) → IsSolid d t (class_of s) g k → head_of (values k) ≡ Some g
  head_of_solid g k h =
      ap (λ n. head_of (values n)) (sym h.of)
      ∙ ap head_of (go_with.are.built h.member g h.arguments h.over)
      ∙ build_head d g h.no_identity (map (λ k. values (class_of s k)) h.arguments) (settled_values h.arguments)
      (λ assoc. length-map h.arguments (λ k. values (class_of s k)) ∙ (has.pairs h.member g h.arguments h.over assoc).0)

  -- the identity of f is the value of its node
  pub unit_value : (f : OpId) (n : ℕ) → IsUnitNode t f n → (e : OpId) × (identity (axioms d f) ≡ Some e) × (values (class_of s n) ≡ fconstant e)
  unit_value f n (j, p, l, at, same) =
      let unit = has.units p (j, l, at) in (
        unit.0,
        ap (λ o. identity (axioms d o)) (sym same.0) ∙ unit.1,
        ap (λ i. values (class_of s i)) (sym same.1) ∙ go_with.are.built p.1 unit.0 [] unit.2,
      )

  -- what has no summands has the value of the identity
  pub nothing_value : (f : OpId) (n k : ℕ) → IsUnitNode t f n → summands d s f values k ≡ [] → values (class_of s k) ≡ values (class_of s n)
  nothing_value f n k unit none =
      let u = unit_value f n unit in
      let p = parts_none d f (values (class_of s k)) (go_with.are.settled (class_of s k)) none in
      let q : Some p.0 ≡ Some u.0 = sym p.1 ∙ u.1 in
      let one : p.0 ≡ u.0 = cc in
      p.2 ∙ ap fconstant one ∙ sym u.2

  pub unit_weighs_nothing : (f : OpId) (e : ℕ) → IsUnitClass t s f e → (q : FlatTerm) → times d s f values q e ≡ 0
  unit_weighs_nothing f e (n, unit, within, is) q =
      let u = unit_value f n unit in
      let name : class_of s e ≡ class_of s n = ap (class_of s) (sym is) ∙ own_name d t s closed n within in
      ap (λ k. count q (parts d f (values k))) name ∙ ap (λ v. count q (parts d f v)) u.2 ∙ ap (count q) (parts_identity d f u.0 u.1)

  module _ (made : IsWellMade t) (f : OpId) (assoc : IsAssociative (axioms d f)) where
    -- a class has the summands of the two classes of its split
    pub split_adds : (k : ℕ) (p : ℕ × ℕ) → IsSplit t s f k p → (q : FlatTerm) → times d s f values q k ≡ times d s f values q p.0 + times d s f values q p.1
    split_adds k p h q =
        let counted : FlatTerm → ℕ = λ v. count q (parts d f v) in
        let args = arguments_within t.nodes made.ordered h.member f (h.left ∷ h.right ∷ []) h.over in
        let here = slice_get_within t.nodes h.member (App f (h.left ∷ h.right ∷ [])) h.over in
        let name : class_of s k ≡ class_of s h.member = ap (class_of s) (sym h.of) ∙ own_name d t s closed h.member here in
        let first : class_of s p.0 ≡ class_of s h.left = ap (class_of s) (sym h.first) ∙ own_name d t s closed h.left (args 0 0 (omega arith)) in
        let second : class_of s p.1 ≡ class_of s h.right = ap (class_of s) (sym h.second) ∙ own_name d t s closed h.right (args 1 0 (omega arith)) in
        let a = ap (λ n. counted (values n)) name ∙ ap counted (go_with.are.built h.member f (h.left ∷ h.right ∷ []) h.over) in
        let b = count_parts_build d f assoc q (values (class_of s h.left)) (values (class_of s h.right)) (go_with.are.settled (class_of s h.left)) (go_with.are.settled (class_of s h.right)) in
        let x = ap (λ n. counted (values n)) first in
        let y = ap (λ n. counted (values n)) second in
        omega (arith, a, b, x, y)

    pub times_additive : (splits : List (Option (ℕ × ℕ))) → AreSplits t s f splits → (q : FlatTerm) → IsAdditive splits (times d s f values q)
    times_additive splits are q k p e = split_adds k p (are.each k p e) q

  -- under an operator without an identity each value has a summand
  pub bare_summand : (f : OpId) (k : ℕ) → HasNoIdentity (axioms d f) → 1 ≤ many d s f values k
  bare_summand f k bare = some_part d f bare (values (class_of s k)) (go_with.are.settled (class_of s k))

  -- so it has where the class is kept apart from the identity
  pub apart_summand : (f : OpId) (n k : ℕ) → IsUnitNode t f n → n < length t.nodes → k < length t.nodes → is_apart s k n ≡ true → 1 ≤ many d s f values k
  apart_summand f n k unit within l apart = go (summands d s f values k) refl
    where
      go : (xs : List FlatTerm) → summands d s f values k ≡ xs → 1 ≤ many d s f values k
      go [] e = absurd (go_with.differ k n l within apart (nothing_value f n k unit e))
      go (x ∷ xs) e = let m = ap length e in omega (arith, m)

module _ (d : Declarations) (t : NodeTable) (s : State) (closed : IsClosed d t s) (sorted : Bool) (heads : List (Option OpId)) (are : TellHeads d t s sorted heads) (values : ℕ → FlatTerm) (go : GoWithSorts d t s sorted values) where
  -- a class that another operator heads has its value as its one summand
  pub headed_summand : (f : OpId) (k : ℕ) → k < length t.nodes → IsHeadedApart d f heads (class_of s k) → summands d s f values k ≡ values (class_of s k) ∷ []
  headed_summand f k l h =
      headed_part d f h.0 h.2.0 h.2.1 (values (class_of s k)) (are.headed (class_of s k) h.0 (name_within d t s closed k l) h.1 values go)

  -- two heads make two values
  pub heads_differ : (i j : ℕ) → i < length t.nodes → j < length t.nodes → HaveTwoHeads heads (class_of s i) (class_of s j) → values (class_of s i) ≢ values (class_of s j)
  heads_differ i j l m h e =
      let a = are.headed (class_of s i) h.0 (name_within d t s closed i l) h.2 values go in
      let b = are.headed (class_of s j) h.1 (name_within d t s closed j m) h.3 values go in
      h.4 (let p : Some h.0 ≡ Some h.1 = sym a ∙ ap head_of e ∙ b in cc)
