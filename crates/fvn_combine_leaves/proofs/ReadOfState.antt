-- What a reading tells of a state.
use Rattle.std.proofs.Common.{◌≡◌, ◌≢◌, ◌⊎◌, ℕ, ◌<◌, List, length, get_or, refl, sym, ap, ◌∙◌, subst, inl, inr, arith, Contains, Option, Some, None}
use Rattle.std.specs.Prelude.{slice_get}
use Rattle.std.proofs.lemmas.Bool.{cases_order}
use Rattle.std.proofs.lemmas.List.{get_or_default, get_or-map, length-map}
use Rattle.std.proofs.lemmas.List.Elements.{All-contains, All-weaker}
use Rattle.std.proofs.lemmas.Option.{slice_get_within, slice_get-get_or, get_or_from_slice_get}
use Rattle.fvn_base.proofs.Membership.{contains_map, map_contains}
use Rattle.fvn_terms.specs.declared.plain.OpId.{OpId}
use Rattle.fvn_terms.specs.declared.declarations.Declarations.{Declarations}
use Rattle.fvn_terms.specs.Signature.{axioms}
use Rattle.fvn_terms.specs.Equality.{identity}
use Rattle.fvn_combine_systems.specs.CombineNodesTable.{NodeTable, IsWellMade}
use Rattle.fvn_combine_systems.specs.CombineNodesStates.{IsClosed, class_of}
use Rattle.fvn_combine_systems.specs.CombineNodesDeclared.state.State.{State}
use Rattle.fvn_combine_systems.proofs.CombineNodesAdmitting.{named_within}
use Rattle.fvn_combine_systems.proofs.CombineNodesLists.{all_from}
use Rattle.fvn_combine_systems.specs.NodeSystems.{IsNodeColumn}
use Rattle.fvn_combine_systems.proofs.Members.{column_of_node}
use Rattle.fvn_combine_leaves.specs.Leaves.{IsSumOperator, IsSolid, Uses, IsShared, HasTwin}
use Rattle.fvn_combine_leaves.specs.Readings.{AreSums, IsReading}
use Rattle.fvn_combine_leaves.specs.Users.{IsWholeSums, IsWhole, IsMarked, IsUserAt, HasTwoUsers, HasTwinIn, head_of, IsSharedIn}
use Rattle.fvn_combine_leaves.specs.declared.reading.Sums.{Sums}
use Rattle.fvn_combine_leaves.specs.declared.reading.Reading.{Reading}

-- the entries at one place are one
one_entry : (sums : List Sums) (x y : Sums) (c : Contains sums x) (e : Contains sums y) → c.0 ≡ e.0 → x ≡ y
one_entry sums x y c e same = sym c.2 ∙ ap (λ n. get_or sums n x) same ∙ get_or_default sums e.0 x y e.1 ∙ e.2

module _ (d : Declarations) (t : NodeTable) (made : IsWellMade t) (s : State) (closed : IsClosed d t s) where
  class_within : (i : ℕ) → i < length t.nodes → class_of s i < length t.nodes
  class_within i l = let w = closed.whole in let n = named_within s closed.naming i (omega (arith, l, w)) in omega (arith, n, w)

  -- the class of a column is that of a node
  pub column_within : (f : OpId) (k : ℕ) → IsNodeColumn t (class_of s) f k → k < length t.nodes
  column_within f k h = let n = column_of_node made.ordered f k h in subst (λ k. k < length t.nodes) n.1.1 (class_within n.0 n.1.0)

  module _ (r : Reading) (reading : IsReading d t (class_of s) r) where
    pub are_sums : (e : Sums) → Contains r.sums e → AreSums d t (class_of s) e
    are_sums e c = All-contains (AreSums d t (class_of s)) r.sums e reading.sums c

    whole_sums : (e : Sums) → AreSums d t (class_of s) e → IsWholeSums (length t.nodes) e
    whole_sums e are = record {
      marked = are.marked;
      within = all_from (λ c. c < length t.nodes) e.columns (λ c m. column_within e.operator c ((are.is_system.exact c).0 m));
    }

    pub reading_whole : IsWhole (length t.nodes) r
    reading_whole = record {
      sums = All-weaker (AreSums d t (class_of s)) (IsWholeSums (length t.nodes)) whole_sums r.sums reading.sums;
      heads = reading.heads.as_many;
    }

    pub sums_whole : (e : Sums) → Contains r.sums e → IsWholeSums (length t.nodes) e
    sums_whole e c = whole_sums e (are_sums e c)

    pub sum_operator : (e : Sums) → Contains r.sums e → IsSumOperator d t e.operator
    sum_operator e c = (reading.operators.exact e.operator).0 (contains_map (λ (e : Sums). e.operator) r.sums e c)

    -- an operator uses a class exactly where its column is marked
    pub marked_to : (e : Sums) → Contains r.sums e → (k : ℕ) → Uses d t (class_of s) e.operator k → IsMarked e k
    marked_to e c k u =
        let are = are_sums e c in
        let m = (are.is_system.exact k).1 u.column in
        let at : get_or e.columns m.0 0 ≡ k = get_or_default e.columns m.0 0 k m.1 ∙ m.2 in
        (m.0, m.1, at, (are.exact m.0 m.1).1 (subst (Uses d t (class_of s) e.operator) (sym at) u))

    pub marked_from : (e : Sums) → Contains r.sums e → (k : ℕ) → IsMarked e k → Uses d t (class_of s) e.operator k
    marked_from e c k m = subst (Uses d t (class_of s) e.operator) m.2 (((are_sums e c).exact m.0 m.1).0 m.3)

    -- the entry of an operator that uses a class
    pub record Entry (f : OpId) : Type 0 where
      pub entry : Sums
      pub listed : Contains r.sums entry
      pub operator : entry.operator ≡ f

    pub entry_of : (f : OpId) (k : ℕ) → Uses d t (class_of s) f k → Entry f
    entry_of f k u =
        let m = map_contains (λ e. e.operator) r.sums f ((reading.operators.exact f).1 (record { associative = u.associative; sum = u.row; listed = u.listed })) in
        record { entry = m.0; listed = m.1.0; operator = m.1.1 }

    -- another operator with the same identity uses a class exactly where the reading says so
    pub twin_from : (f : OpId) (k : ℕ) → HasTwinIn d r.sums f k → HasTwin d t (class_of s) f k
    twin_from f k h = record { twin = h.entry.operator; other = h.twin.other; same = h.twin.same; uses = marked_from h.entry h.listed k h.twin.uses }

    pub twin_in : (f : OpId) (k : ℕ) → HasTwin d t (class_of s) f k → HasTwinIn d r.sums f k
    twin_in f k h =
        let a = entry_of h.twin k h.uses in
        record {
          entry = a.entry;
          listed = a.listed;
          twin = record {
            other = λ one. h.other (sym a.operator ∙ one);
            same = ap (λ o. identity (axioms d o)) a.operator ∙ h.same;
            uses = marked_to a.entry a.listed k (subst (λ o. Uses d t (class_of s) o k) (sym a.operator) h.uses);
          };
        }

    user_at : (e : Sums) (c : Contains r.sums e) (k : ℕ) → Uses d t (class_of s) e.operator k → IsUserAt r.sums c.0 k
    user_at e c k u = record { entry = e; is = slice_get-get_or r.sums c.0 e c.1 ∙ ap Some c.2; uses = marked_to e c k u }

    -- two operators that use a class are one, or stand at two places
    one_or_two : (k : ℕ) (f g : OpId) → Uses d t (class_of s) f k → Uses d t (class_of s) g k → (f ≡ g) ⊎ HasTwoUsers r.sums k
    one_or_two k f g u v =
        let a = entry_of f k u in
        let b = entry_of g k v in
        let at_a = user_at a.entry a.listed k (subst (λ o. Uses d t (class_of s) o k) (sym a.operator) u) in
        let at_b = user_at b.entry b.listed k (subst (λ o. Uses d t (class_of s) o k) (sym b.operator) v) in
        elim (cases_order a.listed.0 b.listed.0) [
          | inl same ↦ inl (sym a.operator ∙ ap (λ e. e.operator) (one_entry r.sums a.entry b.entry a.listed b.listed same) ∙ b.operator)
          | inr o ↦ elim o [
            | inl lt ↦ inr (record { first = a.listed.0; second = b.listed.0; before = lt; uses_first = at_a; uses_second = at_b })
            | inr gt ↦ inr (record { first = b.listed.0; second = a.listed.0; before = gt; uses_first = at_b; uses_second = at_a })
          ]
        ]

    pub two_users_of : (k : ℕ) (f g : OpId) → f ≢ g → Uses d t (class_of s) f k → Uses d t (class_of s) g k → HasTwoUsers r.sums k
    two_users_of k f g n u v = elim (one_or_two k f g u v) [
      | inl same ↦ absurd (n same)
      | inr two ↦ two
    ]

    pub one_user : (k : ℕ) → (HasTwoUsers r.sums k → ⊥) → (f g : OpId) → Uses d t (class_of s) f k → Uses d t (class_of s) g k → g ≡ f
    one_user k none f g u v = elim (one_or_two k f g u v) [
      | inl same ↦ sym same
      | inr two ↦ absurd (none two)
    ]

    listed_at : (i : ℕ) (e : Sums) → slice_get r.sums i ≡ Some e → Contains r.sums e
    listed_at i e is =
        let l = slice_get_within r.sums i e is in
        let at : Some (get_or r.sums i e) ≡ Some e = sym (slice_get-get_or r.sums i e l) ∙ is in
        (i, l, cc)

    -- the operators of two places
    pub users_differ : (k : ℕ) → HasTwoUsers r.sums k → (f : OpId) × (g : OpId) × (f ≢ g) × Uses d t (class_of s) f k × Uses d t (class_of s) g k
    users_differ k two =
        let a = two.uses_first in
        let b = two.uses_second in
        let in_a = listed_at two.first a.entry a.is in
        let in_b = listed_at two.second b.entry b.is in (
          a.entry.operator,
          b.entry.operator,
          differ two.first two.second two.before a.entry b.entry (get_or_from_slice_get r.sums two.first a.entry a.entry a.is) (get_or_from_slice_get r.sums two.second b.entry b.entry b.is) (slice_get_within r.sums two.second b.entry b.is),
          marked_from a.entry in_a k a.uses,
          marked_from b.entry in_b k b.uses,
        )
      where
        differ : (i j : ℕ) → i < j → (a b : Sums) → get_or r.sums i a ≡ a → get_or r.sums j b ≡ b → j < length r.sums → a.operator ≢ b.operator
        differ i j l a b p q m same =
            let n = reading.operators.distinct i j a.operator l (omega (arith, m, length-map r.sums (λ (e : Sums). e.operator))) in
            n (get_or-map (λ (e : Sums). e.operator) r.sums i a a.operator (omega (arith, l, m)) ∙ ap (λ e. e.operator) p ∙ same ∙ sym (get_or-map (λ (e : Sums). e.operator) r.sums j b a.operator m ∙ ap (λ e. e.operator) q))

    pub head_none : (k : ℕ) → k < length t.nodes → ((f : OpId) → IsSolid d t (class_of s) f k → ⊥) → head_of r k ≡ None
    head_none k l soft = go (head_of r k) refl
      where
        go : (o : Option OpId) → head_of r k ≡ o → head_of r k ≡ None
        go None e = e
        go (Some f) e = absurd (soft f ((reading.heads.exact k f l).0 e))

    pub no_head : (k : ℕ) → k < length t.nodes → head_of r k ≡ None → (f : OpId) → IsSolid d t (class_of s) f k → ⊥
    no_head k l e f solid = let n : None ≡ Some f = sym e ∙ (reading.heads.exact k f l).1 solid in cc

    -- a class is shared exactly where the reading says so
    pub shared_in : (k : ℕ) → k < length t.nodes → IsShared d t (class_of s) k → IsSharedIn r k
    shared_in k l h = (head_none k l h.soft, two_users_of k h.first h.second h.different h.uses_first h.uses_second)

    pub shared_from : (k : ℕ) → k < length t.nodes → IsSharedIn r k → IsShared d t (class_of s) k
    shared_from k l h =
        let u = users_differ k h.1 in
        record { soft = no_head k l h.0; first = u.0; second = u.1; different = u.2; uses_first = u.3; uses_second = u.4 }
