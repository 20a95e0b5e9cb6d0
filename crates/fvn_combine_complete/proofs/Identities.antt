-- Names of classes, and the nodes of identities: no value is the identity of two operators that use its class.
use Rattle.std.proofs.Common.{◌≡◌, ◌≢◌, ◌⊎◌, ℕ, ◌<◌, List, [], ◌∷◌, length, get_or, sym, ap, ◌∙◌, subst, inl, inr, arith, Contains, Option, Some}
use Rattle.std.proofs.lemmas.Option.{slice_get_within}
use Rattle.fvn_base.specs.Decided.{Decided}
use Rattle.fvn_base.proofs.Decided.{decided_by}
use Rattle.fvn_base.proofs.Options.{Some-injective}
use Rattle.fvn_terms.specs.declared.plain.OpId.{OpId}
use Rattle.fvn_terms.specs.declared.declarations.Declarations.{Declarations}
use Rattle.fvn_terms.specs.Signature.{axioms}
use Rattle.fvn_terms.specs.Equality.{identity}
use Rattle.fvn_forms.specs.Flat.{FlatTerm, fconstant}
use Rattle.fvn_forms.specs.Canon.{same_op}
use Rattle.fvn_forms.proofs.Sums.{same_op_is, same_op_itself}
use Rattle.fvn_combine_nodes.specs.Table.{NodeTable, IsWellMade, IsOver}
use Rattle.fvn_combine_nodes.specs.States.{IsClosed, IsOpen, class_of}
use Rattle.fvn_combine_nodes.specs.declared.state.State.{State}
use Rattle.fvn_combine_nodes.specs.declared.table.Node.TheVariants.{App}
use Rattle.fvn_combine_nodes.proofs.Admitting.{decided, named_within}
use Rattle.fvn_combine_systems.specs.NodeSystems.{IsNodeColumn}
use Rattle.fvn_combine_systems.proofs.Members.{column_of_node}
use Rattle.fvn_combine_leaves.specs.Leaves.{Uses, IsShared, HasTwin, IsLeaf}
use Rattle.fvn_combine_choices.specs.Tables.{HasSums}
use Rattle.fvn_combine_complete.specs.Obeying.{GoWith}

-- two operators are the same, or they are not
pub operator_told : (g f : OpId) → Decided (g ≡ f)
operator_told g f = decided_by (same_op g f) (same_op_is g f) (λ e. ap (λ o. same_op o f) e ∙ same_op_itself f)

-- the node of f's identity e, which is not in class k
pub record UnitAt (d : Declarations) (t : NodeTable) (class : ℕ → ℕ) (f : OpId) (k : ℕ) (e : OpId) : Type 0 where
  pub pair : OpId × ℕ
  pub listed : Contains t.units pair
  pub of : pair.0 ≡ f
  pub over : IsOver t.nodes pair.1 e []
  pub apart : k ≡ class pair.1 → ⊥

-- the identity of an operator that uses a class has a node
pub unit_at : (d : Declarations) (t : NodeTable) → HasSums d t → (class : ℕ → ℕ) (f : OpId) (k : ℕ) → Uses d t class f k → (e : OpId) → identity (axioms d f) ≡ Some e → UnitAt d t class f k e
unit_at d t has class f k used e i = go (has.all_units used.column.sum f e (used.column.left ∷ used.column.right ∷ []) used.column.listed used.column.over i)
  where
    go : (u : (j : ℕ) × (p : OpId × ℕ) × (j < length t.units) × (get_or t.units j p ≡ p) × (p.0 ≡ f)) → UnitAt d t class f k e
    go (j, p, l, at, same) =
        let unit = has.units p (j, l, at) in
        let is_e : unit.0 ≡ e = Some-injective (sym unit.1 ∙ ap (λ o. identity (axioms d o)) same ∙ i) in
        record {
          pair = p;
          listed = (j, l, at);
          of = same;
          over = subst (λ o. IsOver t.nodes p.1 o []) is_e unit.2;
          apart = λ q. used.column.no_identity (j, p, l, at, (same, sym q));
        }

-- the name of a class is a node in it
pub record IsName (t : NodeTable) (class : ℕ → ℕ) (k : ℕ) : Type 0 where
  pub own : class k ≡ k
  pub within : k < length t.nodes

module _ (d : Declarations) (t : NodeTable) (made : IsWellMade t) (s : State) (closed : IsClosed d t s) where
  pub own_name : (f : OpId) (k : ℕ) → IsNodeColumn t (class_of s) f k → IsName t (class_of s) k
  own_name f k h = let n = column_of_node made.ordered f k h in at n.0 n.1.0 n.1.1
    where
      at : (i : ℕ) → i < length t.nodes → class_of s i ≡ k → IsName t (class_of s) k
      at i l e =
          let w = closed.whole in
          let m : i < length s.names = omega (arith, l, w) in
          let n = named_within s closed.naming i m in
          record { own = ap (class_of s) (sym e) ∙ (closed.naming.named i m).1 ∙ e; within = omega (arith, n, w, e) }

module _ (d : Declarations) (t : NodeTable) (s : State) (values : ℕ → FlatTerm) (go_with : GoWith d t s values) where
  -- the class of a node is that of the value
  pub same_class : (k n : ℕ) → IsName t (class_of s) k → n < length t.nodes → IsOpen s k n ⊎ ((k ≡ class_of s n) ⊎ (values k ≢ values (class_of s n)))
  same_class k n name within = elim (decided s k n) [
    | inl o ↦ inl o
    | inr r ↦ elim r [
      | inl e ↦ inr (inl (sym name.own ∙ e))
      | inr a ↦ inr (inr (λ e. go_with.differ k n name.within within a (ap values name.own ∙ e)))
    ]
  ]

module _ (d : Declarations) (t : NodeTable) (made : IsWellMade t) (has : HasSums d t) (s : State) {heads : List (Option OpId)} (leaf : IsLeaf d t heads s) (values : ℕ → FlatTerm) (go_with : GoWith d t s values) where
  abbrev class : ℕ → ℕ
  class = class_of s

  -- where another operator with the same identity uses a shared class, this is not its value
  pub no_twin_identity : (f : OpId) (k : ℕ) → IsShared d t class k → Uses d t class f k → HasTwin d t class f k → (e : OpId) → identity (axioms d f) ≡ Some e → values k ≡ fconstant e → ⊥
  no_twin_identity f k shared used twin e i is =
      let unit = unit_at d t has class f k used e i in
      let value : values (class unit.pair.1) ≡ fconstant e = go_with.are.built unit.pair.1 e [] unit.over in
      elim (same_class d t s values go_with k unit.pair.1 (own_name d t made s leaf.closed f k used.column) (slice_get_within t.nodes unit.pair.1 (App e []) unit.over)) [
        | inl o ↦ leaf.identities f k shared used twin unit.pair unit.listed unit.of o
        | inr r ↦ elim r [
          | inl q ↦ unit.apart q
          | inr n ↦ n (is ∙ sym value)
        ]
      ]

  -- so that two operators that use a shared class are one, where its value is the identity of both
  pub one_identity : (f g : OpId) (k : ℕ) → IsShared d t class k → Uses d t class f k → Uses d t class g k → (e : OpId) → identity (axioms d f) ≡ Some e → identity (axioms d g) ≡ Some e → values k ≡ fconstant e → g ≡ f
  one_identity f g k shared used also e i j is = elim (operator_told g f) [
    | inl same ↦ same
    | inr n ↦ absurd (no_twin_identity f k shared used (record { twin = g; other = n; same = j ∙ sym i; uses = also }) e i is)
  ]
