-- Classes that are single summands by their heads: their values are, and a solution in which they have one value is alive.
use Rattle.std.proofs.Common.{◌≡◌, ◌≢◌, ℕ, ◌<◌, List, [], ◌∷◌, map, sym, ap, ◌∙◌, refl, subst, inl, inr, arith, Some}
use Rattle.std.specs.List.{AllByRecursion}
use Rattle.std.proofs.lemmas.List.{length-map}
use Rattle.fvn_terms.specs.declared.plain.OpId.{OpId}
use Rattle.fvn_terms.specs.declared.declarations.Declarations.{Declarations}
use Rattle.fvn_terms.specs.Signature.{axioms}
use Rattle.fvn_terms.specs.Equality.{IsAssociative, identity}
use Rattle.fvn_forms.specs.Flat.{FlatTerm, fconstant}
use Rattle.fvn_forms.specs.Canon.{parts}
use Rattle.fvn_forms.specs.Settled.{Settled}
use Rattle.fvn_flat.specs.Forms.{head_of}
use Rattle.fvn_flat.specs.SolvedLists.{component}
use Rattle.fvn_combine_nodes.specs.Table.{NodeTable, IsWellMade, IsOver}
use Rattle.fvn_combine_nodes.specs.Classes.{IsNodePartition}
use Rattle.fvn_combine_nodes.specs.States.{IsClosed, class_of}
use Rattle.fvn_combine_nodes.specs.declared.state.State.{State}
use Rattle.fvn_combine_nodes.proofs.Heading.{build_head}
use Rattle.fvn_combine_systems.specs.NodeSystems.{IsNodeColumn}
use Rattle.fvn_combine_leaves.specs.Leaves.{IsSolid, Uses, IsSingle, IsAlive, AreTold}
use Rattle.fvn_combine_choices.specs.Tables.{HasSums}
use Rattle.fvn_combine_complete.specs.Obeying.{GoWith}
use Rattle.fvn_combine_complete.proofs.Heads.{build_constant, single_part}
use Rattle.fvn_combine_complete.proofs.Identities.{UnitAt, unit_at, own_name, same_class}

module _ (d : Declarations) (t : NodeTable) (made : IsWellMade t) (has : HasSums d t) (s : State) (closed : IsClosed d t s) (values : ℕ → FlatTerm) (go_with : GoWith d t s values) where
  abbrev class : ℕ → ℕ
  class = class_of s

  settled_values : (ks : List ℕ) → AllByRecursion (Settled d) (map (λ k. values (class k)) ks)
  settled_values [] = tt
  settled_values (k ∷ ks) = (go_with.are.settled (class k), settled_values ks)

  -- an operator without an identity that heads a member heads the value
  pub solid_head : (f : OpId) (k : ℕ) → IsSolid d t class f k → head_of (values k) ≡ Some f
  solid_head f k h =
      ap (λ n. head_of (values n)) (sym h.of)
      ∙ ap head_of (go_with.are.built h.member f h.arguments h.over)
      ∙ build_head d f h.no_identity (map (λ k. values (class k)) h.arguments) (settled_values h.arguments)
      (λ assoc. length-map h.arguments (λ k. values (class k)) ∙ (has.pairs h.member f h.arguments h.over assoc).0)

  -- two classes that have columns, and are told to differ, have two values
  pub told_differ : (f : OpId) (k l : ℕ) → IsNodeColumn t class f k → IsNodeColumn t class f l → k ≢ l → AreTold d t s k l → values k ≢ values l
  told_differ f k l hk hl n (inl two) e = two.different (let p : Some two.first ≡ Some two.second = sym (solid_head two.first k two.heads_first) ∙ ap head_of e ∙ solid_head two.second l two.heads_second in cc)
  told_differ f k l hk hl n (inr closed_pair) e =
      let one = own_name d t made s closed f k hk in
      let other = own_name d t made s closed f l hl in
      elim (same_class d t s values go_with k l one other.within) [
        | inl o ↦ closed_pair o
        | inr r ↦ elim r [
          | inl q ↦ n (q ∙ other.own)
          | inr m ↦ m (e ∙ sym (ap values other.own))
        ]
      ]

  pub one_value_alive : (f : OpId) (columns solution : List ℕ) → ((k l : ℕ) → IsSingle d t class f k → IsSingle d t class f l → 0 < component columns solution k → 0 < component columns solution l → values k ≡ values l) → IsAlive d t s f columns solution
  one_value_alive f columns solution same k l n one other left right told_apart = told_differ f k l one.used.column other.used.column n told_apart (same k l one other left right)

  module _ (partition : IsNodePartition d t class) where
    -- the value of a class that f uses, and whose member an operator without an identity heads, is not f's identity
    pub solid_no_identity : (f : OpId) (k : ℕ) → Uses d t class f k → (g : OpId) → IsSolid d t class g k → (e : OpId) → identity (axioms d f) ≡ Some e → values k ≡ fconstant e → ⊥
    solid_no_identity f k used g h e i is =
        let same_head : Some g ≡ Some e = sym (solid_head g k h) ∙ ap head_of is in
        let g_is : g ≡ e = cc in
        headed (subst (λ o. IsSolid d t class o k) g_is h) (unit_at d t has class f k used e i)
      where
        headed : IsSolid d t class e k → UnitAt d t class f k e → ⊥
        headed m unit =
            let plain : IsAssociative (axioms d e) → ⊥ = λ assoc. (let n = (has.pairs unit.pair.1 e [] unit.over assoc).0 in omega (arith, n)) in
            let nothing = build_constant d e plain (map (λ k. values (class k)) m.arguments) (sym (go_with.are.built m.member e m.arguments m.over) ∙ ap values m.of ∙ is) in
            let none : m.arguments ≡ [] = map_nothing m.arguments nothing in
            let same_node : class m.member ≡ class unit.pair.1 =
            (partition.nodes m.member unit.pair.1 e e [] [] (subst (IsOver t.nodes m.member e) none m.over) unit.over).congruent refl refl
            in
            unit.apart (sym m.of ∙ same_node)
          where
            map_nothing : (ks : List ℕ) → map (λ k. values (class k)) ks ≡ [] → ks ≡ []
            map_nothing [] z = refl
            map_nothing (x ∷ xs) z = cc

    -- a single summand by its head has a value that is one
    pub single_alone : (f : OpId) (k : ℕ) → IsSingle d t class f k → parts d f (values k) ≡ values k ∷ []
    single_alone f k h =
        single_part d f (values k) (λ sum. h.other (let e : Some h.head ≡ Some f = sym (solid_head h.head k h.solid) ∙ ap head_of sum.1 in cc))
        (solid_no_identity f k h.used h.head h.solid)
