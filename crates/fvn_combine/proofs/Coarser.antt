-- A search that ends at a state came to all that joins more before.
use Rattle.std.proofs.Common.{◌≡◌, ◌≢◌, ℕ, ◌<◌, List, [], ◌∷◌, ◌++◌, length, get_or, map, sym, ap, ◌∙◌, subst, inl, inr, All, Contains, Some, Option}
use Rattle.std.specs.Prelude.{Any}
use Rattle.std.proofs.lemmas.Option.{slice_get_within}
use Rattle.std.proofs.lemmas.List.Elements.{All-map, All-weaker, All-contains, Contains-push}
use Rattle.fvn_base.proofs.Membership.{map_contains}
use Rattle.fvn_terms.specs.declared.plain.OpId.{OpId}
use Rattle.fvn_terms.specs.Term.{Term}
use Rattle.fvn_terms.specs.Signature.{axioms}
use Rattle.fvn_terms.specs.Substitution.{Substitution, apply}
use Rattle.fvn_terms.specs.Equality.{BEqual, IsAssociative}
use Rattle.fvn_lindio.specs.declared.system.System.{System}
use Rattle.fvn_flat.specs.Partitions.{IsNode}
use Rattle.fvn_flat.specs.Solving.{problem_of, IsBasisCause}
use Rattle.fvn_lindio.specs.Systems.{Solves, rows_of}
use Rattle.fvn_flat.specs.SolvedLists.{IsKindUnifier, component}
use Rattle.fvn_combine_nodes.specs.Laws.{class_at, NodePartitionsArePartitions, UnifiersPartition}
use Rattle.fvn_combine_nodes.specs.States.{Admits, IsClosed, class_of}
use Rattle.fvn_combine_nodes.specs.Table.{term_at}
use Rattle.fvn_combine_tree.specs.Trees.{AreClosed}
use Rattle.fvn_combine_nodes.specs.Unifiers.{kernel}
use Rattle.fvn_combine_nodes.specs.declared.state.State.{State}
use Rattle.fvn_combine_nodes.proofs.Admitting.{admits_same, admits_apart, named_within, decided}
use Rattle.fvn_combine_nodes.proofs.Nodes.{application_at}
use Rattle.fvn_combine_nodes.proofs.NodesOf.{NodeOf, is_node, node_of, own_class}
use Rattle.fvn_combine_systems.specs.Laws.{NodeSystemsAreSumSystems}
use Rattle.fvn_combine_leaves.specs.Leaves.{IsSolid, MayBeConstant, HaveTwoHeads}
use Rattle.fvn_combine_choices.proofs.Using.{solution_uses}
use Rattle.fvn_combine.specs.Tasks.{Combining, IsCombining}
use Rattle.fvn_combine.specs.Search.{IsEnd, IsRefusedAt, HasNoQuestion, HasNoChoiceAt, AdmitsOrIsParted, IsLeft}
use Rattle.fvn_combine.specs.Coarser.{Joins, IsAlien, JoinsAliens, JoinsMore, IsEndedAt}
use Rattle.fvn_combine.specs.Advancing.{IsToCome, IsFinerAt}
use Rattle.fvn_combine.specs.declared.opened.Leaf.{Leaf}
use Rattle.fvn_combine.specs.declared.ending.Ended.{Ended}
use Rattle.fvn_combine.specs.declared.ending.Ended.TheVariants.{Basis, Size}
use Rattle.fvn_combine.specs.inner.Parts.{search_by}

-- what holds of some image holds of the image of some element
any_mapped : {A B : Type 0} (f : A → B) (P : B → Type 0) (xs : List A) → Any P (map f xs) → (x : A) × (Contains xs x × P (f x))
any_mapped f P xs h = let m = map_contains f xs h.1 (h.0, h.2, h.3) in (m.0, (m.1.0, subst P (sym m.1.1) h.4))

module _ (partitions : NodePartitionsArePartitions) (systems : NodeSystemsAreSumSystems) (kernels : UnifiersPartition) (k : Combining) (is : IsCombining k) where
  -- nodes of one class under u are equal under u
  equal_under : (u : Substitution) → IsKindUnifier k.declarations (problem_of k.given) u → (i j : ℕ) → i < length k.table.nodes → j < length k.table.nodes
      → BEqual k.declarations (apply u (term_at k.table.nodes i)) (apply u (term_at k.table.nodes j)) → kernel k.declarations u k.table.nodes i ≡ kernel k.declarations u k.table.nodes j
  equal_under u unifies i j l m e = ((kernels k.declarations is.good.fits (problem_of k.given) is.is_given.kinds k.table is.well_made is.table_of u unifies).exact i j l m).1 e

  module _ (s : State) (closed : IsClosed k.declarations k.table s) where
    abbrev term_of : ℕ → Term
    term_of i = term_at k.table.nodes i

    within : (i : ℕ) → i < length s.names → i < length k.table.nodes
    within i l = subst (λ n. i < n) closed.whole l

    own : (i : ℕ) → i < length s.names → class_at k.table (class_of s) (term_of i) ≡ class_of s i
    own i l = own_class is.well_made is.table_of (class_of s) i (within i l)

    abbrev terms_apart : List (Term × Term)
    terms_apart = map (λ p. (term_of p.0, term_of p.1)) s.apart

    apart_nodes : All (λ p. IsNode k.declarations (problem_of k.given) p.0 × IsNode k.declarations (problem_of k.given) p.1) terms_apart
    apart_nodes =
        All-map (λ p. IsNode k.declarations (problem_of k.given) p.0 × IsNode k.declarations (problem_of k.given) p.1) (λ p. (term_of p.0, term_of p.1)) s.apart
        (
        All-weaker (λ p. (p.0 < length s.names) × (p.1 < length s.names)) (λ p. IsNode k.declarations (problem_of k.given) (term_of p.0) × IsNode k.declarations (problem_of k.given) (term_of p.1))
        (λ p w. (is_node is.well_made is.table_of p.0 (within p.0 w.0), is_node is.well_made is.table_of p.1 (within p.1 w.1))) s.apart closed.naming.kept
        )

    terms_differ : All (λ p. class_at k.table (class_of s) p.0 ≢ class_at k.table (class_of s) p.1) terms_apart
    terms_differ =
        All-map (λ p. class_at k.table (class_of s) p.0 ≢ class_at k.table (class_of s) p.1) (λ p. (term_of p.0, term_of p.1)) s.apart
        (λ i e l. let w = closed.naming.kept i e l in λ q. closed.apart i e l (sym (own (get_or s.apart i e).0 w.0) ∙ q ∙ own (get_or s.apart i e).1 w.1))

    -- the node of a term, and its class
    place : (x : Term) → IsNode k.declarations (problem_of k.given) x → NodeOf k.table x
    place x n = node_of is.well_made is.table_of x n

    named : (x : Term) (n : IsNode k.declarations (problem_of k.given) x) → (place x n).number < length s.names
    named x n = subst (λ m. (place x n).number < m) (sym closed.whole) (place x n).within

    class_is : (x : Term) (n : IsNode k.declarations (problem_of k.given) x) → class_at k.table (class_of s) x ≡ class_of s (place x n).number
    class_is x n = ap (class_at k.table (class_of s)) (sym (place x n).is) ∙ own (place x n).number (named x n)

    class_within : (x : Term) (n : IsNode k.declarations (problem_of k.given) x) → class_at k.table (class_of s) x < length s.names
    class_within x n = subst (λ m. m < length s.names) (sym (class_is x n)) (named_within s closed.naming (place x n).number (named x n))

    names_itself : (x : Term) (n : IsNode k.declarations (problem_of k.given) x) → class_of s (class_at k.table (class_of s) x) ≡ class_at k.table (class_of s) x
    names_itself x n = ap (class_of s) (class_is x n) ∙ (closed.naming.named (place x n).number (named x n)).1 ∙ sym (class_is x n)

    solid_at : (f : OpId) (x : Term) (n : IsNode k.declarations (problem_of k.given) x) (a : IsAlien k.declarations f x) → IsSolid k.declarations k.table (class_of s) a.operator (class_at k.table (class_of s) x)
    solid_at f x n a =
        let p = application_at k.table.nodes is.well_made.ordered (place x n).number a.operator a.arguments (place x n).within ((place x n).is ∙ a.is) in
        record { member = (place x n).number; arguments = p.arguments; over = p.is; of = sym (class_is x n); no_identity = a.no_identity }

    module _ (u : Substitution) (unifies : IsKindUnifier k.declarations (problem_of k.given) u) where
      -- terms that are equal under u are at nodes of one class under u
      equal_nodes : (x y : Term) (n : IsNode k.declarations (problem_of k.given) x) (m : IsNode k.declarations (problem_of k.given) y) → BEqual k.declarations (apply u x) (apply u y)
          → kernel k.declarations u k.table.nodes (place x n).number ≡ kernel k.declarations u k.table.nodes (place y m).number
      equal_nodes x y n m e =
          equal_under u unifies (place x n).number (place y m).number (place x n).within (place y m).within
          (
          subst (λ z. BEqual k.declarations (apply u z) (apply u (term_of (place y m).number))) (sym (place x n).is)
          (subst (λ z. BEqual k.declarations (apply u x) (apply u z)) (sym (place y m).is) e)
          )

      -- no unifier of the state joins classes with two heads
      two_heads : Admits s (kernel k.declarations u k.table.nodes) → (x y : Term) (n : IsNode k.declarations (problem_of k.given) x) (m : IsNode k.declarations (problem_of k.given) y)
          → BEqual k.declarations (apply u x) (apply u y) → HaveTwoHeads k.declarations k.table (class_of s) (class_at k.table (class_of s) x) (class_at k.table (class_of s) y) → ⊥
      two_heads a x y n m e h =
          let class = kernel k.declarations u k.table.nodes in
          let v = h.heads_first in
          let w = h.heads_second in
          let partition = (kernels k.declarations is.good.fits (problem_of k.given) is.is_given.kinds k.table is.well_made is.table_of u unifies).partition in
          let left = admits_same s class a v.member (place x n).number (member_named v.member (slice_get_within k.table.nodes v.member _ v.over)) (named x n) (v.of ∙ class_is x n) in
          let right = admits_same s class a w.member (place y m).number (member_named w.member (slice_get_within k.table.nodes w.member _ w.over)) (named y m) (w.of ∙ class_is y m) in
          h.different
          ((((partition.nodes v.member w.member h.first h.second v.arguments w.arguments v.over w.over).alike (left ∙ equal_nodes x y n m e ∙ sym right))).one_head v.no_identity w.no_identity)
        where
          member_named : (i : ℕ) → i < length k.table.nodes → i < length s.names
          member_named i l = subst (λ z. i < z) (sym closed.whole) l

    -- a class has under u the class of its term's node
    of_class : (u : Substitution) → Admits s (kernel k.declarations u k.table.nodes) → (x : Term) (n : IsNode k.declarations (problem_of k.given) x)
        → kernel k.declarations u k.table.nodes (class_at k.table (class_of s) x) ≡ kernel k.declarations u k.table.nodes (place x n).number
    of_class u a x n = ap (kernel k.declarations u k.table.nodes) (class_is x n) ∙ sym (a.together (place x n).number (named x n))

    module _ (f : OpId) (system : System) (refused : IsRefusedAt k s f system) (associative : IsAssociative (axioms k.declarations f)) where
      abbrev cause_at : IsBasisCause k.declarations k.given f system
      cause_at = record {
        class = class_at k.table (class_of s);
        partition = (partitions k.declarations k.given.pairs is.is_given.fit k.table is.well_made is.table_of).of_nodes (class_of s) refused.leaf.near.partition;
        columns = refused.columns;
        is_system = systems k.declarations (problem_of k.given) k.table is.well_made is.table_of (class_of s) f associative refused.columns system refused.is_system;
        refused = refused.refused;
      }

      abbrev ended_at : IsEndedAt k.declarations k.given f system
      ended_at = record { cause = cause_at; apart = terms_apart; nodes = apart_nodes; different = terms_differ }

      -- aliens of two classes, which one minimal solution has both, are apart under a unifier of the state
      may_be_constant : (x : Term) → IsNode k.declarations (problem_of k.given) x → IsAlien k.declarations f x → (v : List ℕ) → Solves system.columns (rows_of system) v
          → 0 < component refused.columns v (class_at k.table (class_of s) x) → MayBeConstant k.declarations k.table (class_of s) f (class_at k.table (class_of s) x)
      may_be_constant x n a v solves p = record {
        used = solution_uses k.declarations k.table (class_of s) f refused.columns system refused.is_system associative v solves (class_at k.table (class_of s) x) p;
        why = inl (a.operator, a.other, solid_at f x n a);
      }

      aliens_parted : (u : Substitution) → IsKindUnifier k.declarations (problem_of k.given) u → Admits s (kernel k.declarations u k.table.nodes)
          → JoinsAliens k.declarations k.given f system cause_at u → ⊥
      aliens_parted u unifies a j =
          let x = class_at k.table (class_of s) j.first in
          let y = class_at k.table (class_of s) j.second in
          let solves = j.taken.minimal.solves in
          elim (
          refused.leaf.constants f x y (may_be_constant j.first j.first_node j.first_alien j.taken.solution solves j.taken.left)
          (may_be_constant j.second j.second_node j.second_alien j.taken.solution solves j.taken.right)
          ) [
            | inl heads ↦ two_heads u unifies a j.first j.second j.first_node j.second_node j.equal heads
            | inr closed_pair ↦ elim (decided s x y) [
              | inl is_open ↦ closed_pair is_open
              | inr known ↦ elim known [
                | inl same ↦ j.different (sym (names_itself j.first j.first_node) ∙ same ∙ names_itself j.second j.second_node)
                | inr apart ↦ admits_apart s closed.naming (kernel k.declarations u k.table.nodes) a x y (class_within j.first j.first_node) (class_within j.second j.second_node) apart
                    (of_class u a j.first j.first_node ∙ equal_nodes u unifies j.first j.second j.first_node j.second_node j.equal ∙ sym (of_class u a j.second j.second_node))
              ]
            ]
          ]

      -- a unifier that joins all of the state and a pair that it keeps apart is neither of the state nor parts its nodes
      joins_more : (u : Substitution) → IsKindUnifier k.declarations (problem_of k.given) u → AdmitsOrIsParted s (kernel k.declarations u k.table.nodes)
          → Joins k.declarations (problem_of k.given) (class_at k.table (class_of s)) u → JoinsMore k.declarations k.given f system ended_at u → ⊥
      joins_more u unifies (inl a) joins (inr aliens) = aliens_parted u unifies a aliens
      joins_more u unifies (inl a) joins (inl some) =
          let m = any_mapped (λ p. (term_of p.0, term_of p.1)) (λ p. BEqual k.declarations (apply u p.0) (apply u p.1)) s.apart some in
          let w = All-contains (λ p. (p.0 < length s.names) × (p.1 < length s.names)) s.apart m.0 closed.naming.kept m.1.0 in
          All-contains (λ p. kernel k.declarations u k.table.nodes p.0 ≢ kernel k.declarations u k.table.nodes p.1) s.apart m.0 a.apart m.1.0 (equal_under u unifies m.0.0 m.0.1 (within m.0.0 w.0) (within m.0.1 w.1) m.1.1)
      joins_more u unifies (inr p) joins more =
          let l = within p.first p.first_within in
          let m = within p.second p.second_within in
          p.apart
          (
          equal_under u unifies p.first p.second l m
          (joins (term_of p.first) (term_of p.second) (is_node is.well_made is.table_of p.first l) (is_node is.well_made is.table_of p.second m) (own p.first p.first_within ∙ p.together ∙ sym (own p.second p.second_within)))
          )

  -- what is to come where the search ends is finer, where all unifiers are asked for
  pub finer_at : (states : List State) → AreClosed k.declarations k.table states → (leaf : Option Leaf) (e : Ended) → IsEnd k e → HasNoQuestion k states e → HasNoChoiceAt k leaf e → IsFinerAt k (IsToCome (search_by k states leaf (Some e))) e
  finer_at states closed leaf (Basis f system) cause last none = λ all. record {
    at = ended_at last.last own_closed f system last.refused cause.is_system.associative;
    finer = λ u to_come joins more. joins_more last.last own_closed f system last.refused cause.is_system.associative u to_come.0.unifies
        (subst (λ v. AdmitsOrIsParted last.last (kernel k.declarations v k.table.nodes)) (to_come.1.1.own all) (coarser to_come.1.0 to_come.1.2)) joins more;
  }
    where
      coarser : (v : Substitution) → IsLeft k states leaf v → AdmitsOrIsParted last.last (kernel k.declarations v k.table.nodes)
      coarser v (inl a) = last.coarser_first v a
      coarser v (inr c) = absurd (none v c)

      own_closed : IsClosed k.declarations k.table last.last
      own_closed = All-contains (IsClosed k.declarations k.table) (last.below ++ last.last ∷ []) last.last (subst (AreClosed k.declarations k.table) last.is closed) (Contains-push last.below last.last)
  finer_at states closed leaf (Size list) cause last none = tt
