-- Partitions of nodes and of terms.
use Rattle.std.proofs.Common.{◌≡◌, ◌⊎◌, ℕ, ◌<◌, List, [], ◌∷◌, length, map, refl, sym, ap, ◌∙◌, subst, inl, inr, arith, All, Contains}
use Rattle.std.proofs.lemmas.List.{get_or-map, length-map}
use Rattle.std.proofs.lemmas.List.Elements.{All-head, All-tail, All-map}
use Rattle.std.proofs.lemmas.Option.{slice_get_within}
use Rattle.fvn_terms.specs.declared.plain.OpId.{OpId}
use Rattle.fvn_terms.specs.declared.declarations.Axioms.TheVariants.{Free, Comm}
use Rattle.fvn_terms.specs.declared.declarations.Declarations.{Declarations}
use Rattle.fvn_terms.specs.Term.{Term, Terms, app, none, more, pack}
use Rattle.fvn_terms.specs.Signature.{axioms}
use Rattle.fvn_terms.specs.Equality.{two, BEqual}
use Rattle.fvn_terms.specs.Unifiers.{Problem}
use Rattle.fvn_flat.specs.Fits.{Fits}
use Rattle.fvn_flat.specs.Problems.{subterms_of, plain_pairs}
use Rattle.fvn_flat.specs.Partitions.{PlaceByPlace, IsNode, IsPartition}
use Rattle.fvn_flat.specs.Solving.{FlatPairs}
use Rattle.fvn_combine_nodes.specs.Table.{NodeTable, IsWellMade, IsTableOf, IsOver, term_at}
use Rattle.fvn_combine_nodes.specs.Classes.{AreTogether, MeetEitherWay, AreAlike, IsNodePartition}
use Rattle.fvn_combine_nodes.specs.Laws.{class_at, ArePartitionsOf}
use Rattle.fvn_combine_nodes.specs.declared.table.Node.TheVariants.{App}
use Rattle.fvn_combine_nodes.proofs.NodesOf.{node_of, is_node, own_class}
use Rattle.fvn_combine_nodes.proofs.Nodes.{term_at-over, application_at, arguments_within}
use Rattle.fvn_combine_nodes.proofs.Flatness.{IsFlatTerm, flat_equal, pairs_flat, constant_flat}

-- arguments place by place, as terms and as nodes
by_places : (class : Term → ℕ) (number : ℕ → ℕ) (at : ℕ → Term) (n : ℕ) → ((i : ℕ) → i < n → class (at i) ≡ number i) → (ks ls : List ℕ) → All (λ k. k < n) ks → All (λ k. k < n) ls → PlaceByPlace class (pack (map at ks)) (pack (map at ls)) → AreTogether number ks ls
by_places class number at n same [] [] left right h = refl
by_places class number at n same [] (l ∷ ls) left right h = absurd h
by_places class number at n same (k ∷ ks) [] left right h = absurd h
by_places class number at n same (k ∷ ks) (l ∷ ls) left right h =
    let P = λ (m : ℕ). m < n in
    let first : number k ≡ number l = sym (same k (All-head P k ks left)) ∙ h.0 ∙ same l (All-head P l ls right) in
    let rest : map number ks ≡ map number ls = by_places class number at n same ks ls (All-tail P k ks left) (All-tail P l ls right) h.1 in
    cc

to_places : (class : Term → ℕ) (number : ℕ → ℕ) (at : ℕ → Term) (n : ℕ) → ((i : ℕ) → i < n → class (at i) ≡ number i) → (ks ls : List ℕ) → All (λ k. k < n) ks → All (λ k. k < n) ls → AreTogether number ks ls → PlaceByPlace class (pack (map at ks)) (pack (map at ls))
to_places class number at n same [] [] left right e = tt
to_places class number at n same [] (l ∷ ls) left right e = cc
to_places class number at n same (k ∷ ks) [] left right e = cc
to_places class number at n same (k ∷ ks) (l ∷ ls) left right e =
    let P = λ (m : ℕ). m < n in
    let first : number k ≡ number l = cc in
    let rest : map number ks ≡ map number ls = cc in
    (same k (All-head P k ks left) ∙ first ∙ sym (same l (All-head P l ls right)), to_places class number at n same ks ls (All-tail P k ks left) (All-tail P l ls right) rest)

module _ (d : Declarations) (problem : Problem) (flat : (u : Term) → Contains (subterms_of problem) u → IsFlatTerm d u) (t : NodeTable) (made : IsWellMade t) (table : IsTableOf d problem t) where
  -- an application that is a node's term is an operator over nodes
  record OverNodes (f : OpId) (ts : Terms) : Type 0 where
    number : ℕ
    within : number < length t.nodes
    is : term_at t.nodes number ≡ app f ts
    arguments : List ℕ
    over : IsOver t.nodes number f arguments
    terms : pack (map (term_at t.nodes) arguments) ≡ ts
    arguments_are : All (λ k. k < length t.nodes) arguments

  over_nodes : (f : OpId) (ts : Terms) → IsNode d problem (app f ts) → OverNodes f ts
  over_nodes f ts h =
      let n = node_of made table (app f ts) h in
      let at = application_at t.nodes made.ordered n.number f ts n.within n.is in
      record {
        number = n.number;
        within = n.within;
        is = n.is;
        arguments = at.arguments;
        over = at.is;
        terms = at.terms;
        arguments_are = arguments_within t.nodes made.ordered n.number f at.arguments at.is;
      }

  module _ (class : ℕ → ℕ) (partition : IsNodePartition d t class) where
    abbrev of_term : Term → ℕ
    of_term = class_at t class

    number_is : {f : OpId} {ts : Terms} → (n : OverNodes f ts) → of_term (app f ts) ≡ class n.number
    number_is n = sym (ap of_term n.is) ∙ own_class made table class n.number n.within

    -- operators of one class
    alike : (f g : OpId) (ts us : Terms) (a : OverNodes f ts) (b : OverNodes g us) → of_term (app f ts) ≡ of_term (app g us) → AreAlike d (λ a v. ⊥) class f g a.arguments b.arguments
    alike f g ts us a b e = (partition.nodes a.number b.number f g a.arguments b.arguments a.over b.over).alike (sym (number_is a) ∙ e ∙ number_is b)

    -- flat nodes that are equal are one
    equal : (u v : Term) → IsNode d problem u → IsNode d problem v → BEqual d u v → of_term u ≡ of_term v
    equal u v h k e = ap of_term (flat_equal d u v (flat_node u h) (flat_node v k) e)
      where
        flat_node : (u : Term) → IsNode d problem u → IsFlatTerm d u
        flat_node u (inl c) = flat u c
        flat_node u (inr unit) = subst (IsFlatTerm d) (sym unit.is) (constant_flat d unit.constant_of)

    congruent : (f : OpId) (ts us : Terms) → IsNode d problem (app f ts) → IsNode d problem (app f us) → PlaceByPlace of_term ts us → of_term (app f ts) ≡ of_term (app f us)
    congruent f ts us h k places =
        let a = over_nodes f ts h in
        let b = over_nodes f us k in
        let together =
        by_places of_term class (term_at t.nodes) (length t.nodes) (own_class made table class) a.arguments b.arguments a.arguments_are b.arguments_are (subst (λ l. PlaceByPlace of_term l (pack (map (term_at t.nodes) b.arguments))) (sym a.terms) (subst (PlaceByPlace of_term ts) (sym b.terms) places))
        in
        number_is a ∙ (partition.nodes a.number b.number f f a.arguments b.arguments a.over b.over).congruent refl together ∙ sym (number_is b)

    free : (f : OpId) (ts us : Terms) → axioms d f ≡ Free → IsNode d problem (app f ts) → IsNode d problem (app f us) → of_term (app f ts) ≡ of_term (app f us) → PlaceByPlace of_term ts us
    free f ts us is h k e =
        let a = over_nodes f ts h in
        let b = over_nodes f us k in
        let places = to_places of_term class (term_at t.nodes) (length t.nodes) (own_class made table class) a.arguments b.arguments a.arguments_are b.arguments_are ((alike f f ts us a b e).free is refl) in
        subst (λ l. PlaceByPlace of_term l us) a.terms (subst (PlaceByPlace of_term (pack (map (term_at t.nodes) a.arguments))) b.terms places)

    -- two arguments, as nodes
    record Both (ks : List ℕ) (u v : Term) : Type 0 where
      first : ℕ
      second : ℕ
      are : ks ≡ first ∷ second ∷ []
      first_is : of_term u ≡ class first
      second_is : of_term v ≡ class second

    both : (ks : List ℕ) (u v : Term) → All (λ k. k < length t.nodes) ks → pack (map (term_at t.nodes) ks) ≡ more u (more v none) → Both ks u v
    both [] u v h e = cc
    both (a ∷ []) u v h e = cc
    both (a ∷ b ∷ []) u v h e =
        let x : term_at t.nodes a ≡ u = cc in
        let y : term_at t.nodes b ≡ v = cc in
        record {
          first = a;
          second = b;
          are = refl;
          first_is = sym (ap of_term x) ∙ own_class made table class a (h 0 0 (omega arith));
          second_is = sym (ap of_term y) ∙ own_class made table class b (h 1 0 (omega arith));
        }
    both (a ∷ b ∷ k ∷ ks) u v h e = cc

    commutative : (f : OpId) (x y v w : Term) → axioms d f ≡ Comm → IsNode d problem (two f x y) → IsNode d problem (two f v w) → of_term (two f x y) ≡ of_term (two f v w) →
        ((of_term x ≡ of_term v) × (of_term y ≡ of_term w)) ⊎ ((of_term x ≡ of_term w) × (of_term y ≡ of_term v))
    commutative f x y v w is h k e =
        let a = over_nodes f (more x (more y none)) h in
        let b = over_nodes f (more v (more w none)) k in
        let p = both a.arguments x y a.arguments_are a.terms in
        let q = both b.arguments v w b.arguments_are b.terms in
        elim ((alike f f (more x (more y none)) (more v (more w none)) a b e).commutative is refl p.first p.second q.first q.second p.are q.are) [
          | inl m ↦ elim m [
            | inl s ↦ inl (p.first_is ∙ s.0 ∙ sym q.first_is, p.second_is ∙ s.1 ∙ sym q.second_is)
            | inr s ↦ inr (p.first_is ∙ s.0 ∙ sym q.second_is, p.second_is ∙ s.1 ∙ sym q.first_is)
          ]
          | inr n ↦ absurd n
        ]

    -- what holds of the sides holds of the pairs
    sides_are : (sides : List (ℕ × ℕ)) → All (λ p. (p.0 < length t.nodes) × (p.1 < length t.nodes)) sides → All (λ p. class p.0 ≡ class p.1) sides → All {X = Term × Term} (λ p. of_term p.0 ≡ of_term p.1) (map (λ p. (term_at t.nodes p.0, term_at t.nodes p.1)) sides)
    sides_are sides within h =
        let T : ℕ × ℕ → Term × Term = λ p. (term_at t.nodes p.0, term_at t.nodes p.1) in
        let P = λ (p : Term × Term). of_term p.0 ≡ of_term p.1 in
        All-map P T sides (λ k e l. let w = within k e l in own_class made table class _ w.0 ∙ h k e l ∙ sym (own_class made table class _ w.1))

    pub node_partition : IsPartition d problem of_term
    node_partition = record {
      sides = subst (All (λ p. of_term p.0 ≡ of_term p.1)) table.sides (sides_are t.sides made.sides partition.sides);
      equal = equal;
      congruent = congruent;
      one_head = λ f g ts us bare other h k e. (alike f g ts us (over_nodes f ts h) (over_nodes g us k) e).one_head bare other;
      free = free;
      commutative = commutative;
    }

  module _ (class : Term → ℕ) (partition : IsPartition d problem class) where
    abbrev of_node : ℕ → ℕ
    of_node i = class (term_at t.nodes i)

    term_is : (i : ℕ) (f : OpId) (ks : List ℕ) → IsOver t.nodes i f ks → IsNode d problem (app f (pack (map (term_at t.nodes) ks)))
    term_is i f ks is = subst (IsNode d problem) (term_at-over t.nodes made.ordered i f ks is) (is_node made table i (slice_get_within t.nodes i (App f ks) is))

    class_is : (i : ℕ) (f : OpId) (ks : List ℕ) → IsOver t.nodes i f ks → of_node i ≡ class (app f (pack (map (term_at t.nodes) ks)))
    class_is i f ks is = ap class (term_at-over t.nodes made.ordered i f ks is)

    pub term_partition : IsNodePartition d t of_node
    term_partition = record {
      sides = λ k e l.
          let T : ℕ × ℕ → Term × Term = λ p. (term_at t.nodes p.0, term_at t.nodes p.1) in
          let P = λ (p : Term × Term). class p.0 ≡ class p.1 in
          let n = length-map t.sides T in
          let all : All P (map T t.sides) = subst (All P) (sym table.sides) partition.sides in
          subst P (get_or-map T t.sides k e (T e) l) (all k (T e) (omega (arith, n)));
      nodes = λ i j f g ks ls left right.
          let a = term_is i f ks left in
          let b = term_is j g ls right in
          let w = arguments_within t.nodes made.ordered i f ks left in
          let v = arguments_within t.nodes made.ordered j g ls right in
          let p = class_is i f ks left in
          let q = class_is j g ls right in
          record {
            congruent = λ one e.
                p
                ∙ partition.congruent f (pack (map (term_at t.nodes) ks)) (pack (map (term_at t.nodes) ls)) a (subst (λ o. IsNode d problem (app o (pack (map (term_at t.nodes) ls)))) (sym one) b)
                (to_places class of_node (term_at t.nodes) (length t.nodes) (λ i h. refl) ks ls w v e)
                ∙ ap (λ o. class (app o (pack (map (term_at t.nodes) ls)))) one
                ∙ sym q;
            alike = λ e.
                let same : class (app f (pack (map (term_at t.nodes) ks))) ≡ class (app g (pack (map (term_at t.nodes) ls))) = sym p ∙ e ∙ q in
                record {
                  one_head = λ bare other. partition.one_head f g (pack (map (term_at t.nodes) ks)) (pack (map (term_at t.nodes) ls)) bare other a b same;
                  free = λ is one.
                      by_places class of_node (term_at t.nodes) (length t.nodes) (λ i h. refl) ks ls w v
                      (
                      partition.free f (pack (map (term_at t.nodes) ks)) (pack (map (term_at t.nodes) ls)) is a (subst (λ o. IsNode d problem (app o (pack (map (term_at t.nodes) ls)))) (sym one) b)
                      (same ∙ ap (λ o. class (app o (pack (map (term_at t.nodes) ls)))) (sym one))
                      );
                  commutative = λ is one x y m n r s. inl (crossing f g ks ls x y m n one r s is a b same);
                };
          };
    }
      where
        crossing : (f g : OpId) (ks ls : List ℕ) (x y m n : ℕ) → f ≡ g → ks ≡ x ∷ y ∷ [] → ls ≡ m ∷ n ∷ [] → axioms d f ≡ Comm → IsNode d problem (app f (pack (map (term_at t.nodes) ks))) → IsNode d problem (app g (pack (map (term_at t.nodes) ls))) →
            class (app f (pack (map (term_at t.nodes) ks))) ≡ class (app g (pack (map (term_at t.nodes) ls))) → MeetEitherWay of_node x y m n
        crossing f g ks ls x y m n one r s is a b same =
            let T = term_at t.nodes in
            let a' = subst (λ l. IsNode d problem (app f (pack (map T l)))) r a in
            let b' = subst (λ o. IsNode d problem (app o (pack (map T (m ∷ n ∷ []))))) (sym one) (subst (λ l. IsNode d problem (app g (pack (map T l)))) s b) in
            let e = sym (ap (λ l. class (app f (pack (map T l)))) r) ∙ same ∙ ap (λ l. class (app g (pack (map T l)))) s ∙ ap (λ o. class (app o (pack (map T (m ∷ n ∷ []))))) (sym one) in
            partition.commutative f (T x) (T y) (T m) (T n) is a' b' e

-- partitions of the nodes of a flat problem's table are its partitions
pub partitions_of_nodes : (d : Declarations) (pairs : FlatPairs) → All (λ p. Fits d p.0 × Fits d p.1) pairs → (t : NodeTable) → IsWellMade t → IsTableOf d (plain_pairs pairs) t → ArePartitionsOf d (plain_pairs pairs) t
partitions_of_nodes d pairs fit t made table = record {
  of_nodes = node_partition d (plain_pairs pairs) (pairs_flat d pairs fit) t made table;
  of_terms = term_partition d (plain_pairs pairs) (pairs_flat d pairs fit) t made table;
  same = own_class made table;
}
