-- Sum systems over the nodes of a problem's table are those of the problem.
use Rattle.std.proofs.Common.{◌≡◌, ℕ, ◌<◌, Bool, true, false, List, [], ◌∷◌, ◌++◌, length, map, refl, sym, ap, ◌∙◌, subst, inl, inr, arith, All, Contains, Some, None, slice_get}
use Rattle.std.specs.Prelude.{ℤ, pos, ◌-ℤ◌, ◌+◌, nat_eq, cond, if◌then◌else◌}
use Rattle.std.specs.List.{filter}
use Rattle.std.proofs.lemmas.List.Elements.{All-head, All-tail, All-contains, All-contains_itself, All-weaker, Contains-append_left, Contains-append_right, Contains-append_cases}
use Rattle.std.proofs.lemmas.Option.{slice_get_within}
use Rattle.fvn_base.proofs.Membership.{contains_here, contains_later, contains_cases, contains_none, contains_map, contains_filter, filter_contains}
use Rattle.fvn_terms.specs.declared.plain.OpId.{OpId}
use Rattle.fvn_terms.specs.declared.declarations.Axioms.{Axioms}
use Rattle.fvn_terms.specs.declared.declarations.Axioms.TheVariants.{Free, Comm, AssocComm, AssocCommId}
use Rattle.fvn_terms.specs.declared.declarations.Declarations.{Declarations}
use Rattle.fvn_terms.specs.Term.{Term, Terms, var, app, none, more, pack}
use Rattle.fvn_terms.specs.Signature.{axioms}
use Rattle.fvn_terms.specs.Equality.{two, constant, IsAssociative, identity}
use Rattle.fvn_terms.specs.Unifiers.{Problem}
use Rattle.fvn_forms.specs.InOrder.{one_if}
use Rattle.fvn_forms.proofs.Sums.{same_op_is, same_op_itself}
use Rattle.fvn_terms.proofs.AxiomWords.{identity_is}
use Rattle.fvn_lindio.specs.declared.system.System.{System}
use Rattle.fvn_combine_nodes.specs.FlatProblems.{subterms, subterms_among, subterms_of, once}
use Rattle.fvn_combine_nodes.specs.FlatPartitions.{Heads}
use Rattle.fvn_combine_nodes.specs.FlatSumSystems.{is_headed_by, classes_of, coefficient as coefficient_of, row_of, IsClassOfIdentity, IsColumn, IsSumSystem}
use Rattle.fvn_combine_nodes.specs.Table.{NodeTable, IsWellMade, IsTableOf, IsUnitOf, IsOver, term_at}
use Rattle.fvn_combine_nodes.specs.Laws.{class_at}
use Rattle.fvn_combine_nodes.specs.declared.table.Node.{Node}
use Rattle.fvn_combine_nodes.specs.declared.table.Node.TheVariants.{Var, App}
use Rattle.fvn_combine_nodes.proofs.Nodes.{term_at-over, term_at-variable, term_at-injective, application_at, arguments_within, node_at}
use Rattle.fvn_combine_nodes.proofs.Terms.{once_contains, contains_once}
use Rattle.fvn_combine_nodes.proofs.Subterms.{listed_subterm}
use Rattle.fvn_combine_nodes.proofs.NodesOf.{listed_node, subterm_within, own_class}
use Rattle.fvn_combine_systems.specs.NodeSystems.{is_headed, pair, addends, HoldsArguments, coefficient, row_at, IsIdentityClass, IsNodeColumn, IsNodeSystem}
use Rattle.fvn_combine_systems.proofs.Members.{headed_over}

map_same : {A B : Type 0} (f g : A → B) → ((x : A) → f x ≡ g x) → (xs : List A) → map f xs ≡ map g xs
map_same f g h [] = refl
map_same f g h (x ∷ xs) = ap (λ y. y ∷ map f xs) (h x) ∙ ap (λ ys. g x ∷ ys) (map_same f g h xs)

-- the arguments of a subterm are subterms
self_listed : (t : Term) → Contains (subterms t) t
self_listed (var x) = contains_here (var x) []
self_listed (app f ts) = contains_here (app f ts) (subterms_among ts)

packed_listed : (us : List Term) (u : Term) → Contains us u → Contains (subterms_among (pack us)) u
packed_listed [] u c = absurd (contains_none u c)
packed_listed (v ∷ us) u c = elim (contains_cases v us u c) [
  | inl e ↦ subst (Contains (subterms v ++ subterms_among (pack us))) e (Contains-append_left (subterms v) (subterms_among (pack us)) v (self_listed v))
  | inr r ↦ Contains-append_right (subterms v) (subterms_among (pack us)) u (packed_listed us u r)
]

mutual
  below_listed : (t : Term) (f : OpId) (us : List Term) → Contains (subterms t) (app f (pack us)) → (u : Term) → Contains us u → Contains (subterms t) u
  below_listed (var x) f us c u h = elim (contains_cases (var x) [] (app f (pack us)) c) [
    | inl e ↦ absurd (let z : var x ≡ app f (pack us) = e in cc)
    | inr z ↦ absurd (contains_none (app f (pack us)) z)
  ]
  below_listed (app g ts) f us c u h = elim (contains_cases (app g ts) (subterms_among ts) (app f (pack us)) c) [
    | inl e ↦
        let same : pack us ≡ ts = cc in
        contains_later (app g ts) (subterms_among ts) u (subst (λ l. Contains (subterms_among l) u) same (packed_listed us u h))
    | inr r ↦ contains_later (app g ts) (subterms_among ts) u (below_listed_among ts f us r u h)
  ]

  below_listed_among : (ts : Terms) (f : OpId) (us : List Term) → Contains (subterms_among ts) (app f (pack us)) → (u : Term) → Contains us u → Contains (subterms_among ts) u
  below_listed_among none f us c u h = absurd (contains_none (app f (pack us)) c)
  below_listed_among (more t ts) f us c u h = elim (Contains-append_cases (subterms t) (subterms_among ts) (app f (pack us)) c) [
    | inl l ↦ Contains-append_left (subterms t) (subterms_among ts) u (below_listed t f us l u h)
    | inr r ↦ Contains-append_right (subterms t) (subterms_among ts) u (below_listed_among ts f us r u h)
  ]

below_listed_of : (problem : Problem) (f : OpId) (us : List Term) → Contains (subterms_of problem) (app f (pack us)) → (u : Term) → Contains us u → Contains (subterms_of problem) u
below_listed_of [] f us c u h = absurd (contains_none (app f (pack us)) c)
below_listed_of (p ∷ problem) f us c u h = elim (Contains-append_cases (subterms p.0 ++ subterms p.1) (subterms_of problem) (app f (pack us)) c) [
  | inl l ↦
      Contains-append_left (subterms p.0 ++ subterms p.1) (subterms_of problem) u
      (elim (Contains-append_cases (subterms p.0) (subterms p.1) (app f (pack us)) l) [
        | inl a ↦ Contains-append_left (subterms p.0) (subterms p.1) u (below_listed p.0 f us a u h)
        | inr b ↦ Contains-append_right (subterms p.0) (subterms p.1) u (below_listed p.1 f us b u h)
      ])
  | inr r ↦ Contains-append_right (subterms p.0 ++ subterms p.1) (subterms_of problem) u (below_listed_of problem f us r u h)
]

module _ (d : Declarations) (problem : Problem) (t : NodeTable) (made : IsWellMade t) (table : IsTableOf d problem t) where
  pub holds_arguments : HoldsArguments t
  holds_arguments i f ks c over = All-weaker (λ k. Contains ks k) (Contains t.subterms) at ks (All-contains_itself ks)
    where
      at : (k : ℕ) → Contains ks k → Contains t.subterms k
      at k h =
          let whole : Contains (subterms_of problem) (app f (pack (map (term_at t.nodes) ks))) = subst (Contains (subterms_of problem)) (term_at-over t.nodes made.ordered i f ks over) (listed_subterm d problem t table i c) in
          let r = listed_node made table (term_at t.nodes k) (below_listed_of problem f (map (term_at t.nodes) ks) whole (term_at t.nodes k) (contains_map (term_at t.nodes) ks k h)) in
          subst (Contains t.subterms) (term_at-injective t.nodes made.distinct r.0 k (subterm_within made table r.0 r.1.0) (All-contains (λ k. k < length t.nodes) ks k (arguments_within t.nodes made.ordered i f ks over) h) r.1.1) r.1.0

  module _ (class : ℕ → ℕ) (f : OpId) where
    abbrev of_term : Term → ℕ
    of_term = class_at t class

    two_term : (i a b : ℕ) → IsOver t.nodes i f (a ∷ b ∷ []) → term_at t.nodes i ≡ two f (term_at t.nodes a) (term_at t.nodes b)
    two_term i a b over = term_at-over t.nodes made.ordered i f (a ∷ b ∷ []) over

    -- of two arguments each is a node
    both_within : (i a b : ℕ) → IsOver t.nodes i f (a ∷ b ∷ []) → (i < length t.nodes) × (a < length t.nodes) × (b < length t.nodes)
    both_within i a b over =
        let h = arguments_within t.nodes made.ordered i f (a ∷ b ∷ []) over in
        (slice_get_within t.nodes i (App f (a ∷ b ∷ [])) over, h 0 0 (omega arith), h 1 0 (omega arith))

    classes_are : (i a b : ℕ) → IsOver t.nodes i f (a ∷ b ∷ []) → classes_of of_term (term_at t.nodes i) ≡ class i ∷ class a ∷ class b ∷ []
    classes_are i a b over =
        let w = both_within i a b over in
        let u = term_at t.nodes a in
        let v = term_at t.nodes b in
        ap (classes_of of_term) (two_term i a b over)
        ∙ ap (λ k. k ∷ of_term u ∷ of_term v ∷ []) (ap of_term (sym (two_term i a b over)) ∙ own_class made table class i w.0)
        ∙ ap (λ k. class i ∷ k ∷ of_term v ∷ []) (own_class made table class a w.1)
        ∙ ap (λ k. class i ∷ class a ∷ k ∷ []) (own_class made table class b w.2)

    -- the identity's class, by the signature and by the table
    identity_in : (k : ℕ) → Heads d problem f → (x : Axioms) → axioms d f ≡ x → IsClassOfIdentity of_term x k → IsIdentityClass t class f k
    identity_in k heads Free e h = absurd h
    identity_in k heads Comm e h = absurd h
    identity_in k heads AssocComm e h = absurd h
    identity_in k heads (AssocCommId o) e h =
        let r = table.all_units f o heads (ap identity e) in
        let p = r.1 in
        let unit : IsUnitOf d problem p.0 (term_at t.nodes p.1) = subst (λ q. IsUnitOf d problem q.0 (term_at t.nodes q.1)) r.3 (table.units r.0 p r.2) in
        let within : p.1 < length t.nodes = subst (λ q. q.1 < length t.nodes) r.3 (made.units r.0 p r.2) in
        let same : Some unit.constant_of ≡ Some o = sym unit.identity ∙ ap (λ g. identity (axioms d g)) r.4 ∙ ap identity e in
        let one : unit.constant_of ≡ o = cc in
        (r.0, p, r.2, r.3, (r.4, sym (own_class made table class p.1 within) ∙ ap of_term (unit.is ∙ ap constant one) ∙ h))

    identity_out : (k : ℕ) → IsIdentityClass t class f k → IsClassOfIdentity of_term (axioms d f) k
    identity_out k (j, p, l, at, same) =
        let unit : IsUnitOf d problem p.0 (term_at t.nodes p.1) = subst (λ q. IsUnitOf d problem q.0 (term_at t.nodes q.1)) at (table.units j p l) in
        let within : p.1 < length t.nodes = subst (λ q. q.1 < length t.nodes) at (made.units j p l) in
        let is : axioms d f ≡ AssocCommId unit.constant_of = identity_is (axioms d f) unit.constant_of (ap (λ g. identity (axioms d g)) (sym same.0) ∙ unit.identity) in
        subst (λ x. IsClassOfIdentity of_term x k) (sym is) (ap of_term (sym unit.is) ∙ own_class made table class p.1 within ∙ same.1)

    column_to : (k : ℕ) → IsNodeColumn t class f k → IsColumn d problem of_term f k
    column_to k h =
        let u = term_at t.nodes h.left in
        let v = term_at t.nodes h.right in
        let is = two_term h.sum h.left h.right h.over in
        let there = listed_subterm d problem t table h.sum h.listed in
        let heads : Heads d problem f = record { arguments = more u (more v none); listed = subst (Contains (subterms_of problem)) is there } in
        record {
          sum = term_at t.nodes h.sum;
          listed = contains_filter (is_headed_by f) (once (subterms_of problem)) (term_at t.nodes h.sum) (once_contains (subterms_of problem) (term_at t.nodes h.sum) there) (ap (is_headed_by f) is ∙ same_op_itself f);
          among = subst (λ l. Contains l k) (sym (classes_are h.sum h.left h.right h.over)) h.among;
          no_identity = λ z. h.no_identity (identity_in k heads (axioms d f) refl z);
        }

    -- a term with classes is an operator over two terms
    record IsBinary (s : Term) : Type 0 where
      first : Term
      second : Term
      is : s ≡ two f first second

    binary : (s : Term) (k : ℕ) → is_headed_by f s ≡ true → Contains (classes_of of_term s) k → IsBinary s
    binary (var x) k e c = absurd (contains_none k c)
    binary (app g none) k e c = absurd (contains_none k c)
    binary (app g (more u none)) k e c = absurd (contains_none k c)
    binary (app g (more u (more v none))) k e c = record { first = u; second = v; is = ap (λ h. two h u v) (sym (same_op_is f g e)) }
    binary (app g (more u (more v (more w ws)))) k e c = absurd (contains_none k c)

    column_back : (k : ℕ) → IsColumn d problem of_term f k → IsNodeColumn t class f k
    column_back k h =
        let c = filter_contains (is_headed_by f) (once (subterms_of problem)) h.sum h.listed in
        let b = binary h.sum k c.1 h.among in
        let r = listed_node made table h.sum (contains_once (subterms_of problem) h.sum c.0) in
        let a = application_at t.nodes made.ordered r.0 f (more b.first (more b.second none)) (subterm_within made table r.0 r.1.0) (r.1.1 ∙ b.is) in
        go r.0 r.1.0 a.arguments a.is a.terms (subst (λ u. Contains (classes_of of_term u) k) (sym r.1.1) h.among)
      where
        go : (i : ℕ) → Contains t.subterms i → (ks : List ℕ) → IsOver t.nodes i f ks → {u v : Term} → pack (map (term_at t.nodes) ks) ≡ more u (more v none) → Contains (classes_of of_term (term_at t.nodes i)) k → IsNodeColumn t class f k
        go i listed [] over e c = absurd (let z : none ≡ more _ (more _ none) = e in cc)
        go i listed (a ∷ []) over e c = cc
        go i listed (a ∷ b ∷ []) over e c = record {
          sum = i;
          left = a;
          right = b;
          listed = listed;
          over = over;
          among = subst (λ l. Contains l k) (classes_are i a b over) c;
          no_identity = λ z. h.no_identity (identity_out k z);
        }
        go i listed (a ∷ b ∷ x ∷ ks) over e c = cc

    -- rows by nodes and by terms
    test_same : (i : ℕ) → i < length t.nodes → is_headed_by f (term_at t.nodes i) ≡ is_headed f (slice_get t.nodes i)
    test_same i h = let r = node_at t.nodes i h in go r.node r.is
      where
        go : (n : Node) → slice_get t.nodes i ≡ Some n → is_headed_by f (term_at t.nodes i) ≡ is_headed f (slice_get t.nodes i)
        go (Var x) is = ap (is_headed_by f) (term_at-variable t.nodes i x is) ∙ sym (ap (is_headed f) is)
        go (App g ks) is = ap (is_headed_by f) (term_at-over t.nodes made.ordered i g ks is) ∙ sym (ap (is_headed f) is)

    abbrev difference : ℕ → ℕ → ℕ → ℕ → ℤ
    difference k x y z = pos (one_if (nat_eq x k) + one_if (nat_eq y k)) -ℤ pos (one_if (nat_eq z k))

    entry_same : (i : ℕ) (ks : List ℕ) → IsOver t.nodes i f ks → (k : ℕ) → coefficient class i (addends f (Some (App f ks))) k ≡ coefficient_of of_term (app f (pack (map (term_at t.nodes) ks))) k
    entry_same i ks over k = ap (λ b. coefficient class i (if b then pair ks else None) k) (same_op_itself f) ∙ go ks over
      where
        go : (ks : List ℕ) → IsOver t.nodes i f ks → coefficient class i (pair ks) k ≡ coefficient_of of_term (app f (pack (map (term_at t.nodes) ks))) k
        go [] over = refl
        go (a ∷ []) over = refl
        go (a ∷ b ∷ []) over =
            let w = both_within i a b over in
            let u = term_at t.nodes a in
            let v = term_at t.nodes b in
            ap (λ x. difference k x (class b) (class i)) (sym (own_class made table class a w.1))
            ∙ ap (λ y. difference k (of_term u) y (class i)) (sym (own_class made table class b w.2))
            ∙ ap (λ z. difference k (of_term u) (of_term v) z) (sym (own_class made table class i w.0) ∙ ap of_term (two_term i a b over))
        go (a ∷ b ∷ x ∷ ks) over = refl

    row_same : (columns : List ℕ) (i : ℕ) → is_headed f (slice_get t.nodes i) ≡ true → row_at t class f columns i ≡ row_of of_term columns (term_at t.nodes i)
    row_same columns i e =
        let r = headed_over f (slice_get t.nodes i) e in
        map_same (coefficient class i (addends f (slice_get t.nodes i))) (coefficient_of of_term (term_at t.nodes i))
        (λ k. ap (λ n. coefficient class i (addends f n) k) r.1 ∙ entry_same i r.0 r.1 k ∙ sym (ap (λ u. coefficient_of of_term u k) (term_at-over t.nodes made.ordered i f r.0 r.1))) columns

    rows_same : (columns xs : List ℕ) → All (λ i. i < length t.nodes) xs → map (row_at t class f columns) (filter (λ i. is_headed f (slice_get t.nodes i)) xs) ≡ map (row_of of_term columns) (filter (is_headed_by f) (map (term_at t.nodes) xs))
    rows_same columns [] h = refl
    rows_same columns (i ∷ xs) h =
        let P = λ (n : ℕ). n < length t.nodes in
        kept (filter (λ j. is_headed f (slice_get t.nodes j)) xs) (filter (is_headed_by f) (map (term_at t.nodes) xs)) (is_headed f (slice_get t.nodes i)) (is_headed_by f (term_at t.nodes i)) (sym (test_same i (All-head P i xs h))) (row_same columns i) (rows_same columns xs (All-tail P i xs h))
      where
        kept : (L : List ℕ) (M : List Term) (a b : Bool) → a ≡ b → (a ≡ true → row_at t class f columns i ≡ row_of of_term columns (term_at t.nodes i)) → map (row_at t class f columns) L ≡ map (row_of of_term columns) M →
            map (row_at t class f columns) (cond a (i ∷ L) L) ≡ map (row_of of_term columns) (cond b (term_at t.nodes i ∷ M) M)
        kept L M true true e first rest = ap (λ r. r ∷ map (row_at t class f columns) L) (first refl) ∙ ap (λ rs. row_of of_term columns (term_at t.nodes i) ∷ rs) rest
        kept L M true false e first rest = cc
        kept L M false true e first rest = cc
        kept L M false false e first rest = rest

    pub system_of_problem : IsAssociative (axioms d f) → (columns : List ℕ) (system : System) → IsNodeSystem t class f columns system → IsSumSystem d problem of_term f columns system
    system_of_problem assoc columns system is = record {
      associative = assoc;
      distinct = is.distinct;
      exact = λ k. (λ c. column_to k ((is.exact k).0 c), λ c. (is.exact k).1 (column_back k c));
      wide = is.wide;
      rows = is.rows ∙ rows_same columns t.subterms made.subterms ∙ ap (λ l. map (row_of of_term columns) (filter (is_headed_by f) l)) table.subterms;
    }
