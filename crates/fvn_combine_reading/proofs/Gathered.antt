-- The sum operators that are gathered, and which columns they use.
use Rattle.std.proofs.Common.{◌≡◌, ◌≢◌, ℕ, ◌<◌, List, [], ◌∷◌, ◌++◌, length, map, get_or, sym, ap, ◌∙◌, subst, inl, inr, arith, All, Contains, Option, Some, None, slice_get}
use Rattle.std.specs.Prelude.{pos, MatchOption, Any, Bool}
use Rattle.std.proofs.lemmas.List.{get_or-map}
use Rattle.std.proofs.lemmas.List.Elements.{Contains-append_left, Contains-push, Contains-push_cases, Contains-get_or, All-weaker, All-contains_itself}
use Rattle.std.proofs.lemmas.List.Quantifiers.{all_pairs_push}
use Rattle.fvn_base.proofs.Membership.{contains_none, contains_map, map_contains}
use Rattle.fvn_terms.specs.declared.plain.OpId.{OpId}
use Rattle.fvn_terms.specs.declared.declarations.Declarations.{Declarations}
use Rattle.fvn_terms.specs.Signature.{axioms}
use Rattle.fvn_terms.specs.Equality.{IsAssociative}
use Rattle.fvn_lindio.specs.declared.system.System.{System}
use Rattle.fvn_lindio.specs.Systems.{IsSystem, rows_of}
use Rattle.fvn_combine_nodes.specs.Table.{NodeTable, IsOver}
use Rattle.fvn_combine_nodes.specs.declared.table.Node.TheVariants.{App}
use Rattle.fvn_combine_systems.specs.NodeSystems.{addends, sums, coefficient, row_at, IsNodeSystem}
use Rattle.fvn_combine_systems.proofs.Members.{headed_over, listed_sum, sum_listed}
use Rattle.fvn_combine_leaves.specs.Leaves.{Uses}
use Rattle.fvn_combine_leaves.specs.Readings.{AreSumOperators, AreSums}
use Rattle.fvn_combine_reading.specs.inner.Reading.{IsAdded, AreUsed, AreOperatorsAmong}

module _ (d : Declarations) (t : NodeTable) where
  -- what is told of node i: its operator, where that is associative
  abbrev pub TellsOperator : ℕ → Option OpId → Type 0
  TellsOperator i o = MatchOption o ((f : OpId) (ks : List ℕ) → IsOver t.nodes i f ks → IsAssociative (axioms d f) → ⊥) (λ f. IsAssociative (axioms d f) × (ks : List ℕ) × IsOver t.nodes i f ks)

  pub none_among : AreOperatorsAmong d t [] []
  none_among = record {
    distinct = λ i j e l m. absurd (omega (arith, m));
    from = λ f c. absurd (contains_none f c);
    all = λ f i ks c o a. absurd (contains_none i c);
  }

  -- two operators of one node are one
  same_node : (i : ℕ) (f g : OpId) (ks ls : List ℕ) → IsOver t.nodes i f ks → IsOver t.nodes i g ls → f ≡ g
  same_node i f g ks ls left right = let e : Some (App f ks) ≡ Some (App g ls) = sym left ∙ right in cc

  -- one more node
  pub more_among : (front : List ℕ) (list now : List OpId) (i : ℕ) → AreOperatorsAmong d t front list → (o : Option OpId) → TellsOperator i o → IsAdded list now o → AreOperatorsAmong d t (front ++ i ∷ []) now
  more_among front list now i h None none e = subst (AreOperatorsAmong d t (front ++ i ∷ [])) (sym e) (record {
    distinct = h.distinct;
    from = λ f c. let r = h.from f c in (r.0, r.1, Contains-append_left front (i ∷ []) r.1 r.2, r.3, r.4);
    all = λ f j ks c over a. elim (Contains-push_cases front i j c) [
      | inl old ↦ h.all f j ks old over a
      | inr same ↦ absurd (none f ks (subst (λ n. IsOver t.nodes n f ks) (sym same) over) a)
    ];
  })
  more_among front list now i h (Some g) (assoc, ls, here) (inl (there, e)) = subst (AreOperatorsAmong d t (front ++ i ∷ [])) (sym e) (record {
    distinct = h.distinct;
    from = λ f c. let r = h.from f c in (r.0, r.1, Contains-append_left front (i ∷ []) r.1 r.2, r.3, r.4);
    all = λ f j ks c over a. elim (Contains-push_cases front i j c) [
      | inl old ↦ h.all f j ks old over a
      | inr same ↦ subst (Contains list) (same_node i g f ls ks here (subst (λ n. IsOver t.nodes n f ks) (sym same) over)) there
    ];
  })
  more_among front list now i h (Some g) (assoc, ls, here) (inr (new, e)) = subst (AreOperatorsAmong d t (front ++ i ∷ [])) (sym e) (record {
    distinct = all_pairs_push ◌≢◌ list g h.distinct (λ k f l same. new (subst (Contains list) same (Contains-get_or list k f l)));
    from = λ f c. elim (Contains-push_cases list g f c) [
      | inl old ↦ let r = h.from f old in (r.0, r.1, Contains-append_left front (i ∷ []) r.1 r.2, r.3, r.4)
      | inr same ↦ (subst (λ f. IsAssociative (axioms d f)) same assoc, i, Contains-push front i, ls, subst (λ f. IsOver t.nodes i f ls) same here)
    ];
    all = λ f j ks c over a. elim (Contains-push_cases front i j c) [
      | inl old ↦ Contains-append_left list (g ∷ []) f (h.all f j ks old over a)
      | inr same ↦ subst (Contains (list ++ g ∷ [])) (same_node i g f ls ks here (subst (λ n. IsOver t.nodes n f ks) (sym same) over)) (Contains-push list g)
    ];
  })

  -- the operators of all subterms are the sum operators
  pub operators_are : (list : List OpId) → AreOperatorsAmong d t t.subterms list → AreSumOperators d t list
  operators_are list h = record {
    distinct = h.distinct;
    exact = λ f. (
      λ c. let r = h.from f c in record { associative = r.0; sum = r.1; listed = listed_sum t f r.1 r.3 r.2 r.4 },
      λ o.
          let m = sum_listed t f o.sum o.listed in
          let r = headed_over f (slice_get t.nodes o.sum) m.1 in
          h.all f o.sum r.0 m.0 r.1 o.associative,
    );
  }

  -- all operators of a list of sum operators are associative
  pub all_associative : (list : List OpId) → AreSumOperators d t list → All (λ f. IsAssociative (axioms d f)) list
  all_associative list h = All-weaker (Contains list) (λ f. IsAssociative (axioms d f)) (λ f c. ((h.exact f).0 c).associative) list (All-contains_itself list)

  module _ (class : ℕ → ℕ) (f : OpId) (assoc : IsAssociative (axioms d f)) (columns : List ℕ) (system : System) (is : IsNodeSystem t class f columns system) where
    entry_of : (i j : ℕ) → j < length columns → get_or (row_at t class f columns i) j (pos 0) ≡ coefficient class i (addends f (slice_get t.nodes i)) (get_or columns j 0)
    entry_of i j l = get_or-map (coefficient class i (addends f (slice_get t.nodes i))) columns j 0 (pos 0) l

    -- a column that some row uses is used by the operator
    used_from : (j : ℕ) → j < length columns → Any (λ row. get_or row j (pos 0) ≢ pos 0) (rows_of system) → Uses d t class f (get_or columns j 0)
    used_from j l (n, row, within, at, other) =
        let listed : Contains (rows_of system) row = (n, within, at) in
        let m = map_contains (row_at t class f columns) (sums t f) row (subst (λ rs. Contains rs row) is.rows listed) in
        record {
          associative = assoc;
          column = (is.exact (get_or columns j 0)).0 (Contains-get_or columns j 0 l);
          row = m.0;
          listed = m.1.0;
          other = λ z. other (sym (ap (λ r. get_or r j (pos 0)) m.1.1) ∙ entry_of m.0 j l ∙ z);
        }

    used_to : (j : ℕ) → j < length columns → Uses d t class f (get_or columns j 0) → Any (λ row. get_or row j (pos 0) ≢ pos 0) (rows_of system)
    used_to j l u =
        let rows = rows_of system in
        let row = row_at t class f columns u.row in
        let listed : Contains rows row = subst (λ rs. Contains rs row) (sym is.rows) (mapped u.row u.listed) in
        (listed.0, row, listed.1, listed.2, λ z. u.other (sym (entry_of u.row j l) ∙ z))
      where
        mapped : (i : ℕ) → Contains (sums t f) i → Contains (map (row_at t class f columns) (sums t f)) (row_at t class f columns i)
        mapped i c = contains_map (row_at t class f columns) (sums t f) i c

    pub sums_are : (used : List Bool) → IsSystem system → AreUsed system used → AreSums d t class (record { operator = f; columns = columns; system = system; used = used })
    sums_are used fits are = record {
      is_system = is;
      fits = fits;
      marked = are.marked ∙ is.wide;
      exact = λ j l.
          let within : j < system.columns = let w = is.wide in omega (arith, l, w) in
          (λ e. used_from j l ((are.exact j within).0 e), λ u. (are.exact j within).1 (used_to j l u));
    }
