-- The table of a small problem leaves room for new numbers.
use Rattle.std.proofs.Common.{◌≡◌, ℕ, ◌+◌, ◌*◌, ◌<◌, ◌≤◌, true, ◌++◌, map, length, get_or, sym, ap, ◌∙◌, subst, inl, inr, arith, Contains, Option, Some, None}
use Rattle.std.specs.Prelude.{slice_get}
use Rattle.std.proofs.lemmas.List.{length-map, length-append, get_or_default}
use Rattle.std.proofs.lemmas.List.Elements.{All-contains, Contains-append_left, Contains-append_right}
use Rattle.fvn_base.proofs.Membership.{filter_contains, contains_map, map_contains}
use Rattle.fvn_base.proofs.Pigeonhole.{length-le_within, length-le_numbered}
use Rattle.fvn_base.specs.declared.limits.TheConstants.{FIRST_FRESH}
use Rattle.fvn_acunify.specs.declared.limits.TheConstants.{LISTED_SOLUTIONS}
use Rattle.fvn_terms.specs.declared.plain.OpId.{OpId}
use Rattle.fvn_terms.specs.Term.{Term, app}
use Rattle.fvn_forms.proofs.Sums.{same_op_is, same_op_itself}
use Rattle.fvn_flat.specs.Problems.{subterms_of}
use Rattle.fvn_flat.specs.Solving.{problem_of}
use Rattle.fvn_combine_nodes.specs.Table.{nothing, NodeTable, IsUnitOf, term_at, terms_of}
use Rattle.fvn_combine_nodes.specs.States.{class_of}
use Rattle.fvn_combine_nodes.specs.declared.state.State.{State}
use Rattle.fvn_combine_nodes.specs.declared.table.Node.{Node}
use Rattle.fvn_combine_nodes.specs.declared.table.Node.TheVariants.{Var, App}
use Rattle.fvn_combine_nodes.proofs.Nodes.{length-terms_of, application_at}
use Rattle.fvn_combine_systems.specs.Laws.{TablesAreSmall}
use Rattle.fvn_combine_systems.specs.NodeSystems.{is_headed}
use Rattle.fvn_combine_leaves.specs.Readings.{IsReading}
use Rattle.fvn_combine_leaves.specs.declared.reading.Sums.{Sums}
use Rattle.fvn_combine_leaves.specs.declared.reading.Reading.{Reading}
use Rattle.fvn_combine_nodes.proofs.Terms.{once_contains}
use Rattle.fvn_combine.specs.Tasks.{Combining, IsCombining}

-- one operator heads a node
one_head : (f g : OpId) (n : Option Node) → is_headed f n ≡ true → is_headed g n ≡ true → f ≡ g
one_head f g None a b = cc
one_head f g (Some (Var x)) a b = cc
one_head f g (Some (App h ks)) a b = same_op_is f h a ∙ sym (same_op_is g h b)

module _ (k : Combining) (is : IsCombining k) (small : TablesAreSmall) where
  abbrev t : NodeTable
  t = k.table

  few_subterms : length t.subterms ≤ 1000
  few_subterms =
      let n = small k.declarations k.given.pairs t is.table_of in
      let m = is.small in
      omega (arith, n, m)

  -- f heads the subterm at this place
  abbrev HeadsAt : OpId → ℕ → Type 0
  HeadsAt f j = is_headed f (slice_get t.nodes (get_or t.subterms j 0)) ≡ true

  heads_at : (f : OpId) (i : ℕ) (c : Contains t.subterms i) → is_headed f (slice_get t.nodes i) ≡ true → HeadsAt f c.0
  heads_at f i c h = subst (λ j. is_headed f (slice_get t.nodes j) ≡ true) (sym (get_or_default t.subterms c.0 0 i c.1 ∙ c.2)) h

  few_sums : (s : State) (r : Reading) → IsReading k.declarations t (class_of s) r → length r.sums ≤ length t.subterms
  few_sums s r reading =
      let operators = map (λ (e : Sums). e.operator) r.sums in
      let few = length-le_numbered HeadsAt (length t.subterms) operators placed (λ i j d l m n a b. reading.operators.distinct i j d l m (one_head (get_or operators i d) (get_or operators j d) (slice_get t.nodes (get_or t.subterms n 0)) a b)) in
      let n = length-map r.sums (λ (e : Sums). e.operator) in
      omega (arith, few, n)
    where
      placed : (f : OpId) → Contains (map (λ (e : Sums). e.operator) r.sums) f → (j : ℕ) × ((j < length t.subterms) × HeadsAt f j)
      placed f m =
          let sum = (reading.operators.exact f).0 m in
          let c = filter_contains (λ i. is_headed f (slice_get t.nodes i)) t.subterms sum.sum sum.listed in
          (c.0.0, (c.0.1, heads_at f sum.sum c.0 c.1))

  few_units : length t.units ≤ length t.subterms
  few_units = length-le_numbered (λ p j. HeadsAt p.0 j) (length t.subterms) t.units placed (λ i j d l m n a b. is.table_of.units_once i j d l m (one_head (get_or t.units i d).0 (get_or t.units j d).0 (slice_get t.nodes (get_or t.subterms n 0)) a b))
    where
      placed : (p : OpId × ℕ) → Contains t.units p → (j : ℕ) × ((j < length t.subterms) × HeadsAt p.0 j)
      placed p m =
          let unit : IsUnitOf k.declarations (problem_of k.given) p.0 (term_at t.nodes p.1) = All-contains (λ q. IsUnitOf k.declarations (problem_of k.given) q.0 (term_at t.nodes q.1)) t.units p is.table_of.units m in
          let u = app p.0 unit.heads.arguments in
          let listed = subst (λ l. Contains l u) (sym is.table_of.subterms) (once_contains (subterms_of (problem_of k.given)) u unit.heads.listed) in
          let found = map_contains (term_at t.nodes) t.subterms u listed in
          let within = All-contains (λ i. i < length t.nodes) t.subterms found.0 is.well_made.subterms found.1.0 in
          let over = application_at t.nodes is.well_made.ordered found.0 p.0 unit.heads.arguments within found.1.1 in
          (found.1.0.0, (found.1.0.1, heads_at p.0 found.0 found.1.0 (ap (is_headed p.0) over.is ∙ same_op_itself p.0)))

  few_nodes : length t.nodes ≤ length t.subterms + length t.units
  few_nodes =
      let ys = map (term_at t.nodes) t.subterms ++ map (λ (p : OpId × ℕ). term_at t.nodes p.1) t.units in
      let few = length-le_within (terms_of t.nodes) ys is.well_made.distinct listed in
      let a = length-terms_of t.nodes in
      let b = length-append (map (term_at t.nodes) t.subterms) (map (λ (p : OpId × ℕ). term_at t.nodes p.1) t.units) in
      let c = length-map t.subterms (term_at t.nodes) in
      let e = length-map t.units (λ (p : OpId × ℕ). term_at t.nodes p.1) in
      omega (arith, few, a, b, c, e)
    where
      listed : (u : Term) → Contains (terms_of t.nodes) u → Contains (map (term_at t.nodes) t.subterms ++ map (λ (p : OpId × ℕ). term_at t.nodes p.1) t.units) u
      listed u m =
          let n = length-terms_of t.nodes in
          let within : m.0 < length t.nodes = let l = m.1 in omega (arith, l, n) in
          let at : term_at t.nodes m.0 ≡ u = get_or_default (terms_of t.nodes) m.0 nothing u m.1 ∙ m.2 in
          let left = map (term_at t.nodes) t.subterms in
          let right = map (λ (p : OpId × ℕ). term_at t.nodes p.1) t.units in
          subst (Contains (left ++ right)) at (elim (is.table_of.only m.0 within) [
            | inl c ↦ Contains-append_left left right (term_at t.nodes m.0) (contains_map (term_at t.nodes) t.subterms m.0 c)
            | inr a ↦ Contains-append_right left right (term_at t.nodes m.0)
                (subst (λ i. Contains right (term_at t.nodes i)) a.4 (contains_map (λ (p : OpId × ℕ). term_at t.nodes p.1) t.units a.1 (a.0, a.2, a.3)))
          ])

  pub room : (s : State) (r : Reading) → IsReading k.declarations t (class_of s) r → length t.nodes + LISTED_SOLUTIONS * length r.sums ≤ FIRST_FRESH
  room s r reading =
      let a = few_subterms in
      let b = few_units in
      let c = few_nodes in
      let e = few_sums s r reading in
      omega (arith, a, b, c, e)
