-- The table of a problem.
use Rattle.std.proofs.Common.{◌≡◌, ℕ, ◌<◌, ◌≤◌, List, [], ◌∷◌, ◌++◌, length, map, refl, sym, ap, ◌∙◌, subst, inl, inr, arith, All, Any, Contains, Some, None}
use Rattle.std.proofs.lemmas.Bool.{cases_lt}
use Rattle.std.proofs.lemmas.List.{length-append}
use Rattle.std.proofs.lemmas.List.Elements.{All-weaker, All-head, All-tail}
use Rattle.std.proofs.lemmas.Option.{slice_get_within}
use Rattle.fvn_base.proofs.Membership.{contains_map, map_contains}
use Rattle.fvn_terms.specs.declared.plain.OpId.{OpId}
use Rattle.fvn_terms.specs.declared.declarations.Declarations.{Declarations}
use Rattle.fvn_terms.specs.Term.{Term, app, pack}
use Rattle.fvn_terms.specs.Signature.{axioms}
use Rattle.fvn_terms.specs.Unifiers.{Problem}
use Rattle.fvn_terms.specs.Equality.{identity}
use Rattle.fvn_flat.specs.Problems.{subterms_of, once}
use Rattle.fvn_flat.specs.Partitions.{Heads}
use Rattle.fvn_combine_nodes.specs.Table.{NodeTable, IsWellMade, IsTableOf, IsUnitOf, term_at}
use Rattle.fvn_combine_nodes.specs.declared.table.Node.{Node}
use Rattle.fvn_combine_nodes.specs.declared.table.Node.TheVariants.{App}
use Rattle.fvn_combine_tree.specs.declared.building.Draft.{Draft}
use Rattle.fvn_combine_tree.specs.inner.Drafts.{AreNodes, HasWalked, AreSides, once_each, IsEntry, AreUnitsOf}
use Rattle.fvn_combine_nodes.proofs.Nodes.{term_at-more, terms-more, term_at-over, application_at}
use Rattle.fvn_combine_tree.proofs.Once.{once_terms, once_each-all, contains_once_each}

pub empty_nodes : AreNodes []
empty_nodes = (λ i f ks is. absurd (let p : None ≡ Some (App f ks) = is in cc), λ i j d l m. absurd (omega arith))

-- the terms of sides in a longer table
sides-more : (nodes rest : List Node) (sides : List (ℕ × ℕ)) → All (λ p. (p.0 < length nodes) × (p.1 < length nodes)) sides → map {B = Term × Term} (λ p. (term_at (nodes ++ rest) p.0, term_at (nodes ++ rest) p.1)) sides ≡ map {B = Term × Term} (λ p. (term_at nodes p.0, term_at nodes p.1)) sides
sides-more nodes rest [] h = refl
sides-more nodes rest (p ∷ sides) h =
    let P = λ (p : ℕ × ℕ). (p.0 < length nodes) × (p.1 < length nodes) in
    let w = All-head P p sides h in
    let F : ℕ × ℕ → Term × Term = λ p. (term_at (nodes ++ rest) p.0, term_at (nodes ++ rest) p.1) in
    let a = term_at-more nodes rest p.0 w.0 in
    let b = term_at-more nodes rest p.1 w.1 in
    let one : F p ≡ (term_at nodes p.0, term_at nodes p.1) = λ i. (a i, b i) in
    ap (λ q. q ∷ map F sides) one ∙ ap (λ l. (term_at nodes p.0, term_at nodes p.1) ∷ l) (sides-more nodes rest sides (All-tail P p sides h))

module _ (d : Declarations) (problem : Problem) (empty draft : Draft) (no_nodes : empty.nodes.items ≡ []) (no_walk : empty.walk.items ≡ []) (walked : HasWalked empty draft (subterms_of problem)) (are : AreNodes draft.nodes.items) (sides : List (ℕ × ℕ)) (are_sides : AreSides draft.nodes.items sides problem) (subterms : List ℕ) (once_is : subterms ≡ once_each draft.walk.items)
    (now : List Node) (units : List (OpId × ℕ)) (nodes : AreNodes now) (are_units : AreUnitsOf d (length draft.nodes.items) draft.nodes.items now units) where
  abbrev before : List Node
  before = draft.nodes.items

  abbrev walk : List ℕ
  walk = draft.walk.items

  walk_is : walk ≡ walked.steps
  walk_is = walked.walk ∙ ap (λ l. l ++ walked.steps) no_walk

  walk_within : All (λ k. k < length before) walk
  walk_within = subst (All (λ k. k < length before)) (sym walk_is) walked.within

  walk_shows : map (term_at before) walk ≡ subterms_of problem
  walk_shows = ap (map (term_at before)) walk_is ∙ walked.shows

  walk_covers : (i : ℕ) → i < length before → Contains walk i
  walk_covers i h = subst (λ l. Contains l i) (sym walk_is) (walked.covers i (let n = ap length no_nodes in omega arith) h)

  subterms_within : All (λ k. k < length before) subterms
  subterms_within = subst (All (λ k. k < length before)) (sym once_is) (once_each-all (λ k. k < length before) walk walk_within)

  grown : length before ≤ length now
  grown = let n = ap length are_units.nodes ∙ length-append before are_units.rest in omega arith

  -- terms stay when identities are entered
  kept : (i : ℕ) → i < length before → term_at now i ≡ term_at before i
  kept i h = ap (λ ns. term_at ns i) are_units.nodes ∙ term_at-more before are_units.rest i h

  abbrev table : NodeTable
  table = record { nodes = now; sides = sides; subterms = subterms; units = units }

  pub table_made : IsWellMade table
  table_made = record {
    ordered = nodes.0;
    distinct = nodes.1;
    sides = All-weaker (λ p. (p.0 < length before) × (p.1 < length before)) (λ p. (p.0 < length now) × (p.1 < length now)) (λ p w. let g = grown in let a = w.0 in let b = w.1 in (omega arith, omega arith)) sides are_sides.within;
    subterms = All-weaker (λ k. k < length before) (λ k. k < length now) (λ k l. let g = grown in omega arith) subterms subterms_within;
    units = All-weaker (IsEntry d before now) (λ p. p.1 < length now) (λ p h. h.within) units are_units.entries;
  }

  -- a node at hand has a subterm as its term
  subterm_at : (i : ℕ) → i < length before → Contains (subterms_of problem) (term_at before i)
  subterm_at i h = subst (λ l. Contains l (term_at before i)) walk_shows (contains_map (term_at before) walk i (walk_covers i h))

  unit_of : (p : OpId × ℕ) → IsEntry d before now p → IsUnitOf d problem p.0 (term_at now p.1)
  unit_of p h =
      let there = term_at-over before are.0 h.place p.0 h.arguments h.heads in
      record {
        heads = record {
          arguments = pack (map (term_at before) h.arguments);
          listed = subst (Contains (subterms_of problem)) there (subterm_at h.place (slice_get_within before h.place (App p.0 h.arguments) h.heads));
        };
        constant_of = h.constant_of;
        identity = h.identity;
        is = h.is;
      }

  all_units : (f e : OpId) → Heads d problem f → identity (axioms d f) ≡ Some e → Any (λ p. p.0 ≡ f) units
  all_units f e heads is =
      let found = map_contains (term_at before) walk (app f heads.arguments) (subst (λ l. Contains l (app f heads.arguments)) (sym walk_shows) heads.listed) in
      let i = found.0 in
      let c = found.1.0 in
      let within : i < length before = subst (λ k. k < length before) c.2 (walk_within c.0 i c.1) in
      let at = application_at before are.0 i f heads.arguments within found.1.1 in
      are_units.all i f e at.arguments within at.is is

  pub table_is : IsTableOf d problem table
  table_is = record {
    sides = ap (λ ns. map {B = Term × Term} (λ p. (term_at ns p.0, term_at ns p.1)) sides) are_units.nodes ∙ sides-more before are_units.rest sides are_sides.within ∙ are_sides.are;
    subterms =
        ap (λ ns. map (term_at ns) subterms) are_units.nodes
        ∙ terms-more before are_units.rest subterms subterms_within
        ∙ ap (map (term_at before)) once_is
        ∙ once_terms before are walk walk_within
        ∙ ap once walk_shows;
    units = All-weaker (IsEntry d before now) (λ p. IsUnitOf d problem p.0 (term_at now p.1)) unit_of units are_units.entries;
    all_units = all_units;
    units_once = are_units.once;
    only = λ i h. elim (cases_lt i (length before)) [
      | inl l ↦ inl (subst (λ ks. Contains ks i) (sym once_is) (contains_once_each i walk (walk_covers i l)))
      | inr g ↦ inr (are_units.covers i g h)
    ];
  }
