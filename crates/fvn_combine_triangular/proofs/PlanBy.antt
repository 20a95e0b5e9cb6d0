-- The plan of the lists is one that the choice makes.
use Rattle.std.proofs.Common.{◌≡◌, ◌≢◌, ℕ, ◌+◌, ◌*◌, ◌<◌, ◌≤◌, List, [], ◌∷◌, length, get_or, map, slice_index_or, refl, sym, ap, ◌∙◌, subst, inl, inr, arith, All, AllPairs, Contains, Option, Some}
use Rattle.std.specs.Prelude.{slice_get}
use Rattle.std.proofs.lemmas.Bool.{cases_order}
use Rattle.std.proofs.lemmas.List.{length-map, get_or-map}
use Rattle.std.proofs.lemmas.Option.{slice_get_within, get_or_from_slice_get}
use Rattle.fvn_base.specs.declared.limits.TheConstants.{NEXT_FRESH}
use Rattle.fvn_acunify.specs.declared.limits.TheConstants.{LISTED_SOLUTIONS}
use Rattle.fvn_base.proofs.Membership.{map_contains}
use Rattle.fvn_terms.specs.declared.plain.Var.{Var as Variable}
use Rattle.fvn_terms.specs.declared.plain.OpId.{OpId}
use Rattle.fvn_terms.specs.declared.declarations.Declarations.{Declarations}
use Rattle.fvn_lindio.specs.declared.system.Solution.{Solution}
use Rattle.fvn_flat.specs.SolvedLists.{Part, component}
use Rattle.fvn_flat.specs.declared.solver.Pairs.{Pairs}
use Rattle.fvn_combine_nodes.specs.Table.{NodeTable}
use Rattle.fvn_combine_nodes.specs.States.{class_of}
use Rattle.fvn_combine_nodes.specs.declared.state.State.{State}
use Rattle.fvn_combine_nodes.specs.declared.table.Node.TheVariants.{App}
use Rattle.fvn_combine_nodes.proofs.Lists.{all_from}
use Rattle.fvn_combine_leaves.specs.Leaves.{IsSumOperator}
use Rattle.fvn_combine_leaves.specs.declared.reading.Sums.{Sums}
use Rattle.fvn_combine_leaves.specs.declared.reading.Reading.{Reading}
use Rattle.fvn_combine_choices.specs.Binding.{IsBound, IsConstant}
use Rattle.fvn_combine_choices.specs.Choosing.{taken}
use Rattle.fvn_combine_choices.specs.Plans.{IsForSolution, StandsFor, IsFormBy, IsPlanBy}
use Rattle.fvn_combine_admissible.specs.Listed.{tag_in, at_operator, systems_of, choice_of}
use Rattle.fvn_combine_triangular.specs.declared.binders.Binder.{Binder}
use Rattle.fvn_combine_triangular.specs.declared.binders.Binder.TheVariants.{Nothing, Member, Sum}
use Rattle.fvn_combine_triangular.specs.declared.shares.Share.{Share}
use Rattle.fvn_combine_triangular.specs.inner.Planning.{name_in, part_of, IsBinderOf, form_of, plan_of}
use Rattle.fvn_combine_triangular.proofs.Classes.{name_is}
use Rattle.fvn_combine_triangular.proofs.Sources.{bound_operator}
use Rattle.fvn_combine_triangular.proofs.Made.{start_of, IsMade, has_sums, node_terms, place_of, operator_rank, entry_within, entry_operator, parts_at, part_operator}
use Rattle.fvn_combine_triangular.proofs.Parts.{element_at, place_at, share_stands, solutions_are, few_shares, share_taken, component_is, number_of, shares_differ}

-- the number after those of all new variables
abbrev pub next_of : NodeTable → Reading → ℕ → ℕ
next_of t r first = start_of t first + LISTED_SOLUTIONS * length r.sums

module _ {d : Declarations} {given : Pairs} {first : ℕ} {t : NodeTable} {s : State} {r : Reading} {bases : List (List Solution)} {tags : List (Option OpId)} {numbers : List ℕ} {names : List Variable} {binders : List Binder} {all : List (List Share)} (m : IsMade d given first t s r bases tags numbers names binders all) where
  -- the form of a class is one that the choice makes
  form_by : (k : ℕ) (b : Binder) → IsBinderOf d t (class_of s) (tag_in tags) r.sums k b → IsFormBy d t (class_of s) (systems_of r bases) (choice_of r tags numbers) k (form_of t r.sums b)
  form_by k Nothing h = (
    λ f bound.
        let p = place_of m.leaf f (bound_operator (has_sums m.leaf) (class_of s) f k bound) in
        h.0 p.number (p.entry, p.at, subst (λ g. IsBound d t (class_of s) (tag_in tags) g k) (sym p.is) bound),
    λ i simple. h.1 i (slice_get_within t.nodes i (App simple.operator simple.arguments) simple.over) simple.of (simple.operator, simple.arguments, simple.over, simple.simple),
  )
  form_by k (Member i) h = (i, record { operator = h.2.0; arguments = h.2.1; over = h.2.2; simple = h.2.3; of = h.1 }, refl)
  form_by k (Sum i) (e, at, bound) =
      let none : OpId = record { 0 = 0 } in
      let is : slice_index_or (map (λ (s : Sums). s.operator) r.sums) i none ≡ e.operator = get_or-map (λ (s : Sums). s.operator) r.sums i e none (slice_get_within r.sums i e at) ∙ ap (λ (s : Sums). s.operator) (get_or_from_slice_get r.sums i e e at) in
      subst (λ g. IsBound d t (class_of s) (tag_in tags) g k) (sym is) bound

  module _ (i : ℕ) (e : Sums) (at : slice_get r.sums i ≡ Some e) where
    -- the name of a constant stands for a solution that has it
    of_constant : (p : Share) → Contains (slice_index_or all i []) p → (k : ℕ) → IsConstant d t (class_of s) (tag_in tags) e.operator k → 0 < component ((systems_of r bases).columns e.operator) p.solution k → p.variable ≡ name_in names k
    of_constant p listed k constant some = elim (share_stands m i e at listed.0 p (place_at (slice_index_or all i []) p listed)) [
      | inl (j, other, more, is) ↦
          let n = component_is m i e at p.solution j in
          let one = (m.leaf.possible.acceptable e.operator (entry_operator m.leaf i e at)).apart j k other constant (record { solution = p.solution; among = share_taken m i e at p listed; left = omega (arith, more, n); right = some }) in
          is ∙ ap (name_in names) one
      | inr (none, new) ↦
          let z = none k constant in
          let n = component_is m i e at p.solution k in
          absurd (omega (arith, some, n, z))
    ]

    -- a new variable stands for one that has none
    of_none : (p : Share) → Contains (slice_index_or all i []) p → ((k : ℕ) → IsConstant d t (class_of s) (tag_in tags) e.operator k → component ((systems_of r bases).columns e.operator) p.solution k ≡ 0) → IsForSolution d t first (next_of t r first) e.operator p.variable
    of_none p listed zero = elim (share_stands m i e at listed.0 p (place_at (slice_index_or all i []) p listed)) [
      | inl (j, other, more, is) ↦
          let n = component_is m i e at p.solution j in
          let z = zero j other in
          absurd (omega (arith, more, n, z))
      | inr (none, new) ↦
          let rank = operator_rank m.leaf e.operator (entry_operator m.leaf i e at) in
          let n = new.is in
          let j = listed.1 in
          let few = few_shares m i e at in
          let within = entry_within m.leaf i e at in
          record {
            fresh = new.fresh;
            above = omega (arith, n);
            below = omega (arith, n, j, few, within);
            rank = rank.0;
            declared_so = rank.1;
            sort = new.sort rank.0 rank.1;
          }
    ]

    part_stands : (q : Part) → Contains (map part_of (slice_index_or all i [])) q → StandsFor d t (class_of s) (systems_of r bases) (choice_of r tags numbers) first (next_of t r first) (plan_of t r names binders all) e.operator q
    part_stands q listed =
        let p = map_contains part_of (slice_index_or all i []) q listed in
        subst (StandsFor d t (class_of s) (systems_of r bases) (choice_of r tags numbers) first (next_of t r first) (plan_of t r names binders all) e.operator) p.1.1
        (record { constant = of_constant p.0 p.1.0; other = of_none p.0 p.1.0 })

    -- no variable stands for two parts
    parts_differ : AllPairs (λ q r. q.variable ≢ r.variable) (map part_of (slice_index_or all i []))
    parts_differ a b o l n =
        let shares = slice_index_or all i [] in
        let size = length-map shares part_of in
        let la : a < length shares = omega (arith, l, n, size) in
        let lb : b < length shares = omega (arith, n, size) in
        let p = element_at shares a la in
        let q = element_at shares b lb in
        let left : get_or (map part_of shares) a o ≡ part_of p.0 = get_or-map part_of shares a p.0 o la ∙ ap part_of (get_or_from_slice_get shares a p.0 p.0 p.1) in
        let right : get_or (map part_of shares) b o ≡ part_of q.0 = get_or-map part_of shares b q.0 o lb ∙ ap part_of (get_or_from_slice_get shares b q.0 q.0 q.1) in
        λ same. shares_differ m i e at a b p.0 q.0 l p.1 q.1 (ap (λ (q : Part). q.variable) (sym left) ∙ same ∙ ap (λ (q : Part). q.variable) right)

  abbrev parts_of : OpId → List Part
  parts_of = at_operator [] r.sums (map (map part_of) all)

  parts_are : (i : ℕ) (e : Sums) → slice_get r.sums i ≡ Some e → parts_of e.operator ≡ map part_of (slice_index_or all i [])
  parts_are i e at = parts_at m.leaf i e at all m.shares_are.as_many

  -- what holds of each operator that was read holds of each sum operator
  at_each : (P : OpId → Type 0) → ((i : ℕ) (e : Sums) → slice_get r.sums i ≡ Some e → P e.operator) → (f : OpId) → IsSumOperator d t f → P f
  at_each P h f sum = let p = place_of m.leaf f sum in subst P p.is (h p.number p.entry p.at)

  solutions_by : (f : OpId) → IsSumOperator d t f → map (λ (q : Part). q.solution) (parts_of f) ≡ taken (systems_of r bases) (choice_of r tags numbers) f
  solutions_by = at_each (λ f. map (λ (q : Part). q.solution) (parts_of f) ≡ taken (systems_of r bases) (choice_of r tags numbers) f) (λ i e at.
      ap (map (λ (q : Part). q.solution)) (parts_are i e at) ∙ map_map (slice_index_or all i []) ∙ solutions_are m i e at)
    where
      map_map : (shares : List Share) → map (λ (q : Part). q.solution) (map part_of shares) ≡ map (λ (p : Share). p.solution) shares
      map_map [] = refl
      map_map (p ∷ shares) = ap (λ l. p.solution ∷ l) (map_map shares)

  standing_by : (f : OpId) → IsSumOperator d t f → All (StandsFor d t (class_of s) (systems_of r bases) (choice_of r tags numbers) first (next_of t r first) (plan_of t r names binders all) f) (parts_of f)
  standing_by = at_each (λ f. All (StandsFor d t (class_of s) (systems_of r bases) (choice_of r tags numbers) first (next_of t r first) (plan_of t r names binders all) f) (parts_of f)) (λ i e at.
      subst (All (StandsFor d t (class_of s) (systems_of r bases) (choice_of r tags numbers) first (next_of t r first) (plan_of t r names binders all) e.operator)) (sym (parts_are i e at))
      (all_from (StandsFor d t (class_of s) (systems_of r bases) (choice_of r tags numbers) first (next_of t r first) (plan_of t r names binders all) e.operator) (map part_of (slice_index_or all i [])) (part_stands i e at)))

  only_by : (f : OpId) (q : Part) → Contains (parts_of f) q → IsSumOperator d t f
  only_by f q listed = let p = part_operator m.leaf all f q listed in subst (IsSumOperator d t) p.is (entry_operator m.leaf p.number p.entry p.at)

  distinct_by : (f : OpId) → IsSumOperator d t f → AllPairs (λ q r. q.variable ≢ r.variable) (parts_of f)
  distinct_by = at_each (λ f. AllPairs (λ q r. q.variable ≢ r.variable) (parts_of f)) (λ i e at. subst (AllPairs (λ (q r : Part). q.variable ≢ r.variable)) (sym (parts_are i e at)) (parts_differ i e at))

  -- the share of a part
  record ShareOf (f : OpId) (q : Part) : Type 0 where
    number : ℕ
    entry : Sums
    at : slice_get r.sums number ≡ Some entry
    is : entry.operator ≡ f
    place : ℕ
    share : Share
    there : slice_get (slice_index_or all number []) place ≡ Some share
    part : part_of share ≡ q

  share_of : (f : OpId) (q : Part) → Contains (parts_of f) q → ShareOf f q
  share_of f q listed =
      let p = part_operator m.leaf all f q listed in
      let here : Contains (map part_of (slice_index_or all p.number [])) q = subst (λ l. Contains l q) (ap parts_of (sym p.is) ∙ parts_are p.number p.entry p.at) listed in
      let u = map_contains part_of (slice_index_or all p.number []) q here in
      record { number = p.number; entry = p.entry; at = p.at; is = p.is; place = u.1.0.0; share = u.0; there = place_at (slice_index_or all p.number []) u.0 u.1.0; part = u.1.1 }

  apart_by : (f g : OpId) (q o : Part) → f ≢ g → Contains (parts_of f) q → Contains (parts_of g) o → first + length t.nodes ≤ q.variable.name → q.variable ≢ o.variable
  apart_by f g q o other lq lo above same =
      let a = share_of f q lq in
      let b = share_of g o lo in
      let x : a.share.variable.name ≡ q.variable.name = ap (λ (q : Part). q.variable.name) a.part in
      let y : b.share.variable.name ≡ o.variable.name = ap (λ (q : Part). q.variable.name) b.part in
      let z : q.variable.name ≡ o.variable.name = ap (λ (x : Variable). x.name) same in
      elim (number_of m a.number a.entry a.at a.place a.share a.there) [
        | inl below ↦ omega (arith, below, x, above)
        | inr n ↦ elim (number_of m b.number b.entry b.at b.place b.share b.there) [
          | inl under ↦ omega (arith, under, x, y, z, above)
          | inr k ↦
              let la = slice_get_within (slice_index_or all a.number []) a.place a.share a.there in
              let lb = slice_get_within (slice_index_or all b.number []) b.place b.share b.there in
              let fa = few_shares m a.number a.entry a.at in
              let fb = few_shares m b.number b.entry b.at in
              elim (cases_order a.number b.number) [
                | inl one ↦
                    let w : Some a.entry ≡ Some b.entry = sym a.at ∙ ap (slice_get r.sums) one ∙ b.at in
                    let e : a.entry ≡ b.entry = cc in
                    other (sym a.is ∙ ap (λ (s : Sums). s.operator) e ∙ b.is)
                | inr p ↦ elim p [
                  | inl lt ↦ omega (arith, lt, n, k, x, y, z, la, lb, fa, fb)
                  | inr gt ↦ omega (arith, gt, n, k, x, y, z, la, lb, fa, fb)
                ]
              ]
        ]
      ]

  pub next_bounded : next_of t r first ≤ NEXT_FRESH
  next_bounded =
      let a = m.leaf.ready.is_given.small in
      let b = m.leaf.listed.room in
      omega (arith, a, b)

  pub plan_by : IsPlanBy d t (class_of s) (systems_of r bases) (choice_of r tags numbers) first (next_of t r first) (plan_of t r names binders all)
  plan_by = record {
    enough = omega arith;
    names = name_is m.leaf.made m.leaf.ready.closed m.leaf.good (node_terms m.leaf) m.leaf.ready.kinds m.names_are;
    forms = λ k l. form_by k (slice_index_or binders k Nothing) (m.binders_are.each k l);
    columns = λ f sum. refl;
    solutions = solutions_by;
    standing = standing_by;
    only = only_by;
    distinct = distinct_by;
    apart = apart_by;
  }
