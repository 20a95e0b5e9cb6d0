-- Minimal solutions that values choose are acceptable, and the values are made of their pieces.
use Rattle.std.proofs.Common.{◌≡◌, ◌⊎◌, ℕ, zero, suc, ◌+◌, ◌<◌, ◌≤◌, ◌^◌, true, List, [], ◌∷◌, length, map, get_or, sym, ap, ◌∙◌, subst, inl, inr, arith, All, Contains, Option, Some, pos, slice_get, sum_by}
use Rattle.std.specs.Prelude.{Bool}
use Rattle.std.proofs.lemmas.Bool.{cases_eq, or_cases}
use Rattle.std.proofs.lemmas.List.{get_or-map, get_or_default}
use Rattle.std.proofs.lemmas.List.Sums.{sum_by-cons}
use Rattle.std.proofs.lemmas.List.Elements.{All-map, All-contains, Contains-get_or}
use Rattle.fvn_base.proofs.Membership.{contains_here, contains_later, contains_map}
use Rattle.fvn_terms.specs.declared.plain.OpId.{OpId}
use Rattle.fvn_terms.specs.declared.declarations.Declarations.{Declarations}
use Rattle.fvn_forms.specs.Flat.{FlatTerm}
use Rattle.fvn_forms.specs.InOrder.{count, SameCounts}
use Rattle.fvn_forms.specs.Canon.{parts}
use Rattle.fvn_lindio.specs.Systems.{IsZeroAt, IsMinimal, IsUnused, rows_of}
use Rattle.fvn_acunify.specs.ValidChoice.{chosen, column_sum, touched}
use Rattle.fvn_flat.specs.SolvedLists.{component}
use Rattle.fvn_combine_nodes.specs.Table.{NodeTable, IsWellMade, IsOver}
use Rattle.fvn_combine_nodes.specs.States.{class_of}
use Rattle.fvn_combine_nodes.specs.declared.state.State.{State}
use Rattle.fvn_combine_systems.specs.NodeSystems.{addends, sums, coefficient, row_at, IsNodeSystem}
use Rattle.fvn_combine_systems.proofs.Carrying.{carry, carried, minimal_carried}
use Rattle.fvn_combine_systems.proofs.Members.{over_addends, listed_sum}
use Rattle.fvn_combine_systems.proofs.Weighing.{zero_row}
use Rattle.fvn_combine_systems.proofs.Zeroes.{zero_told}
use Rattle.fvn_combine_supports.specs.Laws.{MadeUpByTaken}
use Rattle.fvn_combine_supports.specs.Pieces.{has_some, number_of, taken as with_pieces}
use Rattle.fvn_combine_leaves.specs.Leaves.{IsLeaf, IsSumOperator, Uses, IsShared, IsAlive}
use Rattle.fvn_combine_choices.specs.Binding.{IsBound, IsConstant, IsRequired, AreAsked}
use Rattle.fvn_combine_choices.specs.Choosing.{Systems, Choice, AreSystems, AreTakenTogether, IsAcceptable, taken, member_count}
use Rattle.fvn_combine_choices.proofs.Columns.{one_of_sum, chosen_listed}
use Rattle.fvn_combine_complete.specs.Alive.{ListsAlive}
use Rattle.fvn_combine_complete.specs.Laws.{IsChosen, NoAliases}
use Rattle.fvn_combine_complete.specs.LaidOut.{laid_for}
use Rattle.fvn_combine_choices.specs.Tables.{HasSums}
use Rattle.fvn_combine_complete.specs.Obeying.{IsTold, GoWith, ObeyHeads, ObeyTags, TagsFollow, IsBare, IsTakenAsSum}
use Rattle.fvn_combine_complete.specs.Obeyed.{IsSummand, AreMadeOf}
use Rattle.fvn_combine_complete.proofs.Aliases.{laid_out_are}
use Rattle.fvn_combine_complete.proofs.Asked.{uses_told}
use Rattle.fvn_combine_complete.proofs.Meeting.{component_at, not_unused}
use Rattle.fvn_combine_complete.specs.Neutral.{IsNeutral}
use Rattle.fvn_combine_complete.specs.Vanishing.{MayVanish}
use Rattle.fvn_combine_complete.proofs.Marked.{number_by, marked, number_small, chosen_marked, AreMarks, marks_long, as_many_marked, laid_for_is, MarkedAt, marked_at, passing_marked, sums_grow, sums_stay, passes_without}
use Rattle.fvn_combine_complete.proofs.Taken.{contains_counted, laid_counts, sum_by_alike}
use Rattle.fvn_combine_complete.proofs.Touching.{touched_none, bare_is}
use Rattle.fvn_combine_complete.proofs.TwoSummands.{shared_two}
use Rattle.fvn_combine_complete.proofs.VanishingTold.{neutral_vanishes}
use Rattle.fvn_combine_complete.proofs.Values.{bound_used, may_be, constant_not_noted, constants_differ, alike_live, single_constant}

-- some component of a vector that is not zero
some_component : (v : List ℕ) → 0 < sum_by (λ a. a) v → (j : ℕ) × (j < length v) × (0 < get_or v j 0)
some_component [] h = absurd (omega (arith, h))
some_component (zero ∷ v) h = let r = some_component v (let e = sum_by-cons (λ a. a) 0 v in omega (arith, h, e)) in (suc r.0, (let l = r.1 in omega (arith, l)), r.2)
some_component (suc n ∷ v) h = (0, omega arith, omega arith)

-- what is added up of sums is the sum of what is added up
counts_add : (g a b : List ℕ → ℕ) (vs : List (List ℕ)) → ((v : List ℕ) → Contains vs v → g v ≡ a v + b v) → sum_by g vs ≡ sum_by a vs + sum_by b vs
counts_add g a b [] h = omega arith
counts_add g a b (v ∷ vs) h =
    let first = h v (contains_here v vs) in
    let rest = counts_add g a b vs (λ w m. h w (contains_later v vs w m)) in
    let n = sum_by-cons g v vs in
    let p = sum_by-cons a v vs in
    let q = sum_by-cons b v vs in
    omega (arith, first, rest, n, p, q)

module _ (d : Declarations) (t : NodeTable) (made : IsWellMade t) (has : HasSums d t) (s : State) {heads : List (Option OpId)} (leaf : IsLeaf d t heads s) (told : IsTold d t (class_of s)) (values : ℕ → FlatTerm) (go_with : GoWith d t s values) (obey_heads : ObeyHeads d t s heads values) (y : Systems) (systems : AreSystems d t (class_of s) y) (alive : ListsAlive d t s y) (c : Choice) (obey : ObeyTags d t (class_of s) c.tag values) (follow : TagsFollow d t (class_of s) c.tag values heads)
    (f : OpId) (sum : IsSumOperator d t f) (constants : List ℕ) (may_be_zero : List Bool) (are_asked : AreAsked d t (class_of s) c.tag f (y.columns f) constants may_be_zero) (ch : IsChosen d f values (y.columns f) (y.system f) (y.basis f) constants may_be_zero) (also : List ℕ → Bool) (marks : List Bool) (are : AreMarks also marks ch.pieces (y.basis f)) (number : c.number f ≡ number_by marks)
    (vanishes : (v : List ℕ) → also v ≡ true → MayVanish d t (class_of s) f (y.columns f) v) (bare : (v : List ℕ) → also v ≡ true → touched constants v ≡ 0) (passes : (v : List ℕ) → MayVanish d t (class_of s) f (y.columns f) v → touched constants v ≡ 0 → also v ≡ true) (law : MadeUpByTaken) where
  abbrev class : ℕ → ℕ
  class = class_of s

  is_node_system : IsNodeSystem t class f (y.columns f) (y.system f)
  is_node_system = systems.is_system f sum

  minimal_in : (v : List ℕ) → Contains (y.basis f) v → IsMinimal (y.system f).columns (rows_of (y.system f)) v
  minimal_in = systems.minimal f sum

  sized : All (λ v. length v ≡ (y.system f).columns) (y.basis f)
  sized i v l = (minimal_in (get_or (y.basis f) i v) (Contains-get_or (y.basis f) i v l)).solves.sized

  taken_is : taken y c f ≡ marked marks (y.basis f)
  taken_is = ap (λ n. chosen n (y.basis f)) number ∙ chosen_marked marks (y.basis f) (marks_long also marks ch.pieces (y.basis f) are)

  as_many : length (marked marks ch.pieces) ≡ length (taken y c f)
  as_many = as_many_marked also marks ch.pieces (y.basis f) are ∙ ap length (sym taken_is)

  -- the column of a class
  record IsAt (k : ℕ) : Type 0 where
    column : ℕ
    within : column < length (y.columns f)
    of : get_or (y.columns f) column 0 ≡ k
    component_is : (v : List ℕ) → component (y.columns f) v k ≡ get_or v column 0

  at : (k : ℕ) → Uses d t class f k → IsAt k
  at k u =
      let m = (is_node_system.exact k).1 u.column in
      let of : get_or (y.columns f) m.0 0 ≡ k = get_or_default (y.columns f) m.0 0 k m.1 ∙ m.2 in
      record { column = m.0; within = m.1; of = of; component_is = λ v. ap (component (y.columns f) v) (sym of) ∙ component_at (y.columns f) v is_node_system.distinct m.0 m.1 }

  used_column : (k : ℕ) (u : Uses d t class f k) → IsUnused (rows_of (y.system f)) (at k u).column → ⊥
  used_column k u =
      let a = at k u in
      not_unused d t class f (y.columns f) (y.system f) is_node_system a.column a.within (subst (Uses d t class f) (sym a.of) u)

  -- the summands of a used class's value
  made_for : (k : ℕ) → Uses d t class f k → SameCounts (parts d f (values k)) (laid_for (y.columns f) k (taken y c f) (marked marks ch.pieces))
  made_for k u q =
      let a = at k u in
      ap (λ n. count q (parts d f (values n))) (sym a.of)
      ∙ laid_out_are d f values (y.columns f) (y.system f) (y.basis f) minimal_in constants may_be_zero ch a.column a.within (used_column k u) q
      ∙ ap (count q) (laid_for_is also (y.columns f) a.column k a.component_is marks ch.pieces (y.basis f) are)
      ∙ ap (λ vs. count q (laid_for (y.columns f) k vs (marked marks ch.pieces))) (sym taken_is)

  from : (i : ℕ) → i < length (taken y c f) → MarkedAt also ch.pieces (y.basis f) (marked marks (y.basis f)) (marked marks ch.pieces) i
  from i l = marked_at also marks ch.pieces (y.basis f) are i (let e = ap length taken_is in omega (arith, l, e))

  solution_from : (i : ℕ) (l : i < length (taken y c f)) → get_or (taken y c f) i [] ≡ get_or (y.basis f) (from i l).place []
  solution_from i l = ap (λ vs. get_or vs i []) taken_is ∙ (from i l).solution

  -- a solution with a constant has pieces
  has_pieces : (i k : ℕ) (l : i < length (taken y c f)) → IsConstant d t class c.tag f k → 0 < component (y.columns f) (get_or (taken y c f) i []) k → has_some (get_or ch.pieces (from i l).place []) ≡ true
  has_pieces i k l h p =
      let r = from i l in
      let v = get_or (y.basis f) r.place [] in
      let a = at k h.used in
      let e = ap (λ v. component (y.columns f) v k) (solution_from i l) ∙ a.component_is v in
      elim (or_cases (has_some (get_or ch.pieces r.place [])) (also v) r.why) [
        | inl some ↦ some
        | inr passes ↦ absurd (
            let z = touched_none constants v (bare v passes) a.column ((are_asked.are_constant a.column).1 (a.within, subst (IsConstant d t class c.tag f) (sym a.of) h)) in
            omega (arith, e, p, z))
      ]

  -- a solution with a constant has its value as its one piece
  alone_piece : (i k : ℕ) → i < length (taken y c f) → IsConstant d t class c.tag f k → 0 < component (y.columns f) (get_or (taken y c f) i []) k → get_or (marked marks ch.pieces) i [] ≡ values k ∷ []
  alone_piece i k l h p =
      let r = from i l in
      let a = at k h.used in
      let e = ap (λ v. component (y.columns f) v k) (solution_from i l) ∙ a.component_is (get_or (y.basis f) r.place []) in
      r.piece
      ∙ ch.stand.piece r.place a.column r.within ((are_asked.are_constant a.column).1 (a.within, subst (IsConstant d t class c.tag f) (sym a.of) h)) (has_pieces i k l h p) (omega (arith, e, p))
      ∙ ap (λ n. values n ∷ []) a.of

  -- the pieces are summands of values
  module _ (i : ℕ) (l : i < length (taken y c f)) (q : FlatTerm) (among : Contains (get_or (marked marks ch.pieces) i []) q) where
    abbrev v : List ℕ
    v = get_or (y.basis f) (from i l).place []

    minimal : IsMinimal (y.system f).columns (rows_of (y.system f)) v
    minimal = minimal_in v (Contains-get_or (y.basis f) (from i l).place [] (from i l).within)

    summand_at : (j : ℕ) → j < length v → 0 < get_or v j 0 → IsSummand d t class values f q
    summand_at j m p =
        let within : j < length (y.columns f) = let e = minimal.solves.sized in let w = is_node_system.wide in omega (arith, m, e, w) in
        let k = get_or (y.columns f) j 0 in
        elim (uses_told d t class f sum.associative k ((is_node_system.exact k).0 (Contains-get_or (y.columns f) j 0 within))) [
          | inl u ↦
              let of = component_at (y.columns f) v is_node_system.distinct j within in
              let e = ap (λ w. component (y.columns f) w k) (solution_from i l) in
              let counted = laid_counts (y.columns f) k q (taken y c f) (marked marks ch.pieces) i l (omega (arith, e, of, p)) among in
              let same = made_for k u q in
              record { k = k; used = u; among = contains_counted q (parts d f (values k)) (omega (arith, counted, same)) }
          | inr n ↦ absurd (let e = minimal.solves.unused j (unused j within n) in omega (arith, e, p))
        ]
      where
        unused : (j : ℕ) → j < length (y.columns f) → (Uses d t class f (get_or (y.columns f) j 0) → ⊥) → IsUnused (rows_of (y.system f)) j
        unused j within n =
            subst (λ rows. All (λ row. get_or row j (pos 0) ≡ pos 0) rows) (sym is_node_system.rows)
            (All-map (λ row. get_or row j (pos 0) ≡ pos 0) (row_at t class f (y.columns f)) (sums t f) (λ x r m. zero_in (get_or (sums t f) x r) (Contains-get_or (sums t f) x r m)))
          where
            zero_in : (r : ℕ) → Contains (sums t f) r → get_or (row_at t class f (y.columns f) r) j (pos 0) ≡ pos 0
            zero_in r listed =
                let k = get_or (y.columns f) j 0 in
                let e = get_or-map (coefficient class r (addends f (slice_get t.nodes r))) (y.columns f) j 0 (pos 0) within in
                elim (zero_told (coefficient class r (addends f (slice_get t.nodes r)) k)) [
                  | inl z ↦ e ∙ z
                  | inr z ↦ absurd (n (record { associative = sum.associative; column = (is_node_system.exact k).0 (Contains-get_or (y.columns f) j 0 within); row = r; listed = listed; other = z }))
                ]

    summand : IsSummand d t class values f q
    summand = let r = some_component v minimal.nonzero in summand_at r.0 r.1 r.2

  pub made_of : AreMadeOf d t class y c values f (marked marks ch.pieces)
  made_of = record {
    as_many = as_many;
    some = λ i l e.
        let r = from i l in
        let v = get_or (y.basis f) r.place [] in
        subst (MayVanish d t class f (y.columns f)) (sym (solution_from i l)) (vanishes v (passes_without also ch.pieces (y.basis f) (marked marks (y.basis f)) (marked marks ch.pieces) i r e));
    summands = λ z q m n. (let l : m.0 < length (taken y c f) = (let e = as_many in let w = m.1 in omega (arith, e, w)) in
        summand m.0 l q (subst (λ z. Contains z q) (sym (get_or_default (marked marks ch.pieces) m.0 [] z m.1 ∙ m.2)) n));
    made = made_for;
    alone = alone_piece;
  }

  counted : (k : ℕ) (u : Uses d t class f k) → member_count y c f k ≡ column_sum (at k u).column (marked marks (y.basis f))
  counted k u =
      sum_by_alike (λ v. component (y.columns f) v k) (λ v. get_or v (at k u).column 0) (at k u).component_is (taken y c f)
      ∙ ap (column_sum (at k u).column) taken_is

  -- a column has no more with those that have pieces alone
  pieces_sum : (j : ℕ) → column_sum j (chosen (number_of ch.pieces) (y.basis f)) ≡ column_sum j (with_pieces ch.pieces (y.basis f))
  pieces_sum j = ap (column_sum j) (law (y.system f).columns (y.basis f) sized ch.counted ch.pieces ch.made_up).0

  constant_counted : (k : ℕ) → IsConstant d t class c.tag f k → member_count y c f k ≡ 1
  constant_counted k h =
      let a = at k h.used in
      let listed = (are_asked.are_constant a.column).1 (a.within, subst (IsConstant d t class c.tag f) (sym a.of) h) in
      counted k h.used
      ∙ sums_stay also a.column (λ v passes. touched_none constants v (bare v passes) a.column listed) marks ch.pieces (y.basis f) are
      ∙ sym (pieces_sum a.column)
      ∙ All-contains (λ j. column_sum j (chosen (number_of ch.pieces) (y.basis f)) ≡ 1) constants a.column ch.valid.once listed

  -- a minimal solution without a constant is taken
  bare_counted : IsNeutral d f → (z : ℕ) → IsBare d t class c.tag values f z → 1 ≤ member_count y c f z
  bare_counted neutral z one =
      let w = carry one.columns (y.columns f) one.solution in
      let kept = carried t class f one.columns (y.columns f) one.system (y.system f) one.is is_node_system one.solution in
      let minimal = minimal_carried t class f one.columns (y.columns f) one.system (y.system f) one.is is_node_system one.solution one.minimal in
      let none = (bare_is d t class c.tag f (y.columns f) is_node_system.distinct (λ j m. (is_node_system.exact j).1 m.used.column) constants may_be_zero are_asked w).1 (λ j m. kept j ∙ one.free j m) in
      let still : IsAlive d t s f (y.columns f) w = (λ j l n here there left right apart. let z = kept j ∙ one.free j (single_constant d t made has s leaf told values go_with c.tag obey f j here) in omega (arith, z, left)) in
      let among : Contains (taken y c f) w = subst (λ vs. Contains vs w) (sym taken_is) (passing_marked also marks ch.pieces (y.basis f) are w (alive f sum w minimal still) (passes w (neutral_vanishes d t class f neutral (y.columns f) w) none)) in
      let much = one_of_sum (λ v. component (y.columns f) v z) (taken y c f) w among in
      let has = one.has in
      let same = kept z in
      omega (arith, much, has, same)

  added_counted : IsNeutral d f → (z : ℕ) → IsConstant d t class c.tag f z ⊎ IsBare d t class c.tag values f z → 1 ≤ member_count y c f z
  added_counted neutral z (inl h) = let n = constant_counted z h in omega (arith, n)
  added_counted neutral z (inr one) = bare_counted neutral z one

  -- a solution has the class of a sum as often as the classes of the two that it adds
  adds_up : (i a b : ℕ) → IsOver t.nodes i f (a ∷ b ∷ []) → (v : List ℕ) → Contains (taken y c f) v → component (y.columns f) v (class i) ≡ component (y.columns f) v (class a) + component (y.columns f) v (class b)
  adds_up i a b over v among =
      let minimal = minimal_in v (chosen_listed (c.number f) (y.basis f) v among) in
      let row = row_at t class f (y.columns f) in
      let listed = listed_sum t f i (a ∷ b ∷ []) (has.pairs i f (a ∷ b ∷ []) over sum.associative).1 over in
      let zero_rows = subst (All (IsZeroAt v)) is_node_system.rows minimal.solves.zero_rows in
      let at_row = All-contains (IsZeroAt v) (map row (sums t f)) (row i) zero_rows (contains_map row (sums t f) i listed) in
      let two : addends f (slice_get t.nodes i) ≡ Some (a, b) = ap (addends f) over ∙ over_addends f a b in
      sym ((zero_row (y.columns f) v is_node_system.distinct (class a) (class b) (class i)).0 (subst (λ o. IsZeroAt v (map (coefficient class i o) (y.columns f))) two at_row))

  -- a class that is taken as a sum has two members, those of the two that are added
  added_two : (k : ℕ) → IsTakenAsSum d t class c.tag values f k → 2 ≤ member_count y c f k
  added_two k as_sum =
      let count = λ (n : ℕ) (v : List ℕ). component (y.columns f) v (class n) in
      let both = counts_add (count as_sum.member) (count as_sum.left) (count as_sum.right) (taken y c f) (adds_up as_sum.member as_sum.left as_sum.right as_sum.over) in
      let of = ap (member_count y c f) as_sum.of in
      let one = added_counted as_sum.neutral (class as_sum.left) as_sum.left_taken in
      let other = added_counted as_sum.neutral (class as_sum.right) as_sum.right_taken in
      omega (arith, both, of, one, other)

  -- a shared class is no sum of a constant alone
  not_alone : NoAliases → (k l : ℕ) → IsShared d t class k → IsBound d t class c.tag f k → IsConstant d t class c.tag f l → AreTakenTogether d t class y c f k l → 2 ≤ member_count y c f k
  not_alone law k l shared b h together =
      let m = together.among in
      let r = from m.0 m.1 in
      let v_is : get_or (y.basis f) r.place [] ≡ together.solution = sym (solution_from m.0 m.1) ∙ get_or_default (taken y c f) m.0 [] together.solution m.1 ∙ m.2 in
      let u = bound_used d t made has s leaf told values go_with c.tag obey f k b in
      let a = at k u in
      let e = at l h.used in
      let place_right = ap (λ v. component (y.columns f) v l) (get_or_default (taken y c f) m.0 [] together.solution m.1 ∙ m.2) in
      let left = ap (λ v. get_or v a.column 0) v_is ∙ sym (a.component_is together.solution) in
      let right = ap (λ v. get_or v e.column 0) v_is ∙ sym (e.component_is together.solution) in
      let p = together.left in
      let q = together.right in
      let place_left = ap (λ v. component (y.columns f) v k) (get_or_default (taken y c f) m.0 [] together.solution m.1 ∙ m.2) in
      let piece = alone_piece m.0 l m.1 h (omega (arith, place_right, q)) in
      let laid = laid_counts (y.columns f) k (values l) (taken y c f) (marked marks ch.pieces) m.0 m.1 (omega (arith, place_left, p)) (subst (λ z. Contains z (values l)) (sym piece) (contains_here (values l) [])) in
      let same = made_for k u (values l) in
      let some = (contains_counted (values l) (parts d f (values k)) (omega (arith, laid, same))).1 in
      elim (shared_two d t made has s leaf told values go_with c.tag obey f k shared b (omega (arith, some))) [
        | inl two ↦ (
            let same_length = ap (λ n. length (parts d f (values n))) a.of in
            let count = law d f values (y.columns f) (y.system f) (y.basis f) minimal_in constants may_be_zero ch r.place a.column e.column r.within (has_pieces m.0 l m.1 h (omega (arith, place_right, q))) a.within (used_column k u)
            ((are_asked.are_constant e.column).1 (e.within, subst (IsConstant d t class c.tag f) (sym e.of) h)) (omega (arith, two, same_length)) (omega (arith, left, p)) (omega (arith, right, q)) in
            let sums = counted k u in
            let few = pieces_sum a.column in
            let grow = sums_grow also a.column marks ch.pieces (y.basis f) are in
            omega (arith, count, sums, few, grow))
        | inr as_sum ↦ added_two k as_sum
      ]

  -- constants of one solution that is taken have one value
  alike_taken : (m : ℕ) (v : List ℕ) → m < length (taken y c f) → get_or (taken y c f) m [] ≡ v → (k l : ℕ) → IsConstant d t class c.tag f k → IsConstant d t class c.tag f l → 0 < component (y.columns f) v k → 0 < component (y.columns f) v l → values k ≡ values l
  alike_taken m v within is k l hk hl p q =
      let left = ap (λ v. component (y.columns f) v k) is in
      let right = ap (λ v. component (y.columns f) v l) is in
      let one = alone_piece m k within hk (omega (arith, left, p)) in
      let other = alone_piece m l within hl (omega (arith, right, q)) in
      let lists : values k ∷ [] ≡ values l ∷ [] = sym one ∙ other in
      cc

  -- so that they are one
  constants_apart : (k l : ℕ) → IsConstant d t class c.tag f k → IsConstant d t class c.tag f l → AreTakenTogether d t class y c f k l → k ≡ l
  constants_apart k l hk hl together = elim (cases_eq k l) [
    | inl e ↦ e
    | inr n ↦
        let m = together.among in
        let is : get_or (taken y c f) m.0 [] ≡ together.solution = get_or_default (taken y c f) m.0 [] together.solution m.1 ∙ m.2 in
        let alike = alike_taken m.0 together.solution m.1 is in
        let once : (j : ℕ) → IsConstant d t class c.tag f j → component (y.columns f) together.solution j ≤ 1 = (λ j h. let much = one_of_sum (λ v. component (y.columns f) v j) (taken y c f) together.solution together.among in let n = constant_counted j h in omega (arith, much, n)) in
        let r = from m.0 m.1 in
        let v_is : get_or (y.basis f) r.place [] ≡ together.solution = sym (solution_from m.0 m.1) ∙ is in
        let minimal = minimal_in together.solution (subst (Contains (y.basis f)) v_is (Contains-get_or (y.basis f) r.place [] r.within)) in
        absurd (constants_differ d t made has s leaf told values go_with c.tag obey f k l hk hl n
        (leaf.constants f k l (may_be d t class told c.tag f k hk) (may_be d t class told c.tag f l hl)
        (constant_not_noted d t made has s leaf told values go_with c.tag obey obey_heads follow f k hk) (constant_not_noted d t made has s leaf told values go_with c.tag obey obey_heads follow f l hl)
        (record { columns = y.columns f; system = y.system f; is = is_node_system; solution = together.solution; minimal = minimal; left = together.left; right = together.right })
        (alike_live d t made has s leaf told values go_with c.tag obey follow f (y.columns f) together.solution once alike))
        (alike k l hk hl together.left together.right))
  ]

  pub acceptable : NoAliases → IsAcceptable d t class y c f
  acceptable aliases = record {
    within = let w = number_small marks in let n = ap (λ n. 2 ^ n) (marks_long also marks ch.pieces (y.basis f) are) in omega (arith, w, n, number);
    once = constant_counted;
    apart = constants_apart;
    filled = λ k h.
        let u = bound_used d t made has s leaf told values go_with c.tag obey f k h.bound in
        let a = at k u in
        let p = ch.valid.filled a.column ((are_asked.required a.column).1 (a.within, subst (IsRequired d t class c.tag f) (sym a.of) h)) in
        let e = counted k u in
        let few = pieces_sum a.column in
        let grow = sums_grow also a.column marks ch.pieces (y.basis f) are in
        omega (arith, p, e, few, grow);
    no_alias = not_alone aliases;
  }
