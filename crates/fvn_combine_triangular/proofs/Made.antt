-- Lists of names, binders and shares at a leaf, and what stands at the place of an operator.
use Rattle.std.proofs.Common.{◌≡◌, ◌≢◌, ℕ, suc, ◌+◌, ◌<◌, ◌≤◌, true, List, [], ◌∷◌, length, map, slice_index, slice_index_or, refl, sym, ap, ◌∙◌, subst, inl, inr, arith, All, AllPairs, Contains, Option, Some, None}
use Rattle.std.specs.Prelude.{slice_get, if◌then◌else◌}
use Rattle.std.proofs.lemmas.Bool.{cases_Bool}
use Rattle.std.proofs.lemmas.List.{get_or-map, length-map, get_or_default}
use Rattle.std.proofs.lemmas.List.Elements.{All-contains}
use Rattle.std.proofs.lemmas.Option.{slice_get_within, slice_get-get_or, get_or_from_slice_get}
use Rattle.fvn_acunify.specs.declared.limits.TheConstants.{LISTED_SOLUTIONS}
use Rattle.fvn_base.proofs.Membership.{contains_none, contains_map, map_contains, filter_contains}
use Rattle.fvn_terms.specs.declared.plain.Var.{Var as Variable}
use Rattle.fvn_terms.specs.declared.plain.OpId.{OpId}
use Rattle.fvn_terms.specs.declared.declarations.Rank.{Rank}
use Rattle.fvn_terms.specs.declared.declarations.Declarations.{Declarations}
use Rattle.fvn_terms.specs.Signature.{declared, HasKind, IsTerm}
use Rattle.fvn_forms.specs.Good.{IsGood}
use Rattle.fvn_forms.specs.Canon.{same_op}
use Rattle.fvn_forms.proofs.Sums.{same_op_is}
use Rattle.fvn_lindio.specs.declared.system.Solution.{Solution}
use Rattle.fvn_lindio.specs.Systems.{vectors_of}
use Rattle.fvn_acunify.specs.ValidChoice.{chosen}
use Rattle.fvn_flat.specs.Solving.{problem_of}
use Rattle.fvn_flat.specs.SolvedLists.{Part}
use Rattle.fvn_flat.specs.declared.solver.Pairs.{Pairs}
use Rattle.fvn_combine_nodes.specs.Table.{NodeTable, IsWellMade, term_at}
use Rattle.fvn_combine_nodes.specs.Laws.{ArePartitionsOf}
use Rattle.fvn_combine_nodes.specs.States.{class_of}
use Rattle.fvn_combine_nodes.specs.declared.state.State.{State}
use Rattle.fvn_combine_nodes.specs.declared.table.Node.{Node}
use Rattle.fvn_combine_nodes.specs.declared.table.Node.TheVariants.{Var, App}
use Rattle.fvn_combine_nodes.proofs.Nodes.{term_at-over}
use Rattle.fvn_combine_systems.specs.NodeSystems.{is_headed}
use Rattle.fvn_combine_leaves.specs.Leaves.{IsSumOperator}
use Rattle.fvn_combine_leaves.specs.Readings.{AreSums, IsReading}
use Rattle.fvn_combine_leaves.specs.declared.reading.Sums.{Sums}
use Rattle.fvn_combine_leaves.specs.declared.reading.Reading.{Reading}
use Rattle.fvn_combine_choices.specs.Choosing.{taken, AreSystems, IsPossible}
use Rattle.fvn_combine_choices.specs.Tables.{HasSums}
use Rattle.fvn_combine_nodes.proofs.Subterms.{node_kinded}
use Rattle.fvn_combine_nodes.proofs.Lists.{all_from}
use Rattle.fvn_combine_choices.proofs.Kinded.{tables_have_sums}
use Rattle.fvn_combine_admissible.specs.Listed.{tag_in, at_operator, systems_of, choice_of}
use Rattle.fvn_combine_admissible.proofs.Listing.{at_place}
use Rattle.fvn_combine_triangular.specs.declared.binders.Binder.{Binder}
use Rattle.fvn_combine_triangular.specs.declared.shares.Share.{Share}
use Rattle.fvn_combine_triangular.specs.Ready.{IsReady, AreListed}
use Rattle.fvn_combine_triangular.specs.inner.Planning.{part_of, AreNames, AreBinders, AreAllShares, AreKinded, AreApart, AreSized}
use Rattle.fvn_combine_triangular.proofs.Classes.{class_within, names_kinded, names_apart}

-- what is listed at an operator's place is listed at the place of one of the operators
at_some : {A : Type 0} (sums : List Sums) (xs : List (List A)) (f : OpId) (x : A) → Contains (at_operator [] sums xs f) x → (i : ℕ) × (s : Sums) × (slice_get sums i ≡ Some s) × (s.operator ≡ f)
at_some [] xs f x m = absurd (contains_none x m)
at_some (s ∷ sums) [] f x m = absurd (contains_none x m)
at_some (s ∷ sums) (l ∷ xs) f x m = elim (cases_Bool (same_op s.operator f)) [
  | inl same ↦ (0, s, refl, same_op_is s.operator f same)
  | inr other ↦
      let r = at_some sums xs f x (subst (λ b. Contains (if b then l else at_operator [] sums xs f) x) other m) in
      (suc r.0, r.1, r.2, r.3)
]

-- the number of the first variable that stands for a solution
abbrev pub start_of : NodeTable → ℕ → ℕ
start_of t first = first + length t.nodes

-- a leaf that was read, with a possible choice
pub record IsLeafWithChoice (d : Declarations) (given : Pairs) (first : ℕ) (t : NodeTable) (s : State) (r : Reading) (bases : List (List Solution)) (tags : List (Option OpId)) (numbers : List ℕ) : Type 0 where
  pub good : IsGood d
  pub made : IsWellMade t
  pub ready : IsReady d given first t s
  pub reading : IsReading d t (class_of s) r
  pub listed : AreListed t r bases numbers
  pub systems : AreSystems d t (class_of s) (systems_of r bases)
  pub possible : IsPossible d t (class_of s) (systems_of r bases) (choice_of r tags numbers)
  pub partitions : ArePartitionsOf d (problem_of given) t

-- its names, binders and shares
pub record IsMade (d : Declarations) (given : Pairs) (first : ℕ) (t : NodeTable) (s : State) (r : Reading) (bases : List (List Solution)) (tags : List (Option OpId)) (numbers : List ℕ) (names : List Variable) (binders : List Binder) (all : List (List Share)) : Type 0 where
  pub leaf : IsLeafWithChoice d given first t s r bases tags numbers
  pub names_are : AreNames d t first names
  pub binders_are : AreBinders d t (class_of s) (tag_in tags) r.sums binders
  pub shares_are : AreAllShares d t (class_of s) (tag_in tags) r.sums bases numbers names (start_of t first) all

module _ {d : Declarations} {given : Pairs} {first : ℕ} {t : NodeTable} {s : State} {r : Reading} {bases : List (List Solution)} {tags : List (Option OpId)} {numbers : List ℕ} (c : IsLeafWithChoice d given first t s r bases tags numbers) where
  pub has_sums : HasSums d t
  has_sums = tables_have_sums d c.good.fits (problem_of given) c.ready.is_given.kinds t c.made c.ready.table

  pub node_terms : (i : ℕ) → i < length t.nodes → IsTerm d (term_at t.nodes i)
  node_terms = node_kinded d c.good.fits (problem_of given) c.ready.is_given.kinds t c.ready.table

  pub are_kinded : {names : List Variable} → AreNames d t first names → AreKinded d t (class_of s) names
  are_kinded names = names_kinded c.made c.ready.closed c.good node_terms c.ready.kinds names

  pub are_apart : {names : List Variable} → AreNames d t first names → AreApart names
  are_apart names = names_apart c.made c.ready.closed c.good node_terms c.ready.kinds names

  -- the place of a sum operator
  pub record Place (f : OpId) : Type 0 where
    pub number : ℕ
    pub entry : Sums
    pub at : slice_get r.sums number ≡ Some entry
    pub is : entry.operator ≡ f

  pub place_of : (f : OpId) → IsSumOperator d t f → Place f
  place_of f sum =
      let m = map_contains (λ (s : Sums). s.operator) r.sums f ((c.reading.operators.exact f).1 sum) in
      let k = m.1.0 in
      record { number = k.0; entry = m.0; at = slice_get-get_or r.sums k.0 m.0 k.1 ∙ ap Some k.2; is = m.1.1 }

  -- a declaration of a sum operator
  pub operator_rank : (f : OpId) → IsSumOperator d t f → (q : Rank) × Contains (declared d f).ranks q
  operator_rank f sum =
      let m = (filter_contains (λ i. is_headed f (slice_get t.nodes i)) t.subterms sum.sum sum.listed).1 in
      over (slice_get t.nodes sum.sum) refl m
    where
      over : (n : Option Node) → slice_get t.nodes sum.sum ≡ n → is_headed f n ≡ true → (q : Rank) × Contains (declared d f).ranks q
      over None is e = cc
      over (Some (Var x)) is e = cc
      over (Some (App g ks)) is e =
          let within = slice_get_within t.nodes sum.sum (App g ks) is in
          let whole = node_terms sum.sum within in
          let fit = subst (λ u. HasKind d u whole.0) (term_at-over t.nodes c.made.ordered sum.sum g ks is) whole.1 in
          (fit.rank, subst (λ o. Contains (declared d o).ranks fit.rank) (sym (same_op_is f g e)) fit.listed)

  pub operators_distinct : AllPairs ◌≢◌ (map (λ s. s.operator) r.sums)
  operators_distinct = c.reading.operators.distinct

  module _ (i : ℕ) (e : Sums) (at : slice_get r.sums i ≡ Some e) where
    pub entry_within : i < length r.sums
    entry_within = slice_get_within r.sums i e at

    pub entry_listed : Contains r.sums e
    entry_listed = (i, slice_get_within r.sums i e at, get_or_from_slice_get r.sums i e e at)

    pub entry_sums : AreSums d t (class_of s) e
    entry_sums = All-contains (AreSums d t (class_of s)) r.sums e c.reading.sums (i, slice_get_within r.sums i e at, get_or_from_slice_get r.sums i e e at)

    pub entry_operator : IsSumOperator d t e.operator
    entry_operator = (c.reading.operators.exact e.operator).0 (contains_map (λ (s : Sums). s.operator) r.sums e (i, slice_get_within r.sums i e at, get_or_from_slice_get r.sums i e e at))

    -- the columns, minimal solutions and number of the operator at this place
    pub columns_at : (systems_of r bases).columns e.operator ≡ e.columns
    columns_at =
        let l = slice_get_within r.sums i e at in
        at_place [] r.sums (map (λ s. s.columns) r.sums) c.reading.operators.distinct i e at (length-map r.sums (λ (s : Sums). s.columns))
        ∙ get_or-map (λ (s : Sums). s.columns) r.sums i e [] l
        ∙ ap (λ (s : Sums). s.columns) (get_or_from_slice_get r.sums i e e at)

    pub basis_at : (systems_of r bases).basis e.operator ≡ vectors_of (slice_index_or bases i [])
    basis_at =
        let n = c.listed.basis_each in
        let l = slice_get_within r.sums i e at in
        let within : i < length bases = omega (arith, n, l) in
        at_place [] r.sums (map vectors_of bases) c.reading.operators.distinct i e at (length-map bases vectors_of ∙ n)
        ∙ get_or-map vectors_of bases i [] [] within

    pub number_at : (choice_of r tags numbers).number e.operator ≡ slice_index numbers i
    number_at = at_place 0 r.sums numbers c.reading.operators.distinct i e at c.listed.number_each

    pub taken_at : taken (systems_of r bases) (choice_of r tags numbers) e.operator ≡ chosen (slice_index numbers i) (vectors_of (slice_index_or bases i []))
    taken_at = ap (λ b. chosen ((choice_of r tags numbers).number e.operator) b) basis_at ∙ ap (λ n. chosen n (vectors_of (slice_index_or bases i []))) number_at

    -- few minimal solutions
    pub few_at : length (vectors_of (slice_index_or bases i [])) ≤ LISTED_SOLUTIONS
    few_at =
        let n = c.listed.basis_each in
        let l = slice_get_within r.sums i e at in
        let few = c.listed.few i [] (omega (arith, n, l)) in
        let m = length-map (slice_index_or bases i []) (λ (v : Solution). v.parts) in
        omega (arith, few, m)

    -- what is listed for each operator
    pub parts_at : (all : List (List Share)) → length all ≡ length r.sums → at_operator [] r.sums (map (map part_of) all) e.operator ≡ map part_of (slice_index_or all i [])
    parts_at all n =
        let l = slice_get_within r.sums i e at in
        at_place [] r.sums (map (map part_of) all) c.reading.operators.distinct i e at (length-map all (map part_of) ∙ n)
        ∙ get_or-map (map part_of) all i [] [] (omega (arith, n, l))

  -- the minimal solutions have as many components as there are columns
  pub are_sized : AreSized r bases numbers
  are_sized = record {
    basis_each = c.listed.basis_each;
    number_each = c.listed.number_each;
    few = λ i l. let n = c.listed.basis_each in c.listed.few i [] (omega (arith, n, l));
    sized = λ i e at. subst (All (λ v. length v ≡ length e.columns)) (basis_at i e at) (
        all_from (λ v. length v ≡ length e.columns) ((systems_of r bases).basis e.operator) (λ v m.
        let sum = entry_operator i e at in
        (c.systems.minimal e.operator sum v m).solves.sized ∙ (c.systems.is_system e.operator sum).wide ∙ ap length (columns_at i e at)));
  }

  -- a name of a class is a node
  pub classes_within : (names : List Variable) → length names ≡ length t.nodes → All (λ k. k < length names) s.names
  classes_within names n j o l =
      let w = c.ready.closed.whole in
      let k = class_within c.made c.ready.closed j (omega (arith, l, w)) in
      let e = get_or_default s.names j o 0 l in
      omega (arith, k, n, e)

  -- the operator that has a part
  pub part_operator : (all : List (List Share)) (f : OpId) (q : Part) → Contains (at_operator [] r.sums (map (map part_of) all) f) q → Place f
  part_operator all f q m = let p = at_some r.sums (map (map part_of) all) f q m in record { number = p.0; entry = p.1; at = p.2; is = p.3 }
