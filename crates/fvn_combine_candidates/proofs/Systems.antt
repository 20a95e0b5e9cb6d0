-- Minimal solutions of sum operators, as systems.
use Rattle.std.proofs.Common.{◌≡◌, ◌≢◌, ℕ, ◌<◌, ◌≤◌, List, [], length, get_or, slice_index_or, map, sym, ap, ◌∙◌, subst, arith, All, Contains, Some}
use Rattle.std.specs.Prelude.{◌↔◌, AllPairs, slice_get}
use Rattle.std.proofs.lemmas.List.{get_or-map, length-map, get_or_default}
use Rattle.std.proofs.lemmas.List.Elements.{All-contains, All-weaker, All-contains_itself}
use Rattle.std.proofs.lemmas.Option.{slice_get_within, get_or_from_slice_get}
use Rattle.fvn_base.specs.Order.{IsBefore}
use Rattle.fvn_base.proofs.Order.{before_irrefl}
use Rattle.fvn_base.proofs.Membership.{map_contains, contains_map}
use Rattle.fvn_terms.specs.declared.plain.OpId.{OpId}
use Rattle.fvn_terms.specs.declared.declarations.Declarations.{Declarations}
use Rattle.fvn_lindio.specs.declared.system.System.{System}
use Rattle.fvn_lindio.specs.declared.system.Solution.{Solution}
use Rattle.fvn_lindio.specs.Systems.{IsMinimal, rows_of, vectors_of}
use Rattle.fvn_combine_nodes.specs.Table.{NodeTable}
use Rattle.fvn_combine_nodes.specs.declared.state.State.{State}
use Rattle.fvn_combine_systems.specs.NodeSystems.{IsNodeSystem}
use Rattle.fvn_combine_leaves.specs.Leaves.{IsSumOperator, Uses, IsAlive}
use Rattle.fvn_combine_leaves.specs.Readings.{AreSums, IsReading}
use Rattle.fvn_combine_leaves.specs.declared.reading.Sums.{Sums}
use Rattle.fvn_combine_leaves.specs.declared.reading.Reading.{Reading}
use Rattle.fvn_combine_choices.specs.Choosing.{AreSystems}
use Rattle.fvn_combine_admissible.specs.Listed.{at_operator, empty_system, systems_of}
use Rattle.fvn_combine_admissible.proofs.Listing.{at_place}
use Rattle.fvn_combine_complete.specs.Alive.{ListsAlive}
use Rattle.fvn_combine_leaves.specs.Bases.{IsBasis, AreBases, HaveAlive}
use Rattle.fvn_combine_candidates.proofs.Entries.{entry_at, read_at, listed_at, placed_at}

-- where an operator stands in a reading
pub record IsPlaced (r : Reading) (f : OpId) : Type 0 where
  pub place : ℕ
  pub entry : Sums
  pub is : slice_get r.sums place ≡ Some entry
  pub operator : entry.operator ≡ f

-- what lists in order stands before every later one, so that none comes twice
pub ordered_distinct : (vs : List (List ℕ)) → AllPairs IsBefore vs → AllPairs ◌≢◌ vs
ordered_distinct vs ordered i j d l m same = before_irrefl (get_or vs i d) (subst (IsBefore (get_or vs i d)) (sym same) (ordered i j d l m))

-- all vectors of a basis have a component for each column
pub basis_long : (s : System) (basis : List Solution) → IsBasis s basis → (n : ℕ) → s.columns ≡ n → All (λ v. length v ≡ n) (vectors_of basis)
basis_long s basis is n wide = All-weaker (Contains (vectors_of basis)) (λ v. length v ≡ n) (λ v m. (is.minimal v m).solves.sized ∙ wide) (vectors_of basis) (All-contains_itself (vectors_of basis))

-- the minimal solutions that are read at a place
pub basis_is : (bases : List (List Solution)) (i : ℕ) (basis b : List Solution) → i < length bases → b ≡ get_or bases i b → basis ≡ b → basis ≡ slice_index_or bases i []
basis_is bases i basis b l is same = same ∙ is ∙ get_or_default bases i b [] l

pub basis_at : (sums : List Sums) (bases : List (List Solution)) → AreBases sums bases → (i : ℕ) (e : Sums) (basis : List Solution) → i < length sums → e ≡ get_or sums i e → basis ≡ slice_index_or bases i [] → IsBasis e.system basis
basis_at sums bases are i e basis l is same = subst (IsBasis e.system) (sym same) (are.each i e (read_at sums i e l is))

module _ (d : Declarations) (t : NodeTable) (class : ℕ → ℕ) (r : Reading) (reading : IsReading d t class r) where
  pub placed : (f : OpId) → IsSumOperator d t f → IsPlaced r f
  placed f op =
      let m = map_contains (λ (e : Sums). e.operator) r.sums f ((reading.operators.exact f).1 op) in
      record { place = m.1.0.0; entry = m.0; is = placed_at r.sums m.0 m.1.0; operator = m.1.1 }

  -- what stands in a reading is a sum operator
  pub operator_at : (e : Sums) → Contains r.sums e → IsSumOperator d t e.operator
  operator_at e c = (reading.operators.exact e.operator).0 (contains_map (λ (e : Sums). e.operator) r.sums e c)

  pub sums_at : (i : ℕ) (e : Sums) → slice_get r.sums i ≡ Some e → AreSums d t class e
  sums_at i e is = All-contains (AreSums d t class) r.sums e reading.sums (listed_at r.sums i e is)

  -- an operator that uses a class stands in the reading
  pub user_placed : (f : OpId) (k : ℕ) → Uses d t class f k → IsPlaced r f
  user_placed f k u = placed f (record { associative = u.associative; sum = u.row; listed = u.listed })

  module _ (f : OpId) (p : IsPlaced r f) where
    within : p.place < length r.sums
    within = slice_get_within r.sums p.place p.entry p.is

    -- what is listed for the operator
    pub for_operator : {A : Type 0} (other : A) (xs : List A) → length xs ≡ length r.sums → at_operator other r.sums xs f ≡ slice_index_or xs p.place other
    for_operator other xs l = subst (λ g. at_operator other r.sums xs g ≡ slice_index_or xs p.place other) p.operator (at_place other r.sums xs reading.operators.distinct p.place p.entry p.is l)

    pub columns_for : at_operator [] r.sums (map (λ s. s.columns) r.sums) f ≡ p.entry.columns
    columns_for =
        for_operator [] (map (λ s. s.columns) r.sums) (length-map r.sums (λ (s : Sums). s.columns))
        ∙ get_or-map (λ (s : Sums). s.columns) r.sums p.place p.entry [] within
        ∙ ap (λ (s : Sums). s.columns) (get_or_from_slice_get r.sums p.place p.entry p.entry p.is)

    pub system_for : at_operator empty_system r.sums (map (λ s. s.system) r.sums) f ≡ p.entry.system
    system_for =
        for_operator empty_system (map (λ s. s.system) r.sums) (length-map r.sums (λ (s : Sums). s.system))
        ∙ get_or-map (λ (s : Sums). s.system) r.sums p.place p.entry empty_system within
        ∙ ap (λ (s : Sums). s.system) (get_or_from_slice_get r.sums p.place p.entry p.entry p.is)

    pub basis_for : (bases : List (List Solution)) → length bases ≡ length r.sums → at_operator [] r.sums (map vectors_of bases) f ≡ vectors_of (slice_index_or bases p.place [])
    basis_for bases l =
        for_operator [] (map vectors_of bases) (length-map bases vectors_of ∙ l)
        ∙ get_or-map vectors_of bases p.place [] [] (let w = within in omega (arith, w, l))

  -- the systems of a reading
  pub make_systems : (bases : List (List Solution)) → AreBases r.sums bases → AreSystems d t class (systems_of r bases)
  make_systems bases are = record {
    is_system = λ f op.
        let p = placed f op in
        let y = systems_of r bases in
        subst (λ cs. IsNodeSystem t class f cs (y.system f)) (sym (columns_for f p))
        (subst (IsNodeSystem t class f p.entry.columns) (sym (system_for f p))
        (subst (λ g. IsNodeSystem t class g p.entry.columns p.entry.system) p.operator (sums_at p.place p.entry p.is).is_system));
    minimal = λ f op v.
        let p = placed f op in
        subst (λ (s : System). Contains ((systems_of r bases).basis f) v → IsMinimal s.columns (rows_of s) v) (sym (system_for f p))
        (subst (λ vs. Contains vs v → IsMinimal p.entry.system.columns (rows_of p.entry.system) v) (sym (basis_for f p bases are.as_many)) ((are.each p.place p.entry p.is).minimal v));
    distinct = λ f op.
        let p = placed f op in
        subst (AllPairs ◌≢◌) (sym (basis_for f p bases are.as_many)) (ordered_distinct (vectors_of (slice_index_or bases p.place [])) (are.each p.place p.entry p.is).ordered);
  }

  -- that no alive one is left out is so of the systems
  pub lists_alive : (s : State) (bases : List (List Solution)) → AreBases r.sums bases → HaveAlive d t s r.sums bases → ListsAlive d t s (systems_of r bases)
  lists_alive s bases are have f op v minimal alive =
      let p = placed f op in
      let y = systems_of r bases in
      subst (λ vs. Contains vs v) (sym (basis_for f p bases are.as_many))
      (have p.place p.entry p.is v
      (subst (λ (x : System). IsMinimal x.columns (rows_of x) v) (system_for f p) minimal)
      (subst (λ g. IsAlive d t s g p.entry.columns v) (sym p.operator) (subst (λ cs. IsAlive d t s f cs v) (columns_for f p) alive)))
