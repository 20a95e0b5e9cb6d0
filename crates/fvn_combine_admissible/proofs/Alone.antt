-- Shared classes that are sums of a constant alone, by columns and by classes.
use Rattle.std.proofs.Common.{◌≡◌, ◌≢◌, ℕ, suc, ◌+◌, ◌<◌, ◌≤◌, List, [], ◌∷◌, ◌++◌, length, take, get_or, slice_index, sym, ap, ◌∙◌, subst, inl, inr, arith, All, Contains, Option}
use Rattle.std.specs.Prelude.{AllPairs, if◌then◌else◌}
use Rattle.std.specs.List.{sum_by}
use Rattle.std.proofs.lemmas.Bool.{cases_lt, cases_eq, ne_eqb}
use Rattle.std.proofs.lemmas.List.{take_more, take_all, get_or-map, length-map}
use Rattle.std.proofs.lemmas.List.Elements.{All-get_or, All-push, All-weaker}
use Rattle.fvn_terms.specs.declared.plain.OpId.{OpId}
use Rattle.fvn_terms.specs.declared.declarations.Declarations.{Declarations}
use Rattle.fvn_lindio.specs.Systems.{vectors_of}
use Rattle.fvn_lindio.specs.declared.system.Solution.{Solution}
use Rattle.fvn_acunify.specs.ValidChoice.{chosen, column_sum}
use Rattle.fvn_flat.specs.SolvedLists.{component}
use Rattle.fvn_combine_nodes.specs.Table.{NodeTable, IsWellMade}
use Rattle.fvn_combine_nodes.specs.States.{IsClosed, class_of}
use Rattle.fvn_combine_nodes.specs.declared.state.State.{State}
use Rattle.fvn_combine_nodes.proofs.Lists.{all_from}
use Rattle.fvn_combine_systems.proofs.Weighing.{component_at}
use Rattle.fvn_combine_leaves.specs.Readings.{IsReading}
use Rattle.fvn_combine_leaves.specs.declared.reading.Sums.{Sums}
use Rattle.fvn_combine_leaves.specs.declared.reading.Reading.{Reading}
use Rattle.fvn_combine_admissible.specs.Listed.{tag_in}
use Rattle.fvn_combine_admissible.specs.Aliases.{HasNoAlias}
use Rattle.fvn_combine_leaves.specs.Users.{IsSharedIn}
use Rattle.fvn_combine_choices.specs.Binding.{IsConstant}
use Rattle.fvn_combine_admissible.specs.inner.Reads.{IsBoundIn, AreConstantsOf, HasOneOf, MayBeAliasIn}
use Rattle.fvn_combine_admissible.proofs.Chosen.{chosen_all}
use Rattle.fvn_combine_leaves.proofs.ReadOfState.{are_sums, sums_whole, shared_in, shared_from}
use Rattle.fvn_combine_admissible.proofs.Binding.{bound_iff}
use Rattle.fvn_combine_admissible.proofs.Demands.{constant_at}

-- the vector is other than zero in column j and in one of the constant columns
abbrev pub HasBoth : List ℕ → ℕ → List ℕ → Type 0
HasBoth constants j v = (0 < slice_index v j) × HasOneOf constants v

-- a solution of the list as a vector
vector_at : (solutions : List Solution) (i : ℕ) (x : Solution) → i < length solutions → x ≡ get_or solutions i x → get_or (vectors_of solutions) i x.parts ≡ x.parts
vector_at solutions i x l is = get_or-map (λ (v : Solution). v.parts) solutions i x x.parts l ∙ ap (λ v. v.parts) (sym is)

-- what all vectors have, each solution has
pub of_solution : (P : List ℕ → Type 0) (solutions : List Solution) → All P (vectors_of solutions) → (i : ℕ) (x : Solution) → i < length solutions → x ≡ get_or solutions i x → P x.parts
of_solution P solutions all i x l is = subst P (vector_at solutions i x l is) (All-get_or P (vectors_of solutions) i x.parts (omega (arith, l, length-map solutions (λ (v : Solution). v.parts))) all)

-- one more solution
pub more_solutions : (P : List ℕ → Type 0) (solutions : List Solution) (i : ℕ) (x : Solution) → i < length solutions → x ≡ get_or solutions i x → All P (take i (vectors_of solutions)) → P x.parts → All P (take (i + 1) (vectors_of solutions))
more_solutions P solutions i x l is all here =
    let m : i < length (vectors_of solutions) = omega (arith, l, length-map solutions (λ (v : Solution). v.parts)) in
    let more : take (i + 1) (vectors_of solutions) ≡ take i (vectors_of solutions) ++ x.parts ∷ [] = take_more (vectors_of solutions) i x.parts m ∙ ap (λ v. take i (vectors_of solutions) ++ v ∷ []) (vector_at solutions i x l is) in
    subst (All P) (sym more) (All-push P (take i (vectors_of solutions)) x.parts all here)

-- all solutions
pub all_solutions : (P : List ℕ → Type 0) (solutions : List Solution) (i : ℕ) → length solutions ≤ i → All P (take i (vectors_of solutions)) → All P (vectors_of solutions)
all_solutions P solutions i l all = subst (All P) (take_all i (vectors_of solutions) (omega (arith, l, length-map solutions (λ (v : Solution). v.parts)))) all

-- the solutions that are taken have as many components as there are columns
pub taken_long : (n number : ℕ) (basis vectors : List (List ℕ)) → vectors ≡ chosen number basis → All (λ v. length v ≡ n) basis → All (λ v. length v ≡ n) vectors
taken_long n number basis vectors is all = subst (All (λ v. length v ≡ n)) (sym is) (chosen_all (λ v. length v ≡ n) number basis all)

-- the same of equal lists
pub alias_among : (r : Reading) (tags : List (Option OpId)) (e : Sums) (cs constants : List ℕ) (vs vectors : List (List ℕ)) (j : ℕ) → cs ≡ constants → vs ≡ vectors → MayBeAliasIn r tags e cs vs j → MayBeAliasIn r tags e constants vectors j
alias_among r tags e cs constants vs vectors j same_constants same_vectors h =
    subst (λ ws. MayBeAliasIn r tags e constants ws j) same_vectors (subst (λ ks. MayBeAliasIn r tags e ks vs j) same_constants h)

-- so they have each column
pub has_column : (n : ℕ) (vectors : List (List ℕ)) → All (λ v. length v ≡ n) vectors → (j : ℕ) → j < n → All (λ v. j < length v) vectors
has_column n vectors all j l = All-weaker (λ v. length v ≡ n) (λ v. j < length v) (λ v e. omega (arith, e, l)) vectors all

-- and those of all constants
pub has_constants : (n : ℕ) (vectors : List (List ℕ)) → All (λ v. length v ≡ n) vectors → (constants : List ℕ) → ((j : ℕ) → Contains constants j → j < n) → All (λ v. All (λ c. c < length v) constants) vectors
has_constants n vectors all constants below = All-weaker (λ v. length v ≡ n) (λ v. All (λ c. c < length v) constants) (λ v e. all_from (λ c. c < length v) constants (λ c m. let b = below c m in omega (arith, e, b))) vectors all

-- a class with a component has a column
pub component_column : (columns v : List ℕ) (k : ℕ) → 0 < component columns v k → (j : ℕ) × (j < length columns) × (slice_index columns j ≡ k)
component_column [] v k h = absurd (omega (arith, h))
component_column (c ∷ columns) [] k h = absurd (omega (arith, h))
component_column (c ∷ columns) (n ∷ v) k h = elim (cases_eq c k) [
  | inl same ↦ (0, omega arith, same)
  | inr other ↦
      let r = component_column columns v k (subst (λ b. 0 < (if b then n else component columns v k)) (ne_eqb c k other) h) in
      (suc r.0, (let l = r.1 in omega (arith, l)), r.2)
]

-- the sum of the components of a column's class is that of the column
pub component_sum : (columns : List ℕ) → AllPairs ◌≢◌ columns → (j : ℕ) → j < length columns → (vectors : List (List ℕ)) → sum_by (λ v. component columns v (slice_index columns j)) vectors ≡ column_sum j vectors
component_sum columns distinct j l vectors = λ i. sum_by (λ v. component_at columns v distinct j l i) vectors

module _ (d : Declarations) (t : NodeTable) (made : IsWellMade t) (s : State) (closed : IsClosed d t s) (r : Reading) (reading : IsReading d t (class_of s) r) (tags : List (Option OpId)) (e : Sums) (listed : Contains r.sums e) (constants : List ℕ) (are : AreConstantsOf r tags e constants) (vectors : List (List ℕ)) where
  distinct : AllPairs ◌≢◌ e.columns
  distinct = (are_sums d t made s closed r reading e listed).is_system.distinct

  within : (j : ℕ) → j < length e.columns → slice_index e.columns j < length t.nodes
  within j l = (sums_whole d t made s closed r reading e listed).within j 0 l

  -- where no column is that of an alias there is none
  pub no_alias_of_columns : ((j : ℕ) → j < length e.columns → MayBeAliasIn r tags e constants vectors j → ⊥) → HasNoAlias d t (class_of s) (tag_in tags) e.operator e.columns vectors
  no_alias_of_columns none k l v shared bound constant among left right =
      let a = component_column e.columns v k left in
      let b = component_column e.columns v l right in
      elim (cases_lt (sum_by (λ v. component e.columns v k) vectors) 2) [
        | inl few ↦
            let is : sum_by (λ v. component e.columns v k) vectors ≡ column_sum a.0 vectors = ap (λ n. sum_by (λ v. component e.columns v n) vectors) (sym a.2) ∙ component_sum e.columns distinct a.0 a.1 vectors in
            let at_k : slice_index v a.0 ≡ component e.columns v k = sym (component_at e.columns v distinct a.0 a.1) ∙ ap (component e.columns v) a.2 in
            let at_l : slice_index v b.0 ≡ component e.columns v l = sym (component_at e.columns v distinct b.0 b.1) ∙ ap (component e.columns v) b.2 in
            let small : k < length t.nodes = subst (λ n. n < length t.nodes) a.2 (within a.0 a.1) in
            let marked = (constant_at d t made s closed r reading tags e listed b.0 b.1).1 (subst (IsConstant d t (class_of s) (tag_in tags) e.operator) (sym b.2) constant) in
            let one : column_sum a.0 vectors ≤ 1 = omega (arith, few, is) in
            let up : 0 < slice_index v a.0 = omega (arith, at_k, left) in
            let down : 0 < slice_index v b.0 = omega (arith, at_l, right) in
            absurd (none a.0 a.1 (
              subst (λ n. IsSharedIn r n × IsBoundIn r tags e n) (sym a.2) (shared_in d t made s closed r reading k small shared, (bound_iff d t made s closed r reading tags e listed k small).1 bound),
              one,
              (v, among, up, (b.0, (are.exact b.0).1 (b.1, marked), down)),
            ))
        | inr many ↦ many
      ]

  -- the class of such a column is one
  pub alias_of_column : (j : ℕ) → j < length e.columns → MayBeAliasIn r tags e constants vectors j → HasNoAlias d t (class_of s) (tag_in tags) e.operator e.columns vectors → ⊥
  alias_of_column j l ((shared, bound), few, alone) none =
      let v = alone.0 in
      let among = alone.1 in
      let up = alone.2 in
      let c = alone.3.0 in
      let in_constants = alone.3.1 in
      let down = alone.3.2 in
      let k = slice_index e.columns j in
      let p = (are.exact c).0 in_constants in
      let left : 0 < component e.columns v k = let e = component_at e.columns v distinct j l in omega (arith, e, up) in
      let right : 0 < component e.columns v (slice_index e.columns c) = let e = component_at e.columns v distinct c p.0 in omega (arith, e, down) in
      let many = none k (slice_index e.columns c) v (shared_from d t made s closed r reading k (within j l) shared) ((bound_iff d t made s closed r reading tags e listed k (within j l)).0 bound) ((constant_at d t made s closed r reading tags e listed c p.0).0 p.1) among left right in
      let is = component_sum e.columns distinct j l vectors in
      omega (arith, many, is, few)
