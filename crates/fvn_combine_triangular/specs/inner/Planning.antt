-- Plans as lists: names, binders, and what stands for solutions.
use Rattle.std.specs.Prelude.{◌≡◌, ◌≢◌, ◌⊎◌, ℕ, zero, suc, ◌+◌, ◌*◌, ◌<◌, ◌≤◌, nat_lt, false, true, if◌then◌else◌, List, [], ◌∷◌, ◌++◌, map, length, slice_get, slice_index, slice_index_or, Option, Some, None, All, AllPairs, Contains}
use Rattle.fvn_acunify.specs.declared.limits.TheConstants.{LISTED_SOLUTIONS}
use Rattle.fvn_terms.specs.declared.plain.Var.{Var as Variable}
use Rattle.fvn_terms.specs.declared.plain.OpId.{OpId}
use Rattle.fvn_terms.specs.declared.plain.SortId.{SortId}
use Rattle.fvn_terms.specs.declared.declarations.Rank.{Rank}
use Rattle.fvn_terms.specs.declared.declarations.Declarations.{Declarations}
use Rattle.fvn_terms.specs.Signature.{kind, declared, axioms, IsSort, HasKind, IsTerm}
use Rattle.fvn_terms.specs.Equality.{IsAssociative}
use Rattle.fvn_terms.specs.Term.{var}
use Rattle.fvn_forms.specs.Flat.{FlatTerm, fvar}
use Rattle.fvn_forms.specs.Canon.{build, sum}
use Rattle.fvn_lindio.specs.declared.system.Solution.{Solution}
use Rattle.fvn_lindio.specs.Systems.{vectors_of}
use Rattle.fvn_acunify.specs.ValidChoice.{chosen}
use Rattle.fvn_flat.specs.Bindings.{Bindings}
use Rattle.fvn_flat.specs.Partitions.{HasNoIdentity}
use Rattle.fvn_flat.specs.SolvedLists.{Form, unbound, as_member, as_sum, Part, Plan, component, members, IsSimple}
use Rattle.fvn_combine_nodes.specs.Table.{NodeTable, IsOver, term_at}
use Rattle.fvn_combine_nodes.specs.declared.table.Node.{Node}
use Rattle.fvn_combine_nodes.specs.declared.table.Node.TheVariants.{Var, App}
use Rattle.fvn_combine_leaves.specs.declared.reading.Sums.{Sums}
use Rattle.fvn_combine_leaves.specs.declared.reading.Reading.{Reading}
use Rattle.fvn_combine_choices.specs.Binding.{IsBound, IsConstant}
use Rattle.fvn_combine_admissible.specs.Listed.{at_operator}
use Rattle.fvn_combine_triangular.specs.declared.binders.Binder.{Binder}
use Rattle.fvn_combine_triangular.specs.declared.binders.Binder.TheVariants.{Nothing, Member, Sum}
use Rattle.fvn_combine_triangular.specs.declared.shares.Share.{Share}

-- what stands for a name past the end
abbrev pub no_name : Variable
no_name = record { name = 0; sort = record { 0 = 0 }; fresh = false }

-- the name of class k in a list of names
abbrev pub name_in : List Variable → ℕ → Variable
name_in names k = slice_index_or names k no_name

-- the share as a part of a plan
abbrev pub part_of : Share → Part
part_of s = record { solution = s.solution; variable = s.variable }

-- the name of the first of the constants that the vector has, or else the new variable
abbrev pub variable_for : (constants columns : List ℕ) (names : List Variable) (v : List ℕ) (fresh : Variable) → Variable
variable_for [] columns names v fresh = fresh
variable_for (c ∷ constants) columns names v fresh = if nat_lt 0 (slice_index v c) then name_in names (slice_index columns c) else variable_for constants columns names v fresh

module _ (d : Declarations) (t : NodeTable) where
  -- a new variable with this number, and of the node's kind
  pub record IsNameAt (first k : ℕ) (x : Variable) : Type 0 where
    pub fresh : x.fresh ≡ true
    pub number : x.name ≡ first + k
    pub sort : (q : SortId) → HasKind d (term_at t.nodes k) q → x.sort ≡ q

  -- one for each node
  pub record AreNames (first : ℕ) (names : List Variable) : Type 0 where
    pub as_many : length names ≡ length t.nodes
    pub each : (k : ℕ) → k < length t.nodes → IsNameAt first k (name_in names k)

  -- a free or commutative operator heads the node
  abbrev pub IsSimpleNode : ℕ → Type 0
  IsSimpleNode i = (f : OpId) × (ks : List ℕ) × IsOver t.nodes i f ks × IsSimple (axioms d f)

  module _ (class : ℕ → ℕ) (tag : ℕ → Option OpId) where
    -- class k is bound to a sum of the operator at this place
    abbrev pub IsBoundAt : List Sums → ℕ → ℕ → Type 0
    IsBoundAt sums i k = (s : Sums) × (slice_get sums i ≡ Some s) × IsBound d t class tag s.operator k

    -- how class k is bound
    abbrev pub IsBinderOf : List Sums → ℕ → Binder → Type 0
    IsBinderOf sums k Nothing = ((i : ℕ) → IsBoundAt sums i k → ⊥) × ((i : ℕ) → i < length t.nodes → class i ≡ k → IsSimpleNode i → ⊥)
    IsBinderOf sums k (Member i) = (i < length t.nodes) × (class i ≡ k) × IsSimpleNode i
    IsBinderOf sums k (Sum i) = IsBoundAt sums i k

    -- one for each class
    pub record AreBinders (sums : List Sums) (binders : List Binder) : Type 0 where
      pub as_many : length binders ≡ length t.nodes
      pub each : (k : ℕ) → k < length t.nodes → IsBinderOf sums k (slice_index_or binders k Nothing)

    -- a new variable with this number, of f's kind
    pub record IsNewAt (number : ℕ) (f : OpId) (x : Variable) : Type 0 where
      pub fresh : x.fresh ≡ true
      pub is : x.name ≡ number
      pub sort : (r : Rank) → Contains (declared d f).ranks r → x.sort ≡ kind d r.result

    -- the name of a constant that the solution has stands for it, or a new variable where it has none
    abbrev pub StandsAt : Sums → List Variable → ℕ → Share → Type 0
    StandsAt s names number p =
        ((k : ℕ) × IsConstant d t class tag s.operator k × (0 < component s.columns p.solution k) × (p.variable ≡ name_in names k))
        ⊎ (((k : ℕ) → IsConstant d t class tag s.operator k → component s.columns p.solution k ≡ 0) × IsNewAt number s.operator p.variable)

    -- the shares of these solutions, with new variables from a number on
    pub record AreShares (s : Sums) (names : List Variable) (start : ℕ) (vectors : List (List ℕ)) (shares : List Share) : Type 0 where
      pub solutions : map (λ p. p.solution) shares ≡ vectors
      pub standing : (j : ℕ) (p : Share) → slice_get shares j ≡ Some p → StandsAt s names (start + j) p

    -- the shares of each operator
    pub record AreAllShares (sums : List Sums) (bases : List (List Solution)) (numbers : List ℕ) (names : List Variable) (start : ℕ) (all : List (List Share)) : Type 0 where
      pub as_many : length all ≡ length sums
      pub each : (i : ℕ) (s : Sums) → slice_get sums i ≡ Some s
          → AreShares s names (start + LISTED_SOLUTIONS * i) (chosen (slice_index numbers i) (vectors_of (slice_index_or bases i []))) (slice_index_or all i [])

-- the form of a class that is bound so
abbrev pub form_of : NodeTable → List Sums → Binder → Form
form_of t sums Nothing = unbound
form_of t sums (Member i) = as_member (term_at t.nodes i)
form_of t sums (Sum i) = as_sum (slice_index_or (map (λ s. s.operator) sums) i (record { 0 = 0 }))

-- the plan of these lists
abbrev pub plan_of : NodeTable → Reading → List Variable → List Binder → List (List Share) → Plan
plan_of t r names binders shares = record {
  name = name_in names;
  form = λ k. form_of t r.sums (slice_index_or binders k Nothing);
  columns = at_operator [] r.sums (map (λ s. s.columns) r.sums);
  parts = at_operator [] r.sums (map (map part_of) shares);
}

-- variables over which a sum of f can be made
pub record IsSummable (d : Declarations) (f : OpId) (ts : List FlatTerm) : Type 0 where
  pub associative : IsAssociative (axioms d f)
  pub rank : Rank
  pub listed : Contains (declared d f).ranks rank
  pub variables : List Variable
  pub are : ts ≡ map fvar variables
  pub kinds : All (λ x. IsSort d x.sort × (kind d x.sort ≡ kind d rank.result)) variables
  pub some : HasNoIdentity (axioms d f) → ts ≢ []

module _ (d : Declarations) where
  -- the sum of the operator at this place for class k
  abbrev pub sum_at : List Sums → List (List Share) → ℕ → ℕ → FlatTerm
  sum_at [] all i k = fvar no_name
  sum_at (s ∷ sums) [] i k = fvar no_name
  sum_at (s ∷ sums) (w ∷ all) zero k = sum d s.operator (members s.columns (map part_of w) k)
  sum_at (s ∷ sums) (w ∷ all) (suc i) k = sum_at sums all i k

  -- a sum of the operator at this place can be made for class k
  pub record IsMakingSum (sums : List Sums) (all : List (List Share)) (i k : ℕ) : Type 0 where
    pub within : i < length sums
    pub as_many : length all ≡ length sums
    pub sized : (s : Sums) → slice_get sums i ≡ Some s → All (λ p. length p.solution ≡ length s.columns) (slice_index_or all i [])
    pub summable : (s : Sums) → slice_get sums i ≡ Some s → IsSummable d s.operator (members s.columns (map part_of (slice_index_or all i [])) k)

module _ (d : Declarations) (t : NodeTable) (class : ℕ → ℕ) (names : List Variable) where
  -- the nodes are well-kinded, and the name of a node's class has its kind
  pub record AreKinded : Type 0 where
    pub as_many : length names ≡ length t.nodes
    pub terms : (i : ℕ) → i < length t.nodes → IsTerm d (term_at t.nodes i)
    pub named : (i : ℕ) (q : SortId) → i < length t.nodes → HasKind d (term_at t.nodes i) q → HasKind d (var (name_in names (class i))) q

  -- the operator of a node over the names of the classes of its arguments
  abbrev pub over_names : Option Node → FlatTerm
  over_names None = fvar no_name
  over_names (Some (Var x)) = fvar x
  over_names (Some (App f ks)) = build d f (map (λ k. fvar (name_in names (class k))) ks)

  -- what class k is bound to by this binder
  abbrev pub bound_by : List Sums → List (List Share) → Binder → ℕ → Option FlatTerm
  bound_by sums all Nothing k = None
  bound_by sums all (Member i) k = Some (over_names (slice_get t.nodes i))
  bound_by sums all (Sum i) k = Some (sum_at d sums all i k)

  -- what the binder of class k asks for
  abbrev pub IsMaking : List Sums → List (List Share) → Binder → ℕ → Type 0
  IsMaking sums all Nothing k = Unit {0}
  IsMaking sums all (Member i) k = (i < length t.nodes) × IsSimpleNode d t i
  IsMaking sums all (Sum i) k = IsMakingSum d sums all i k

  -- the bindings of the classes that nodes before this one name
  pub record AreClassesBelow (sums : List Sums) (all : List (List Share)) (binders : List Binder) (n : ℕ) (bindings : Bindings) : Type 0 where
    pub from : (b : Variable × FlatTerm) → Contains bindings b → (k : ℕ) × (k < n) × (class k ≡ k) × (b.0 ≡ name_in names k) × (bound_by sums all (slice_index_or binders k Nothing) k ≡ Some b.1)
    pub every : (k : ℕ) (u : FlatTerm) → k < n → class k ≡ k → bound_by sums all (slice_index_or binders k Nothing) k ≡ Some u → Contains bindings (name_in names k, u)
    pub distinct : AllPairs (λ a b. a.0 ≢ b.0) bindings

-- names of different nodes differ
abbrev pub AreApart : List Variable → Type 0
AreApart names = AllPairs ◌≢◌ names

-- the bindings with one more at the end, where there is one
abbrev pub HasAdded : Bindings → Bindings → Variable → Option FlatTerm → Type 0
HasAdded before now x None = now ≡ before
HasAdded before now x (Some u) = now ≡ before ++ (x, u) ∷ []

module _ (t : NodeTable) (class : ℕ → ℕ) (names : List Variable) where
  -- the bindings of the variables that are nodes before this one
  pub record AreVariablesBelow (n : ℕ) (bindings : Bindings) : Type 0 where
    pub from : (b : Variable × FlatTerm) → Contains bindings b → (i : ℕ) × (i < n) × (slice_get t.nodes i ≡ Some (Var b.0)) × (b.1 ≡ fvar (name_in names (class i)))
    pub every : (i : ℕ) (x : Variable) → i < n → slice_get t.nodes i ≡ Some (Var x) → Contains bindings (x, fvar (name_in names (class i)))
    pub distinct : AllPairs (λ a b. a.0 ≢ b.0) bindings

-- for each operator a number, and few solutions of as many components as it has columns
pub record AreSized (r : Reading) (bases : List (List Solution)) (numbers : List ℕ) : Type 0 where
  pub basis_each : length bases ≡ length r.sums
  pub number_each : length numbers ≡ length r.sums
  pub few : (i : ℕ) → i < length r.sums → length (slice_index_or bases i []) ≤ LISTED_SOLUTIONS
  pub sized : (i : ℕ) (s : Sums) → slice_get r.sums i ≡ Some s → All (λ v. length v ≡ length s.columns) (vectors_of (slice_index_or bases i []))
