-- Plans that choices make, and bindings by a plan.
use Rattle.std.specs.Prelude.{◌≡◌, ◌≢◌, ℕ, ◌+◌, ◌<◌, ◌≤◌, true, false, List, length, map, All, AllPairs, Contains, Some}
use Rattle.fvn_terms.specs.declared.plain.Var.{Var}
use Rattle.fvn_terms.specs.declared.plain.OpId.{OpId}
use Rattle.fvn_terms.specs.declared.plain.SortId.{SortId}
use Rattle.fvn_terms.specs.declared.declarations.Rank.{Rank}
use Rattle.fvn_terms.specs.declared.declarations.Declarations.{Declarations}
use Rattle.fvn_terms.specs.Term.{Term, var}
use Rattle.fvn_terms.specs.Substitution.{Occurs}
use Rattle.fvn_terms.specs.Signature.{axioms, kind, declared, IsSort, HasKind}
use Rattle.fvn_terms.specs.Unifiers.{Problem}
use Rattle.fvn_forms.specs.Flat.{FlatTerm, FlatTerms, fvar, fapp, fnone, fmore, plain}
use Rattle.fvn_forms.specs.Canon.{canon}
use Rattle.fvn_flat.specs.Bindings.{Bindings}
use Rattle.fvn_flat.specs.Problems.{variables_of}
use Rattle.fvn_flat.specs.SolvedLists.{Form, unbound, as_member, as_sum, Part, Plan, component, IsSimple, IsTriangular, IsClass, IsBinding, bound_to, unfolded}
use Rattle.fvn_combine_nodes.specs.Table.{NodeTable, IsOver, term_at}
use Rattle.fvn_combine_leaves.specs.Leaves.{IsSumOperator}
use Rattle.fvn_combine_choices.specs.Binding.{IsBound, IsConstant}
use Rattle.fvn_combine_choices.specs.Choosing.{Systems, Choice, taken}

-- nodes of one class have one kind
abbrev pub AreOfOneKind : Declarations → NodeTable → (ℕ → ℕ) → Type 0
AreOfOneKind d t class = (i j : ℕ) (k : SortId) → i < length t.nodes → j < length t.nodes → class i ≡ class j → HasKind d (term_at t.nodes i) k → HasKind d (term_at t.nodes j) k

module _ (d : Declarations) (t : NodeTable) where
  -- a new variable with this number
  pub record IsNumber (number : ℕ) (x : Var) : Type 0 where
    pub fresh : x.fresh ≡ true
    pub is : x.name ≡ number

  -- the new variable that names the class of node k: of the node's kind, with a number so far above the first as the node's
  pub record IsNameOf (first k : ℕ) (x : Var) : Type 0 where
    pub number : IsNumber (first + k) x
    pub sort : HasKind d (term_at t.nodes k) x.sort

  -- a new variable of f's kind, which is no name of a class, with a number below next
  pub record IsForSolution (first next : ℕ) (f : OpId) (x : Var) : Type 0 where
    pub fresh : x.fresh ≡ true
    pub above : first + length t.nodes ≤ x.name
    pub below : x.name < next
    pub rank : Rank
    pub declared_so : Contains (declared d f).ranks rank
    pub sort : x.sort ≡ kind d rank.result

  module _ (class : ℕ → ℕ) (y : Systems) (c : Choice) where
    -- node i is a member of class k that a free or commutative operator heads
    pub record IsSimpleAt (k i : ℕ) : Type 0 where
      pub operator : OpId
      pub arguments : List ℕ
      pub over : IsOver t.nodes i operator arguments
      pub simple : IsSimple (axioms d operator)
      pub of : class i ≡ k

    -- the choice makes this form of class k
    abbrev pub IsFormBy : ℕ → Form → Type 0
    IsFormBy k unbound = ((f : OpId) → IsBound d t class c.tag f k → ⊥) × ((i : ℕ) → IsSimpleAt k i → ⊥)
    IsFormBy k (as_member u) = (i : ℕ) × IsSimpleAt k i × (term_at t.nodes i ≡ u)
    IsFormBy k (as_sum f) = IsBound d t class c.tag f k

    -- what stands for a solution that is taken for f: the name of the constant that it has, or else a new variable
    pub record StandsFor (first next : ℕ) (plan : Plan) (f : OpId) (q : Part) : Type 0 where
      pub constant : (k : ℕ) → IsConstant d t class c.tag f k → 0 < component (y.columns f) q.solution k → q.variable ≡ plan.name k
      pub other : ((k : ℕ) → IsConstant d t class c.tag f k → component (y.columns f) q.solution k ≡ 0) → IsForSolution first next f q.variable

    -- the plan of the choice, with new variables from first up to below next
    pub record IsPlanBy (first next : ℕ) (plan : Plan) : Type 0 where
      pub enough : first + length t.nodes ≤ next
      pub names : (k : ℕ) → k < length t.nodes → IsNameOf first k (plan.name k)
      pub forms : (k : ℕ) → k < length t.nodes → IsFormBy k (plan.form k)
      pub columns : (f : OpId) → IsSumOperator d t f → plan.columns f ≡ y.columns f
      pub solutions : (f : OpId) → IsSumOperator d t f → map (λ q. q.solution) (plan.parts f) ≡ taken y c f
      pub standing : (f : OpId) → IsSumOperator d t f → All (StandsFor first next plan f) (plan.parts f)
      -- only sum operators have parts
      pub only : (f : OpId) (q : Part) → Contains (plan.parts f) q → IsSumOperator d t f
      -- no new variable stands for two solutions
      pub distinct : (f : OpId) → IsSumOperator d t f → AllPairs (λ q r. q.variable ≢ r.variable) (plan.parts f)
      pub apart : (f g : OpId) (q r : Part) → f ≢ g → Contains (plan.parts f) q → Contains (plan.parts g) r → first + length t.nodes ≤ q.variable.name → q.variable ≢ r.variable

-- the bindings are those of the plan: of its classes, and of the problem's variables to the names of their classes, in an order
-- in which no variable that was replaced comes again
pub record AreBindingsBy (d : Declarations) (problem : Problem) (class : Term → ℕ) (plan : Plan) (bindings : Bindings) : Type 0 where
  pub classes : (k : ℕ) (u : FlatTerm) → IsClass d problem class k → bound_to d problem class plan k ≡ Some u → Contains bindings (plan.name k, u)
  pub variables : (x : Var) → Contains (variables_of problem) x → plan.name (class (var x)) ≢ x → Contains bindings (x, fvar (plan.name (class (var x))))
  pub no_other : All (IsBinding d problem class plan) bindings
  pub triangular : IsTriangular bindings

-- what x unfolds to
abbrev pub unfolds_to : Declarations → Bindings → Var → FlatTerm
unfolds_to d bindings x = canon d (unfolded bindings x)

-- every variable in what a variable of the problem unfolds to is new, with a number from first up to below next, and has a kind as its sort
abbrev pub UnfoldsToNew : Declarations → Problem → (first next : ℕ) → Bindings → Type 0
UnfoldsToNew d problem first next bindings =
    (x z : Var) → Contains (variables_of problem) x → Occurs z (plain (unfolds_to d bindings x))
    → (z.fresh ≡ true) × (first ≤ z.name) × (z.name < next) × IsSort d z.sort × (kind d z.sort ≡ z.sort)

-- the symbols of a flat form whose variables count as so many
abbrev mutual
  pub size_in : (Var → ℕ) → FlatTerm → ℕ
  size_in env (fvar x) = env x
  size_in env (fapp f false ts) = 1 + sizes_in env ts
  size_in env (fapp f true ts) = joined_in env ts

  -- those of a list of flat forms
  pub sizes_in : (Var → ℕ) → FlatTerms → ℕ
  sizes_in env fnone = 0
  sizes_in env (fmore t ts) = size_in env t + sizes_in env ts

  -- those of a sum, with the operator between its arguments
  pub joined_in : (Var → ℕ) → FlatTerms → ℕ
  joined_in env fnone = 1
  joined_in env (fmore t fnone) = size_in env t
  joined_in env (fmore t (fmore u us)) = size_in env t + (1 + joined_in env (fmore u us))
