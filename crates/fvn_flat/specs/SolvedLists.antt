-- Solved lists: what some classes are bound to, and what a problem's variables unfold to.
use Rattle.std.specs.Prelude.{◌≡◌, ◌≢◌, ◌⊎◌, ℕ, ◌<◌, nat_eq, if◌then◌else◌, List, [], ◌∷◌, ◌++◌, length, replicate, slice_index, Option, Some, None, All, AllPairs, Any, Contains}
use Rattle.fvn_terms.specs.declared.plain.Var.{Var}
use Rattle.fvn_terms.specs.declared.plain.OpId.{OpId}
use Rattle.fvn_terms.specs.declared.declarations.Axioms.{Axioms}
use Rattle.fvn_terms.specs.declared.declarations.Axioms.TheVariants.{Free, Comm, AssocComm, AssocCommId}
use Rattle.fvn_terms.specs.declared.declarations.Declarations.{Declarations}
use Rattle.fvn_terms.specs.Term.{Term, Terms, var, app, none, more}
use Rattle.fvn_terms.specs.Substitution.{Substitution, followed_by, Occurs, same_var}
use Rattle.fvn_terms.specs.Signature.{axioms, KeepsKinds}
use Rattle.fvn_terms.specs.Equality.{IsAssociative, BEqual, identity}
use Rattle.fvn_terms.specs.Unifiers.{Problem, Solves}
use Rattle.fvn_forms.specs.Flat.{FlatTerm, fvar, fconstant, plain}
use Rattle.fvn_forms.specs.Canon.{canon, sum}
use Rattle.fvn_lindio.specs.declared.system.System.{System}
use Rattle.fvn_lindio.specs.Systems.{IsMinimal, IsUnused, rows_of}
use Rattle.fvn_flat.specs.Bindings.{Bindings}
use Rattle.fvn_flat.specs.Problems.{variables_of}
use Rattle.fvn_flat.specs.Partitions.{HasNoIdentity, IsNode, Heads}
use Rattle.fvn_flat.specs.SumSystems.{IsSumSystem}

-- x goes to the term, and every other variable stays
abbrev pub only : Var → Term → Substitution
only x t y = if same_var x y then t else var y

-- bound variables are replaced to the end
abbrev pub unfolded : Bindings → Substitution
unfolded [] = var
unfolded (b ∷ bindings) = followed_by (only b.0 (plain b.1)) (unfolded bindings)

-- no variable is bound twice, and none occurs in what it is bound to, nor in what a later one is bound to
pub record IsTriangular (bindings : Bindings) : Type 0 where
  pub not_itself : All (λ b. Occurs b.0 (plain b.1) → ⊥) bindings
  pub not_later : AllPairs (λ a b. (a.0 ≢ b.0) × (Occurs a.0 (plain b.1) → ⊥)) bindings

-- s makes both sides of each pair equal modulo the axioms, every variable being read with its kind
abbrev pub IsKindUnifier : Declarations → Problem → Substitution → Type 0
IsKindUnifier d problem s = KeepsKinds d s × Solves (BEqual d) problem s

-- how a class is bound: not at all, to the operator of a member over the classes of its arguments, or to a sum of an operator
pub data Form : Type 0 where
  unbound : Form
  as_member : Term → Form
  as_sum : OpId → Form

-- a minimal solution that the sums of an operator rest on, and the variable that stands for it in these sums
pub record Part : Type 0 where
  pub solution : List ℕ
  pub variable : Var

-- what a solved list is made from: a name and a form for each class, and for each operator the classes of its columns and its parts
pub record Plan : Type 0 where
  pub name : ℕ → Var
  pub form : ℕ → Form
  pub columns : OpId → List ℕ
  pub parts : OpId → List Part

-- the component of a vector in the column of class k; where there is no such column, 0
abbrev pub component : List ℕ → List ℕ → ℕ → ℕ
component [] v k = 0
component (c ∷ columns) [] k = 0
component (c ∷ columns) (n ∷ v) k = if nat_eq c k then n else component columns v k

-- the members of the sum to which class k is bound: the variable of each part as often as the class's component says
abbrev pub members : List ℕ → List Part → ℕ → List FlatTerm
members columns [] k = []
members columns (p ∷ parts) k = replicate (component columns p.solution k) (fvar p.variable) ++ members columns parts k

-- the operator is free or commutative, and not associative
abbrev pub IsSimple : Axioms → Type 0
IsSimple Free = Unit {0}
IsSimple Comm = Unit {0}
IsSimple AssocComm = ⊥
IsSimple (AssocCommId e) = ⊥

module _ (d : Declarations) (problem : Problem) (class : Term → ℕ) where
  -- k is the class of some node
  abbrev pub IsClass : ℕ → Type 0
  IsClass k = (t : Term) × IsNode d problem t × (class t ≡ k)

  module _ (plan : Plan) where
    -- the names of the classes of the arguments
    abbrev pub names_of : Terms → Terms
    names_of none = none
    names_of (more t ts) = more (var (plan.name (class t))) (names_of ts)

    -- the term with names of classes for its arguments, as a flat form
    abbrev pub over_classes : Term → FlatTerm
    over_classes (var x) = fvar x
    over_classes (app g ts) = canon d (app g (names_of ts))

    -- the members of the sum of f to which class k is bound
    abbrev pub members_of : OpId → ℕ → List FlatTerm
    members_of f k = members (plan.columns f) (plan.parts f) k

    -- what class k is bound to in this form
    abbrev pub bound_as : Form → ℕ → Option FlatTerm
    bound_as unbound k = None
    bound_as (as_member t) k = Some (over_classes t)
    bound_as (as_sum f) k = Some (sum d f (members_of f k))

    -- what class k is bound to, if it is bound
    abbrev pub bound_to : ℕ → Option FlatTerm
    bound_to k = bound_as (plan.form k) k

    -- t is a member of class k headed by a free or commutative operator
    pub record IsSimpleMember (k : ℕ) (t : Term) : Type 0 where
      pub node : IsNode d problem t
      pub of : class t ≡ k
      pub operator : OpId
      pub arguments : Terms
      pub is : t ≡ app operator arguments
      pub simple : IsSimple (axioms d operator)

    -- f heads a sum of the problem; a sum without members is allowed only where f has an identity
    pub record IsSum (k : ℕ) (f : OpId) : Type 0 where
      pub heads : Heads d problem f
      pub associative : IsAssociative (axioms d f)
      pub members : HasNoIdentity (axioms d f) → members_of f k ≢ []

    -- what the form asks of class k
    abbrev pub IsFormOf : ℕ → Form → Type 0
    IsFormOf k unbound = Unit {0}
    IsFormOf k (as_member t) = IsSimpleMember k t
    IsFormOf k (as_sum f) = IsSum k f

    -- a variable that is neither one of the problem nor the name of a class
    pub record IsNew (x : Var) : Type 0 where
      pub not_given : Contains (variables_of problem) x → ⊥
      pub no_name : (k : ℕ) → IsClass k → plan.name k ≢ x

    -- k is bound to the identity of f
    abbrev pub IsBoundToIdentity : OpId → ℕ → Type 0
    IsBoundToIdentity f k = (e : OpId) × (identity (axioms d f) ≡ Some e) × (bound_to k ≡ Some (fconstant e))

    module _ (f : OpId) where
      -- the component of the part's solution in the column of class k
      abbrev pub component_of : Part → ℕ → ℕ
      component_of p k = component (plan.columns f) p.solution k

      -- of the classes that are not bound to a sum of f, k alone has a component other than 0; it is 1, and the name of k stands for the part
      pub record StandsForClass (p : Part) : Type 0 where
        pub k : ℕ
        pub is_class : IsClass k
        pub no_sum : plan.form k ≢ as_sum f
        pub one : component_of p k ≡ 1
        pub alone : (j : ℕ) → IsClass j → plan.form j ≢ as_sum f → j ≢ k → component_of p j ≡ 0
        pub named : p.variable ≡ plan.name k

      -- none of these classes has one, and a new variable stands for the part
      pub record StandsForNone (p : Part) : Type 0 where
        pub none : (j : ℕ) → IsClass j → plan.form j ≢ as_sum f → component_of p j ≡ 0
        pub fresh : IsNew p.variable

      -- some row uses the column of class k
      abbrev pub IsUsed : System → ℕ → Type 0
      IsUsed system k = (i : ℕ) × (i < length (plan.columns f)) × (slice_index (plan.columns f) i ≡ k) × (IsUnused (rows_of system) i → ⊥)

      -- what the sums of f rest on: some minimal solutions of its sum system
      pub record RestsOn (system : System) : Type 0 where
        pub is_system : IsSumSystem d problem class f (plan.columns f) system
        pub minimal : All (λ p. IsMinimal system.columns (rows_of system) p.solution) (plan.parts f)
        -- no minimal solution is taken twice, and no variable stands for two
        pub distinct : AllPairs (λ p q. (p.solution ≢ q.solution) × (p.variable ≢ q.variable)) (plan.parts f)
        pub standing : All (λ p. StandsForClass p ⊎ StandsForNone p) (plan.parts f)
        -- a class with a used column, bound neither to a sum of f nor to f's identity, stands for a part
        pub covered : (k : ℕ) → IsClass k → IsUsed system k → plan.form k ≢ as_sum f →
            (IsBoundToIdentity f k → ⊥) → Any (λ p. p.variable ≡ plan.name k) (plan.parts f)

    -- the name of a class with what it is bound to, or a variable of the problem with the name of its class
    abbrev pub IsBinding : Var × FlatTerm → Type 0
    IsBinding b =
        ((k : ℕ) × IsClass k × (b.0 ≡ plan.name k) × (bound_to k ≡ Some b.1))
        ⊎ (Contains (variables_of problem) b.0 × (plan.name (class (var b.0)) ≢ b.0) × (b.1 ≡ fvar (plan.name (class (var b.0)))))

    -- the bindings are a solved list by this plan
    pub record IsSolvedBy (bindings : Bindings) : Type 0 where
      -- classes have different names, and a variable of the problem can name its own class alone
      pub names : (k j : ℕ) → IsClass k → IsClass j → plan.name k ≡ plan.name j → k ≡ j
      pub own : (k : ℕ) → IsClass k → Contains (variables_of problem) (plan.name k) → class (var (plan.name k)) ≡ k
      pub forms : (k : ℕ) → IsClass k → IsFormOf k (plan.form k)
      pub sums : (f : OpId) → Heads d problem f → IsAssociative (axioms d f) → (system : System) × RestsOn f system
      -- a new variable stands for parts of one operator only
      pub apart : (f g : OpId) (p q : Part) → f ≢ g → Contains (plan.parts f) p → Contains (plan.parts g) q →
          IsNew p.variable → p.variable ≢ q.variable
      -- the bindings are those of the classes and of the variables that are no names, and no others
      pub classes : (k : ℕ) (t : FlatTerm) → IsClass k → bound_to k ≡ Some t → Contains bindings (plan.name k, t)
      pub variables : (x : Var) → Contains (variables_of problem) x → plan.name (class (var x)) ≢ x →
          Contains bindings (x, fvar (plan.name (class (var x))))
      pub no_other : All IsBinding bindings
      -- no class reaches itself
      pub triangular : IsTriangular bindings
      pub unifies : IsKindUnifier d problem (unfolded bindings)

  -- the bindings are a solved list of the problem under the partition
  abbrev pub IsSolvedList : Bindings → Type 0
  IsSolvedList bindings = (plan : Plan) × IsSolvedBy plan bindings
