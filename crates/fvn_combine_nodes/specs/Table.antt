-- The nodes of a problem in a table: variables, and operators over nodes that stand before them.
use Rattle.std.specs.Prelude.{◌≡◌, ◌≢◌, ◌⊎◌, ℕ, ◌<◌, List, [], ◌∷◌, ◌++◌, map, length, slice_get, slice_index_or, Some, All, AllPairs, Any, Contains}
use Rattle.fvn_terms.specs.declared.plain.OpId.{OpId}
use Rattle.fvn_terms.specs.declared.declarations.Declarations.{Declarations}
use Rattle.fvn_terms.specs.Term.{Term, var, app, pack}
use Rattle.fvn_terms.specs.Signature.{axioms}
use Rattle.fvn_terms.specs.Equality.{constant, identity}
use Rattle.fvn_terms.specs.Unifiers.{Problem}
use Rattle.fvn_flat.specs.Problems.{subterms_of, once}
use Rattle.fvn_flat.specs.Partitions.{Heads}
use Rattle.fvn_combine_nodes.specs.declared.table.Node.{Node}
use Rattle.fvn_combine_nodes.specs.declared.table.Node.TheVariants.{Var, App}

-- what stands for a node past the end
abbrev pub nothing : Term
nothing = constant (record { 0 = 0 })

-- the term of a node, over the terms of the nodes before it
abbrev pub term_over : List Term → Node → Term
term_over ts (Var x) = var x
term_over ts (App f ks) = app f (pack (map (λ k. slice_index_or ts k nothing) ks))

-- these terms, and then those of the nodes, each over the terms before it
abbrev pub terms_from : List Term → List Node → List Term
terms_from ts [] = ts
terms_from ts (n ∷ nodes) = terms_from (ts ++ term_over ts n ∷ []) nodes

-- the terms of the nodes
abbrev pub terms_of : List Node → List Term
terms_of nodes = terms_from [] nodes

-- the term of node i
abbrev pub term_at : List Node → ℕ → Term
term_at nodes i = slice_index_or (terms_of nodes) i nothing

-- node i is f over the nodes ks
abbrev pub IsOver : List Node → ℕ → OpId → List ℕ → Type 0
IsOver nodes i f ks = slice_get nodes i ≡ Some (App f ks)

-- arguments stand before their operator
abbrev pub IsOrdered : List Node → Type 0
IsOrdered nodes = (i : ℕ) (f : OpId) (ks : List ℕ) → IsOver nodes i f ks → All (λ k. k < i) ks

-- a table: the nodes, the nodes of both sides of each pair, the subterms in the order in which they begin, and the identities of operators
pub record NodeTable : Type 0 where
  pub nodes : List Node
  pub sides : List (ℕ × ℕ)
  pub subterms : List ℕ
  pub units : List (OpId × ℕ)

-- what holds of every table, whatever its problem
pub record IsWellMade (t : NodeTable) : Type 0 where
  pub ordered : IsOrdered t.nodes
  -- no term stands at two nodes
  pub distinct : AllPairs ◌≢◌ (terms_of t.nodes)
  -- all numbers are those of nodes
  pub sides : All (λ p. (p.0 < length t.nodes) × (p.1 < length t.nodes)) t.sides
  pub subterms : All (λ i. i < length t.nodes) t.subterms
  pub units : All (λ p. p.1 < length t.nodes) t.units

module _ (d : Declarations) (problem : Problem) where
  -- an operator with an identity that heads a subterm, and the term of its identity
  pub record IsUnitOf (f : OpId) (t : Term) : Type 0 where
    pub heads : Heads d problem f
    pub constant_of : OpId
    pub identity : identity (axioms d f) ≡ Some constant_of
    pub is : t ≡ constant constant_of

  -- the nodes of the problem, each once
  pub record IsTableOf (t : NodeTable) : Type 0 where
    -- the sides of each pair
    pub sides : map (λ p. (term_at t.nodes p.0, term_at t.nodes p.1)) t.sides ≡ problem
    -- the subterms, each once, in the order in which they begin
    pub subterms : map (term_at t.nodes) t.subterms ≡ once (subterms_of problem)
    -- each operator with an identity that heads a subterm, once, with the node of its identity
    pub units : All (λ p. IsUnitOf p.0 (term_at t.nodes p.1)) t.units
    pub all_units : (f e : OpId) → Heads d problem f → identity (axioms d f) ≡ Some e → Any (λ p. p.0 ≡ f) t.units
    pub units_once : AllPairs (λ p q. p.0 ≢ q.0) t.units
    -- no other nodes
    pub only : (i : ℕ) → i < length t.nodes → Contains t.subterms i ⊎ Any (λ p. p.1 ≡ i) t.units
