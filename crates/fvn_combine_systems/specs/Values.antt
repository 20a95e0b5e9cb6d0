-- Values of classes: a flat form for each class, as a substitution gives it to the nodes of the class.
use Rattle.std.specs.Prelude.{◌≡◌, ℕ, ◌<◌, ℤ, List, [], ◌∷◌, map, length, slice_get, slice_index, Some, All, Contains}
use Rattle.fvn_terms.specs.declared.plain.Var.{Var as Variable}
use Rattle.fvn_terms.specs.declared.plain.OpId.{OpId}
use Rattle.fvn_terms.specs.declared.declarations.Declarations.{Declarations}
use Rattle.fvn_terms.specs.Substitution.{Substitution}
use Rattle.fvn_forms.specs.Flat.{FlatTerm}
use Rattle.fvn_forms.specs.InOrder.{count}
use Rattle.fvn_forms.specs.Canon.{parts, build, canon}
use Rattle.fvn_forms.specs.Settled.{Settled}
use Rattle.fvn_lindio.specs.Systems.{IsUnused}
use Rattle.fvn_combine_nodes.specs.Table.{NodeTable, IsOver}
use Rattle.fvn_combine_nodes.specs.declared.table.Node.TheVariants.{Var}

module _ (d : Declarations) (t : NodeTable) (class : ℕ → ℕ) where
  -- what an operator builds over the values of its arguments' classes is the value of its own class
  pub record AreValues (value : ℕ → FlatTerm) : Type 0 where
    pub settled : (k : ℕ) → Settled d (value k)
    pub built : (i : ℕ) (f : OpId) (ks : List ℕ) → IsOver t.nodes i f ks → value (class i) ≡ build d f (map (λ k. value (class k)) ks)

  -- the substitution gives each variable of the table the value of its class
  abbrev pub Gives : (ℕ → FlatTerm) → Substitution → Type 0
  Gives value s = (i : ℕ) (x : Variable) → slice_get t.nodes i ≡ Some (Var x) → canon d (s x) ≡ value (class i)

  module _ (f : OpId) (value : ℕ → FlatTerm) where
    -- the value of each sum by f is what f builds over the values of its arguments
    abbrev pub AddUp : Type 0
    AddUp = (i a b : ℕ) → Contains t.subterms i → IsOver t.nodes i f (a ∷ b ∷ []) → value (class i) ≡ build d f (value (class a) ∷ value (class b) ∷ [])

    -- the class of f's identity has a value without summands
    abbrev pub AddsNothing : Type 0
    AddsNothing = All (λ p. p.0 ≡ f → parts d f (value (class p.1)) ≡ []) t.units

module _ (d : Declarations) (f : OpId) (value : ℕ → FlatTerm) (columns : List ℕ) (rows : List (List ℤ)) (q : FlatTerm) where
  -- the components are how often q is a summand of the value of each column's class; they are 0 where no row uses the column
  pub record Counts (x : List ℕ) : Type 0 where
    pub sized : length x ≡ length columns
    pub used : (j : ℕ) → j < length columns → (IsUnused rows j → ⊥) → slice_index x j ≡ count q (parts d f (value (slice_index columns j)))
    pub unused : (j : ℕ) → IsUnused rows j → slice_index x j ≡ 0
