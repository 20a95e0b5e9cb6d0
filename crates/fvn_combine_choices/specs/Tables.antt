-- What the table of a well-kinded problem has.
use Rattle.std.specs.Prelude.{◌≡◌, ℕ, List, [], length, Some, Any, Contains}
use Rattle.fvn_terms.specs.declared.plain.OpId.{OpId}
use Rattle.fvn_terms.specs.declared.declarations.Declarations.{Declarations}
use Rattle.fvn_terms.specs.Signature.{axioms}
use Rattle.fvn_terms.specs.Equality.{IsAssociative, identity}
use Rattle.fvn_combine_nodes.specs.Table.{NodeTable, IsOver}

-- what well-kinded problems give: a sum has two arguments and is a subterm, and identities are nodes
pub record HasSums (d : Declarations) (t : NodeTable) : Type 0 where
  pub pairs : (i : ℕ) (f : OpId) (ks : List ℕ) → IsOver t.nodes i f ks → IsAssociative (axioms d f) → (length ks ≡ 2) × Contains t.subterms i
  pub units : (p : OpId × ℕ) → Contains t.units p → (e : OpId) × (identity (axioms d p.0) ≡ Some e) × IsOver t.nodes p.1 e []
  pub all_units : (i : ℕ) (f e : OpId) (ks : List ℕ) → Contains t.subterms i → IsOver t.nodes i f ks → identity (axioms d f) ≡ Some e → Any (λ p. p.0 ≡ f) t.units
