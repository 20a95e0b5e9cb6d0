-- What one look at a node tells of theories, pairs and operators.
use Rattle.std.specs.Prelude.{◌≡◌, ◌≢◌, ◌⊎◌, ℕ, ◌<◌, List, Option, Contains}
use Rattle.fvn_terms.specs.declared.plain.OpId.{OpId}
use Rattle.fvn_terms.specs.declared.declarations.Axioms.TheVariants.{Free}
use Rattle.fvn_terms.specs.declared.declarations.Declarations.{Declarations}
use Rattle.fvn_terms.specs.Signature.{axioms}
use Rattle.fvn_combine_nodes.specs.Table.{NodeTable, IsOver}
use Rattle.fvn_purify.specs.Theories.{theory, AreOpposite}
use Rattle.fvn_purify.specs.Parts.{ArePair}

-- node i stands under node j, which is f-headed
abbrev pub StandsUnderAt : NodeTable → (i j : ℕ) → OpId → Type 0
StandsUnderAt t i j f = (ks : List ℕ) × IsOver t.nodes j f ks × (Contains ks i ⊎ AreOpposite t i j)

module _ (d : Declarations) (t : NodeTable) where
  -- node i stands under node j, of another theory
  abbrev pub StandsOutsideAt : ℕ → Option OpId → ℕ → Type 0
  StandsOutsideAt i own j = (f : OpId) × StandsUnderAt t i j f × (theory d f ≢ own)

  -- the pair's higher node is below j, or it is j and the lower one is below i
  abbrev pub IsPairBelow : (j i : ℕ) → ℕ × ℕ → Type 0
  IsPairBelow j i p = ArePair d t p × ((p.1 < j) ⊎ ((p.1 ≡ j) × (p.0 < i)))

  -- f has axioms and heads node i
  abbrev pub HeadsWithAxioms : ℕ → OpId → Type 0
  HeadsWithAxioms i f = (axioms d f ≢ Free) × ((ks : List ℕ) × IsOver t.nodes i f ks)
