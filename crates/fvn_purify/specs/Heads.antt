-- What heads the value of a class: a theory, or an identity.
use Rattle.std.specs.Prelude.{◌≡◌, ◌⊎◌, ℕ, List, [], Contains}
use Rattle.fvn_terms.specs.declared.plain.OpId.{OpId}
use Rattle.fvn_terms.specs.declared.declarations.Axioms.{Axioms}
use Rattle.fvn_terms.specs.declared.declarations.Axioms.TheVariants.{Free as NoAxioms, Comm, AssocComm, AssocCommId}
use Rattle.fvn_terms.specs.declared.declarations.Declarations.{Declarations}
use Rattle.fvn_terms.specs.Signature.{axioms}
use Rattle.fvn_combine_nodes.specs.Table.{NodeTable, IsOver}
use Rattle.fvn_purify.specs.declared.classes.Head.{Head}
use Rattle.fvn_purify.specs.declared.classes.Head.TheVariants.{Free, Pair, Sum}

-- the head of what an operator with these axioms heads
abbrev pub head_by : Axioms → OpId → Head
head_by NoAxioms f = Free
head_by Comm f = Pair f
head_by AssocComm f = Sum f
head_by (AssocCommId e) f = Sum f

-- the head of what the operator heads
abbrev pub operator_head : Declarations → OpId → Head
operator_head d f = head_by (axioms d f) f

-- the head of a theory: the one of all free operators, or that of an operator with axioms
abbrev pub IsTheory : Declarations → List OpId → Head → Type 0
IsTheory d ops h = (h ≡ Free) ⊎ ((f : OpId) × Contains ops f × (h ≡ operator_head d f))

-- node i is the constant e, which is an identity
abbrev pub IsUnitNode : NodeTable → OpId → ℕ → Type 0
IsUnitNode t e i = (p : OpId × ℕ) × Contains t.units p × (p.1 ≡ i) × IsOver t.nodes i e []
