-- What heads the value of a node whose operator has no identity.
use Rattle.std.proofs.Common.{◌≡◌, ℕ, List, [], map, sym, ap, ◌∙◌, subst, Some}
use Rattle.std.proofs.lemmas.List.{length-map}
use Rattle.std.proofs.lemmas.Option.{slice_get_within}
use Rattle.fvn_terms.specs.declared.plain.OpId.{OpId}
use Rattle.fvn_terms.specs.declared.declarations.Declarations.{Declarations}
use Rattle.fvn_terms.specs.Substitution.{Substitution}
use Rattle.fvn_terms.specs.Signature.{axioms, IsTerm}
use Rattle.fvn_terms.specs.Unifiers.{Problem}
use Rattle.fvn_forms.specs.Flat.{fconstant}
use Rattle.fvn_forms.specs.FitsKinds.{FitsKinds}
use Rattle.fvn_flat.specs.Problems.{IsProblem}
use Rattle.fvn_flat.specs.Partitions.{HasNoIdentity}
use Rattle.fvn_combine_nodes.specs.Table.{NodeTable, term_at, IsOver, IsWellMade, IsTableOf}
use Rattle.fvn_combine_nodes.specs.Unifiers.{value_at}
use Rattle.fvn_combine_nodes.specs.declared.table.Node.TheVariants.{App}
use Rattle.fvn_combine_nodes.proofs.Nodes.{term_at-over}
use Rattle.fvn_flat.specs.Forms.{head_of}
use Rattle.fvn_combine_nodes.proofs.Subterms.{node_kinded}
use Rattle.fvn_combine_nodes.proofs.Heading.{build_head, two_arguments, value_over, values_settled}

-- the value of a node whose operator has no identity is headed by it
pub value_headed : (d : Declarations) → FitsKinds d → (problem : Problem) → IsProblem d problem → (t : NodeTable) → IsWellMade t → IsTableOf d problem t → (s : Substitution) → (i : ℕ) (f : OpId) (ks : List ℕ) → IsOver t.nodes i f ks → HasNoIdentity (axioms d f) → head_of (value_at d s t.nodes i) ≡ Some f
value_headed d fits problem is_problem t made table s i f ks is bare =
    ap head_of (value_over d s t.nodes made.ordered i f ks is) ∙ build_head d f bare (map (value_at d s t.nodes) ks) (values_settled d s t.nodes ks) (λ assoc.
    let kinded = node_kinded d fits problem is_problem t table i (slice_get_within t.nodes i (App f ks) is) in
    let two = two_arguments d fits f (map (term_at t.nodes) ks) (subst (IsTerm d) (term_at-over t.nodes made.ordered i f ks is) kinded) assoc in
    length-map ks (value_at d s t.nodes) ∙ sym (length-map ks (term_at t.nodes)) ∙ two)

-- the value of a constant is that
pub value_constant : (d : Declarations) (s : Substitution) (t : NodeTable) → IsWellMade t → (i : ℕ) (e : OpId) → IsOver t.nodes i e [] → value_at d s t.nodes i ≡ fconstant e
value_constant d s t made i e is = value_over d s t.nodes made.ordered i e [] is
