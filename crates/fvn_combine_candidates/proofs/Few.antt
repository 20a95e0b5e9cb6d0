-- A reading has no more sum operators than its table has subterms.
use Rattle.std.proofs.Common.{◌≡◌, ℕ, ◌≤◌, true, length, map, sym, subst, arith, Contains, Option, Some, None}
use Rattle.std.specs.Prelude.{slice_get}
use Rattle.std.proofs.lemmas.List.{length-map}
use Rattle.fvn_base.proofs.Membership.{contains_map, filter_contains}
use Rattle.fvn_base.proofs.Pigeonhole.{length-le_within}
use Rattle.fvn_terms.specs.declared.plain.OpId.{OpId}
use Rattle.fvn_terms.specs.declared.declarations.Declarations.{Declarations}
use Rattle.fvn_forms.proofs.Sums.{same_op_is}
use Rattle.fvn_combine_nodes.specs.Table.{NodeTable}
use Rattle.fvn_combine_nodes.specs.declared.table.Node.{Node}
use Rattle.fvn_combine_nodes.specs.declared.table.Node.TheVariants.{Var, App}
use Rattle.fvn_combine_systems.specs.NodeSystems.{is_headed}
use Rattle.fvn_combine_leaves.specs.Readings.{IsReading}
use Rattle.fvn_combine_leaves.specs.declared.reading.Sums.{Sums}
use Rattle.fvn_combine_leaves.specs.declared.reading.Reading.{Reading}

-- the operator of a node, or the first one
abbrev head_at : Option Node → OpId
head_at None = record { 0 = 0 }
head_at (Some (Var x)) = record { 0 = 0 }
head_at (Some (App g ks)) = g

headed_is : (f : OpId) (o : Option Node) → is_headed f o ≡ true → head_at o ≡ f
headed_is f None e = cc
headed_is f (Some (Var x)) e = cc
headed_is f (Some (App g ks)) e = sym (same_op_is f g e)

pub few_sums : (d : Declarations) (t : NodeTable) (class : ℕ → ℕ) (r : Reading) → IsReading d t class r → length r.sums ≤ length t.subterms
few_sums d t class r reading =
    let Head = λ (i : ℕ). head_at (slice_get t.nodes i) in
    let operators = map (λ (e : Sums). e.operator) r.sums in
    let within : (f : OpId) → Contains operators f → Contains (map Head t.subterms) f = λ f m.
    let op = (reading.operators.exact f).0 m in
    let s = filter_contains (λ i. is_headed f (slice_get t.nodes i)) t.subterms op.sum op.listed in
    subst (Contains (map Head t.subterms)) (headed_is f (slice_get t.nodes op.sum) s.1) (contains_map Head t.subterms op.sum s.0) in
    let few = length-le_within operators (map Head t.subterms) reading.operators.distinct within in
    omega (arith, few, length-map r.sums (λ (e : Sums). e.operator), length-map t.subterms Head)
