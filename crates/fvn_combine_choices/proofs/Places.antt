-- What heads a sum among the nodes, and what heads one in the problem.
use Rattle.std.proofs.Common.{ℕ, List, map, subst, Contains, slice_get}
use Rattle.fvn_terms.specs.declared.plain.OpId.{OpId}
use Rattle.fvn_terms.specs.declared.declarations.Declarations.{Declarations}
use Rattle.fvn_terms.specs.Term.{app, pack}
use Rattle.fvn_terms.specs.Signature.{axioms}
use Rattle.fvn_terms.specs.Equality.{IsAssociative}
use Rattle.fvn_terms.specs.Unifiers.{Problem}
use Rattle.fvn_flat.specs.Problems.{subterms_of}
use Rattle.fvn_flat.specs.Partitions.{Heads}
use Rattle.fvn_combine_nodes.specs.Table.{NodeTable, IsWellMade, IsTableOf, IsOver, term_at}
use Rattle.fvn_combine_nodes.proofs.Nodes.{term_at-over, application_at}
use Rattle.fvn_combine_nodes.proofs.NodesOf.{listed_node, subterm_within}
use Rattle.fvn_combine_nodes.proofs.Subterms.{listed_subterm}
use Rattle.fvn_combine_systems.proofs.Members.{headed_over, listed_sum, sum_listed}
use Rattle.fvn_combine_leaves.specs.Leaves.{IsSumOperator}

module _ {d : Declarations} {problem : Problem} {t : NodeTable} (made : IsWellMade t) (table : IsTableOf d problem t) where
  -- what heads a subterm that is listed heads a sum, where it is associative
  pub sum_operator : (f : OpId) → IsAssociative (axioms d f) → (i : ℕ) (ks : List ℕ) → Contains t.subterms i → IsOver t.nodes i f ks → IsSumOperator d t f
  sum_operator f assoc i ks c over = record {
    associative = assoc;
    sum = i;
    listed = listed_sum t f i ks c over;
  }

  pub heads_sum : (f : OpId) → IsAssociative (axioms d f) → Heads d problem f → IsSumOperator d t f
  heads_sum f assoc heads =
      let r = listed_node made table (app f heads.arguments) heads.listed in
      let a = application_at t.nodes made.ordered r.0 f heads.arguments (subterm_within made table r.0 r.1.0) r.1.1 in
      sum_operator f assoc r.0 a.arguments r.1.0 a.is

  pub over_heads : (f : OpId) (i : ℕ) (ks : List ℕ) → Contains t.subterms i → IsOver t.nodes i f ks → Heads d problem f
  over_heads f i ks c over = record {
    arguments = pack (map (term_at t.nodes) ks);
    listed = subst (Contains (subterms_of problem)) (term_at-over t.nodes made.ordered i f ks over) (listed_subterm d problem t table i c);
  }

  pub sum_heads : (f : OpId) → IsSumOperator d t f → Heads d problem f
  sum_heads f h =
      let r = sum_listed t f h.sum h.listed in
      let o = headed_over f (slice_get t.nodes h.sum) r.1 in
      over_heads f h.sum o.0 r.0 o.1
