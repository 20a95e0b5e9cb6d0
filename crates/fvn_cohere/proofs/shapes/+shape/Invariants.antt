-- The shapes of the arguments so far, and the measures of the recursion.
use Rattle.std.proofs.Common.{◌≡◌, ◌+◌, ◌*◌, length, map, take}
use Rattle.fvn_terms.specs.declared.plain.Plain.{Plain}
use Rattle.fvn_terms.specs.Term.{nodes, nodes_all}
use Rattle.fvn_terms.specs.Plain.{term}
use Rattle.fvn_rewrite_laws.specs.Shapes.{shape_in}
use Rattle.fvn_cohere.specs.inner.Searching.{shapes_by}
use Rattle.fvn_cohere.proofs.shapes.+shape.Given as goal

abbrev pub invariant-shape_app-loop-u : goal.invariant-shape_app-loop-u
invariant-shape_app-loop-u l = record {
  count : l.i ≡ l.u-index;
  room : length l.shapes ≡ 8;
  shapes : take l.i l.shapes ≡ map (λ (t : Plain). shape_in l.sig (shapes_by l.chosen) (term t)) (take l.u-index l.u-items);
}

-- twice the nodes, and one more for arguments
abbrev pub decreases-shape : goal.decreases-shape
decreases-shape l = 2 * nodes (term l.t.now)

abbrev pub decreases-shape_app : goal.decreases-shape_app
decreases-shape_app l = 2 * nodes_all l.us.now + 1
