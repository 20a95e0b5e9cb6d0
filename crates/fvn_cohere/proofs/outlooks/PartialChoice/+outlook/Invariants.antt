-- The outlooks of the arguments so far, and the measures of the recursion.
use Rattle.std.proofs.Common.{◌≡◌, ◌+◌, ◌*◌, length, map, take}
use Rattle.std.specs.List.{AllZip}
use Rattle.fvn_terms.specs.declared.plain.Plain.{Plain}
use Rattle.fvn_terms.specs.declared.plain.Var.{Var}
use Rattle.fvn_terms.specs.Term.{nodes, nodes_all}
use Rattle.fvn_terms.specs.Plain.{term}
use Rattle.fvn_rewrite_laws.specs.declared.shapes.Shape.{Shape}
use Rattle.fvn_rewrite_laws.specs.Shapes.{shape_in}
use Rattle.fvn_cohere.specs.inner.Searching.{shapes_by}
use Rattle.fvn_cohere.specs.inner.Outlooks.{Suits, Fills}
use Rattle.fvn_cohere.proofs.outlooks.PartialChoice.+outlook.Given as goal

abbrev pub invariant-outlook_app-loop-u : goal.invariant-outlook_app-loop-u
invariant-outlook_app-loop-u l = record {
  count : l.i ≡ l.u-index;
  room : length l.parts ≡ 8;
  suits : (filled : Var → Shape) → Fills l.self.sig.now l.self.unchosen.now (shapes_by l.self.chosen.now) filled →
      AllZip (Suits l.self.sig.now) (take l.i l.parts) (map (λ (t : Plain). shape_in l.self.sig.now filled (term t)) (take l.u-index l.u-items));
}

-- twice the nodes, and one more for arguments
abbrev pub decreases-outlook : goal.decreases-outlook
decreases-outlook l = 2 * nodes (term l.t.now)

abbrev pub decreases-outlook_app : goal.decreases-outlook_app
decreases-outlook_app l = 2 * nodes_all l.us.now + 1
