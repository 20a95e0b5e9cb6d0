-- All of it is of the table.
use Rattle.std.proofs.Common.{◌<◌, ◌∙◌, map, length, sym, ap, subst, All}
use Rattle.fvn_flat.specs.Solving.{problem_of}
use Rattle.fvn_purify.specs.Parts.{IsEach, HasAxioms, form_at}
use Rattle.fvn_purify.proofs.Fitted.{parts_within, pairs_within}
use Rattle.fvn_combine_nodes.proofs.Subterms.{node_kinded}
use Rattle.fvn_purify.proofs.purifying.purify.Goals as goal

pub forms-requires-clause-within : goal.forms-requires-clause-within
forms-requires-clause-within c =
    let t = c.in_ok-table.table in
    subst (All (λ i. i < length t.nodes)) (sym c.as_slice.ensures) (parts_within c.args.sig.now t c.in_ok-places.places c.in_ok-places.ensures)

pub forms-requires-clause-kinded : goal.forms-requires-clause-kinded
forms-requires-clause-kinded c = node_kinded c.args.sig.now c.recall_good.ensures.fits (problem_of c.args.problem.now) c.requires.kinds c.in_ok-table.table c.in_ok-table.ensures

pub pair_forms-requires-clause-within : goal.pair_forms-requires-clause-within
pair_forms-requires-clause-within c =
    let t = c.in_ok-table.table in
    subst (All (λ p. (p.0 < length t.nodes) × (p.1 < length t.nodes))) (sym c.as_slice-2.ensures) (pairs_within c.args.sig.now t c.in_ok-places.places c.in_ok-places.ensures)

pub pair_forms-requires-clause-kinded : goal.pair_forms-requires-clause-kinded
pair_forms-requires-clause-kinded c = node_kinded c.args.sig.now c.recall_good.ensures.fits (problem_of c.args.problem.now) c.requires.kinds c.in_ok-table.table c.in_ok-table.ensures

pub returns : goal.returns
returns c =
    let d = c.args.sig.now in
    let t = c.in_ok-table.table in
    record {
      table = c.in_ok-table.ensures;
      are = record { places = c.in_ok-places.ensures; ops = subst (IsEach (HasAxioms d t)) (sym c.from_vec-2.ensures) c.in_ok-ops.ensures };
      parts = c.from_vec.ensures ∙ c.in_ok-parts.ensures ∙ ap (map (form_at d t)) c.as_slice.ensures;
      pairs = c.from_vec-3.ensures ∙ c.in_ok-pairs.ensures ∙ ap (map (λ p. (form_at d t p.0, form_at d t p.1))) c.as_slice-2.ensures;
    }
