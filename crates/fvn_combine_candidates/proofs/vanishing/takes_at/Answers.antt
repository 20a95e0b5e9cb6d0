-- The class of a column is one of the nodes.
use Rattle.std.proofs.Common.{◌≡◌, ◌<◌, ℕ, List, length, get_or, refl, sym, ap, ◌∙◌, subst}
use Rattle.std.specs.Prelude.{◌↔◌, IsTrue}
use Rattle.std.proofs.lemmas.List.{get_or_default}
use Rattle.fvn_combine_nodes.specs.States.{class_of}
use Rattle.fvn_combine_leaves.proofs.ReadOfState.{column_within}
use Rattle.fvn_combine_complete.specs.Vanishing.{TakesIdentity}
use Rattle.fvn_combine_candidates.proofs.Entries.{placed_at}
use Rattle.fvn_combine_candidates.proofs.Systems.{sums_at}
use Rattle.fvn_combine_candidates.proofs.Letting.{column_in, column_iff}
use Rattle.fvn_combine_candidates.proofs.vanishing.takes_at.Goals as goal

pub takes_identity-requires-clause-within : goal.takes_identity-requires-clause-within
takes_identity-requires-clause-within c =
    let t = c.args.table.now in
    let e = c.args.sums.now in
    let m = c.requires.listed in
    let are = sums_at c.args.sig.now t (class_of c.args.state.now) c.args.reading.now c.requires.reading m.0 e (placed_at c.args.reading.now.sums e m) in
    column_in (λ k. k < length t.nodes) c.as_slice-columns.result.now e.columns c.as_slice-columns.ensures c.args.j _ c.requires.within
    (column_within c.args.sig.now t c.recall_well_made.ensures c.args.state.now c.requires.closed e.operator (get_or e.columns c.args.j 0) ((are.is_system.exact (get_or e.columns c.args.j 0)).0 (c.args.j, c.requires.within, get_or_default e.columns c.args.j (get_or e.columns c.args.j 0) 0 c.requires.within)))

pub returns : goal.returns
returns c =
    column_iff (IsTrue c.takes_identity.result) (TakesIdentity c.args.sig.now c.args.table.now (class_of c.args.state.now) c.args.sums.now.operator c.args.e) c.as_slice-columns.result.now c.args.sums.now.columns c.as_slice-columns.ensures c.args.j _ c.requires.within c.takes_identity.ensures
