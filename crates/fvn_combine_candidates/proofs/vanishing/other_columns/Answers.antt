-- Under a neutral operator no column is so.
use Rattle.std.proofs.Common.{sym, subst}
use Rattle.std.proofs.lemmas.Bool.{iff_false}
use Rattle.fvn_combine_nodes.specs.States.{class_of}
use Rattle.fvn_combine_candidates.specs.Turning.{AreOthers}
use Rattle.fvn_combine_candidates.proofs.Letting.{others_told, no_others}
use Rattle.fvn_combine_candidates.proofs.vanishing.other_columns.Goals as goal

pub returns-then-is_neutral : goal.returns-then-is_neutral
returns-then-is_neutral c =
    subst (AreOthers c.args.sig.now c.args.table.now (class_of c.args.state.now) c.args.sums.now c.args.e) (sym c.new.ensures.items)
    (no_others c.args.sig.now c.args.table.now (class_of c.args.state.now) c.args.sums.now c.args.e (c.is_neutral.ensures.0 c.if-is_neutral.true))

pub returns : goal.returns
returns c =
    others_told c.args.sig.now c.args.table.now (class_of c.args.state.now) c.args.sums.now c.args.e c.in_ok-list.list.items (iff_false c.is_neutral.ensures c.if-is_neutral.false) c.in_ok-list.ensures
