-- A step of the loop is a step of gathering.
use Rattle.std.proofs.Common.{drop, sym, ap, ◌∙◌}
use Rattle.fvn_module_statements.proofs.Gathering.{gather-none, gather-some, gather-end}
use Rattle.fvn_module_statements.proofs.reader.read_all.Goals as goal

pub returns-in-None : goal.returns-in-None
returns-in-None g c =
    ap (λ xs. (xs, c.loop-piece.rest)) c.from_vec.ensures
    ∙ sym (c.loop-piece.invariant
    ∙ gather-none g.R.Reader.reads (drop c.loop-piece._piece-index c.args.row.now) c.loop-piece.list.items c.loop-piece.rest
    (ap g.R.Reader.reads (sym c.pieces.ensures) ∙ sym c.in_ok-read.ensures ∙ c.in-None.is))

pub loop-piece-preserved : goal.loop-piece-preserved
loop-piece-preserved g c =
    rw c.in_ok-push-in-Some.ensures.items
    (c.loop-piece.invariant
    ∙ gather-some g.R.Reader.reads c.args.row.now c.loop-piece._piece-index c.loop-piece.list.items c.loop-piece.rest
    (c.in-Some.item, c.in-Some.after) c.loop-piece-test.true
    (ap g.R.Reader.reads (sym c.pieces.ensures) ∙ sym c.in_ok-read.ensures ∙ c.in-Some.is))

pub returns : goal.returns
returns g c =
    ap (λ xs. (xs, c.loop-piece.rest)) c.from_vec-2.ensures
    ∙ sym (c.loop-piece.invariant
    ∙ gather-end g.R.Reader.reads c.args.row.now c.loop-piece._piece-index c.loop-piece.list.items c.loop-piece.rest
    c.loop-piece-test.false)
