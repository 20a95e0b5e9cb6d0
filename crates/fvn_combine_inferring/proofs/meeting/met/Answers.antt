-- What is neither one class nor open is kept apart.
use Rattle.std.proofs.Common.{sym, ◌∙◌, arith}
use Rattle.fvn_combine_inferring.proofs.Told.{kept_apart, met_apart}
use Rattle.fvn_combine_inferring.proofs.meeting.met.Goals as goal

pub is_same-requires : goal.is_same-requires
is_same-requires c =
    let w = c.requires.closed.whole in
    let i = c.requires.left in
    let j = c.requires.right in
    record { left = omega (arith, w, i); right = omega (arith, w, j) }

pub is_open-requires : goal.is_open-requires
is_open-requires c =
    let w = c.requires.closed.whole in
    let i = c.requires.left in
    let j = c.requires.right in
    record { naming = c.requires.closed.naming; left = omega (arith, w, i); right = omega (arith, w, j) }

pub returns-then-is_open : goal.returns-then-is_open
returns-then-is_open c = record {
  open_pair = record { left = c.requires.left; right = c.requires.right; undecided = sym c.is_open.ensures ∙ c.if-is_open.true };
  equal = c.requires.equal;
}

pub returns : goal.returns
returns c = met_apart c.args.sig.now c.args.table.now c.args.state.now c.args.sorted c.args.i c.args.j c.requires.left c.requires.right c.requires.equal
    (kept_apart c.args.state.now c.args.i c.args.j (sym c.is_same.ensures ∙ c.if-is_same.false) (sym c.is_open.ensures ∙ c.if-is_open.false))
