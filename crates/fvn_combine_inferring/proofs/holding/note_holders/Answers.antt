-- A class of one side is among the other.
use Rattle.std.proofs.Common.{get_or, refl}
use Rattle.fvn_combine_inferring.proofs.Told.{among_side}
use Rattle.fvn_combine_inferring.proofs.holding.note_holders.Goals as goal

pub is_summand-requires-clause-within : goal.is_summand-requires-clause-within
is_summand-requires-clause-within c = c.requires.left c.loop-k.k-index 0 c.loop-k-test.true

pub note_holder-requires : goal.note_holder-requires
note_holder-requires c =
    let xs = c.args.first.now in
    let i = c.loop-k.k-index in
    record {
      closed = c.requires.closed;
      sums = c.requires.sums;
      heads = c.requires.heads;
      addition = c.requires.addition;
      pairs = c.loop-k.invariant;
      within = c.requires.left i 0 c.loop-k-test.true;
      list = c.requires.right;
      one = c.is_summand.ensures c.if-not-is_summand.false;
      among = among_side c.args.sig.now c.args.table.now c.args.state.now c.args.known.now.sorted c.args.addition.now.operator xs c.args.second.now i (get_or xs i 0) c.loop-k-test.true refl c.requires.sides;
    }
