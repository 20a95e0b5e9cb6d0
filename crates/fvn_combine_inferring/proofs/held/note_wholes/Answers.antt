-- A class of one side is among the other.
use Rattle.std.proofs.Common.{All, get_or, refl, sym, subst}
use Rattle.std.proofs.lemmas.List.Elements.{All-push}
use Rattle.fvn_combine_inferring.specs.Rows.{IsHeld}
use Rattle.fvn_combine_inferring.proofs.Told.{among_side}
use Rattle.fvn_combine_inferring.proofs.held.note_wholes.Goals as goal

pub loop-k-init : goal.loop-k-init
loop-k-init c = c.requires.held

pub whole_of-requires : goal.whole_of-requires
whole_of-requires c =
    let xs = c.args.first.now in
    let i = c.loop-k.k-index in
    record {
      closed = c.requires.closed;
      sums = c.requires.sums;
      heads = c.requires.heads;
      addition = c.requires.addition;
      within = c.requires.left i 0 c.loop-k-test.true;
      list = c.requires.right;
      among = among_side c.args.sig.now c.args.table.now c.args.state.now c.args.known.now.sorted c.args.addition.now.operator xs c.args.second.now i (get_or xs i 0) c.loop-k-test.true refl c.requires.sides;
    }

pub loop-k-preserved : goal.loop-k-preserved
loop-k-preserved c =
    let held = IsHeld c.args.sig.now c.args.table.now c.args.state.now c.args.known.now.sorted in
    let i = c.loop-k.k-index in
    subst (All held) (sym c.in_ok-push.ensures.items)
    (All-push held c.loop-k.held.items _ c.loop-k.invariant (record {
      part = c.requires.left i 0 c.loop-k-test.true;
      whole = c.in-Some.ensures.within;
      associative = c.requires.addition.associative;
      holds = c.in-Some.ensures.holds;
    }))
