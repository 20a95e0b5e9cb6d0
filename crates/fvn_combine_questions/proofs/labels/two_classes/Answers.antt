-- Two nodes.
use Rattle.std.proofs.Common.{get_or, sym}
use Rattle.fvn_combine_nodes.proofs.Lists.{two_items}
use Rattle.fvn_combine_questions.proofs.labels.two_classes.Goals as goal

pub returns : goal.returns
returns c =
    let ks = c.args.ks.now in
    record {
      left = get_or ks 0 0;
      right = get_or ks 1 0;
      nodes = two_items ks c.if-ks-ne2.false;
      left_is = sym c.class_of.ensures;
      right_is = sym c.class_of-2.ensures;
    }
