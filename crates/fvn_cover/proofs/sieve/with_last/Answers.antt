-- one more of each
use Rattle.fvn_cover.proofs.Sieving.{longer_in}
use Rattle.fvn_cover.proofs.sieve.with_last.Goals as goal

pub returns : goal.returns
returns c = record {
  list = c.in_ok-push.ensures.items;
  marks = longer_in c.args.marks c.in_ok-known.known c.own_marks.result c.in_ok-known.ensures c.args.v c.own_marks.ensures c.args.list.items _ c.in_ok-push.ensures.items c.requires;
}
