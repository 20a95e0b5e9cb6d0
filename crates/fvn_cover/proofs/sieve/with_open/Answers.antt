-- the marks with one more, or of all anew
use Rattle.std.proofs.Common.{subst}
use Rattle.fvn_cover.specs.inner.Sieved.{HaveMarksIn}
use Rattle.fvn_cover.proofs.Sieving.{added_in}
use Rattle.fvn_cover.proofs.sieve.with_open.Goals as goal

pub with_uncovered-requires-clause-flat : goal.with_uncovered-requires-clause-flat
with_uncovered-requires-clause-flat c = c.requires.flat

pub with_uncovered-requires-clause-alike : goal.with_uncovered-requires-clause-alike
with_uncovered-requires-clause-alike c = c.requires.alike

pub with_uncovered-requires-clause-free : goal.with_uncovered-requires-clause-free
with_uncovered-requires-clause-free c = c.requires.free

pub returns-then-before-len : goal.returns-then-before-len
returns-then-before-len c = record {
  added = c.in_ok-after.ensures;
  marks = added_in c.args.marks c.in_ok-known.known c.own_marks-last.result c.in_ok-known.ensures c.args.v c.own_marks-last.ensures c.args.sig.now c.args.list.items c.in_ok-after.after.items c.in_ok-after.ensures c.requires.marks;
}

pub returns : goal.returns
returns c = record {
  added = c.in_ok-after.ensures;
  marks = subst (HaveMarksIn c.in_ok-all.all) c.as_slice.ensures.value c.in_ok-all.ensures;
}
