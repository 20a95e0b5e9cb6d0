-- the words of all rows
use Rattle.std.proofs.Common.{◌≡◌, refl}
use Rattle.fvn_cover_counts.specs.inner.Bits.{with_operators, with_variables}
use Rattle.fvn_cover_counts.proofs.MarkFacts.{marks_are}
use Rattle.fvn_cover_counts.proofs.marks.Marks.of.Goals as goal

pub returns : goal.returns
returns c =
    let up : c.operators_word.result ≡ with_operators c.args.out.bits c.args.profile.now.rows.items 0 = rw c.as_slice.ensures.value at c.operators_word.ensures in
    let down : c.variables_word.result ≡ with_variables c.args.count c.args.profile.now.rows.items 0 = rw c.as_slice-2.ensures.value at c.variables_word.ensures in
    record { marks = marks_are c.args.out c.args.profile.now c.args.count c.operators_word.result c.variables_word.result up down; out = refl }
