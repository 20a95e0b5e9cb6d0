-- covered, or open, or behind the others
use Rattle.std.proofs.Common.{inl, inr, refl, sym, ◌∙◌}
use Rattle.std.specs.Prelude.{◌↔◌, IsTrue}
use Rattle.std.proofs.lemmas.Bool.{false≢true}
use Rattle.fvn_cover.specs.Covering.{CoversVariant}
use Rattle.fvn_cover.specs.Pruning.{IsCoveredBySome}
use Rattle.fvn_cover.proofs.Leftovers.{left_whole}
use Rattle.fvn_cover.proofs.sieve.with_one.Goals as goal

pub looked_over-requires-clause-marks : goal.looked_over-requires-clause-marks
looked_over-requires-clause-marks c = rw c.as_slice.ensures.value c.requires.marks

pub looked_over-requires-clause-flat : goal.looked_over-requires-clause-flat
looked_over-requires-clause-flat c = rw c.as_slice.ensures.value c.requires.flat

pub looked_over-requires-clause-alike : goal.looked_over-requires-clause-alike
looked_over-requires-clause-alike c = rw c.as_slice.ensures.value c.requires.alike

pub returns-then-look : goal.returns-then-look
returns-then-look c =
    let covered : IsTrue c.in_ok-look.look.covered ↔ IsCoveredBySome c.args.sig.now c.args.list.items c.args.v = rw c.as_slice.ensures.value at c.in_ok-look.ensures.covered in
    record { added = inl (covered.0 c.if-look.true, refl); marks = c.requires.marks }

pub with_open-requires-clause-marks : goal.with_open-requires-clause-marks
with_open-requires-clause-marks c = c.requires.marks

pub with_open-requires-clause-flat : goal.with_open-requires-clause-flat
with_open-requires-clause-flat c = c.requires.flat

pub with_open-requires-clause-alike : goal.with_open-requires-clause-alike
with_open-requires-clause-alike c = c.requires.alike

pub with_open-requires-clause-free : goal.with_open-requires-clause-free
with_open-requires-clause-free c =
    let covered : IsTrue c.in_ok-look.look.covered ↔ IsCoveredBySome c.args.sig.now c.args.list.items c.args.v = rw c.as_slice.ensures.value at c.in_ok-look.ensures.covered in
    λ some. false≢true (sym c.if-look.false ∙ covered.1 some)

pub returns-then-look-2 : goal.returns-then-look-2
returns-then-look-2 c = c.in_ok-some.ensures

pub with_last-requires : goal.with_last-requires
with_last-requires c = c.requires.marks

pub returns : goal.returns
returns c =
    let d = c.args.sig.now in
    let list = c.args.list.items in
    let look = rw c.as_slice.ensures.value at c.in_ok-look.ensures in
    record {
      added = inr (λ some. false≢true (sym c.if-look.false ∙ look.covered.1 some), (list, left_whole (CoversVariant d c.args.v) list (look.open c.if-look-2.false), c.in_ok-more.ensures.list));
      marks = c.in_ok-more.ensures.marks;
    }
