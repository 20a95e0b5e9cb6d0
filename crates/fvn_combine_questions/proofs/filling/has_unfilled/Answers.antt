-- The operator's columns and solutions.
use Rattle.std.proofs.Common.{◌≡◌, ◌<◌, List, length, get_or, sym, subst, refl, arith}
use Rattle.std.proofs.lemmas.Option.{slice_get_read}
use Rattle.fvn_combine_leaves.specs.declared.reading.Sums.{Sums}
use Rattle.fvn_combine_questions.specs.inner.Touched.{AreWide, IsNotedIn}
use Rattle.fvn_combine_questions.specs.inner.Filling.{IsUnfilledIn}
use Rattle.fvn_combine_questions.proofs.Passing.{basis_at}
use Rattle.fvn_combine_questions.proofs.filling.has_unfilled.Goals as goal

pub has_unfilled_in-requires-clause-wide : goal.has_unfilled_in-requires-clause-wide
has_unfilled_in-requires-clause-wide c =
    let sums = c.args.reading.now.sums in
    let within : c.loop-i.i < length sums = subst (λ (xs : List Sums). c.loop-i.i < length xs) c.as_slice-sums.ensures c.loop-i-test.true in
    let at = subst (λ (xs : List Sums). c.index-sums-i.result ≡ get_or xs c.loop-i.i c.index-sums-i.result) c.as_slice-sums.ensures c.index-sums-i.is in
    let many = c.requires.as_many in
    subst (AreWide (length c.index-sums-i.result.columns)) (basis_at c.args.bases.now c.loop-i.i c.index-bases-i.result c.as_slice.result.now (omega (arith, within, many)) c.index-bases-i.is c.as_slice.ensures)
    (c.requires.wide c.loop-i.i c.index-sums-i.result (slice_get_read sums (length sums) c.loop-i.i c.index-sums-i.result refl within at))

pub returns-then-has_unfilled_in : goal.returns-then-has_unfilled_in
returns-then-has_unfilled_in c =
    let sums = c.args.reading.now.sums in
    let within : c.loop-i.i < length sums = subst (λ (xs : List Sums). c.loop-i.i < length xs) c.as_slice-sums.ensures c.loop-i-test.true in
    let at = subst (λ (xs : List Sums). c.index-sums-i.result ≡ get_or xs c.loop-i.i c.index-sums-i.result) c.as_slice-sums.ensures c.index-sums-i.is in
    let many = c.requires.as_many in
    λ _. record {
      place = c.loop-i.i;
      entry = c.index-sums-i.result;
      at = slice_get_read sums (length sums) c.loop-i.i c.index-sums-i.result refl within at;
      unfilled = subst (IsUnfilledIn c.args.sig.now c.args.reading.now c.index-sums-i.result c.args.state.now (IsNotedIn c.args.sig.now c.args.heads.now))
          (sym (basis_at c.args.bases.now c.loop-i.i c.index-bases-i.result c.as_slice.result.now (omega (arith, within, many)) c.index-bases-i.is c.as_slice.ensures))
          (c.has_unfilled_in.ensures c.if-has_unfilled_in.true);
    }
