-- The operator at this place, with its minimal solutions.
use Rattle.std.proofs.Common.{◌≡◌, ◌<◌, List, [], length, get_or, refl, sym, ◌∙◌, subst, arith}
use Rattle.std.proofs.lemmas.List.{get_or_default}
use Rattle.std.proofs.lemmas.List.Elements.{All-get_or}
use Rattle.std.proofs.lemmas.Option.{slice_get_read}
use Rattle.fvn_combine_leaves.specs.declared.reading.Sums.{Sums}
use Rattle.fvn_combine_leaves.specs.Users.{IsWholeSums}
use Rattle.fvn_combine.specs.inner.Homes.{HasHomeless}
use Rattle.fvn_combine.proofs.homes.leave_homeless.Goals as goal

pub has_homeless-requires-clause-sums : goal.has_homeless-requires-clause-sums
has_homeless-requires-clause-sums c =
    let r = c.args.reading.now in
    let within : c.loop-i.i < length r.sums = subst (λ (xs : List Sums). c.loop-i.i < length xs) c.as_slice-sums.ensures c.loop-i-test.true in
    let at = subst (λ (xs : List Sums). c.index-sums-i.result ≡ get_or xs c.loop-i.i c.index-sums-i.result) c.as_slice-sums.ensures c.index-sums-i.is in
    subst (IsWholeSums (length r.heads)) (sym at) (All-get_or (IsWholeSums (length r.heads)) r.sums c.loop-i.i c.index-sums-i.result within c.requires.whole.sums)

pub returns-then-has_homeless : goal.returns-then-has_homeless
returns-then-has_homeless c t =
    let r = c.args.reading.now in
    let within : c.loop-i.i < length r.sums = subst (λ (xs : List Sums). c.loop-i.i < length xs) c.as_slice-sums.ensures c.loop-i-test.true in
    let at = subst (λ (xs : List Sums). c.index-sums-i.result ≡ get_or xs c.loop-i.i c.index-sums-i.result) c.as_slice-sums.ensures c.index-sums-i.is in
    let many = c.requires.bases in
    let basis = c.as_slice.ensures ∙ c.index-bases-i.is ∙ get_or_default c.args.bases.now c.loop-i.i c.index-bases-i.result [] (omega (arith, within, many)) in
    record {
      place = c.loop-i.i;
      entry = c.index-sums-i.result;
      is = slice_get_read r.sums (length r.sums) c.loop-i.i c.index-sums-i.result refl within at;
      homeless = subst (HasHomeless c.args.decided.now c.args.tags.now r c.index-sums-i.result) basis (c.has_homeless.ensures c.if-has_homeless.true);
    }
