-- terms and values were counted
use Rattle.std.proofs.Common.{◌≡◌, ◌+◌, ◌++◌, length, ap, arith}
use Rattle.std.proofs.lemmas.List.{length-append}
use Rattle.fvn_cover.specs.Covering.{values_of}
use Rattle.fvn_cover.proofs.keeping.marks.Goals as goal

pub returns : goal.returns
returns c =
    let v = c.args.v.now in
    let long : length (v.terms ++ values_of v) ≡ length v.terms + length (values_of v) = length-append v.terms (values_of v) in
    let values = ap length c.requires.values in
    let terms = ap length c.as_slice-terms.ensures in
    c.of.ensures.marks (v.terms ++ values_of v) c.requires.profile (omega (arith, long, values, terms))
