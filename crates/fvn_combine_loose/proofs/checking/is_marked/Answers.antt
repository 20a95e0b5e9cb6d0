-- What was read is the mark.
use Rattle.std.proofs.Common.{Some, sym, ap, ◌∙◌}
use Rattle.std.proofs.lemmas.Option.{slice_get-get_or}
use Rattle.fvn_combine_loose.proofs.checking.is_marked.Goals as goal

pub returns-in-Some : goal.returns-in-Some
returns-in-Some c t =
    let l = c.in-Some.ensures.lookup in
    slice_get-get_or c.args.marks.now c.args.i c.in-Some.mark.now l.3.0 ∙ ap Some (sym l.1 ∙ t)
