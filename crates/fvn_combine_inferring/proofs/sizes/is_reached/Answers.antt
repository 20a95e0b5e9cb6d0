-- What is noted of the class holds.
use Rattle.std.proofs.Common.{sym, ◌∙◌, subst, arith}
use Rattle.std.proofs.lemmas.Bool.{eqb-true}
use Rattle.fvn_combine_inferring.specs.inner.Sizes.{IsNoted}
use Rattle.fvn_combine_inferring.proofs.Sizing.{none_noted, note_more}
use Rattle.fvn_combine_inferring.proofs.sizes.is_reached.Goals as goal

pub returns : goal.returns
returns c t w said =
    let k = c.args.k in
    let l = c.args.l in
    let begun = note_more w k _ _ k 1 c.note-new.ensures (omega arith) (none_noted w k 512) in
    let all = c.follow_chains.ensures w k said begun in
    subst (IsNoted w k l) (sym c.noted.ensures ∙ eqb-true c.noted.result 2 t) (all l)
