-- What may be parted is so under a unifier that stands for each.
use Rattle.std.proofs.Common.{◌∙◌, sym, arith}
use Rattle.std.proofs.lemmas.Bool.{eqb-false}
use Rattle.fvn_combine.proofs.Standing.{parted_open}
use Rattle.fvn_combine.proofs.looking.look_parted.Goals as goal

pub parted_identities-requires : goal.parted_identities-requires
parted_identities-requires c = record { closed = c.requires.closed; reading = c.requires.reading; heads = c.requires.heads; sorted = c.requires.sorted }

pub returns : goal.returns
returns c =
    let k = c.args.task.now in
    let s = c.args.state.now in
    let differ = eqb-false _ 0 (sym c.is_empty.ensures ∙ c.if-is_empty.false) in
    let n = c.in_ok-pairs.pairs.ok.0 in
    parted_open k c.recall.ensures c.loose_classes_part.ensures s c.requires.closed c.in_ok-pairs.pairs.items (omega (arith, differ, n)) c.in_ok-pairs.ensures
