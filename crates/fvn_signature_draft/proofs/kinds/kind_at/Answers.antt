-- The kind of a sort stands at its place.
use Rattle.std.proofs.Common.{◌≡◌, length, map, ap, arith}
use Rattle.fvn_signature.specs.FirstSorts.{first_sorts}
use Rattle.fvn_signature_draft.specs.Collected.{kind_of}
use Rattle.fvn_signature_draft.proofs.Parts.{kinds-length, kinds-at}
use Rattle.fvn_signature_draft.proofs.kinds.kind_at.Goals as goal

pub bounds-kinds-from : goal.bounds-kinds-from
bounds-kinds-from c =
    let long : length (map (kind_of c.args.collected.now) (first_sorts c.args.collected.now.sorts)) ≡ c.args.collected.now.sorts = kinds-length c.args.collected.now c.args.collected.now.sorts in
    let same : length c.args.kinds.now ≡ length (map (kind_of c.args.collected.now) (first_sorts c.args.collected.now.sorts)) = ap length c.requires.kinds in
    omega (arith, long, same, c.requires.declared, c.from.ensures)

pub returns : goal.returns
returns c = rw (c.from.ensures, c.requires.kinds) (kinds-at c.args.collected.now c.args.collected.now.sorts c.args.s (record { 0 = 0 }) c.requires.declared)
