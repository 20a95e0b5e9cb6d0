-- A column of the vector is read there, and past its last one there is none.
use Rattle.std.proofs.Common.{refl, arith}
use Rattle.std.proofs.lemmas.List.{get_or_past}
use Rattle.fvn_acunify.proofs.prefix.is_changed.Goals as goal

pub returns : goal.returns
returns c =
    let past = get_or_past c.args.changed.now c.args.j 1 (omega arith) in
    (λ _. omega (arith, past), λ _. refl)
