-- All but the two are left.
use Rattle.std.proofs.Common.{◌∷◌, [], sym, subst}
use Rattle.fvn_flat.specs.FlatPlaces.{IsDivided}
use Rattle.fvn_narrow.proofs.Divided.{divided_at, others_are}
use Rattle.fvn_narrow.proofs.summing.others_of.Goals as goal

pub returns : goal.returns
returns c = λ t u first second.
    subst (IsDivided c.args.ts.now (t ∷ u ∷ []))
    (sym (others_are c.args.ts.now c.args.i c.args.j c.new.result.items c.in_ok-first.first.items c.in_ok-second.second.items c.in_ok-all.all.items c.new.ensures.items c.in_ok-first.ensures c.in_ok-second.ensures c.in_ok-all.ensures))
    (divided_at c.args.ts.now c.args.i c.args.j c.requires.places.0 t u first second)
