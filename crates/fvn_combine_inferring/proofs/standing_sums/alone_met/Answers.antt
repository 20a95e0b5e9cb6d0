-- The one class and the node have the same summands.
use Rattle.std.proofs.Common.{◌≡◌, ℕ, ◌∷◌, [], length, refl}
use Rattle.std.proofs.lemmas.List.Elements.{All-nil, All-cons}
use Rattle.fvn_combine_inferring.proofs.Told.{cancelled_met, only_within}
use Rattle.fvn_combine_inferring.proofs.standing_sums.alone_met.Goals as goal

pub met-requires : goal.met-requires
met-requires c =
    let t = c.args.table.now in
    let j = c.in-Some.j in
    let k = c.in-Some-the_one.k in
    let list = c.args.list.now in
    let is_it = λ (x : ℕ). x ≡ j in
    record {
      closed = c.requires.closed;
      left = only_within (length t.nodes) k list c.in-Some-the_one.ensures.some c.in-Some-the_one.ensures.all c.requires.within;
      right = rw c.in-Some.is at c.requires.other;
      equal = cancelled_met c.args.sig.now t c.args.state.now c.args.sorted c.args.addition.now.operator k j list (j ∷ []) c.in-Some-the_one.ensures.some c.requires.one c.in-Some-the_one.ensures.all (All-cons is_it j [] refl (All-nil is_it)) (rw c.in-Some.is at c.requires.sides);
    }
