-- one piece, or as many as there are for each copy
use Rattle.std.proofs.Common.{sym, ap, ◌∙◌, ◌-◌, ◌/◌, length, subst}
use Rattle.std.specs.Prelude.{sum as std_sum}
use Rattle.std.specs.List.{AllByRecursion}
use Rattle.fvn_terms.specs.Signature.{kind}
use Rattle.fvn_match.specs.inner.Goals.{IsFlatOf}
use Rattle.fvn_match.specs.inner.Searching.{IsRoom}
use Rattle.fvn_match.proofs.Runs.{length_references}
use Rattle.fvn_match.proofs.Rooms.{room_of_all, room_beside_others}
use Rattle.fvn_match.proofs.wholes.room.Goals as goal

pub is_single-requires : goal.is_single-requires
is_single-requires c =
    let fit = c.requires.fits in
    let flat = (subst (AllByRecursion (IsFlatOf c.args.sig.now (kind c.args.sig.now fit.rank.result))) c.requires.group.first fit.patterns).0 in
    record { associative = fit.associative; rank = fit.rank; listed = fit.listed; flat = flat }

pub total-all-requires : goal.total-all-requires
total-all-requires c = c.requires.fits.small

pub returns-then-is_single : goal.returns-then-is_single
returns-then-is_single c = λ v k h. c.is_single.ensures c.if-is_single.true v k

pub returns-in-Some : goal.returns-in-Some
returns-in-Some c =
    subst (λ n. IsRoom c.args.sig.now c.args.goal.now c.args.p.now (n / c.args.k)) (sym c.total-all.ensures) (room_of_all c.args.sig.now c.args.goal.now c.requires.fits c.args.p.now c.args.k c.requires.group)

pub returns-in-None : goal.returns-in-None
returns-in-None c =
    subst (λ n. IsRoom c.args.sig.now c.args.goal.now c.args.p.now (n / c.args.k)) (sym (c.saturating_sub.ensures ∙ ap (λ n. n - (length c.args.goal.now.patterns.now - c.args.k)) c.total-all.ensures))
    (subst (λ m. IsRoom c.args.sig.now c.args.goal.now c.args.p.now ((std_sum c.args.goal.now.left.now - (m - c.args.k)) / c.args.k)) (length_references c.args.goal.now.patterns.now)
    (room_beside_others c.args.sig.now c.args.goal.now c.requires.fits c.args.p.now c.args.k c.requires.group (sym c.in-None.ensures)))
