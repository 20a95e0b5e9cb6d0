-- two ranges of pieces in place of one
use Rattle.std.proofs.Common.{◌≡◌, ◌-◌, ◌+◌, ◌/◌, length, refl, arith}
use Rattle.std.proofs.lemmas.Result.{IfOk-at_ok}
use Rattle.std.proofs.lemmas.Bool.Decides.{nat_tests}
use Rattle.fvn_cover.specs.Pieces.{cut}
use Rattle.fvn_cover.proofs.Ranges.{half_fits, back_range}
use Rattle.fvn_fold.specs.Levels.{AreExpansions}
use Rattle.fvn_fold.proofs.Expansions.{expansions_joined, expandable_back}
use Rattle.fvn_fold.proofs.expanding.+pieces.Goals as goal

pub halves-returns : goal.halves-returns
halves-returns g t c =
    let s = g.E.Expander.setting c.args.work.now.expander.now in
    let drawn = g.E.Expander.drawn c.args.work.now.expander.now in
    rw c.in_ok-append.ensures.items
    (expansions_joined s drawn c.args.front.now c.args.back.now c.in_ok-es.es.items c.in_ok-rest.rest.items
    (IfOk-at_ok (λ m. AreExpansions s drawn c.args.front.now m.items) c.in_ok-es.was c.join-first.ensures.first)
    (IfOk-at_ok (λ m. AreExpansions s drawn c.args.back.now m.items) c.in_ok-rest.was c.join-first.ensures.second))

pub run-split_at-requires : goal.run-split_at-requires
run-split_at-requires g t c =
    let w = c.args.work.now in
    let size : c.piece_start.result - c.piece_start-begin.result ≡ cut w.count w.pieces (c.args.low + (c.args.high - c.args.low) / 2) - cut w.count w.pieces c.args.low = rw (c.piece_start.ensures, c.piece_start-begin.ensures) refl in
    (half_fits w.count w.pieces c.args.low c.args.high (length c.args.members.now) c.requires.range (λ e. grind (arith, nat_tests)) (c.piece_start.result - c.piece_start-begin.result) size).0

pub run-halves-requires-clause-back : goal.run-halves-requires-clause-back
run-halves-requires-clause-back g t c κs within =
    let w = c.args.work.now in
    let size : c.piece_start.result - c.piece_start-begin.result ≡ cut w.count w.pieces (c.args.low + (c.args.high - c.args.low) / 2) - cut w.count w.pieces c.args.low = rw (c.piece_start.ensures, c.piece_start-begin.ensures) refl in (
      back_range w.count w.pieces c.args.low c.args.high (length c.args.members.now) c.requires.range (λ e. grind (arith, nat_tests)) (c.piece_start.result - c.piece_start-begin.result) (length c.split_at.result.1.now) size c.split_at.ensures.back_len,
      expandable_back (g.E.Expander.setting w.expander.now) c.args.members.now (c.piece_start.result - c.piece_start-begin.result) c.split_at.result.1.now c.split_at.ensures.back c.requires.members,
    )
