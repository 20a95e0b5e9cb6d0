-- One piece more.
use Rattle.std.proofs.Common.{◌≤◌, length, get_or, arith, ap}
use denote.Ref.{Bor}
use Rattle.fvn_forms.specs.Flat.{FlatTerm}
use Rattle.fvn_match.specs.inner.Goals.{pieces_of}
use Rattle.fvn_match.proofs.Runs.{references-get, length_references}
use Rattle.fvn_match.proofs.Hopeless.{piece_fits, low_left-drop, low_left-past, low_left-le}
use Rattle.fvn_match.proofs.refusing.low_pieces.Goals as goal

pub loop-i-init : goal.loop-i-init
loop-i-init c = omega arith

pub if_low-more-requires : goal.if_low-more-requires
if_low-more-requires c =
    let xs = c.args.goal.now.pieces.now in
    let p = get_or xs c.loop-i.i c.index-goal-i.result in
    let long = length_references xs in
    piece_fits c.args.sig.now c.args.goal.now c.requires c.loop-i.i p.now (omega arith) (references-get xs c.loop-i.i p (omega arith) (ap (λ (r : Bor FlatTerm). get_or xs c.loop-i.i r) c.index-goal-i.is))

pub overflow_add-n : goal.overflow_add-n
overflow_add-n c =
    let d = c.args.sig.now in
    let xs = c.args.goal.now.pieces.now in
    let p = get_or xs c.loop-i.i c.index-goal-i.result in
    let long = length_references xs in
    let e = low_left-drop d c.args.s (pieces_of c.args.goal.now) c.args.goal.now.left.now c.loop-i.i p.now 0 (omega arith) (omega (arith, c.requires.long)) (references-get xs c.loop-i.i p (omega arith) (ap (λ (r : Bor FlatTerm). get_or xs c.loop-i.i r) c.index-goal-i.is)) in
    let most = low_left-le d c.args.s (pieces_of c.args.goal.now) c.args.goal.now.left.now in
    omega (arith, e, most, c.if_low-more.ensures, c.loop-i.invariant, c.requires.small)

pub loop-i-preserved : goal.loop-i-preserved
loop-i-preserved c =
    let d = c.args.sig.now in
    let xs = c.args.goal.now.pieces.now in
    let p = get_or xs c.loop-i.i c.index-goal-i.result in
    let long = length_references xs in
    let e = low_left-drop d c.args.s (pieces_of c.args.goal.now) c.args.goal.now.left.now c.loop-i.i p.now 0 (omega arith) (omega (arith, c.requires.long)) (references-get xs c.loop-i.i p (omega arith) (ap (λ (r : Bor FlatTerm). get_or xs c.loop-i.i r) c.index-goal-i.is)) in
    omega (arith, e, c.if_low-more.ensures, c.loop-i.invariant)

pub returns : goal.returns
returns c =
    let long = length_references c.args.goal.now.pieces.now in
    let past : length (pieces_of c.args.goal.now) ≤ c.loop-i.i = omega arith in
    let e = low_left-past c.args.sig.now c.args.s (pieces_of c.args.goal.now) c.args.goal.now.left.now c.loop-i.i past in
    omega (arith, e, c.loop-i.invariant)
