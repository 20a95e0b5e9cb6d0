-- One pattern more.
use Rattle.std.proofs.Common.{◌≤◌, length, arith, get_or, ap}
use denote.Ref.{Bor}
use Rattle.fvn_forms.specs.Flat.{FlatTerm}
use Rattle.fvn_terms.specs.Signature.{kind}
use Rattle.fvn_match.specs.inner.Goals.{patterns_of}
use Rattle.fvn_match.specs.inner.Refusing.{is_low}
use Rattle.fvn_match.proofs.Runs.{references-get, length_references}
use Rattle.fvn_match.proofs.Hopeless.{summand_at, if_at_most, low_in-drop, low_in-past}
use Rattle.fvn_match.proofs.refusing.low_patterns.Goals as goal

pub loop-i-init : goal.loop-i-init
loop-i-init c = (omega arith, omega arith)

pub if_low-one-requires : goal.if_low-one-requires
if_low-one-requires c =
    let xs = c.args.goal.now.patterns.now in
    let p = get_or xs c.loop-i.i c.index-goal-i.result in
    let long = length_references xs in
    let one = summand_at c.args.sig.now c.args.goal.now c.requires c.loop-i.i p.now (omega arith) (references-get xs c.loop-i.i p (omega arith) (ap (λ (r : Bor FlatTerm). get_or xs c.loop-i.i r) c.index-goal-i.is)) in
    record { flat = one.flat.flat; kinded = (kind c.args.sig.now one.rank.result, one.flat.has_kind) }

pub overflow_add-n : goal.overflow_add-n
overflow_add-n c =
    let one = if_at_most (is_low c.args.sig.now c.args.s (get_or c.args.goal.now.patterns.now c.loop-i.i c.index-goal-i.result).now) 1 in
    omega (arith, one, c.if_low-one.ensures, c.loop-i.invariant.1)

pub loop-i-preserved : goal.loop-i-preserved
loop-i-preserved c =
    let xs = c.args.goal.now.patterns.now in
    let p = get_or xs c.loop-i.i c.index-goal-i.result in
    let long = length_references xs in
    let one = if_at_most (is_low c.args.sig.now c.args.s p.now) 1 in
    let e = low_in-drop c.args.sig.now c.args.s (patterns_of c.args.goal.now) c.loop-i.i p.now (omega arith) (references-get xs c.loop-i.i p (omega arith) (ap (λ (r : Bor FlatTerm). get_or xs c.loop-i.i r) c.index-goal-i.is)) in
    (omega (arith, e, c.if_low-one.ensures, c.loop-i.invariant.0), omega (arith, one, c.if_low-one.ensures, c.loop-i.invariant.1))

pub returns : goal.returns
returns c =
    let long = length_references c.args.goal.now.patterns.now in
    let past : length (patterns_of c.args.goal.now) ≤ c.loop-i.i = omega arith in
    let e = low_in-past c.args.sig.now c.args.s (patterns_of c.args.goal.now) c.loop-i.i past in
    omega (arith, e, c.loop-i.invariant.0)
