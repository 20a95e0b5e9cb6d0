-- One pattern more.
use Rattle.std.proofs.Common.{◌<◌, ◌≤◌, length, arith, get_or, ap}
use denote.Ref.{Bor}
use Rattle.fvn_forms.specs.Flat.{FlatTerm}
use Rattle.std.specs.Prelude.{sum as std_sum}
use Rattle.fvn_match.specs.inner.Goals.{patterns_of}
use Rattle.fvn_match.proofs.Runs.{references-get, length_references}
use Rattle.fvn_match.proofs.Hopeless.{summand_at, few_more, crowded_hopeless}
use Rattle.fvn_match.proofs.refusing.is_crowded.Goals as goal

pub total-requires : goal.total-requires
total-requires c = c.requires.small

pub loop-i-init : goal.loop-i-init
loop-i-init c = λ v k. omega arith

pub is_single-single-requires : goal.is_single-single-requires
is_single-single-requires c =
    let xs = c.args.goal.now.patterns.now in
    let p = get_or xs c.loop-i.i c.index-goal-i.result in
    let long = length_references xs in
    summand_at c.args.sig.now c.args.goal.now c.requires c.loop-i.i p.now (omega arith) (references-get xs c.loop-i.i p (omega arith) (ap (λ (r : Bor FlatTerm). get_or xs c.loop-i.i r) c.index-goal-i.is))

pub loop-i-preserved : goal.loop-i-preserved
loop-i-preserved c = λ v k.
    let xs = c.args.goal.now.patterns.now in
    let p = get_or xs c.loop-i.i c.index-goal-i.result in
    let long = length_references xs in
    few_more c.args.sig.now c.args.goal.now.op v (patterns_of c.args.goal.now) c.loop-i.i p.now (omega arith) (references-get xs c.loop-i.i p (omega arith) (ap (λ (r : Bor FlatTerm). get_or xs c.loop-i.i r) c.index-goal-i.is))
    (c.is_single-single.ensures c.if-not-single.false v k) (c.loop-i.invariant v k)

pub returns : goal.returns
returns c = λ yes.
    let long = length_references c.args.goal.now.patterns.now in
    let all = c.total.ensures in
    let past : length (patterns_of c.args.goal.now) ≤ c.loop-i.i = omega arith in
    let many : length (patterns_of c.args.goal.now) < std_sum c.args.goal.now.left.now = omega arith in
    crowded_hopeless c.args.sig.now c.args.goal.now c.requires c.loop-i.i past many c.loop-i.invariant
