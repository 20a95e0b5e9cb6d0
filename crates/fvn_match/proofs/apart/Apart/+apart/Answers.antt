-- A pair is bound, kept, refused or taken apart; two pairs; one pair of two lists more.
use Rattle.std.proofs.Common.{◌≡◌, ◌+◌, [], ◌∷◌, sym, ap, ◌∙◌, subst, arith}
use Rattle.std.proofs.lemmas.Bool.{false≢true}
use Rattle.fvn_forms.specs.Canon.{inst}
use Rattle.fvn_match.specs.inner.Goals.{bindings_of, IsPair, weight, weight_of}
use Rattle.fvn_match.specs.inner.Apart.{values_with, IsOnlyOrder, IsTakenApart, TakesApart}
use Rattle.fvn_match.proofs.PairSteps.{variable_is, variable_or_head}
use Rattle.fvn_match.proofs.PairFinding.{zip_long, two_is}
use Rattle.fvn_match.proofs.Weights.{weight_args}
use Rattle.fvn_match.proofs.TakingApart.{never_headed, pairs_of_free, taken_by_args, all_left, next_pair, next_weight, left_refused, one_less, none_left}
use Rattle.fvn_match.proofs.Commuting.{never_shared, both_patterns, both_targets, both_crossing, taken_in_order, first_of_two, second_of_two, first_refused, both_taken}
use Rattle.fvn_match.proofs.apart.Apart.+apart.Goals as goal

pub take-variable-requires-clause-pair : goal.take-variable-requires-clause-pair
take-variable-requires-clause-pair t c = subst (λ u. IsPair c.args.sig.now u c.args.t.now) (variable_is c.args.p.now c.in-Some.x (sym c.in-Some.ensures)) c.requires.pair

pub take-returns-in-Some : goal.take-returns-in-Some
take-returns-in-Some t c =
    let d = c.args.sig.now in
    subst (λ u. TakesApart d (bindings_of c.args.bound.now) c.args.self.now c.variable.new.self (λ v. inst d v u ≡ c.args.t.now) (weight u + 2) c.in_ok-can.can) (sym (variable_is c.args.p.now c.in-Some.x (sym c.in-Some.ensures))) c.in_ok-can.ensures

pub take-returns-in-None : goal.take-returns-in-None
take-returns-in-None t c = absurd (variable_or_head c.args.p.now (sym c.in_default.ensures) (sym c.in-None.ensures))

pub take-take_either-requires : goal.take-take_either-requires
take-take_either-requires t c = (omega arith, (c.has_two_orders-two.ensures c.if-two.true, (sym c.in-Some-head.ensures, (c.requires.pair, c.requires.fits))))

pub take-returns-then-two : goal.take-returns-then-two
take-returns-then-two t c = c.in_ok-made.ensures

pub take-returns-then-not-free : goal.take-returns-then-not-free
take-returns-then-not-free t c = c.in_ok-kept.ensures

pub take-returns-then-not-headed : goal.take-returns-then-not-headed
take-returns-then-not-headed t c = λ v k is asked.
    never_headed c.args.sig.now (bindings_of c.args.bound.now) c.recall_good.ensures.fits c.in-Some-head.f c.args.p.now c.args.t.now c.requires.pair (sym c.in-Some-head.ensures) (c.is_free-free.ensures c.if-not-free.false)
    (λ h. false≢true (sym c.if-not-headed.true ∙ c.is_headed-headed.ensures.1 h)) v k is

pub take-take_all-requires : goal.take-take_all-requires
take-take_all-requires t c =
    let d = c.args.sig.now in
    let w = weight_args c.args.p.now c.in-Some-head.f (sym c.in-Some-head.ensures) in
    let v = ap weight_of c.args-2.ensures.exact in
    let pairs =
    pairs_of_free d (bindings_of c.args.bound.now) c.recall_good.ensures.fits c.in-Some-head.f c.args.p.now c.args.t.now c.requires.pair (sym c.in-Some-head.ensures) (c.is_free-free.ensures c.if-not-free.false)
    (c.is_headed-headed.ensures.0 c.if-not-headed.false) c.args-2.result.now c.args-3.result.now c.args-2.ensures.exact c.args-3.ensures.exact in
    (omega (arith, w, v), (zip_long (IsPair d) c.args-2.result.now c.args-3.result.now pairs, (pairs, c.requires.fits)))

pub take-returns : goal.take-returns
take-returns t c =
    let w = weight_args c.args.p.now c.in-Some-head.f (sym c.in-Some-head.ensures) in
    let v = ap weight_of c.args-2.ensures.exact in
    taken_by_args c.args.sig.now (bindings_of c.args.bound.now) c.recall_good.ensures.fits c.in-Some-head.f c.args.p.now c.args.t.now c.requires.pair (sym c.in-Some-head.ensures) (c.is_free-free.ensures c.if-not-free.false)
    (c.is_headed-headed.ensures.0 c.if-not-headed.false) c.args-2.result.now c.args-3.result.now c.args-2.ensures.exact c.args-3.ensures.exact
    c.args.self.now c.take_all.new.self (weight c.args.p.now + 2) (omega (arith, w, v)) c.in_ok-all.all c.in_ok-all.ensures

-- a commutative pair
pub take_either-returns-then-not-shared : goal.take_either-returns-then-not-shared
take_either-returns-then-not-shared t c = λ v k is asked.
    never_shared c.args.sig.now (bindings_of c.args.bound.now) c.recall_good.ensures.fits c.args.f c.args.p.now c.args.t.now c.requires.pair c.requires.head c.requires.commutative
    (λ h. false≢true (sym c.if-not-shared.true ∙ c.is_headed-shared.ensures.1 h)) v k is

pub take_either-only_order-requires-clause-patterns : goal.take_either-only_order-requires-clause-patterns
take_either-only_order-requires-clause-patterns t c =
    both_patterns c.args.sig.now (bindings_of c.args.bound.now) c.recall_good.ensures.fits c.args.f c.args.p.now c.args.t.now c.requires.pair c.requires.head c.requires.commutative
    (c.is_headed-shared.ensures.0 c.if-not-shared.false) c.args-ps.result.now c.args-ts.result.now c.args-ps.ensures.exact c.args-ts.ensures.exact

pub take_either-only_order-requires-clause-targets : goal.take_either-only_order-requires-clause-targets
take_either-only_order-requires-clause-targets t c =
    both_targets c.args.sig.now (bindings_of c.args.bound.now) c.recall_good.ensures.fits c.args.f c.args.p.now c.args.t.now c.requires.pair c.requires.head c.requires.commutative
    (c.is_headed-shared.ensures.0 c.if-not-shared.false) c.args-ps.result.now c.args-ts.result.now c.args-ps.ensures.exact c.args-ts.ensures.exact

pub take_either-only_order-requires-clause-pairs : goal.take_either-only_order-requires-clause-pairs
take_either-only_order-requires-clause-pairs t c =
    both_crossing c.args.sig.now (bindings_of c.args.bound.now) c.recall_good.ensures.fits c.args.f c.args.p.now c.args.t.now c.requires.pair c.requires.head c.requires.commutative
    (c.is_headed-shared.ensures.0 c.if-not-shared.false) c.args-ps.result.now c.args-ts.result.now c.args-ps.ensures.exact c.args-ts.ensures.exact

pub take_either-returns-in-None : goal.take_either-returns-in-None
take_either-returns-in-None t c = c.in_ok-kept-in-None.ensures

pub take_either-take_both-requires : goal.take_either-take_both-requires
take_either-take_both-requires t c =
    let w = weight_args c.args.p.now c.args.f c.requires.head in
    let v = ap weight_of c.args-ps.ensures.exact in
    let d = c.args.sig.now in
    let us = c.in-Some.order.first.now ∷ c.in-Some.order.second.now ∷ [] in
    let only : IsOnlyOrder d (values_with d (bindings_of c.args.bound.now) c.args.self.now) c.args-ps.result.now c.args-ts.result.now us = c.in-Some.ensures in
    let two =
    both_patterns c.args.sig.now (bindings_of c.args.bound.now) c.recall_good.ensures.fits c.args.f c.args.p.now c.args.t.now c.requires.pair c.requires.head c.requires.commutative
    (c.is_headed-shared.ensures.0 c.if-not-shared.false) c.args-ps.result.now c.args-ts.result.now c.args-ps.ensures.exact c.args-ts.ensures.exact in
    (omega (arith, w, v), (two, (only.pairs, c.requires.fits)))

pub take_either-returns : goal.take_either-returns
take_either-returns t c =
    taken_in_order c.args.sig.now (bindings_of c.args.bound.now) c.recall_good.ensures.fits c.args.f c.args.p.now c.args.t.now c.requires.pair c.requires.head c.requires.commutative
    (c.is_headed-shared.ensures.0 c.if-not-shared.false) c.args-ps.result.now c.args-ts.result.now c.args-ps.ensures.exact c.args-ts.ensures.exact
    c.args.self.now c.take_both.new.self (c.in-Some.order.first.now ∷ c.in-Some.order.second.now ∷ []) c.in-Some.ensures c.in_ok-both.both c.in_ok-both.ensures

-- two pairs
pub take_both-take-requires : goal.take_both-take-requires
take_both-take-requires t c =
    let d = c.args.sig.now in
    let ps_are = two_is c.args.ps.now c.index-ps-0.result c.index-ps-1.result c.requires.two c.index-ps-0.is c.index-ps-1.is in
    let w = ap weight_of ps_are in
    (omega (arith, w), (first_of_two d (bindings_of c.args.bound.now) c.args.ps.now c.index-ps-0.result c.index-ps-1.result ps_are c.args.t.now c.args.u.now c.requires.pairs, c.requires.fits))

pub take_both-returns-then-not-can : goal.take_both-returns-then-not-can
take_both-returns-then-not-can t c =
    let ps_are = two_is c.args.ps.now c.index-ps-0.result c.index-ps-1.result c.requires.two c.index-ps-0.is c.index-ps-1.is in
    first_refused c.args.sig.now (bindings_of c.args.bound.now) c.args.ps.now c.index-ps-0.result c.index-ps-1.result ps_are c.args.t.now c.args.u.now
    c.args.self.now c.take.new.self c.take.new.self (rw c.if-not-can.true at c.in_ok-can.ensures)

pub take_both-take-requires-2 : goal.take_both-take-requires-2
take_both-take-requires-2 t c =
    let d = c.args.sig.now in
    let b = bindings_of c.args.bound.now in
    let ps_are = two_is c.args.ps.now c.index-ps-0.result c.index-ps-1.result c.requires.two c.index-ps-0.is c.index-ps-1.is in
    let w = ap weight_of ps_are in
    let taken : IsTakenApart d b c.args.self.now c.take.new.self (λ v. inst d v c.index-ps-0.result ≡ c.args.t.now) (weight c.index-ps-0.result + 2) = rw c.if-not-can.false at c.in_ok-can.ensures in
    (omega (arith, w), (second_of_two d b c.args.ps.now c.index-ps-0.result c.index-ps-1.result ps_are c.args.t.now c.args.u.now c.requires.pairs, taken.fits))

pub take_both-returns : goal.take_both-returns
take_both-returns t c =
    let ps_are = two_is c.args.ps.now c.index-ps-0.result c.index-ps-1.result c.requires.two c.index-ps-0.is c.index-ps-1.is in
    both_taken c.args.sig.now (bindings_of c.args.bound.now) c.args.ps.now c.index-ps-0.result c.index-ps-1.result ps_are c.args.t.now c.args.u.now
    c.args.self.now c.take.new.self c.take-2.new.self (rw c.if-not-can.false at c.in_ok-can.ensures) c.in_ok-both.both c.in_ok-both.ensures

-- two lists
pub take_all-loop-i-init : goal.take_all-loop-i-init
take_all-loop-i-init t c = all_left c.args.sig.now (bindings_of c.args.bound.now) c.args.self.now c.requires.fits c.args.ps.now c.args.ts.now c.requires.pairs

pub take_all-take-requires : goal.take_all-take-requires
take_all-take-requires t c =
    let d = c.args.sig.now in
    let b = bindings_of c.args.bound.now in
    let w = next_weight d b c.args.self.now c.loop-i.self c.args.ps.now c.args.ts.now c.requires.lengths c.loop-i.i c.loop-i.invariant c.index-ps-i.result c.index-ts-i.result (omega arith) c.index-ps-i.is c.index-ts-i.is in
    (omega (arith, w), (next_pair d b c.args.self.now c.loop-i.self c.args.ps.now c.args.ts.now c.requires.lengths c.loop-i.i c.loop-i.invariant c.index-ps-i.result c.index-ts-i.result (omega arith) c.index-ps-i.is c.index-ts-i.is, c.loop-i.invariant.fits))

pub take_all-returns-then-not-can : goal.take_all-returns-then-not-can
take_all-returns-then-not-can t c =
    let d = c.args.sig.now in
    let b = bindings_of c.args.bound.now in
    left_refused d b c.args.self.now c.loop-i.self c.args.ps.now c.args.ts.now c.requires.lengths c.loop-i.i c.loop-i.invariant c.index-ps-i.result c.index-ts-i.result (omega arith) c.index-ps-i.is c.index-ts-i.is
    c.take.new.self (rw c.if-not-can.true at c.in_ok-can.ensures)

pub take_all-loop-i-preserved : goal.take_all-loop-i-preserved
take_all-loop-i-preserved t c =
    let d = c.args.sig.now in
    let b = bindings_of c.args.bound.now in
    one_less d b c.args.self.now c.loop-i.self c.args.ps.now c.args.ts.now c.requires.lengths c.loop-i.i c.loop-i.invariant c.index-ps-i.result c.index-ts-i.result (omega arith) c.index-ps-i.is c.index-ts-i.is
    c.take.new.self (rw c.if-not-can.false at c.in_ok-can.ensures)

pub take_all-returns : goal.take_all-returns
take_all-returns t c =
    none_left c.args.sig.now (bindings_of c.args.bound.now) c.args.self.now c.loop-i.self c.args.ps.now c.args.ts.now c.requires.lengths c.loop-i.i c.loop-i.invariant (omega arith)
