-- One pair of two lists of references more.
use Rattle.std.proofs.Common.{sym, ◌∙◌, arith}
use Rattle.fvn_match.specs.inner.Summands.{references}
use Rattle.fvn_match.specs.inner.Goals.{bindings_of}
use Rattle.fvn_match.proofs.Runs.{references-get, length_references}
use Rattle.fvn_match.proofs.TakingApart.{all_left, next_pair, left_refused, one_less, none_left}
use Rattle.fvn_match.proofs.apart.Apart.take_each.Goals as goal

pub loop-i-init : goal.loop-i-init
loop-i-init c = all_left c.args.sig.now (bindings_of c.args.bound.now) c.args.self.now c.requires.fits (references c.args.ps.now) (references c.args.ts.now) c.requires.pairs

pub take-requires-clause-pair : goal.take-requires-clause-pair
take-requires-clause-pair c =
    let ps = c.args.ps.now in
    let ts = c.args.ts.now in
    let i = c.loop-i.i in
    let long = length_references ps ∙ c.requires.lengths ∙ sym (length_references ts) in
    next_pair c.args.sig.now (bindings_of c.args.bound.now) c.args.self.now c.loop-i.self (references ps) (references ts) long i c.loop-i.invariant c.index-ps-i.result.now c.index-ts-i.result.now
    (let e = length_references ps in let f = c.requires.lengths in omega arith)
    (references-get ps i c.index-ps-i.result (omega (arith, c.requires.lengths)) c.index-ps-i.is) (references-get ts i c.index-ts-i.result (omega arith) c.index-ts-i.is)

pub take-requires-clause-fits : goal.take-requires-clause-fits
take-requires-clause-fits c = c.loop-i.invariant.fits

pub returns-then-not-can : goal.returns-then-not-can
returns-then-not-can c =
    let ps = c.args.ps.now in
    let ts = c.args.ts.now in
    let i = c.loop-i.i in
    let long = length_references ps ∙ c.requires.lengths ∙ sym (length_references ts) in
    left_refused c.args.sig.now (bindings_of c.args.bound.now) c.args.self.now c.loop-i.self (references ps) (references ts) long i c.loop-i.invariant c.index-ps-i.result.now c.index-ts-i.result.now
    (let e = length_references ps in let f = c.requires.lengths in omega arith)
    (references-get ps i c.index-ps-i.result (omega (arith, c.requires.lengths)) c.index-ps-i.is) (references-get ts i c.index-ts-i.result (omega arith) c.index-ts-i.is)
    c.take.new.self (rw c.if-not-can.true at c.in_ok-can.ensures)

pub loop-i-preserved : goal.loop-i-preserved
loop-i-preserved c =
    let ps = c.args.ps.now in
    let ts = c.args.ts.now in
    let i = c.loop-i.i in
    let long = length_references ps ∙ c.requires.lengths ∙ sym (length_references ts) in
    one_less c.args.sig.now (bindings_of c.args.bound.now) c.args.self.now c.loop-i.self (references ps) (references ts) long i c.loop-i.invariant c.index-ps-i.result.now c.index-ts-i.result.now
    (let e = length_references ps in let f = c.requires.lengths in omega arith)
    (references-get ps i c.index-ps-i.result (omega (arith, c.requires.lengths)) c.index-ps-i.is) (references-get ts i c.index-ts-i.result (omega arith) c.index-ts-i.is)
    c.take.new.self (rw c.if-not-can.false at c.in_ok-can.ensures)

pub returns : goal.returns
returns c =
    let ps = c.args.ps.now in
    let ts = c.args.ts.now in
    let long = length_references ps ∙ c.requires.lengths ∙ sym (length_references ts) in
    none_left c.args.sig.now (bindings_of c.args.bound.now) c.args.self.now c.loop-i.self (references ps) (references ts) long c.loop-i.i c.loop-i.invariant
    (let e = length_references ps in let f = c.requires.lengths in omega arith)
