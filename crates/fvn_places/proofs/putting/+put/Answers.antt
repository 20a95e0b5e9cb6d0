-- The argument that the path takes, with the given form put in.
use Rattle.std.proofs.Common.{sym, ◌∙◌, subst, arith}
use Rattle.fvn_flat.specs.Fits.{Fits}
use Rattle.fvn_flat.proofs.Instances.{each_at}
use Rattle.fvn_flat.proofs.Smaller.{argument_is_smaller}
use Rattle.fvn_places.specs.Putting.{CanPut, PutAs}
use Rattle.fvn_places.proofs.Arguments.{can_put_further, argument_is, is_within, may_stand, put_further, put_nowhere}
use Rattle.fvn_places.proofs.putting.+put.Goals as goal

pub bounds-ts-i : goal.bounds-ts-i
bounds-ts-i t c = is_within c.args.sig.now c.args.path.now c.args.t.now c.args.given.now c.requires.given c.in-Some.i c.in-Some.rest.now (rw c.in-Some.is at c.first_step.ensures) c.args-ts.result.now c.args-ts.ensures.exact

pub put-requires : goal.put-requires
put-requires t c =
    let d = c.args.sig.now in
    let ts = c.args-ts.result.now in
    let i = c.in-Some.i in
    let e = rw c.in-Some.is at c.first_step.ensures in
    let within = is_within d c.args.path.now c.args.t.now c.args.given.now c.requires.given i c.in-Some.rest.now e ts c.args-ts.ensures.exact in
    let same = argument_is d c.args.path.now c.args.t.now c.args.given.now c.requires.given i c.in-Some.rest.now e ts c.index-ts-i.result c.args-ts.ensures.exact c.index-ts-i.is in (
      omega (arith, argument_is_smaller c.args.t.now ts i c.index-ts-i.result c.args-ts.ensures.exact within c.index-ts-i.is),
      (
        each_at (Fits d) ts (c.args-ts.ensures.fit d c.recall_good.ensures.fits c.requires.term) i c.index-ts-i.result within c.index-ts-i.is,
        subst (λ w. CanPut d c.in-Some.rest.now w c.args.given.now) (sym same) (can_put_further d c.args.path.now c.args.t.now c.args.given.now c.requires.given i c.in-Some.rest.now e),
      ),
    )

pub with_argument-requires-clause-argument : goal.with_argument-requires-clause-argument
with_argument-requires-clause-argument t c =
    let d = c.args.sig.now in
    let ts = c.args-ts.result.now in
    let i = c.in-Some.i in
    let e = rw c.in-Some.is at c.first_step.ensures in
    let low = is_within d c.args.path.now c.args.t.now c.args.given.now c.requires.given i c.in-Some.rest.now e ts c.args-ts.ensures.exact in
    let same = argument_is d c.args.path.now c.args.t.now c.args.given.now c.requires.given i c.in-Some.rest.now e ts c.index-ts-i.result c.args-ts.ensures.exact c.index-ts-i.is in
    may_stand d c.args.path.now c.args.t.now c.args.given.now c.requires.given i c.in-Some.rest.now e c.in_ok-u.u (subst (λ w. PutAs d c.in-Some.rest.now w c.args.given.now c.in_ok-u.u) same c.in_ok-u.ensures)

pub returns-in_default : goal.returns-in_default
returns-in_default t c =
    subst (PutAs c.args.sig.now c.args.path.now c.args.t.now c.args.given.now) (sym c.in_ok-whole.ensures)
    (put_nowhere c.args.sig.now c.args.path.now c.args.t.now c.args.given.now c.requires.given c.recall_good.ensures.fits (rw c.in_default.is at c.first_step.ensures))

pub returns : goal.returns
returns t c =
    let d = c.args.sig.now in
    let ts = c.args-ts.result.now in
    let i = c.in-Some.i in
    let e = rw c.in-Some.is at c.first_step.ensures in
    let low = is_within d c.args.path.now c.args.t.now c.args.given.now c.requires.given i c.in-Some.rest.now e ts c.args-ts.ensures.exact in
    let same = argument_is d c.args.path.now c.args.t.now c.args.given.now c.requires.given i c.in-Some.rest.now e ts c.index-ts-i.result c.args-ts.ensures.exact c.index-ts-i.is in
    put_further d c.args.path.now c.args.t.now c.args.given.now c.requires.given i c.in-Some.rest.now e c.recall_good.ensures.fits c.requires.term c.in-Some-head.f (sym c.head.ensures ∙ c.in-Some-head.is) c.in_ok-u.u c.in_ok-whole-3.whole
    (subst (λ w. PutAs d c.in-Some.rest.now w c.args.given.now c.in_ok-u.u) same c.in_ok-u.ensures) c.in_ok-whole-3.ensures
