-- One argument more, and the form itself.
use Rattle.std.proofs.Common.{◌≡◌, ◌<◌, ◌≤◌, length, All, Some, refl, sym, ◌∙◌, subst, arith}
use Rattle.std.specs.Prelude.{slice_get}
use Rattle.std.proofs.lemmas.List.{take_all}
use Rattle.std.proofs.lemmas.List.Elements.{All-nil, All-more}
use Rattle.std.proofs.lemmas.Option.{slice_get_read}
use Rattle.fvn_flat.specs.Fits.{Fits}
use Rattle.fvn_flat.proofs.Instances.{each_at}
use Rattle.fvn_flat.proofs.Smaller.{argument_is_smaller}
use Rattle.fvn_theory.specs.Equations.{equations_of}
use Rattle.fvn_rewrite.specs.inner.Walking.{HasNoRedex}
use Rattle.fvn_rewrite.proofs.Placed.{headless_has_no_redex}
use Rattle.fvn_rewrite.proofs.Roots.{have_one_kind}
use Rattle.fvn_rewrite.proofs.Tested.{walk_told, argument_told}
use Rattle.fvn_rewrite.proofs.testing.+has_redex.Goals as goal

pub has_redex-requires : goal.has_redex-requires
has_redex-requires t c =
    let d = c.args.sig.now in
    let ts = c.args-ts.result.now in
    let within : c.loop-i.i < length ts = omega (arith, c.loop-i-test.true) in (
      omega (arith, argument_is_smaller c.args.t.now ts c.loop-i.i c.index-ts-i.result c.args-ts.ensures.exact within c.index-ts-i.is),
      (c.requires.rules, each_at (Fits d) ts (c.args-ts.ensures.fit d c.recall_good.ensures.fits c.requires.term) c.loop-i.i c.index-ts-i.result within c.index-ts-i.is),
    )

pub loop-i-init : goal.loop-i-init
loop-i-init t c = All-nil (HasNoRedex c.args.sig.now (equations_of c.args.rules.now.equations))

pub loop-i-preserved : goal.loop-i-preserved
loop-i-preserved t c =
    let P = HasNoRedex c.args.sig.now (equations_of c.args.rules.now.equations) in
    let within : c.loop-i.i < length c.args-ts.result.now = omega (arith, c.loop-i-test.true) in
    let here : P c.index-ts-i.result = rw c.if-found.false at c.in_ok-found-in-Some.ensures in
    All-more P c.args-ts.result.now c.loop-i.i c.index-ts-i.result within c.loop-i.invariant (subst P c.index-ts-i.is here)

pub is_redex-requires : goal.is_redex-requires
is_redex-requires t c = record { rules = c.requires.rules; term = c.requires.term; head = sym c.head.ensures ∙ c.in-Some.is }

pub returns-in-None : goal.returns-in-None
returns-in-None t c = headless_has_no_redex c.args.sig.now (equations_of c.args.rules.now.equations) c.args.t.now (sym c.head.ensures ∙ c.in-None.is)

pub returns-then-found : goal.returns-then-found
returns-then-found t c =
    let d = c.args.sig.now in
    let ts = c.args-ts.result.now in
    let u = c.index-ts-i.result in
    let i = c.loop-i.i in
    let within : i < length ts = omega (arith, c.loop-i-test.true) in
    let below = rw c.if-found.true at c.in_ok-found-in-Some.ensures in
    argument_told d (equations_of c.args.rules.now.equations) c.recall_good.ensures.fits c.rewriting_is_lawful.ensures c.kinded_theories_are_lawful.ensures (have_one_kind d c.args.rules.now c.requires.rules)
    c.args.t.now c.requires.term c.in-Some.f (sym c.head.ensures ∙ c.in-Some.is) i below.0
    record { argument = u; is = subst (λ l. slice_get l i ≡ Some u) c.args-ts.ensures.exact (slice_get_read ts (length ts) i u refl within c.index-ts-i.is); next = below.1 }

pub returns-in_ok-met-in-Some : goal.returns-in_ok-met-in-Some
returns-in_ok-met-in-Some t c =
    let P = HasNoRedex c.args.sig.now (equations_of c.args.rules.now.equations) in
    let end : length c.args-ts.result.now ≤ c.loop-i.i = omega (arith, c.loop-i-test.false) in
    walk_told c.args.sig.now (equations_of c.args.rules.now.equations) c.args.t.now
    (subst (All P) (take_all c.loop-i.i c.args-ts.result.now end ∙ c.args-ts.ensures.exact) c.loop-i.invariant) c.in_ok-met-in-Some.met c.in_ok-met-in-Some.ensures
