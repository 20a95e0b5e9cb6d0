-- One path more.
use Rattle.std.proofs.Common.{refl, ◌∙◌, subst}
use Rattle.std.specs.Prelude.{List, ℕ}
use Rattle.fvn_forms.specs.Flat.{FlatTerm}
use Rattle.fvn_narrow.specs.inner.Placing.{StandsAt, ArePlacesWith}
use Rattle.fvn_narrow.proofs.Along.{read_at}
use Rattle.fvn_narrow.proofs.Placed.{at_none, path_added, in_term}
use Rattle.fvn_narrow.proofs.placing.with_member.Goals as goal

pub loop-path-init : goal.loop-path-init
loop-path-init c = at_none c.args.rules.now c.args.terms.now c.args.member c.args.places.items

pub loop-path-preserved : goal.loop-path-preserved
loop-path-preserved c =
    let rules = c.args.rules.now in
    let terms = c.args.terms.now in
    let path : List ℕ = c.path-item.result in
    path_added rules terms c.args.member c.deref-path-items.result.now c.loop-path.path-index path c.loop-path-test.true c.path-item.is c.args.places.items c.loop-path.all.items c.in_ok-all.all.items c.loop-path.invariant
    (subst (λ p. ArePlacesWith rules terms (StandsAt terms c.args.member p) c.loop-path.all.items c.in_ok-all.all.items) c.as_slice.ensures c.in_ok-all.ensures)

pub returns : goal.returns
returns c =
    let terms : List FlatTerm = c.args.terms.now in
    let term : FlatTerm = c.index-terms-member.result in
    in_term c.args.rules.now terms c.args.member term (read_at terms terms c.args.member term refl c.requires c.index-terms-member.is) c.deref-path-items.result.now (c.deref-path-items.ensures.value ∙ c.in_ok-list.ensures)
    c.loop-path.path-index c.loop-path-test.false c.args.places.items c.loop-path.all.items c.loop-path.invariant
