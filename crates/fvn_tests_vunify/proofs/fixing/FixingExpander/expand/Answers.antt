-- What is asked of the inner expander, and that nothing is said of children.
use Rattle.std.proofs.Common.{map}
use Rattle.fvn_forms.specs.Flat.{plain}
use Rattle.fvn_tests_vunify.proofs.Keeping.{nothing_in, expandable_without, whole_with, children_with, cause_with}
use Rattle.fvn_tests_vunify.proofs.fixing.FixingExpander.expand.Goals as goal

pub expand-requires-clause-variant : goal.expand-requires-clause-variant
expand-requires-clause-variant g c =
    let self = c.args.self.now in
    expandable_without (map plain self.listed.terms) (g.E.Expander.setting self.inner.now) (nothing_in (g.E.Expander.setting self.inner.now).fixed self.none_fixed) c.args.v.now c.args.first_fresh c.requires.variant

pub returns-then-has_none-clause-children : goal.returns-then-has_none-clause-children
returns-then-has_none-clause-children g c =
    let self = c.args.self.now in
    children_with (map plain self.listed.terms) (g.E.Expander.setting self.inner.now) (nothing_in (g.E.Expander.setting self.inner.now).fixed self.none_fixed) c.args.v.now c.in_ok-e.e
    (c.has_none.ensures.children c.if-has_none.true) (g.E.Expander.drawn self.inner.now)

pub returns-then-has_none-clause-whole : goal.returns-then-has_none-clause-whole
returns-then-has_none-clause-whole g c =
    let self = c.args.self.now in
    whole_with (map plain self.listed.terms) (g.E.Expander.setting self.inner.now) (nothing_in (g.E.Expander.setting self.inner.now).fixed self.none_fixed) c.args.v.now c.in_ok-e.e
    (c.has_none.ensures.children c.if-has_none.true) c.in_ok-e.ensures.whole

pub returns-then-has_none-clause-cause : goal.returns-then-has_none-clause-cause
returns-then-has_none-clause-cause g c =
    let self = c.args.self.now in
    cause_with (map plain self.listed.terms) (g.E.Expander.setting self.inner.now) (nothing_in (g.E.Expander.setting self.inner.now).fixed self.none_fixed) c.args.v.now c.in_ok-e.e
    (c.has_none.ensures.children c.if-has_none.true) (g.E.Expander.drawn self.inner.now) (c.has_none.ensures.end c.if-has_none.true)
