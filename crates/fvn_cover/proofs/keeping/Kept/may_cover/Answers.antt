-- what the marks or the sorts refuse is no covering
use Rattle.std.proofs.Common.{◌≡◌, ◌++◌, ◌∙◌, subst}
use Rattle.fvn_cover_counts.specs.Marks.{AreMarks}
use Rattle.fvn_match.specs.Matching.{HasNoMatcher}
use Rattle.fvn_cover.specs.Covering.{values_of}
use Rattle.fvn_cover.proofs.CoverFacts.{length_values, values_fit, unmatched_behind, never_covers}
use Rattle.fvn_cover.proofs.keeping.Kept.may_cover.Goals as goal

pub returns-then-not-may_cover : goal.returns-then-not-may_cover
returns-then-not-may_cover c = λ _.
    let d = c.args.sig.now in
    let a = c.args.self.now in
    let b = c.args.other.now in
    let p : AreMarks (a.terms ++ values_of a) c.self.inside.marks = rw c.self.view_is at c.self.invariant.2 in
    let q : AreMarks (b.terms ++ values_of b) c.other.inside.marks = rw c.other.view_is at c.other.invariant.2 in
    never_covers d a b c.requires.alike (c.may_cover.ensures.none c.if-not-may_cover.true d (a.terms ++ values_of a) (b.terms ++ values_of b) c.requires.out p q)

pub may_reach_all-requires-clause-lengths : goal.may_reach_all-requires-clause-lengths
may_reach_all-requires-clause-lengths c =
    let a = c.args.self.now in
    let b = c.args.other.now in
    let own : c.self.inside.values.items ≡ values_of a = rw c.self.view_is at c.self.invariant.0 in
    let others : c.other.inside.values.items ≡ values_of b = rw c.other.view_is at c.other.invariant.0 in
    let p : c.as_slice.result.now ≡ values_of a = c.as_slice.ensures.value ∙ own in
    let q : c.as_slice-2.result.now ≡ values_of b = c.as_slice-2.ensures.value ∙ others in
    rw (p, q) (length_values a b c.requires.alike)

pub may_reach_all-requires-clause-targets : goal.may_reach_all-requires-clause-targets
may_reach_all-requires-clause-targets c =
    let b = c.args.other.now in
    let others : c.other.inside.values.items ≡ values_of b = rw c.other.view_is at c.other.invariant.0 in
    let q : c.as_slice-2.result.now ≡ values_of b = c.as_slice-2.ensures.value ∙ others in
    rw q (values_fit c.args.sig.now b c.requires.that)

pub returns : goal.returns
returns c = λ no.
    let d = c.args.sig.now in
    let a = c.args.self.now in
    let b = c.args.other.now in
    let own : c.self.inside.values.items ≡ values_of a = rw c.self.view_is at c.self.invariant.0 in
    let others : c.other.inside.values.items ≡ values_of b = rw c.other.view_is at c.other.invariant.0 in
    let p : c.as_slice.result.now ≡ values_of a = c.as_slice.ensures.value ∙ own in
    let q : c.as_slice-2.result.now ≡ values_of b = c.as_slice-2.ensures.value ∙ others in
    let none = subst (λ l. HasNoMatcher d (values_of a) l) q (subst (λ l. HasNoMatcher d l c.as_slice-2.result.now) p (c.may_reach_all.ensures no)) in
    never_covers d a b c.requires.alike (unmatched_behind d a.terms b.terms (values_of a) (values_of b) c.requires.alike.terms none)
