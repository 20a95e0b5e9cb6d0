-- Terms or values of which one cannot be an instance.
use Rattle.std.proofs.Common.{◌≡◌, subst}
use Rattle.fvn_flat.specs.Fits.{AllFit}
use Rattle.fvn_match.specs.Matching.{HasNoMatcher}
use Rattle.fvn_cover.specs.Covering.{values_of}
use Rattle.fvn_cover.proofs.CoverFacts.{length_values, values_fit, unmatched_before, unmatched_behind, never_covers}
use Rattle.fvn_cover.proofs.covering.Shown.have_heads_of.Goals as goal

pub may_match_all-requires : goal.may_match_all-requires
may_match_all-requires c =
    let a = c.args.self.now in
    let b = c.args.other.now in
    let t : c.as_slice-terms.result.now ≡ a.terms = rw c.self.view_is at c.as_slice-terms.ensures in
    let u : c.as_slice-others.result.now ≡ b.terms = rw c.other.view_is at c.as_slice-others.ensures in
    record {
      lengths = rw (t, u) c.requires.alike.terms;
      patterns = rw t c.requires.this.terms;
      targets = rw u c.requires.that.terms;
    }

pub returns-then-not-may_match_all : goal.returns-then-not-may_match_all
returns-then-not-may_match_all c = λ _.
    let d = c.args.sig.now in
    let a = c.args.self.now in
    let b = c.args.other.now in
    let t : c.as_slice-terms.result.now ≡ a.terms = rw c.self.view_is at c.as_slice-terms.ensures in
    let u : c.as_slice-others.result.now ≡ b.terms = rw c.other.view_is at c.as_slice-others.ensures in
    let none : HasNoMatcher d a.terms b.terms = rw (t, u) at (c.may_match_all.ensures c.if-not-may_match_all.true) in
    never_covers d a b c.requires.alike (unmatched_before d a.terms b.terms (values_of a) (values_of b) c.requires.alike.terms none)

pub may_match_all-requires-2 : goal.may_match_all-requires-2
may_match_all-requires-2 c =
    let d = c.args.sig.now in
    let a = c.args.self.now in
    let b = c.args.other.now in
    let p : c.self.inside.values.now ≡ values_of a = rw c.self.view_is at c.self.invariant.0 in
    let q : c.other.inside.values.now ≡ values_of b = rw c.other.view_is at c.other.invariant.0 in
    record {
      lengths = rw (p, q) (length_values a b c.requires.alike);
      patterns = rw p (values_fit d a c.requires.this);
      targets = rw q (values_fit d b c.requires.that);
    }

pub returns : goal.returns
returns c = λ no.
    let d = c.args.sig.now in
    let a = c.args.self.now in
    let b = c.args.other.now in
    let p : c.self.inside.values.now ≡ values_of a = rw c.self.view_is at c.self.invariant.0 in
    let q : c.other.inside.values.now ≡ values_of b = rw c.other.view_is at c.other.invariant.0 in
    let none : HasNoMatcher d (values_of a) (values_of b) = rw (p, q) at (c.may_match_all-2.ensures no) in
    never_covers d a b c.requires.alike (unmatched_behind d a.terms b.terms (values_of a) (values_of b) c.requires.alike.terms none)
