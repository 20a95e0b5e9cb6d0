-- what was found says whether there is a covering
use Rattle.std.proofs.Common.{◌≡◌, ◌++◌, subst}
use Rattle.fvn_cover_counts.specs.Profiles.{IsProfile}
use Rattle.fvn_cover_counts.specs.Marks.{AreMarks}
use Rattle.fvn_match.specs.Matching.{HasNoMatcher}
use Rattle.fvn_cover.specs.Covering.{values_of}
use Rattle.fvn_cover.proofs.CoverFacts.{length_values, values_fit, both_fit, unmatched_behind, found_covers, refused}
use Rattle.fvn_cover.proofs.covering.Shown.is_covering.Goals as goal

pub returns-then-not-may_cover : goal.returns-then-not-may_cover
returns-then-not-may_cover c =
    let d = c.args.sig.now in
    let a = c.args.self.now in
    let b = c.args.other.now in
    let p : AreMarks (a.terms ++ values_of a) c.self.inside.marks = rw c.self.view_is at c.self.invariant.2 in
    let q : AreMarks (b.terms ++ values_of b) c.other.inside.marks = rw c.other.view_is at c.other.invariant.2 in
    refused d a b c.requires.alike (c.may_cover.ensures.none c.if-not-may_cover.true d (a.terms ++ values_of a) (b.terms ++ values_of b) c.requires.out p q)

pub may_reach_all-requires-clause-lengths : goal.may_reach_all-requires-clause-lengths
may_reach_all-requires-clause-lengths c =
    let a = c.args.self.now in
    let b = c.args.other.now in
    let p : c.self.inside.values.now ≡ values_of a = rw c.self.view_is at c.self.invariant.0 in
    let q : c.other.inside.values.now ≡ values_of b = rw c.other.view_is at c.other.invariant.0 in
    rw (p, q) (length_values a b c.requires.alike)

pub may_reach_all-requires-clause-targets : goal.may_reach_all-requires-clause-targets
may_reach_all-requires-clause-targets c =
    let b = c.args.other.now in
    let q : c.other.inside.values.now ≡ values_of b = rw c.other.view_is at c.other.invariant.0 in
    rw q (values_fit c.args.sig.now b c.requires.that)

pub returns-then-not-may_reach_all : goal.returns-then-not-may_reach_all
returns-then-not-may_reach_all c =
    let d = c.args.sig.now in
    let a = c.args.self.now in
    let b = c.args.other.now in
    let p : c.self.inside.values.now ≡ values_of a = rw c.self.view_is at c.self.invariant.0 in
    let q : c.other.inside.values.now ≡ values_of b = rw c.other.view_is at c.other.invariant.0 in
    let none = subst (λ l. HasNoMatcher d (values_of a) l) q (subst (λ l. HasNoMatcher d l c.other.inside.values.now) p (c.may_reach_all.ensures c.if-not-may_reach_all.true)) in
    refused d a b c.requires.alike (unmatched_behind d a.terms b.terms (values_of a) (values_of b) c.requires.alike.terms none)

pub returns-then-not-may_cover-2 : goal.returns-then-not-may_cover-2
returns-then-not-may_cover-2 c =
    let d = c.args.sig.now in
    let a = c.args.self.now in
    let b = c.args.other.now in
    let p : IsProfile (a.terms ++ values_of a) c.self.inside.profile.now = rw c.self.view_is at c.self.invariant.1 in
    let q : IsProfile (b.terms ++ values_of b) c.other.inside.profile.now = rw c.other.view_is at c.other.invariant.1 in
    refused d a b c.requires.alike (c.may_cover-2.ensures.none c.if-not-may_cover-2.true (a.terms ++ values_of a) (b.terms ++ values_of b) p q)

pub returns-then-not-have_heads_of : goal.returns-then-not-have_heads_of
returns-then-not-have_heads_of c = (λ t. cc, λ h. absurd (c.have_heads_of.ensures c.if-not-have_heads_of.true h))

pub matches_both-requires-clause-patterns : goal.matches_both-requires-clause-patterns
matches_both-requires-clause-patterns c =
    let a = c.args.self.now in
    let p : c.self.inside.values.now ≡ values_of a = rw c.self.view_is at c.self.invariant.0 in
    let t : c.as_slice.result.now ≡ a.terms = rw c.self.view_is at c.as_slice.ensures in
    rw (p, t) (both_fit c.args.sig.now a.terms (values_of a) c.requires.this.terms (values_fit c.args.sig.now a c.requires.this))

pub matches_both-requires-clause-targets : goal.matches_both-requires-clause-targets
matches_both-requires-clause-targets c =
    let b = c.args.other.now in
    let q : c.other.inside.values.now ≡ values_of b = rw c.other.view_is at c.other.invariant.0 in
    let u : c.as_slice-2.result.now ≡ b.terms = rw c.other.view_is at c.as_slice-2.ensures in
    rw (q, u) (both_fit c.args.sig.now b.terms (values_of b) c.requires.that.terms (values_fit c.args.sig.now b c.requires.that))

pub matches_both-requires-clause-second_lengths : goal.matches_both-requires-clause-second_lengths
matches_both-requires-clause-second_lengths c =
    let a = c.args.self.now in
    let b = c.args.other.now in
    let p : c.self.inside.values.now ≡ values_of a = rw c.self.view_is at c.self.invariant.0 in
    let q : c.other.inside.values.now ≡ values_of b = rw c.other.view_is at c.other.invariant.0 in
    rw (p, q) (length_values a b c.requires.alike)

pub returns : goal.returns
returns c =
    let a = c.args.self.now in
    let b = c.args.other.now in
    let p : c.self.inside.values.now ≡ values_of a = rw c.self.view_is at c.self.invariant.0 in
    let q : c.other.inside.values.now ≡ values_of b = rw c.other.view_is at c.other.invariant.0 in
    let t : c.as_slice.result.now ≡ a.terms = rw c.self.view_is at c.as_slice.ensures in
    let u : c.as_slice-2.result.now ≡ b.terms = rw c.other.view_is at c.as_slice-2.ensures in
    rw c.is_some.ensures (found_covers c.args.sig.now a b c.requires.alike c.in_ok-found.found (rw (p, q, t, u) at c.in_ok-found.ensures.some) (rw (p, q, t, u) at c.in_ok-found.ensures.none))
