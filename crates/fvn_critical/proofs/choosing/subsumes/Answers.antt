-- A matcher of both sides.
use Rattle.std.proofs.Common.{refl, sym, ◌∙◌, subst}
use Rattle.fvn_critical.specs.inner.Testing.{HeadsAs}
use Rattle.fvn_critical.proofs.Subsuming.{both, subsumes_by_match}
use Rattle.fvn_critical.proofs.choosing.subsumes.Goals as goal

pub matches_both-requires-clause-patterns : goal.matches_both-requires-clause-patterns
matches_both-requires-clause-patterns c = rw (c.from_ref.ensures.value, c.from_ref-2.ensures.value) (c.requires.general.right, (c.requires.general.left, tt))

pub matches_both-requires-clause-targets : goal.matches_both-requires-clause-targets
matches_both-requires-clause-targets c = rw (c.from_ref-3.ensures.value, c.from_ref-4.ensures.value) (c.requires.special.right, (c.requires.special.left, tt))

pub matches_both-requires-clause-first_lengths : goal.matches_both-requires-clause-first_lengths
matches_both-requires-clause-first_lengths c = rw (c.from_ref.ensures.value, c.from_ref-3.ensures.value) refl

pub matches_both-requires-clause-second_lengths : goal.matches_both-requires-clause-second_lengths
matches_both-requires-clause-second_lengths c = rw (c.from_ref-2.ensures.value, c.from_ref-4.ensures.value) refl

pub returns : goal.returns
returns c = λ is.
    subsumes_by_match c.args.sig.now c.args.general.now c.args.special.now c.in-Some.head (sym c.head.ensures ∙ c.in-Some.is) (subst (HeadsAs c.in-Some.head c.args.general.now.left) c.if-not-heads.false c.heads.ensures)
    (both c.args.sig.now c.args.general.now) (both c.args.sig.now c.args.special.now) refl refl c.in_ok-found.found
    (rw (c.from_ref.ensures.value, c.from_ref-2.ensures.value, c.from_ref-3.ensures.value, c.from_ref-4.ensures.value) at c.in_ok-found.ensures.some) (sym c.is_some.ensures ∙ is)
