-- There is no best text, or it is compared.
use Rattle.std.proofs.Common.{◌≡◌, sym, ap, ◌∙◌, subst}
use Rattle.std.specs.Ordering.{is_lt, nat_cmp}
use Rattle.std.specs.Cmp.Lexicographic.{slice_cmp}
use Rattle.fvn_answer.specs.inner.Fronts.{IsAtMost}
use Rattle.fvn_answer.proofs.Fronts.{no-lt-at_least, lt-at_least, at_least-trans}
use Rattle.fvn_answer.proofs.search.may_be_less.Goals as goal

pub compared : (c : goal.After-is_lt) → is_lt (slice_cmp nat_cmp c.args.text.now c.in-Some.line.items) ≡ c.is_lt.result
compared c = sym (c.is_lt.ensures ∙ ap is_lt (c.cmp.ensures ∙ ap (slice_cmp nat_cmp c.args.text.now) c.as_slice.ensures.value))

pub returns-in-Some-clause-more : goal.returns-in-Some-clause-more
returns-in-Some-clause-more c e =
    subst (λ o. IsAtMost o c.args.text.now) (sym c.in-Some.is) (no-lt-at_least c.args.text.now c.in-Some.line.items (compared c ∙ e))

pub returns-in-Some-clause-less : goal.returns-in-Some-clause-less
returns-in-Some-clause-less c e w h b =
    at_least-trans c.args.text.now c.in-Some.line.items w (lt-at_least c.args.text.now c.in-Some.line.items (compared c ∙ e)) (subst (λ o. IsAtMost o w) c.in-Some.is h) b
