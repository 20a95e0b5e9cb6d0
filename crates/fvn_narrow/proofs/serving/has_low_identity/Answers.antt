-- What the tests told.
use Rattle.std.proofs.Common.{sym, ◌∙◌, subst, inl, inr}
use Rattle.fvn_terms.specs.declared.plain.SortId.{SortId}
use Rattle.fvn_terms.specs.Signature.{AtOrBelow}
use Rattle.fvn_narrow.proofs.serving.has_low_identity.Goals as goal

pub returns-in_default : goal.returns-in_default
returns-in_default c = λ yes. inl (sym c.identity.ensures ∙ c.in_default.is)

pub returns : goal.returns
returns c = λ yes. inr (
  c.in-Some.e,
  sym c.identity.ensures ∙ c.in-Some.is,
  subst (λ (q : SortId). AtOrBelow c.args.sig.now q c.args.s) c.result-low.ensures.exact (c.leq.ensures.0 yes),
)
