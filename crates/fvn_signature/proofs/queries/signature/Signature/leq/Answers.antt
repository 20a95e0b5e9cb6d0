-- The test tells the order.
use Rattle.std.proofs.Common.{◌↔◌, sym, ◌∙◌, subst}
use Rattle.std.specs.Prelude.{IsTrue}
use Rattle.fvn_terms.specs.declared.declarations.Declarations.{Declarations}
use Rattle.fvn_terms.specs.Signature.{AtOrBelow}
use Rattle.fvn_forms.proofs.SortTests.{at_or_below-true, at_or_below-complete}
use Rattle.fvn_signature.proofs.queries.signature.Signature.leq.Goals as goal

pub returns : goal.returns
returns c =
    let d = c.self.inside.draft.declarations in
    subst (λ (x : Declarations). IsTrue c.is_at_or_below.result ↔ AtOrBelow x c.args.low c.args.high) c.self.view_is (
      λ h. at_or_below-true d c.args.low c.args.high (sym c.is_at_or_below.ensures ∙ h),
      λ w. c.is_at_or_below.ensures ∙ at_or_below-complete d w,
    )
