-- Over sorts of its argument kinds an operator has its least result.
use Rattle.std.proofs.Common.{sym, subst}
use Rattle.fvn_terms.specs.declared.declarations.Declarations.{Declarations}
use Rattle.fvn_forms.specs.Good.{TakesKinds}
use Rattle.fvn_forms.specs.Ranks.{IsResult}
use Rattle.fvn_forms.proofs.Results.{result-is}
use Rattle.fvn_signature.proofs.queries.signature.Signature.result.Goals as goal

pub returns-clause-least : goal.returns-clause-least
returns-clause-least c =
    let d = c.self.inside.draft.declarations in
    subst (λ (x : Declarations). TakesKinds x c.args.op c.args.args.now → IsResult x c.args.op c.args.args.now c.result.result) c.self.view_is
    (λ t. subst (IsResult d c.args.op c.args.args.now) (sym c.result.ensures) (result-is d c.self.invariant.good c.args.op c.args.args.now t))
