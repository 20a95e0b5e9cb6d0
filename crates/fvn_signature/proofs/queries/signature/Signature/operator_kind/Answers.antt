-- Each declaration gives the kind that the first one does.
use Rattle.std.proofs.Common.{sym, subst}
use Rattle.fvn_terms.specs.declared.declarations.Declarations.{Declarations}
use Rattle.fvn_signature.specs.Queries.{GivesKind}
use Rattle.fvn_signature.proofs.Operators.{first_gives}
use Rattle.fvn_signature.proofs.queries.signature.Signature.operator_kind.Goals as goal

pub returns : goal.returns
returns c =
    let d = c.self.inside.draft.declarations in
    subst (λ (x : Declarations). GivesKind x c.args.op c.first_kind.result) c.self.view_is
    (subst (GivesKind d c.args.op) (sym c.first_kind.ensures) (first_gives d c.self.invariant.good c.args.op))
