-- The kind of a sort is a kind.
use Rattle.std.proofs.Common.{sym, subst}
use Rattle.fvn_terms.specs.declared.declarations.Declarations.{Declarations}
use Rattle.fvn_terms.specs.Signature.{IsSort}
use Rattle.fvn_signature.specs.Queries.{IsKind}
use Rattle.fvn_signature.proofs.queries.signature.Signature.kind.Goals as goal

pub returns-clause-is_kind : goal.returns-clause-is_kind
returns-clause-is_kind c = subst (λ (x : Declarations). IsSort x c.args.s → IsKind x c.kind.result) c.self.view_is (λ h. subst (IsKind c.self.inside.draft.declarations) (sym c.kind.ensures) (c.self.invariant.completed.kind_of_sort c.args.s h))
