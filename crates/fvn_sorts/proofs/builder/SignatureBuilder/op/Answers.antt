-- The builder stays closed with one declaration more.
use Rattle.std.proofs.Common.{◌≤◌, sym, subst}
use Rattle.std.specs.List.{All}
use Rattle.fvn_signature_draft.specs.declared.collected.Declaration.{Declaration}
use Rattle.fvn_signature_draft.specs.declared.collected.Collected.{Collected}
use Rattle.fvn_signature_draft.specs.Collected.{Names}
use Rattle.fvn_sorts.proofs.CollectedSteps.{one_declaration_more}
use Rattle.fvn_sorts.proofs.builder.SignatureBuilder.op.Goals as goal

pub invariant_of-result : goal.invariant_of-result
invariant_of-result c =
    let e : Declaration = record { op = c.args.op; rank = c.args.rank; partial = c.args.partial; axioms = c.args.axioms } in
    let known = subst (λ (x : Collected). c.args.op.0 ≤ x.operators) (sym c.self.view_is) c.requires.known_or_next in
    let args = subst (λ (x : Collected). All (Names x.sorts) c.args.rank.args) (sym c.self.view_is) c.requires.args in
    let gives = subst (λ (x : Collected). Names x.sorts c.args.rank.result) (sym c.self.view_is) c.requires.gives in
    rw (c.max.ensures, c.from_vec.ensures, c.in_ok-push.ensures.items, c.into_vec-declarations.ensures) (one_declaration_more c.self.inside.collected c.self.invariant e known args gives)
