-- The constant is a term.
use Rattle.std.proofs.Common.{sym, ap, ◌∙◌, subst}
use Rattle.fvn_terms.specs.Signature.{IsTerm}
use Rattle.fvn_forms.specs.Canon.{canon}
use Rattle.fvn_rewrite_laws.proofs.Choosing.{identity_below}
use Rattle.fvn_rewrite_laws.proofs.Identities.{identity_kind}
use Rattle.fvn_rewrite_rules.proofs.instances.identity_form.Goals as goal

pub flatten-requires : goal.flatten-requires
flatten-requires c =
    let d = c.args.sig.now in
    let w = identity_below d c.recall_good.ensures c.recall_completed.ensures c.args.e c.args.s c.requires in
    subst (IsTerm d) (sym c.constant-t.ensures) (_, identity_kind d c.recall_good.ensures c.recall_completed.ensures c.args.e w.0)

pub returns : goal.returns
returns c = c.in_ok-form.ensures.exact ∙ ap (canon c.args.sig.now) c.constant-t.ensures
