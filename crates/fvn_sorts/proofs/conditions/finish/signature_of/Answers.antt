-- Where no fault was found the signature is good.
use Rattle.std.proofs.Common.{Option, sym, subst}
use Rattle.std.proofs.lemmas.Bool.{false≢true}
use Rattle.fvn_forms.specs.Good.{IsGood}
use Rattle.fvn_signature.specs.Queries.{IsCompleted}
use Rattle.fvn_sorts.specs.declared.conditions.fault.SigFault.{SigFault}
use Rattle.fvn_sorts.specs.inner.Searches.{IsFirstFrom}
use Rattle.fvn_signature_draft.proofs.Components.{completed-is}
use Rattle.fvn_sorts.proofs.GoodFrom.{good_from}
use Rattle.fvn_sorts.proofs.FaultOrder.{none_too_large, no_fault}
use Rattle.fvn_sorts.proofs.conditions.finish.signature_of.Goals as goal

pub from_draft-requires-clause-good : goal.from_draft-requires-clause-good
from_draft-requires-clause-good c =
    let coll = c.args.collected.now in
    let clean = no_fault coll (none_too_large coll (λ h. false≢true (c.if-is_too_large.ensures.1 h))) (subst (λ (r : Option SigFault). IsFirstFrom coll 1 9 r) c.in-None.is c.in_ok-fault.ensures) in
    subst IsGood (sym c.in_ok-draft.ensures.is) (good_from coll c.requires clean)

pub from_draft-requires-clause-completed : goal.from_draft-requires-clause-completed
from_draft-requires-clause-completed c = subst IsCompleted (sym c.in_ok-draft.ensures.is) (completed-is c.args.collected.now c.requires)

pub returns-clause-good : goal.returns-clause-good
returns-clause-good c =
    let coll = c.args.collected.now in
    let clean = no_fault coll (none_too_large coll (λ h. false≢true (c.if-is_too_large.ensures.1 h))) (subst (λ (r : Option SigFault). IsFirstFrom coll 1 9 r) c.in-None.is c.in_ok-fault.ensures) in
    subst IsGood (sym c.in_ok-signature.ensures) (subst IsGood (sym c.in_ok-draft.ensures.is) (good_from coll c.requires clean))
