-- By the axioms.
use Rattle.std.proofs.Common.{◌≡◌, refl, sym, ◌∙◌}
use Rattle.fvn_terms.specs.declared.declarations.Axioms.TheVariants.{Free, Comm, AssocComm, AssocCommId}
use Rattle.fvn_combine_candidates.proofs.vanishing.is_swap.Goals as goal

pub returns-in-Free : goal.returns-in-Free
returns-in-Free c = (λ e. cc, λ e. let f : Free ≡ Comm = sym c.in-Free.is ∙ e in cc)

pub returns-in-Comm : goal.returns-in-Comm
returns-in-Comm c = (λ _. c.in-Comm.is, λ _. refl)

pub returns-in-AssocComm : goal.returns-in-AssocComm
returns-in-AssocComm c = (λ e. cc, λ e. let f : AssocComm ≡ Comm = sym c.in-AssocComm.is ∙ e in cc)

pub returns-in-AssocCommId : goal.returns-in-AssocCommId
returns-in-AssocCommId c = (λ e. cc, λ e. let f : AssocCommId c.in-AssocCommId.field-0 ≡ Comm = sym c.in-AssocCommId.is ∙ e in cc)
