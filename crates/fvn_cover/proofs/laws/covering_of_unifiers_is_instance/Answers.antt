-- without terms there is nothing to ask of terms
use Rattle.fvn_cover.proofs.laws.covering_of_unifiers_is_instance.Goals as goal

pub returns : goal.returns
returns c = λ d a b e f. (
  λ h. record { after = h.by; well_sorted = h.well_sorted; equal = h.same_values },
  λ i. record { by = i.after; well_sorted = i.well_sorted; same_terms = rw (e, f) tt; same_values = i.equal },
)
