-- Where the argument may stand there, the sort is asked.
use Rattle.std.proofs.Common.{◌≡◌, refl, sym, ◌∙◌, inl, inr}
use Rattle.std.proofs.lemmas.Bool.{false≢true}
use Rattle.fvn_combine_candidates.proofs.vanishing.sort_lets.Goals as goal

pub returns-then-swaps : goal.returns-then-swaps
returns-then-swaps c = (λ t _. c.absorbs.ensures.0 t, λ h. c.absorbs.ensures.1 (h (inr c.if-swaps.true)))

pub returns-then-p-q : goal.returns-then-p-q
returns-then-p-q c = (λ t _. c.absorbs-then-p-q.ensures.0 t, λ h. c.absorbs-then-p-q.ensures.1 (h (inl c.if-p-q.true)))

pub returns : goal.returns
returns c = (
  λ _ may. absurd (elim may [ inl e ↦ c.if-p-q.false e | inr s ↦ false≢true (sym c.if-swaps.false ∙ s) ]),
  λ _. refl,
)
