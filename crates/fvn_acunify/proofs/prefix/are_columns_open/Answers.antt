-- Past the last column nothing is asked.
use Rattle.std.proofs.Common.{refl, sym, ◌∙◌, inl, inr, arith}
use Rattle.std.proofs.lemmas.Bool.{cases_lt, true≢false}
use Rattle.std.proofs.lemmas.List.{get_or_past}
use Rattle.fvn_acunify.proofs.prefix.are_columns_open.Goals as goal

pub returns : goal.returns
returns c = (
  λ _ j asked. elim (cases_lt j c.loop-j.j) [
    | inl h ↦ c.loop-j.invariant j h asked
    | inr h ↦ absurd (true≢false (sym (get_or_past c.args.may_be_zero.now j _ (omega arith)) ∙ asked))
  ],
  λ _. refl,
)
