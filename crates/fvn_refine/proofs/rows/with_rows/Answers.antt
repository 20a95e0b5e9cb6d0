-- The others as they are, or one after another.
use Rattle.std.proofs.Common.{length, ap, refl, sym, ◌∙◌, inl, inr}
use Rattle.fvn_refine.proofs.rows.with_rows.Goals as goal

pub returns-then-is_none : goal.returns-then-is_none
returns-then-is_none c = inr (ap length (sym c.as_slice.ensures.value) ∙ c.is_none.ensures c.if-is_none.true, refl)

pub returns : goal.returns
returns c = inl c.in_ok-all.ensures
