-- The number of a variable that stands there is raised, and another is put behind.
use Rattle.std.proofs.Common.{List, ℕ, sym, subst, ap, ◌∙◌}
use Rattle.fvn_terms.specs.declared.plain.Var.{Var}
use Rattle.fvn_weights.specs.inner.Numbers.{place, IsRaised}
use Rattle.fvn_weights.proofs.Starting.{raised_there}
use Rattle.fvn_weights.proofs.slots.raise.Goals as goal

pub place_in-requires : goal.place_in-requires
place_in-requires c = rw (c.as_slice.ensures.value, c.as_slice-2.ensures.value) c.requires

pub raise_at-requires : goal.raise_at-requires
raise_at-requires c = ap (λ (l : List (Var × ℕ)). place l c.args.x) (sym c.as_slice.ensures.value) ∙ sym c.place_in.ensures ∙ c.in-Some.is

pub put_new-requires-clause-new : goal.put_new-requires-clause-new
put_new-requires-clause-new c = ap (λ (l : List (Var × ℕ)). place l c.args.x) (sym c.as_slice.ensures.value) ∙ sym c.place_in.ensures ∙ c.in-None.is

pub returns-in-Some : goal.returns-in-Some
returns-in-Some c =
    let at = ap (λ (l : List (Var × ℕ)). place l c.args.x) (sym c.as_slice.ensures.value) ∙ sym c.place_in.ensures ∙ c.in-Some.is in
    subst (λ (l : List (Var × ℕ)). IsRaised c.args.x c.args.more c.args.factors.now.items l c.args.starts.now.items) (sym c.raise_at.ensures)
    (raised_there c.args.x c.args.factors.now.items c.args.starts.now.items c.requires c.in-Some.i c.args.more at)
