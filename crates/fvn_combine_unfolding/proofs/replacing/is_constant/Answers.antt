-- An operator over nothing has no variable.
use Rattle.std.proofs.Common.{List, length, sym, ap, ◌∙◌}
use Rattle.std.specs.Prelude.{◌==◌}
use Rattle.fvn_forms.specs.Flat.{FlatTerm}
use Rattle.fvn_combine_unfolding.proofs.Steps.{constant_free}
use Rattle.fvn_combine_unfolding.proofs.replacing.is_constant.Goals as goal

pub returns-in-Some : goal.returns-in-Some
returns-in-Some c e = constant_free c.args.t.now _ (sym c.head.ensures ∙ c.in-Some.is) (ap (λ (ts : List FlatTerm). length ts == 0) (sym c.args-in-Some.ensures.exact) ∙ sym c.is_empty.ensures ∙ e)
