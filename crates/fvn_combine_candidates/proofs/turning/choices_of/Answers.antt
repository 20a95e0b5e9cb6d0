-- The choices go over the basis.
use Rattle.std.proofs.Common.{sym, ◌∙◌, subst}
use Rattle.fvn_lindio.specs.declared.system.System.{System}
use Rattle.fvn_lindio.specs.Systems.{IsMinimal, rows_of}
use Rattle.fvn_combine_nodes.specs.States.{class_of}
use Rattle.fvn_combine_admissible.specs.Listed.{tag_in}
use Rattle.fvn_acunify_product.specs.Wheels.{wheel_of}
use Rattle.fvn_combine_candidates.proofs.Ordered.{wheel_is}
use Rattle.fvn_combine_candidates.proofs.turning.choices_of.Goals as goal

pub choices_among-requires : goal.choices_among-requires
choices_among-requires c = record {
  theory = c.in_ok-theory.ensures.whole;
  minimal = λ v m. subst (λ (s : System). IsMinimal s.columns (rows_of s) v) (sym c.in_ok-theory.ensures.system) (c.requires.basis.minimal v m);
  few = c.requires.basis.few;
  narrow = c.requires.basis.narrow;
}

pub returns-in-Ok-clause-asked : goal.returns-in-Ok-clause-asked
returns-in-Ok-clause-asked c =
    let h = c.in-Ok.ensures in
    let k = c.in_ok-full-in-Ok.ensures in
    wheel_is c.args.sig.now c.args.table.now (class_of c.args.state.now) (tag_in c.args.tags.now) c.args.sums.now c.args.basis.now c.in_ok-theory.theory c.in_ok-theory.ensures.asked
    (wheel_of c.in_ok-full-in-Ok.full) (k.basis ∙ h.basis) (k.constants ∙ h.constants) (k.may_be_zero ∙ h.may_be_zero) k.full

pub returns-in-Ok-clause-bounds : goal.returns-in-Ok-clause-bounds
returns-in-Ok-clause-bounds c = c.in_ok-full-in-Ok.ensures.bounds ∙ c.in-Ok.ensures.bounds
