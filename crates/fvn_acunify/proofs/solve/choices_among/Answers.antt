-- The choices go over a copy of the solutions.
use Rattle.std.proofs.Common.{◌≡◌, ◌^◌, length, None, sym, ap, ◌∙◌, subst}
use Rattle.std.proofs.lemmas.Result.{IfOk-weaker}
use Rattle.fvn_lindio.specs.Systems.{rows_of}
use Rattle.fvn_acunify.specs.Cursor.{Cursor, unbounded}
use Rattle.fvn_acunify.specs.inner.Prefix.{IsBounded}
use Rattle.fvn_acunify.proofs.RefusalLemmas.{IsBounded-from_minimal}
use Rattle.fvn_acunify.proofs.solve.choices_among.Goals as goal

pub over-requires : goal.over-requires
over-requires c =
    let theory = c.args.theory.now in
    let solutions = c.args.solutions.now in
    record {
      bounded = subst (λ n. IsBounded n theory.constants c.from_vec.result) (sym c.requires.theory.marked)
          (subst (IsBounded theory.system.columns theory.constants) (sym (c.from_vec.ensures ∙ c.in_ok-own.ensures))
          (IsBounded-from_minimal theory.system.columns (rows_of theory.system) theory.constants solutions c.requires.few c.requires.minimal c.requires.narrow c.requires.theory.among));
    }

pub returns-clause-basis : goal.returns-clause-basis
returns-clause-basis c =
    let P : Cursor → Type 0 = λ k. k ≡ record { constants = c.args.theory.now.constants; may_be_zero = c.args.theory.now.may_be_zero; bounds = unbounded; basis = c.from_vec.result; full = None; below = 2 ^ length c.from_vec.result } in
    IfOk-weaker c.over.result P (λ k. k.basis ≡ c.args.solutions.now) (λ k e. ap (λ (k : Cursor). k.basis) e ∙ c.from_vec.ensures ∙ c.in_ok-own.ensures) c.over.ensures.ok
