-- The solutions keep to what the choices ask, and the refusals are those of the system.
use Rattle.std.proofs.Common.{◌≡◌, ◌↔◌, ℕ, ◌^◌, List, length, None, Ok, Err, Contains, refl, ap, sym, ◌∙◌, subst, arith}
use Rattle.std.proofs.lemmas.Result.{IfOk-weaker, IfErr-at_err, err_from_is_err_and}
use Rattle.fvn_lindio.specs.Systems.{IsMinimal, rows_of, vectors_of}
use Rattle.fvn_acunify.specs.Cursor.{Cursor, unbounded}
use Rattle.fvn_acunify.specs.inner.Prefix.{IsBounded}
use Rattle.fvn_acunify.specs.declared.theory.OneFault.TheVariants.{NoMemory}
use Rattle.fvn_acunify.proofs.RefusalLemmas.{refused-from_err, refused-from_ok, IsBounded-from_minimal}
use Rattle.fvn_acunify.proofs.solve.solve_one.Goals as goal

pub returns-in_err-solutions-clause-refused : goal.returns-in_err-solutions-clause-refused
returns-in_err-solutions-clause-refused c = λ had.
    let given = c.in_err-solutions.field-0.0 in
    let system = c.args.theory.now.system in
    let p = err_from_is_err_and c.from_residual.result c.from_residual.ensures.1 in
    refused-from_err system.columns 24 (rows_of system) given (Err given) c.from_residual.result refl (p.1 ∙ ap Err p.2) had
    c.in_err-solutions.ensures.too_many c.in_err-solutions.ensures.too_wide

pub over-requires : goal.over-requires
over-requires c =
    let theory = c.args.theory.now in
    let basis = c.in_ok-solutions.solutions in
    record {
      bounded = subst (λ n. IsBounded n theory.constants basis) (sym c.requires.marked)
          (IsBounded-from_minimal theory.system.columns (rows_of theory.system) theory.constants basis (omega (arith, c.in_ok-solutions.ensures.few))
          (λ v. (c.in_ok-solutions.ensures.exact v).0) c.in_ok-solutions.ensures.narrow c.requires.among);
    }

pub returns-clause-exact : goal.returns-clause-exact
returns-clause-exact c =
    let system = c.args.theory.now.system in
    let P : Cursor → Type 0 = λ k. k ≡ record { constants = c.args.theory.now.constants; may_be_zero = c.args.theory.now.may_be_zero; bounds = unbounded; basis = c.in_ok-solutions.solutions; full = None; below = 2 ^ length c.in_ok-solutions.solutions } in
    let Q : Cursor → Type 0 = λ k. (v : List ℕ) → Contains (vectors_of k.basis) v ↔ IsMinimal system.columns (rows_of system) v in
    IfOk-weaker c.over.result P Q (λ k e. subst Q (sym e) c.in_ok-solutions.ensures.exact) c.over.ensures.ok

pub returns-clause-refused : goal.returns-clause-refused
returns-clause-refused c = λ had.
    let system = c.args.theory.now.system in
    refused-from_ok system.columns 24 (rows_of system) c.in_ok-solutions.solutions (Ok c.in_ok-solutions.solutions) c.over.result refl
    (λ fault e. let only = IfErr-at_err (λ g. g ≡ NoMemory) e c.over.ensures.only_memory in cc)
    c.in_ok-solutions.ensures.too_many c.in_ok-solutions.ensures.too_wide
