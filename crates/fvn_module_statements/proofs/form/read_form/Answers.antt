-- What is left to prove.
use Rattle.std.proofs.Common.{◌≡◌, ◌⊎◌, Ok, Err}
use Rattle.fvn_module_syntax.specs.declared.form.Form.{Form}
use Rattle.fvn_module_statements.specs.declared.form.FormFault.TheVariants.{NoMemory}
use Rattle.fvn_module_statements.specs.Forms.{IsFormOf, IsFirstFault, HasNoForm}
use Rattle.fvn_module_statements.specs.inner.Forms.{form_of}
use Rattle.fvn_module_statements.proofs.Results.{on_ok, on_err}
use Rattle.fvn_module_statements.proofs.FormExact.{ok_form, only-form, first_fault, none_fits}
use Rattle.fvn_module_statements.proofs.form.read_form.Goals as goal

pub returns-clause-ok : goal.returns-clause-ok
returns-clause-ok c =
    on_ok (λ m. form_of c.args.row.now ≡ Ok m) (IsFormOf c.args.row.now) c.form_of.result (ok_form c.args.row.now) c.form_of.ensures.ok

pub returns-clause-only : goal.returns-clause-only
returns-clause-only c =
    on_ok (λ m. form_of c.args.row.now ≡ Ok m) (λ m. (other : Form) → IsFormOf c.args.row.now other → other ≡ m) c.form_of.result
    (λ m e other h. only-form c.args.row.now m other e h) c.form_of.ensures.ok

pub returns-clause-first : goal.returns-clause-first
returns-clause-first c =
    on_err (λ f. (f ≡ NoMemory) ⊎ (form_of c.args.row.now ≡ Err f)) (λ f. (f ≡ NoMemory) ⊎ IsFirstFault c.args.row.now f) c.form_of.result
    (first_fault c.args.row.now) c.form_of.ensures.err

pub returns-clause-none : goal.returns-clause-none
returns-clause-none c =
    on_err (λ f. (f ≡ NoMemory) ⊎ (form_of c.args.row.now ≡ Err f)) (λ f. (f ≡ NoMemory) ⊎ HasNoForm c.args.row.now) c.form_of.result
    (none_fits c.args.row.now) c.form_of.ensures.err
