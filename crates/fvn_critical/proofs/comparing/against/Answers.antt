-- The normal form of the other form, or why there is none.
use Rattle.fvn_critical.proofs.Compared.{against_compared}
use Rattle.fvn_critical.proofs.comparing.against.Goals as goal

pub returns-in-Form : goal.returns-in-Form
returns-in-Form c =
    against_compared c.args.numbers.outer c.args.numbers.inner c.args.left c.args.rewriter.now c.args.form.now c.in-Form.right (rw c.in-Form.is at c.in_ok-found.ensures) c.compared.result c.compared.ensures

pub returns-in-Steps : goal.returns-in-Steps
returns-in-Steps c = rw c.in-Steps.is at c.in_ok-found.ensures

pub returns-in-Size : goal.returns-in-Size
returns-in-Size c = rw c.in-Size.is at c.in_ok-found.ensures
