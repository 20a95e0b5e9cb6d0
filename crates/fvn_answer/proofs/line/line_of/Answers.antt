-- Values that fit can be printed, and are read back.
use Rattle.fvn_answer.proofs.Naming.{readable}
use Rattle.fvn_answer.proofs.Printable.{values-printable}
use Rattle.fvn_answer.proofs.ReadLines.{values-read, values-plain}
use Rattle.fvn_answer.proofs.line.line_of.Goals as goal

pub returns-clause-reads : goal.returns-clause-reads
returns-clause-reads c =
    let found = rw (c.signature-signature.ensures, c.names.ensures) at c.in_ok-line.ensures in
    let good = rw c.signature-signature.ensures at c.recall.ensures.good in
    let tops = rw c.signature-signature.ensures at c.recall.ensures.tops in
    values-read c.args.declared.now.signature c.args.declared.now.names (readable c.args.declared.now c.recall_readable.ensures) good.fits tops
    found.text_of_it.order found.few c.args.var_names.now.texts c.args.vars.now c.requires.vars c.args.subst.now c.requires.fit c.requires.sorts
    found.text_of_it.numbering c.in_ok-line.line.items found.text_of_it.text_is

pub returns-clause-plain : goal.returns-clause-plain
returns-clause-plain c =
    let found = rw (c.signature-signature.ensures, c.names.ensures) at c.in_ok-line.ensures in
    let good = rw c.signature-signature.ensures at c.recall.ensures.good in
    let tops = rw c.signature-signature.ensures at c.recall.ensures.tops in
    values-plain c.args.declared.now.signature c.args.declared.now.names (readable c.args.declared.now c.recall_readable.ensures) good.fits tops
    found.text_of_it.order found.few c.args.var_names.now.texts c.args.vars.now c.requires.vars c.args.subst.now c.requires.fit c.requires.sorts
    c.in_ok-line.line.items found.text_of_it.text_is

pub numbered_text-requires-clause-names : goal.numbered_text-requires-clause-names
numbered_text-requires-clause-names c =
    rw (c.signature-signature.ensures, c.names.ensures) (readable c.args.declared.now c.recall_readable.ensures)

pub numbered_text-requires-clause-printed : goal.numbered_text-requires-clause-printed
numbered_text-requires-clause-printed c =
    rw c.signature-signature.ensures
    (values-printable c.args.declared.now.signature c.args.var_names.now.texts c.args.subst.now c.args.vars.now c.requires.fit c.requires.vars)
