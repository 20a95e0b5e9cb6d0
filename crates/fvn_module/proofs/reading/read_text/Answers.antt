-- A fault of the pieces is one of the text.
use Rattle.std.proofs.Common.{sym, subst}
use Rattle.std.proofs.lemmas.Result.{IfErr-weaker}
use Rattle.fvn_lex.specs.Parts.{HasPieces}
use Rattle.fvn_module.specs.inner.Steps.{IsRowFault, IsTextFault}
use Rattle.fvn_module.proofs.Texts.{row-told}
use Rattle.fvn_module.proofs.reading.read_text.Goals as goal

pub returns-in-Ok-clause-err : goal.returns-in-Ok-clause-err
returns-in-Ok-clause-err c =
    let cut = subst (HasPieces c.args.bytes.now) (sym c.as_slice.ensures.value) c.in-Ok.ensures.ok in
    IfErr-weaker c.read_pieces.result (IsRowFault c.as_slice.result.now) (IsTextFault c.args.bytes.now)
    (row-told c.args.bytes.now c.as_slice.result.now cut) c.read_pieces.ensures.err
