-- The last byte tells.
use Rattle.fvn_answer.proofs.Joining.{quoted-empty, last-quoted}
use Rattle.fvn_answer.proofs.texts.is_quoted.Goals as goal

pub returns-then-is_empty : goal.returns-then-is_empty
returns-then-is_empty c = quoted-empty c.args.text.now c.if-is_empty.ensures

pub returns : goal.returns
returns c = last-quoted c.args.text.now _ c.if-is_empty.ensures
