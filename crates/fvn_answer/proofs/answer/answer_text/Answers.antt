-- All lines, and then the line of the end.
use Rattle.std.proofs.Common.{[], ◌∷◌, sym}
use Rattle.fvn_answer.specs.Writing.{bytes_of}
use Rattle.fvn_answer.proofs.Answering.{ended-append}
use Rattle.fvn_answer.proofs.Naming.{readable}
use Rattle.fvn_answer.proofs.answer.answer_text.Goals as goal

pub returns : goal.returns
returns c = record {
  lines = bytes_of c.in_ok-sorted.sorted.items;
  in_order = c.in_ok-sorted.ensures;
  last = c.in_ok-last.last.items;
  end_line = rw (c.signature.ensures, c.names.ensures) at c.in_ok-last.ensures;
  text_is = rw (c.in_ok-push_line.ensures, c.as_slice-3.ensures.value, c.in_ok-push_lines.ensures, c.as_slice-2.ensures.value, c.in_ok-text.ensures.items)
      (sym (ended-append (bytes_of c.in_ok-sorted.sorted.items) (c.in_ok-last.last.items ∷ [])));
}

pub end_line-requires-clause-names : goal.end_line-requires-clause-names
end_line-requires-clause-names c =
    rw (c.signature.ensures, c.names.ensures) (readable c.args.declared.now c.recall_readable.ensures)
