-- What the loop of `push_sorts` keeps: with the sorts that are left the text is that with all of them.
use Rattle.std.proofs.Common.{◌≡◌, ◌++◌, map, drop}
use Rattle.fvn_cmd_texts.specs.Refusals.{spaced, sort_text}
use Rattle.fvn_cmd_texts.proofs.signatures.push_sorts.Given as goal

abbrev pub invariant-loop-s : goal.invariant-loop-s
invariant-loop-s l =
    l.text.items ++ spaced (map (sort_text l.names l.tops) (drop l.s-index l.sorts))
    ≡ l.fn.text.items ++ spaced (map (sort_text l.names l.tops) l.sorts)
