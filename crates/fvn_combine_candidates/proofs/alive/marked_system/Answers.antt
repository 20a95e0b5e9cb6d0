-- The row comes first.
use Rattle.std.proofs.Common.{◌∷◌, [], ◌++◌, reverse, ap, ◌∙◌, refl}
use Rattle.fvn_combine_candidates.proofs.alive.marked_system.Goals as goal

pub returns : goal.returns
returns c = record {
  columns = refl;
  rows =
      c.from_vec.ensures ∙ c.in_ok-rows.ensures
      ∙ ap (λ rows. rows ++ reverse c.as_slice.result.now) (c.in_ok-push.ensures.items ∙ ap (λ rows. rows ++ c.in_ok-copy.copy ∷ []) c.new-first.ensures.items ∙ ap (λ row. row ∷ []) c.in_ok-copy.ensures)
      ∙ ap (λ rows. (c.args.row.now ∷ []) ++ reverse rows) c.as_slice.ensures;
}
