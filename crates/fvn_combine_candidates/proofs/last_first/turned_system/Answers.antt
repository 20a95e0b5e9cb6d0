-- The rows that are left come first.
use Rattle.std.proofs.Common.{◌++◌, reverse, ap, ◌∙◌, subst, refl, All, Contains}
use Rattle.fvn_combine_candidates.proofs.last_first.turned_system.Goals as goal

pub returns : goal.returns
returns c = record {
  columns = refl;
  front = c.in_ok-first.first.items;
  among = subst (λ rows. All (Contains rows) c.in_ok-first.first.items) c.as_slice.ensures c.in_ok-first.ensures;
  rows = c.from_vec.ensures ∙ c.in_ok-rows.ensures ∙ ap (λ rows. c.in_ok-first.first.items ++ reverse rows) c.as_slice-2.ensures;
}
