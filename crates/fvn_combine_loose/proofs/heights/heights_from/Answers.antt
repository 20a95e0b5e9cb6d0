-- By the heights that were checked.
use Rattle.std.proofs.Common.{◌≡◌, ℕ, List, [], length, sym, ◌∙◌, subst}
use Rattle.fvn_combine_loose.specs.Loose.{IsLoose}
use Rattle.fvn_combine_loose.proofs.heights.heights_from.Goals as goal

pub returns-then-is_loose : goal.returns-then-is_loose
returns-then-is_loose c = (
  subst (λ (l : List ℕ). length l ≡ length c.args.table.now.nodes) (sym c.from_vec.ensures) c.in_ok-heights.ensures,
  λ sorted. subst (λ l. IsLoose c.args.sig.now c.args.table.now c.args.state.now sorted c.args.z l []) (c.as_slice.ensures.value ∙ sym c.from_vec.ensures) (c.is_loose.ensures c.if-is_loose.true sorted),
)
