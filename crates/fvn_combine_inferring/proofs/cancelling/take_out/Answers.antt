-- The number at the place that was found is removed.
use Rattle.std.proofs.Common.{◌≡◌, ℕ, ◌<◌, true, List, length, get_or, sym, subst}
use Rattle.fvn_combine_inferring.specs.inner.Lists.{IsTakenOut}
use Rattle.fvn_combine_inferring.proofs.TakenOut.{removed}
use Rattle.fvn_combine_inferring.proofs.cancelling.take_out.Goals as goal

pub returns-in-Some : goal.returns-in-Some
returns-in-Some c =
    let xs = c.args.list.now.items in
    let found = subst (λ (l : List ℕ). (c.in-Some.j < length l) × (get_or l c.in-Some.j 0 ≡ c.args.x)) c.as_slice.ensures.value c.in-Some.ensures in
    subst (λ l. IsTakenOut xs l c.args.x true) (sym c.remove-taken.ensures.items) (removed xs c.in-Some.j c.args.x found.0 found.1)
