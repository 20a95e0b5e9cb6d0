-- Two of the classes that it adds have a summand, or one is a part.
use Rattle.std.proofs.Common.{ℕ, ◌≤◌, List, [], ◌∷◌, sym, subst}
use Rattle.std.specs.Prelude.{sum_by}
use Rattle.fvn_forms.specs.Flat.{FlatTerm}
use Rattle.fvn_combine_inferring.specs.Sorted.{GoWithSorts}
use Rattle.fvn_combine_inferring.specs.Rows.{many, AreSides}
use Rattle.fvn_combine_inferring.proofs.HeadsTold.{two_summands}
use Rattle.fvn_combine_inferring.proofs.heads.adds_two.Goals as goal

pub has_part_in-large-requires-clause-sides : goal.has_part_in-large-requires-clause-sides
has_part_in-large-requires-clause-sides c =
    subst (AreSides c.args.sig.now c.args.table.now c.args.state.now c.args.addition.now.operator (c.args.i ∷ [])) (sym c.as_slice-classes.ensures.value)
    (rw c.in-Some.is at c.in_ok-added.ensures.sides)

pub returns-then-is_two : goal.returns-then-is_two
returns-then-is_two c t =
    let d = c.args.sig.now in
    let s = c.args.state.now in
    let sorted = c.args.known.now.sorted in
    let f = c.args.addition.now.operator in
    let least : (values : ℕ → FlatTerm) → GoWithSorts d c.args.table.now s sorted values → c.count_summands.result ≤ sum_by (many d s f values) c.in-Some.list.items =
    λ values go. subst (λ (l : List ℕ). c.count_summands.result ≤ sum_by (many d s f values) l) c.as_slice-classes.ensures.value (c.count_summands.ensures values go) in
    two_summands d c.args.table.now s sorted f c.args.i c.count_summands.result c.in-Some.list.items (rw c.in-Some.is at c.in_ok-added.ensures.sides) least (c.is_two.ensures c.if-is_two.true)
