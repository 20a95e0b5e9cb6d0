-- The number at the variable's place is raised.
use Rattle.std.proofs.Common.{◌+◌, List, ℕ, set, sym, ap, ◌∙◌, arith}
use Rattle.fvn_terms.specs.declared.plain.Var.{Var}
use Rattle.fvn_weights.specs.inner.Numbers.{found, place, capped}
use Rattle.fvn_weights.proofs.Placing.{placed_within, placed_number}
use Rattle.fvn_weights.proofs.numbers.raise_at.Goals as goal

pub bounds-list-i : goal.bounds-list-i
bounds-list-i c = placed_within c.args.x c.as_slice-list.result.now c.args.i (ap (λ (l : List (Var × ℕ)). place l c.args.x) c.as_slice-list.ensures.value ∙ c.requires)

pub offset_bounds-list-i : goal.offset_bounds-list-i
offset_bounds-list-i c =
    let h = placed_within c.args.x c.as_slice-list.result.now c.args.i (ap (λ (l : List (Var × ℕ)). place l c.args.x) c.as_slice-list.ensures.value ∙ c.requires) in omega (arith, h)

pub put-requires : goal.put-requires
put-requires c = placed_within c.args.x c.args.factors.now.items c.args.i c.requires

pub returns : goal.returns
returns c =
    let ps : List (Var × ℕ) = c.args.factors.now.items in
    let at = ap (λ (l : List (Var × ℕ)). place l c.args.x) c.as_slice-list.ensures.value ∙ c.requires in
    let number = placed_number c.args.x c.as_slice-list.result.now c.args.i _ at in
    let sum = c.plus-sum.ensures ∙ ap (λ n. capped (n + c.args.more)) (sym number ∙ ap (λ (l : List (Var × ℕ)). found l c.args.x) c.as_slice-list.ensures.value) in
    c.put.ensures ∙ ap (λ n. set ps c.args.i (c.args.x, n)) sum
