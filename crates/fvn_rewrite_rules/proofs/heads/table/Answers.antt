-- One operator more.
use Rattle.std.proofs.Common.{◌≡◌, ◌+◌, [], ◌∷◌, ◌++◌, List, length, refl, sym, ap, ◌∙◌, subst, arith}
use Rattle.fvn_rewrite_rules.specs.declared.rule.Rule.{Rule}
use Rattle.fvn_rewrite_rules.proofs.Needed.{IsTableUpTo, no_table, table_more, whole_table}
use Rattle.fvn_rewrite_rules.proofs.heads.table.Goals as goal

pub loop-n-init : goal.loop-n-init
loop-n-init c = subst (IsTableUpTo c.args.sig.now c.args.rules.now 0) (sym c.new-all.ensures.items) (no_table c.args.sig.now c.args.rules.now)

pub loop-n-preserved : goal.loop-n-preserved
loop-n-preserved c =
    let d = c.args.sig.now in
    let rules = c.args.rules.now in
    let n = c.loop-n.n in
    let table = c.loop-n.all.items in
    subst (IsTableUpTo d rules (n + 1)) (sym (c.in_ok-push.ensures.items ∙ ap (λ (l : List Rule). table ++ l ∷ []) c.from_vec.ensures))
    (table_more d rules n table c.loop-n.invariant _ refl c.in_ok-needed.needed.items c.in_ok-needed.ensures)

pub returns : goal.returns
returns c =
    let d = c.args.sig.now in
    let e : c.loop-n.n ≡ length d.ops = omega (arith, c.loop-n-test.false, c.loop-n.auto.n-end, c.op_count-n-end.ensures) in
    whole_table d c.args.rules.now c.loop-n.n c.loop-n.all.items e c.loop-n.invariant
