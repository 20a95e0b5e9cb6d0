-- One more node.
use Rattle.std.proofs.Common.{◌≡◌, ℕ, ◌+◌, ◌<◌, ◌∙◌, true, false, length, sym, ap, subst, arith}
use Rattle.std.proofs.lemmas.Option.{slice_get_within}
use Rattle.fvn_combine_nodes.specs.declared.table.Node.TheVariants.{Var}
use Rattle.fvn_purify.specs.Theories.{IsSharedVariable}
use Rattle.fvn_purify.specs.Parts.{IsEach}
use Rattle.fvn_purify.proofs.Listed.{each_next, each_skip, each_end}
use Rattle.fvn_purify.proofs.listing.shared.Goals.{then-is_shared+in_ok-push, else-is_shared}
use Rattle.fvn_purify.proofs.listing.shared.Goals as goal

pub loop-i-preserved : goal.loop-i-preserved
loop-i-preserved c =
    let Has = λ (k : ℕ). IsSharedVariable c.args.sig.now c.args.table.now k in
    let i = c.loop-i.i in
    let items = c.loop-i.list.items in
    let each = c.loop-i.invariant in
    elim c.if-is_shared.branch [
      | then-is_shared+in_ok-push w ↦
          subst (IsEach (λ (k : ℕ). (k < i + 1) × Has k)) (sym (ap (λ v. v.items) w.list-is ∙ w.in_ok-push.ensures.items)) (each_next Has items i each (c.is_shared.ensures.0 w.if-is_shared.true))
      | else-is_shared w ↦
          subst (IsEach (λ (k : ℕ). (k < i + 1) × Has k)) (sym (ap (λ v. v.items) w.list-is)) (each_skip Has items i each (λ h. let z : true ≡ false = sym (c.is_shared.ensures.1 h) ∙ w.if-is_shared.false in cc))
    ]

pub returns : goal.returns
returns c =
    let end = c.loop-i-test.false in
    let n = ap length c.nodes-i-end.ensures in
    each_end (λ (k : ℕ). IsSharedVariable c.args.sig.now c.args.table.now k) c.loop-i.list.items c.loop-i.i c.loop-i.invariant (λ k h. let l = slice_get_within c.args.table.now.nodes k (Var h.0.0) h.0.1 in omega arith)
