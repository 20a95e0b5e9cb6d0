-- What is found at a node is added.
use Rattle.std.proofs.Common.{false, sym, ap, ◌∙◌, subst, All}
use Rattle.std.specs.Prelude.{IfSome}
use Rattle.std.proofs.lemmas.List.Elements.{All-push}
use Rattle.fvn_combine_loose.specs.Loose.{IsLooseClass}
use Rattle.fvn_combine_loose.specs.inner.Checks.{IsLooseBy}
use Rattle.fvn_combine_loose.proofs.heights.find_classes.Goals.{in-None, in-Some+in_ok-push-in-Some}
use Rattle.fvn_combine_loose.proofs.heights.find_classes.Goals as goal

pub loop-z-preserved : goal.loop-z-preserved
loop-z-preserved c =
    let d = c.args.sig.now in
    let t = c.args.table.now in
    let s = c.args.state.now in
    let z = c.loop-z.z in
    elim c.match-found.branch [
      | in-None w ↦ subst (All (IsLooseClass d t s)) (sym (ap (λ v. v.items) w.all-is)) c.loop-z.invariant
      | in-Some+in_ok-push-in-Some w ↦
          let h : IsLooseBy d t s z w.in-Some.field-0 = subst (λ o. IfSome o (IsLooseBy d t s z)) w.in-Some.is c.in_ok-found.ensures in
          subst (All (IsLooseClass d t s)) (sym (ap (λ v. v.items) w.all-is ∙ w.in_ok-push-in-Some.ensures.items))
          (All-push (IsLooseClass d t s) c.loop-z.all.items z c.loop-z.invariant record { heights = w.in-Some.field-0; loose = h.1 false })
    ]
