-- A term that the operator heads is a nested sum.
use Rattle.std.proofs.Common.{rules, ◌≡◌, false, nat_eq, length, sym, ap, ◌∙◌}
use Rattle.fvn_terms.specs.Plain.{term}
use Rattle.fvn_terms.specs.Equality.{is_sum}
use Rattle.fvn_flat.proofs.Gathering.{nested_here}
use Rattle.fvn_flat.proofs.flattening.nested_args.Goals as goal

pub returns-then-is_sum : goal.returns-then-is_sum
returns-then-is_sum c =
    let some : nat_eq (length c.us.inside.items.items) 0 ≡ false = ap (λ n. nat_eq n 0) (sym c.us.inside.items.ok.0) ∙ sym c.is_empty.ensures ∙ c.if-is_empty.false in
    let one : c.args.f ≡ c.in-App.g = search rules in
    nested_here c.args.sig.now c.args.f (term c.args.t.now) c.in-App.g c.us.inside.items.items c.in-App.us (ap term c.in-App.is) c.us.view_is some one (ap is_sum (sym c.axioms.ensures) ∙ sym c.is_sum.ensures.exact ∙ c.if-is_sum.true)
