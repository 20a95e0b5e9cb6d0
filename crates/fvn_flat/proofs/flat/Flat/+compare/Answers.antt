-- Where one list ends, the longer one comes later.
use Rattle.std.proofs.Common.{◌≡◌, ap, sym, ◌∙◌, length, inl, inr}
use Rattle.std.specs.Prelude.{◌⊎◌}
use Rattle.std.specs.Ordering.{nat_cmp}
use Rattle.fvn_flat.proofs.Comparisons.{lengths_decide}
use Rattle.fvn_flat.proofs.flat.Flat.+compare.Goals as goal

pub returns-in-None : goal.returns-in-None
returns-in-None t c =
    let a = c.loop-t.t-iterator.a.rest.now in
    let b = c.loop-t.t-iterator.b.rest.now in
    let ended : (length a ≡ 0) ⊎ (length b ≡ 0) = elim c.in-None.ensures.steps [ inl p ↦ inl p.1.0 | inr p ↦ inr p.1.0 ] in
    let left : c.len.result ≡ length c.in-App-App.ts.items = c.len.ensures ∙ c.in-App-App.ts.ok.0 in
    let right : c.len-in-App-App.result ≡ length c.in-App-App.us.items = c.len-in-App-App.ensures ∙ c.in-App-App.us.ok.0 in
    c.cmp-in-App-App-3.ensures
    ∙ ap (λ n. nat_cmp n c.len-in-App-App.result) left
    ∙ ap (λ n. nat_cmp (length c.in-App-App.ts.items) n) right
    ∙ sym (lengths_decide c.in-App-App.ts.items c.in-App-App.us.items a b ended c.loop-t.invariant.as_many)
    ∙ sym c.loop-t.invariant.decide
