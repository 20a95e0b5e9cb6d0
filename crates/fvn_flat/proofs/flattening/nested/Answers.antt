-- The last two terms become one.
use Rattle.std.proofs.Common.{[], ◌∷◌, ◌++◌, ap, ◌∙◌, append_assoc}
use Rattle.fvn_terms.specs.Plain.{terms}
use Rattle.fvn_forms.specs.Flat.{nest_all}
use Rattle.fvn_flat.proofs.Nesting.{nest_all-last}
use Rattle.fvn_flat.proofs.flattening.nested.Goals as goal

pub loop-t-preserved : goal.loop-t-preserved
loop-t-preserved c =
    let f = c.args.f in
    let left = c.pop-in-loop-t.new.self.items in
    c.loop-t.invariant
    ∙ ap (λ l. nest_all f (terms (l ++ c.loop-t.rest ∷ []))) c.in-Some-pop.ensures.items
    ∙ ap (λ l. nest_all f (terms l)) (append_assoc left (c.in-Some-pop.t ∷ []) (c.loop-t.rest ∷ []))
    ∙ nest_all-last f left c.in-Some-pop.t c.loop-t.rest c.in_ok-rest.rest c.in_ok-rest.ensures
