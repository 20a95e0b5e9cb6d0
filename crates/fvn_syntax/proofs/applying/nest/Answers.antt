-- The term that is taken and the sum so far are one sum, so the whole stays the same.
use Rattle.std.proofs.Common.{◌∷◌, ◌++◌, [], sym, ap, ◌∙◌}
use Rattle.fvn_syntax.specs.Resolve.{nested_all}
use Rattle.fvn_syntax.proofs.Nesting.{nested_all-two}
use Rattle.fvn_syntax.proofs.applying.nest.Goals as goal

pub loop-term-preserved : goal.loop-term-preserved
loop-term-preserved c =
    c.loop-term.invariant
    ∙ ap (λ xs. nested_all c.args.op (xs ++ (c.loop-term.whole ∷ []))) c.in-Some-pop.ensures.items
    ∙ nested_all-two c.args.op c.pop-in-loop-term.new.self.items c.in-Some-pop.term c.loop-term.whole
    ∙ ap (λ w. nested_all c.args.op (c.pop-in-loop-term.new.self.items ++ (w ∷ []))) (sym c.in_ok-whole.ensures)
