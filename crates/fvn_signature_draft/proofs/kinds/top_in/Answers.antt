-- The first maximal sort of the kind is found.
use Rattle.std.proofs.Common.{◌<◌, sym, ap, ◌∙◌}
use Rattle.std.specs.Prelude.{unwrap_or}
use Rattle.fvn_signature.proofs.FirstSorts.{find_from-false, find_from-true}
use Rattle.fvn_signature_draft.specs.Tops.{is_maximal_of}
use Rattle.fvn_signature_draft.proofs.kinds.top_in.Goals as goal

pub loop-s-preserved : goal.loop-s-preserved
loop-s-preserved c =
    let within : c.loop-s.s < c.args.collected.now.sorts = c.loop-s-test.true in
    c.loop-s.invariant ∙ find_from-false (is_maximal_of c.args.collected.now c.args.k) c.loop-s.s c.args.collected.now.sorts within (sym c.is_maximal_of.ensures ∙ c.if-is_maximal_of.false)

pub returns-then-is_maximal_of : goal.returns-then-is_maximal_of
returns-then-is_maximal_of c =
    let within : c.loop-s.s < c.args.collected.now.sorts = c.loop-s-test.true in
    ap (λ o. unwrap_or o c.args.k) (sym (c.loop-s.invariant ∙ find_from-true (is_maximal_of c.args.collected.now c.args.k) c.loop-s.s c.args.collected.now.sorts within (sym c.is_maximal_of.ensures ∙ c.if-is_maximal_of.true)))
