-- A word gains where it has the lower bit, and only there.
use Rattle.std.proofs.Common.{sym, ◌∙◌}
use Rattle.std.specs.Int.{bit_at}
use Rattle.std.proofs.lemmas.Bool.{false≢true, cond-true, cond-false, eq-eqb, ne_eqb}
use Rattle.fvn_signature_draft.proofs.closure.gaining.Goals as goal

pub returns-then-has : goal.returns-then-has
returns-then-has c = sym (cond-true _ _ _ (eq-eqb (bit_at c.args.word c.args.k) 1 (c.has.ensures.0 c.if-has.true)))

pub returns-else-has : goal.returns-else-has
returns-else-has c = sym (cond-false _ _ _ (ne_eqb (bit_at c.args.word c.args.k) 1 (λ h. false≢true (sym c.if-has.false ∙ c.has.ensures.1 h))))
