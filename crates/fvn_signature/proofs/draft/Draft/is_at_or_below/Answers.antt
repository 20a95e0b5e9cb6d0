-- A sort is at or below itself, its kind and where the pairs lead.
use Rattle.std.proofs.Common.{sym, ap, ◌∙◌}
use Rattle.std.proofs.lemmas.Bool.{false≢true, eq-eqb}
use Rattle.fvn_terms.specs.declared.plain.SortId.{SortId}
use Rattle.fvn_forms.proofs.SortTests.{same_sort-true}
use Rattle.fvn_signature.proofs.Orders.{at_or_below-same, at_or_below-kind, at_or_below-led}
use Rattle.fvn_signature.proofs.draft.Draft.is_at_or_below.Goals as goal
use Rattle.fvn_signature.proofs.draft.Draft.is_at_or_below.Goals.{then-eq-via-then-eq, then-eq-via-else-eq+then-eq-2}

pub returns-then-eq : goal.returns-then-eq
returns-then-eq c = elim c.then-eq.branch [
  | then-eq-via-then-eq w ↦ at_or_below-same c.args.self.now.declarations c.args.self.now.sound.kinded c.args.low c.args.high (same_sort-true c.args.low c.args.high (sym w.if-eq.ensures))
  | then-eq-via-else-eq+then-eq-2 w ↦ at_or_below-kind c.args.self.now.declarations c.args.self.now.sound.kinded c.args.low c.args.high (sym w.kind.ensures ∙ same_sort-true w.kind.result c.args.high (sym w.if-eq-2.ensures))
]

pub returns : goal.returns
returns c =
    at_or_below-led c.args.self.now.declarations c.args.self.now.sound.kinded c.args.low c.args.high c.leads.result
    (λ e. false≢true (c.if-eq.ensures ∙ eq-eqb c.args.low.0 c.args.high.0 (ap (λ (s : SortId). s.0) e)))
    (λ e. false≢true (c.if-eq-2.ensures ∙ eq-eqb c.kind.result.0 c.args.high.0 (ap (λ (s : SortId). s.0) (c.kind.ensures ∙ e))))
    c.leads.ensures.sound
    c.leads.ensures.complete
