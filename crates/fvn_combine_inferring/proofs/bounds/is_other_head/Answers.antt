-- The operators are compared by their numbers.
use Rattle.std.proofs.Common.{◌≡◌, not, Some, None, sym, ap, ◌∙◌}
use Rattle.std.proofs.lemmas.Bool.{eq-eqb, false≢true}
use Rattle.fvn_terms.specs.declared.plain.OpId.{OpId}
use Rattle.fvn_combine_inferring.proofs.bounds.is_other_head.Goals as goal

pub returns-in-None : goal.returns-in-None
returns-in-None c t = (
  λ same. false≢true (sym c.if-eq.false ∙ c.eq.ensures ∙ eq-eqb c.args.g.0 c.args.f.0 (ap (λ (o : OpId). o.0) same)),
  λ i. let e : None ≡ Some c.args.g = sym c.in-None.is ∙ c.identity.ensures ∙ i in cc,
)

pub returns-in-Some : goal.returns-in-Some
returns-in-Some c t = (
  λ same. false≢true (sym c.if-eq.false ∙ c.eq.ensures ∙ eq-eqb c.args.g.0 c.args.f.0 (ap (λ (o : OpId). o.0) same)),
  λ i.
      let p : Some c.in-Some.e ≡ Some c.args.g = sym c.in-Some.is ∙ c.identity.ensures ∙ i in
      let q : c.in-Some.e ≡ c.args.g = cc in
      false≢true (sym (c.ne.ensures ∙ ap not (eq-eqb c.in-Some.e.0 c.args.g.0 (ap (λ (o : OpId). o.0) q))) ∙ t),
)
