-- What the choices that are left exclude.
use Rattle.std.proofs.Common.{◌≡◌, List, false, drop, subst}
use Rattle.std.proofs.lemmas.List.{take_rest}
use Rattle.fvn_terms.specs.declared.plain.Var.{Var}
use Rattle.fvn_terms.specs.Plain.{term}
use Rattle.fvn_rewrite_laws.specs.declared.shapes.Shape.{Shape}
use Rattle.fvn_cohere.specs.inner.Searching.{shapes_by, is_met}
use Rattle.fvn_cohere.specs.inner.Outlooks.{Fills}
use Rattle.fvn_cohere.proofs.Hopeless.{none_found, offers_drop}
use Rattle.fvn_cohere.proofs.searching.Search.is_hopeless.Goals as goal

pub excludes-requires : goal.excludes-requires
excludes-requires c = record {
  identities = c.requires.posed.identities_are;
  left = c.requires.posed.left_term;
  right = c.requires.posed.right_term;
}

pub returns : goal.returns
returns c = λ h.
    let s = c.args.self.now in
    let d = s.sig.now in
    let env = shapes_by c.args.chosen.now in
    let test = is_met d s.sought s.identities.now (term s.left.now) (term s.right.now) in
    none_found d test (drop c.args.from s.unchosen.now) (offers_drop d s.unchosen.now c.args.from c.requires.posed.offers) env c.requires.allowed
    (subst (λ (l : List (Var × List Shape)). (filled : Var → Shape) → Fills d l env filled → test filled ≡ false) (take_rest s.unchosen.now c.args.from) (c.excludes.ensures h))
