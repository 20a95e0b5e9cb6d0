-- An identity is bad exactly where some rank gives a kind that it is not of.
use Rattle.std.proofs.Common.{◌≡◌, List, sym, ap, ◌∙◌, subst}
use Rattle.std.specs.List.{Any}
use Rattle.fvn_terms.specs.declared.declarations.OpDecl.{OpDecl}
use Rattle.fvn_terms.specs.declared.declarations.Rank.{Rank}
use Rattle.fvn_terms.specs.Signature.{kind, declared, HasKind}
use Rattle.fvn_terms.specs.Equality.{constant, identity}
use Rattle.fvn_sorts.proofs.ShapeLemmas.{bad_identity}
use Rattle.fvn_sorts.proofs.conditions.shapes.has_bad_identity.Goals as goal

pub returns : goal.returns
returns c =
    let d = c.args.draft.now.declarations in
    let e = c.in-Some-identity.identity in
    let named = ap (λ (o : OpDecl). identity o.axioms) (sym c.in-Some.ensures) ∙ sym c.in-Some-identity.ensures in
    let all : c.as_slice.result.now ≡ (declared d c.args.op).ranks = c.as_slice.ensures ∙ ap (λ (o : OpDecl). o.ranks) c.in-Some.ensures in
    let P = λ (r : Rank). HasKind d (constant e) (kind d r.result) → ⊥ in
    let bad = bad_identity c.args.collected.now d c.requires.is c.args.op e named in (
      λ h. bad.0 (subst (λ (l : List Rank). Any P l) all (c.has_other_kind.ensures.0 h)),
      λ w. c.has_other_kind.ensures.1 (subst (λ (l : List Rank). Any P l) (sym all) (bad.1 w)),
    )
