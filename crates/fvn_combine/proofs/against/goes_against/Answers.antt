-- Either is so.
use Rattle.std.proofs.Common.{◌<◌, List, length, sym, subst, inl, inr, Option}
use Rattle.fvn_terms.specs.declared.plain.OpId.{OpId}
use Rattle.fvn_combine.specs.inner.Against.{IsAgainst, IsLooseAgainst}
use Rattle.fvn_combine.proofs.against.goes_against.Goals as goal

pub is_loose_against-requires : goal.is_loose_against-requires
is_loose_against-requires c = record {
  labels = subst (λ (l : List (Option OpId)). c.args.entry.now.class < length l) (sym c.as_slice-labels.ensures) c.requires.labels;
  tags = c.requires.tags;
}

pub is_against-requires : goal.is_against-requires
is_against-requires c = record {
  labels = subst (λ (l : List (Option OpId)). c.args.entry.now.class < length l) (sym c.as_slice-labels.ensures) c.requires.labels;
  tags = c.requires.tags;
}

pub returns-then-is_loose_against : goal.returns-then-is_loose_against
returns-then-is_loose_against c =
    let tags = c.args.tags.now in
    let entry = c.args.entry.now in
    λ _. inr (subst (λ labels. IsLooseAgainst c.args.opened.now.loose labels tags entry) c.as_slice-labels.ensures
    (subst (λ loose. IsLooseAgainst loose c.as_slice-labels.result.now tags entry) c.as_slice.ensures (c.is_loose_against.ensures c.if-is_loose_against.true)))

pub returns : goal.returns
returns c = λ t. inl (subst (λ labels. IsAgainst c.args.sig.now labels c.args.tags.now c.args.entry.now) c.as_slice-labels.ensures (c.is_against.ensures t))
