-- A variable that is bound stays bound, and another is bound to what it unfolds to.
use Rattle.std.proofs.Common.{[], ◌∷◌, ◌++◌, refl, sym, ap, ◌∙◌, inl, inr}
use Rattle.fvn_forms.specs.Flat.{FlatTerm}
use Rattle.fvn_flat.specs.Bindings.{bound}
use Rattle.fvn_combine_unfolding.proofs.Values.{some_of, none_of}
use Rattle.fvn_combine_unfolding.proofs.replacing.with_value.Goals as goal

pub returns-then-is_bound : goal.returns-then-is_bound
returns-then-is_bound c = inl (some_of (bound c.args.s c.args.x) (sym c.is_bound.ensures ∙ c.if-is_bound.true), refl)

pub with_pair-requires : goal.with_pair-requires
with_pair-requires c = none_of (bound c.args.s c.args.x) (sym c.is_bound.ensures ∙ c.if-is_bound.false)

pub returns : goal.returns
returns c =
    inr (none_of (bound c.args.s c.args.x) (sym c.is_bound.ensures ∙ c.if-is_bound.false), c.in_ok-more.ensures ∙ ap (λ (t : FlatTerm). c.args.s ++ (c.args.x, t) ∷ []) c.in_ok-t.ensures.exact)
