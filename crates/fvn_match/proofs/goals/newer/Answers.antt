-- The pair is of the variable or of another.
use Rattle.std.proofs.Common.{◌≡◌, Bool, Option, Some, None, sym, ap, ◌∙◌, subst}
use Rattle.std.specs.Prelude.{if◌then◌else◌, MatchOption}
use Rattle.fvn_forms.specs.Flat.{FlatTerm}
use Rattle.fvn_flat.specs.Bindings.{bound}
use Rattle.fvn_match.proofs.goals.newer.Goals as goal

pub returns-then-is : goal.returns-then-is
returns-then-is c = λ b h. ap (λ (z : Bool). if z then Some c.args.pair.now.value.now else bound b c.args.v) (sym c.is_named-is.ensures ∙ c.if-is.true)

pub returns : goal.returns
returns c = λ b h.
    subst (λ (o : Option FlatTerm). MatchOption c.args.before (o ≡ None) (λ t. o ≡ Some t.now)) (sym (ap (λ (z : Bool). if z then Some c.args.pair.now.value.now else bound b c.args.v) (sym c.is_named-is.ensures ∙ c.if-is.false))) h
