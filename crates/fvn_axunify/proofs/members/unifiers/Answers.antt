-- The members of the list.
use Rattle.std.proofs.Common.{map, ap, ◌∙◌}
use Rattle.std.specs.Prelude.{List}
use Rattle.fvn_cover.specs.declared.variant.Variant.{Variant}
use Rattle.fvn_axunify.proofs.members.unifiers.Goals as goal

pub returns : goal.returns
returns c = c.in_ok-all.ensures ∙ ap (λ (l : List Variant). map (λ v. v.subst) l) c.into_list-list.ensures
