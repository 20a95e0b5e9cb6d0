-- Each variable of the problem is a node, and so among those that are looked at.
use Rattle.std.proofs.Common.{◌≡◌, false, All, subst}
use Rattle.std.proofs.lemmas.List.Elements.{All-contains}
use Rattle.fvn_terms.specs.declared.plain.Var.{Var}
use Rattle.fvn_combine_nodes.proofs.NodesOf.{variable_place}
use Rattle.fvn_tests_combine.proofs.tests.given.has_named.Goals as goal

abbrev IsNamed : Var → Type 0
IsNamed x = x.fresh ≡ false

pub returns : goal.returns
returns c told x listed =
    let place = variable_place c.recall_well_made.ensures c.in_ok-table.ensures x listed in
    let among = (c.in_ok-vars.ensures.exact x).1 (place.0, place.2) in
    All-contains IsNamed c.in_ok-vars.vars.items x (subst (All IsNamed) c.as_slice.ensures.value (c.are_named-named.ensures told)) among
