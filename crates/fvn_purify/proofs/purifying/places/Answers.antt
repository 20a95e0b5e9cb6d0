-- The lists one after another.
use Rattle.std.proofs.Common.{◌<◌, ◌++◌, ◌∙◌, length, sym, ap, subst, slice_get, All}
use Rattle.std.specs.List.{filter}
use Rattle.std.proofs.lemmas.Option.{slice_get_within}
use Rattle.fvn_combine_nodes.specs.declared.table.Node.TheVariants.{App}
use Rattle.fvn_combine_nodes.proofs.Lists.{all_from}
use Rattle.fvn_purify.specs.Parts.{IsEach, ArePair, may_collapse}
use Rattle.fvn_purify.proofs.purifying.places.Goals as goal

pub collapsing-requires : goal.collapsing-requires
collapsing-requires c =
    let nodes = c.args.table.now.nodes in
    let each = c.in_ok-listed.ensures in
    subst (All (λ i. i < length nodes)) (sym c.as_slice-3.ensures.value) (all_from (λ i. i < length nodes) c.in_ok-listed.listed.items (λ i h. let k = (each.all i).0 h in slice_get_within nodes i (App k.operator k.arguments) k.is))

pub returns : goal.returns
returns c =
    let d = c.args.sig.now in
    let nodes = c.args.table.now.nodes in
    let listed = c.in_ok-listed.listed.items in
    let variables = c.in_ok-variables.variables.items in
    record {
      abstracted = listed;
      shared = variables;
      each_abstracted = c.in_ok-listed.ensures;
      each_shared = c.in_ok-variables.ensures;
      parts = c.in_ok-parts.ensures ∙ ap (λ l. l ++ c.as_slice-2.result.now) c.as_slice.ensures.value ∙ ap (λ l. listed ++ l) c.as_slice-2.ensures.value;
      headed =
          c.in_ok-headed.ensures
          ∙ ap (λ l. l ++ c.as_slice-5.result.now) (c.as_slice-4.ensures.value ∙ c.in_ok-collapsing.ensures ∙ ap (filter (λ i. may_collapse d (slice_get nodes i))) c.as_slice-3.ensures.value)
          ∙ ap (λ l. filter (λ i. may_collapse d (slice_get nodes i)) listed ++ l) c.as_slice-5.ensures.value;
      pairs = subst (IsEach (ArePair d c.args.table.now)) (sym c.from_vec.ensures) c.in_ok-pairs.ensures;
    }
