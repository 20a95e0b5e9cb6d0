-- Every unifier that is asked for makes a partition, and the tree has all partitions.
use Rattle.std.proofs.Common.{sym, ◌∙◌, subst, inl}
use Rattle.fvn_terms.specs.declared.declarations.Declarations.{Declarations}
use Rattle.fvn_flat.specs.Problems.{variables_of}
use Rattle.fvn_flat.specs.Solving.{problem_of}
use Rattle.fvn_flat.specs.SolvedLists.{IsKindUnifier}
use Rattle.fvn_flat.specs.declared.solver.Pairs.{Pairs}
use Rattle.fvn_combine_nodes.specs.Classes.{IsNodePartition}
use Rattle.fvn_combine_tree.specs.Trees.{IsToCome}
use Rattle.fvn_combine_nodes.specs.Unifiers.{kernel}
use Rattle.fvn_combine_drawing.specs.CombineBoundsNarrow.{KeepsSorts}
use Rattle.fvn_combine.specs.Tasks.{Combining, IsWanted}
use Rattle.fvn_combine.proofs.Standing.{stands_for_itself}
use Rattle.fvn_combine.proofs.combiner.Combiner.begun.Goals as goal

pub returns-clause-all : goal.returns-clause-all
returns-clause-all c = λ u unifies keeps.
    let k = c.in_ok-task.task in
    let kept = subst (λ d. IsKindUnifier d (problem_of k.given) u) (sym c.in_ok-task.ensures.declarations) (subst (λ (p : Pairs). IsKindUnifier c.args.sig.now (problem_of p) u) (sym c.in_ok-task.ensures.given) unifies) in
    let wanted : IsWanted k u = record {
      unifies = kept;
      keeps_sorts = λ e.
          subst (λ (d : Declarations). KeepsSorts d (variables_of (problem_of k.given)) u) (sym c.in_ok-task.ensures.declarations)
          (subst (λ (p : Pairs). KeepsSorts c.args.sig.now (variables_of (problem_of p)) u) (sym c.in_ok-task.ensures.given) (keeps (sym c.in_ok-task.ensures.sorted ∙ e)));
    } in
    let is = c.recall.ensures in
    let partition = (c.unifiers_partition.ensures k.declarations is.good.fits (problem_of k.given) is.is_given.kinds k.table is.well_made is.table_of u kept).partition in
    let class = kernel k.declarations u k.table.nodes in
    let admitted = subst (λ (k : Combining). IsNodePartition k.declarations k.table class → IsToCome c.in_ok-tree.tree class) c.task.view_is (c.in_ok-tree.ensures.all class) partition in
    (wanted, (u, stands_for_itself k is c.more_general_is_a_preorder.ensures u wanted, inl admitted))
