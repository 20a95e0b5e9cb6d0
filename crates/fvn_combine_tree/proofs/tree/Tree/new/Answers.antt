-- All partitions are to come in the state at the start.
use Rattle.std.proofs.Common.{[], ◌∷◌, ◌++◌, Some, sym, ap, ◌∙◌, subst}
use Rattle.fvn_combine_tree.specs.Trees.{IsToCome, AreInOrder}
use Rattle.fvn_combine_tree.specs.Questions.{IsStart}
use Rattle.fvn_combine_tree.proofs.Growing.{begun_all, ordered_one}
use Rattle.fvn_combine_tree.proofs.tree.Tree.new.Goals as goal

pub returns-in-None-clause-all : goal.returns-in-None-clause-all
returns-in-None-clause-all c class partition =
    absurd (subst (IsStart c.args.sig.now c.args.table.now) c.in-None.is c.in_ok-start.ensures class partition)

pub returns-in_ok-push-in-Some-clause-all : goal.returns-in_ok-push-in-Some-clause-all
returns-in_ok-push-in-Some-clause-all c class partition =
    let s = c.in-Some.state in
    let h = subst (IsStart c.args.sig.now c.args.table.now) c.in-Some.is c.in_ok-start.ensures in
    let items = c.in_ok-push-in-Some.ensures.items ∙ ap (λ l. l ++ s ∷ []) c.new-states.ensures.items in
    subst (λ l. IsToCome l class) (sym items) (begun_all c.args.sig.now c.args.table.now (Some s) h class partition)

pub returns-in_ok-push-in-Some-clause-ordered : goal.returns-in_ok-push-in-Some-clause-ordered
returns-in_ok-push-in-Some-clause-ordered c =
    let s = c.in-Some.state in
    let items = c.in_ok-push-in-Some.ensures.items ∙ ap (λ l. l ++ s ∷ []) c.new-states.ensures.items in
    subst AreInOrder (sym items) (ordered_one (Some s))

pub returns-in-None-clause-ordered : goal.returns-in-None-clause-ordered
returns-in-None-clause-ordered c = subst AreInOrder (sym c.new-states.ensures.items) tt
