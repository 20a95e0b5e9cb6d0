-- The binders so far.
use Rattle.fvn_combine_nodes.specs.States.{class_of}
use Rattle.fvn_combine_admissible.specs.Listed.{tag_in}
use Rattle.fvn_combine_triangular.specs.declared.binders.Binder.TheVariants.{Nothing}
use Rattle.fvn_combine_triangular.specs.inner.Planning.{IsBinderOf}
use Rattle.fvn_combine_triangular.proofs.Fronts.{AreFront}
use Rattle.fvn_combine_triangular.proofs.binders.binders_of.Given as goal

abbrev pub invariant-loop-k : goal.invariant-loop-k
invariant-loop-k l = AreFront Nothing (IsBinderOf l.sig l.table (class_of l.state) (tag_in l.tags) l.reading.sums) l.k l.binders.items
