-- One more class.
use Rattle.fvn_combine_nodes.specs.States.{class_of}
use Rattle.fvn_combine_admissible.specs.Listed.{tag_in}
use Rattle.fvn_combine_triangular.specs.declared.binders.Binder.TheVariants.{Nothing}
use Rattle.fvn_combine_triangular.specs.inner.Planning.{IsBinderOf}
use Rattle.fvn_combine_triangular.proofs.Fronts.{front_more}
use Rattle.fvn_combine_triangular.proofs.binders.binders_of.Goals as goal

pub loop-k-preserved : goal.loop-k-preserved
loop-k-preserved c = front_more Nothing (IsBinderOf c.args.sig.now c.args.table.now (class_of c.args.state.now) (tag_in c.args.tags.now) c.args.reading.now.sums) c.loop-k.k c.loop-k.binders.items c.push.new.self.items c.binder_of.result c.loop-k.invariant c.in_ok-push.ensures.items c.binder_of.ensures
