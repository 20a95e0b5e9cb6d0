-- The substitutions so far.
use Rattle.std.proofs.Common.{take, All}
use Rattle.std.specs.List.{AllZip}
use Rattle.fvn_flat.specs.Bindings.{BindingsFit}
use Rattle.fvn_refine.specs.Refinements.{IsAtSorts}
use Rattle.fvn_refine.specs.inner.Rows.{way_of}
use Rattle.fvn_refine.proofs.resorting.all_resorted.Given as goal

abbrev pub invariant-loop-row : goal.invariant-loop-row
invariant-loop-row l = record {
  at : AllZip (λ row r. IsAtSorts l.sig l.subst (way_of l.sig l.vars row) r) (take l.row-index l.rows) l.all.items;
  fit : All (BindingsFit l.sig) l.all.items;
}
