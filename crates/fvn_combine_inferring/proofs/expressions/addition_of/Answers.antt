-- The splits, the identity and the marks are those of the operator.
use Rattle.std.proofs.Common.{length, sym, ap, ◌∙◌, refl, subst}
use Rattle.fvn_combine_nodes.specs.States.{class_of}
use Rattle.fvn_combine_bounds.specs.Narrow.{IsNarrow, IsNeverIdentity}
use Rattle.fvn_combine_inferring.specs.inner.Bounds.{AreMarks}
use Rattle.fvn_combine_inferring.specs.inner.Splits.{AreSplits}
use Rattle.fvn_combine_inferring.proofs.expressions.addition_of.Goals as goal

pub splits_of-requires-clause-heads : goal.splits_of-requires-clause-heads
splits_of-requires-clause-heads c = ap length c.as_slice.ensures.value ∙ c.requires.heads

pub returns : goal.returns
returns c =
    let d = c.args.sig.now in
    let t = c.args.table.now in
    let s = c.args.state.now in
    let f = c.args.f in
    record {
      is = record {
        associative = c.requires.associative;
        unit = c.unit_class.ensures;
        splits = subst (AreSplits t s f) (sym c.from_vec.ensures) c.in_ok-splits.ensures;
        narrow = subst (AreMarks (length t.nodes) (IsNarrow d t (class_of s) f)) (sym c.from_vec-2.ensures) c.in_ok-narrow.ensures;
        other = subst (AreMarks (length t.nodes) (IsNeverIdentity d t (class_of s) f)) (sym c.from_vec-3.ensures) c.in_ok-other.ensures;
      };
      operator = refl;
    }
