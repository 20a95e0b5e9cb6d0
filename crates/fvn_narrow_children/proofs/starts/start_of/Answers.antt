-- The renamed variant is a start.
use Rattle.std.proofs.Common.{[], sym, ◌∙◌, subst, arith}
use Rattle.std.specs.Prelude.{AllPairs, ◌≢◌}
use Rattle.fvn_terms.specs.declared.plain.Var.{Var}
use Rattle.fvn_flat.proofs.ListedVariables.{distinct_pairs}
use Rattle.fvn_narrow_children.specs.inner.Renaming.{value_variables}
use Rattle.fvn_narrow_children.proofs.NewNames.{values_distinct}
use Rattle.fvn_narrow_children.proofs.StartFacts.{started}
use Rattle.fvn_narrow_children.proofs.starts.start_of.Goals as goal

pub fresh_variables-requires : goal.fresh_variables-requires
fresh_variables-requires c =
    let v = c.args.v.now in
    let is = c.as_slice.ensures.value ∙ c.in_ok-names.ensures in record {
      once = subst (AllPairs (λ (x y : Var). x ≢ y)) (sym is) (distinct_pairs (value_variables v.subst v.vars []) (values_distinct v.subst v.vars [] tt));
      number = omega (arith, c.if-len.false, c.len.ensures, c.as_slice.ensures.len);
    }

pub renamed-requires : goal.renamed-requires
renamed-requires c = record { variant = c.requires.variant; fits = c.in_ok-s.ensures.fits c.args.sig.now }

pub returns : goal.returns
returns c =
    let v = c.args.v.now in
    started c.args.sig.now c.recall_good.ensures v c.in_ok-variant.variant c.requires.variant c.requires.holds c.in_ok-s.next c.as_slice.result.now (c.as_slice.ensures.value ∙ c.in_ok-names.ensures) c.in_ok-s.s c.in_ok-s.ensures.named c.in_ok-s.ensures.apart
    (c.in_ok-s.ensures.fits c.args.sig.now) c.in_ok-variant.ensures (omega (arith, c.in_ok-s.ensures.next)) (omega (arith, c.if-len.false, c.len.ensures, c.as_slice.ensures.len, c.in_ok-s.ensures.next))
