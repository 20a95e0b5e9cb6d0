-- The rules that are needed under the head.
use Rattle.std.proofs.Common.{sym, subst}
use Rattle.fvn_rewrite.specs.inner.Trying.{AllSidesFit, TriesAs}
use Rattle.fvn_rewrite.specs.inner.Testing.{ToldAs}
use Rattle.fvn_rewrite.proofs.Roots.{sides_fit}
use Rattle.fvn_rewrite.proofs.Tested.{root_told}
use Rattle.fvn_rewrite.proofs.testing.is_redex.Goals as goal

pub some_match-requires : goal.some_match-requires
some_match-requires c =
    let d = c.args.sig.now in record {
      rules = subst (AllSidesFit d) (sym c.headed.ensures) (sides_fit d c.args.rules.now c.requires.rules c.recall_good.ensures c.recall_completed.ensures c.rules_are_lawful.ensures c.args.f);
      term = c.requires.term;
    }

pub returns : goal.returns
returns c =
    let d = c.args.sig.now in
    root_told d c.args.rules.now c.requires.rules c.recall_good.ensures c.recall_completed.ensures c.rules_are_coherent.ensures c.args.f c.args.t.now c.requires.head c.in_ok-met.met
    (subst (λ rules. ToldAs (TriesAs d rules c.args.t.now) c.in_ok-met.met) c.headed.ensures c.in_ok-met.ensures)
