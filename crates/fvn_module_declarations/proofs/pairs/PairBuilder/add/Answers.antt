-- The table has the pair that is added.
use Rattle.std.proofs.Common.{◌<◌, sym, subst}
use Rattle.fvn_signature_draft.specs.declared.collected.Collected.{Collected}
use Rattle.fvn_module_declarations.proofs.PairTables.{table-more}
use Rattle.fvn_module_declarations.proofs.pairs.PairBuilder.add.Goals as goal

pub invariant_of-result-2 : goal.invariant_of-result-2
invariant_of-result-2 c =
    rw c.from.ensures (table-more c.self.inside.known.items c.self.inside.builder c.in_ok-builder.builder c.args.low c.args.high
    (subst (λ (o : Collected). c.args.low < o.sorts) (sym c.self.view_is) c.requires.low)
    (subst (λ (o : Collected). c.args.high < o.sorts) (sym c.self.view_is) c.requires.high)
    c.self.invariant c.in_ok-builder.ensures)
