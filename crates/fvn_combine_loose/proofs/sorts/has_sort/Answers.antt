-- It is of those above its own.
use Rattle.std.proofs.Common.{Some, sym, ap, ◌∙◌}
use Rattle.std.proofs.lemmas.Option.{slice_get-get_or}
use Rattle.fvn_combine_nodes.specs.Table.{term_at}
use Rattle.fvn_combine_loose.proofs.Ranked.{has_above}
use Rattle.fvn_combine_loose.proofs.sorts.has_sort.Goals as goal

pub returns-in-Some-own : goal.returns-in-Some-own
returns-in-Some-own c t =
    let l = c.in-Some.ensures.lookup in
    has_above c.args.sig.now (term_at c.args.table.now.nodes c.args.k) c.in-Some-own.q c.args.s
    (c.requires.sorts c.args.k c.in-Some-own.q (slice_get-get_or c.args.sorts.now c.args.k c.in-Some.own.now l.3.0 ∙ ap Some (sym l.1 ∙ c.in-Some-own.is)))
    (c.leq.ensures.0 t)
