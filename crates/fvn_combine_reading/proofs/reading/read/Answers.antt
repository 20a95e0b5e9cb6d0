-- The operators are associative.
use Rattle.std.proofs.Common.{sym, subst, All}
use Rattle.fvn_terms.specs.Signature.{axioms}
use Rattle.fvn_terms.specs.Equality.{IsAssociative}
use Rattle.fvn_combine_reading.proofs.Gathered.{all_associative}
use Rattle.fvn_combine_reading.proofs.reading.read.Goals as goal

pub all_sums-requires-clause-associative : goal.all_sums-requires-clause-associative
all_sums-requires-clause-associative c =
    let d = c.args.sig.now in
    subst (All (λ f. IsAssociative (axioms d f))) (sym c.as_slice.ensures.value) (all_associative d c.args.table.now c.in_ok-operators.operators.items c.in_ok-operators.ensures)
