-- The test tells which number it is.
use Rattle.std.proofs.Common.{sym, ap, ◌∙◌}
use Rattle.std.specs.Prelude.{if◌then◌else◌, Bool}
use Rattle.fvn_match.proofs.Hopeless.{low_is}
use Rattle.fvn_match.proofs.refusing.if_low.Goals as goal

pub returns-then-low : goal.returns-then-low
returns-then-low c =
    let e = low_is c.args.sig.now c.args.s c.least_sort.result c.args.t.now c.leq-low.result c.least_sort.ensures.exact c.leq-low.ensures ∙ c.if-low.true in
    sym (ap (λ (b : Bool). if b then c.args.n else 0) e)

pub returns-else-low : goal.returns-else-low
returns-else-low c =
    let e = low_is c.args.sig.now c.args.s c.least_sort.result c.args.t.now c.leq-low.result c.least_sort.ensures.exact c.leq-low.ensures ∙ c.if-low.false in
    sym (ap (λ (b : Bool). if b then c.args.n else 0) e)
