-- the first variant
use Rattle.std.proofs.Common.{sym, ap, ◌∙◌, arith}
use Rattle.fvn_flat.specs.Variables.{renaming}
use Rattle.fvn_closure.proofs.Known.{known_of}
use Rattle.fvn_fold.proofs.Begins.{explorable_of}
use Rattle.fvn_fold.proofs.Firsts.{start_variables, first_start}
use Rattle.fvn_fold.proofs.beginning.begin.Goals as goal

pub fresh_variables-requires-clause-once : goal.fresh_variables-requires-clause-once
fresh_variables-requires-clause-once g c = rw (c.as_slice.ensures.value, c.in_ok-vars.ensures) (start_variables c.args.start.now).once

pub rest_all-requires-clause-names : goal.rest_all-requires-clause-names
rest_all-requires-clause-names g c κs within = c.in_ok-names.ensures.fits c.args.sig.now

pub returns-in-Forms-clause-begun : goal.returns-in-Forms-clause-begun
returns-in-Forms-clause-begun g c =
    let s = g.E.Expander.setting c.args.expander.now in
    let start = c.args.start.now in
    let explorable = explorable_of s c.args.sig.now start c.requires.setting c.recall_good.ensures c.recall_completed.ensures c.in_ok-terms.ensures.lawful c.requires.start c.requires.fixed.over in
    let known = known_of c.rewriting_is_lawful.ensures c.sequences_are_lawful.ensures c.lists_are_lawful.ensures c.kinded_theories_are_lawful.ensures c.rules_are_lawful.ensures s start explorable in
    first_start s start explorable known c.requires.fixed.irreducible (record { terms = c.from_vec.result; subst = c.in_ok-names.names; vars = c.from_vec-in-Forms.result })
    (c.from_vec-in-Forms.ensures ∙ c.in_ok-vars.ensures) (c.in_ok-names.ensures.named ∙ ap (renaming 0) (c.as_slice.ensures.value ∙ sym c.from_vec-in-Forms.ensures))
    (c.in_ok-names.ensures.fits s.declarations) c.in_ok-names.field-0-1 (rw c.from_vec-in-Forms.ensures (rw c.as_slice.ensures.value at c.in_ok-names.ensures.apart))
    (let n = c.in_ok-names.ensures.next in let l = c.as_slice.ensures.len in let t = c.len.ensures in let m = c.if-len.false in omega (arith, n, l, t, m)) (rw c.from_vec.ensures (rw c.in-Forms.is at c.in_ok-terms.ensures.rested))
