-- Full choices, where there is an identity.
use Rattle.std.proofs.Common.{sym, ap, ◌∙◌, subst}
use Rattle.fvn_acunify.specs.Cursor.{Cursor}
use Rattle.fvn_combine_nodes.specs.States.{class_of}
use Rattle.fvn_combine_candidates.specs.Turning.{AreOthers, IsFullFor}
use Rattle.fvn_combine_candidates.proofs.turning.listed.Goals as goal

pub returns-in-None-clause-full : goal.returns-in-None-clause-full
returns-in-None-clause-full c = subst (IsFullFor c.args.sig.now c.args.table.now (class_of c.args.state.now) c.args.sums.now) (sym c.requires.all) (sym c.identity.ensures ∙ c.in-None.is)

pub returns-in_ok-others-in-Some-clause-full : goal.returns-in_ok-others-in-Some-clause-full
returns-in_ok-others-in-Some-clause-full c =
    let d = c.args.sig.now in
    let t = c.args.table.now in
    let class = class_of c.args.state.now in
    let e = c.args.sums.now in
    subst (IsFullFor d t class e) (sym (ap (λ (k : Cursor). k.full) c.list_full.ensures))
    (c.in-Some.e, sym c.identity.ensures ∙ c.in-Some.is, subst (AreOthers d t class e c.in-Some.e) (sym c.from_vec.ensures) c.in_ok-others-in-Some.ensures)
