-- A variable beside what another operator heads.
use Rattle.std.proofs.Common.{sym, ◌∙◌}
use Rattle.fvn_rewrite.specs.Usable.{equations_by}
use Rattle.fvn_narrow.proofs.Parted.{beside_adds_up, met_by_some}
use Rattle.fvn_narrow.proofs.pairing.is_met_by_some.Goals as goal

pub is_parted-requires : goal.is_parted-requires
is_parted-requires c =
    let d = c.args.rewriter.now.signature in
    beside_adds_up d c.signature.result.now c.recall.ensures.good c.args.f c.args.t.now c.in-Some.first.now c.in-Some.form.now c.in-Some-as_var.x c.requires.fits c.requires.heads c.signature.ensures c.in-Some.ensures (sym c.as_var.ensures ∙ c.in-Some-as_var.is)
    (c.is_beside-beside.ensures c.if-not-beside.false)

pub returns : goal.returns
returns c = λ yes.
    let d = c.args.rewriter.now.signature in
    met_by_some d c.signature.result.now c.recall.ensures.good c.args.f c.args.t.now c.in-Some.first.now c.in-Some.form.now c.in-Some-as_var.x c.requires.fits c.requires.heads c.signature.ensures c.in-Some.ensures (sym c.as_var.ensures ∙ c.in-Some-as_var.is)
    (c.is_beside-beside.ensures c.if-not-beside.false) (equations_by c.args.rewriter.now) (c.in_ok-parted.ensures yes)
