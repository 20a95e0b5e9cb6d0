-- What the flat form of a side comes to, the side comes to.
use Rattle.fvn_terms.specs.Substitution.{value}
use Rattle.fvn_rewrite.specs.Usable.{equations_by}
use Rattle.fvn_verify.proofs.Forms.{side_as}
use Rattle.fvn_verify.proofs.comparing.form_of.Goals as goal

pub normal-requires : goal.normal-requires
normal-requires c = c.requires.start.fits

pub returns : goal.returns
returns c =
    let r = c.args.rewriter.now in
    side_as r.signature (equations_by r) (value c.args.bindings.now.pairs) r.bounds c.sequences_are_lawful.ensures c.args.side.now c.args.start.now
    c.requires.start c.requires.limited c.in_ok-found.found c.in_ok-found.ensures
