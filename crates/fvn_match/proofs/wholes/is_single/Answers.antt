-- A variable whose sort no sum has, or another pattern.
use Rattle.std.proofs.Common.{sym, subst}
use Rattle.fvn_terms.specs.Signature.{kind}
use Rattle.fvn_match.specs.inner.Searching.{IsOnePiece}
use Rattle.fvn_match.specs.inner.Refusing.{IsSummand}
use Rattle.fvn_match.proofs.PairSteps.{variable_is}
use Rattle.fvn_match.proofs.HighSums.{single_variable}
use Rattle.fvn_match.proofs.wholes.is_single.Goals as goal

pub returns-in-Some : goal.returns-in-Some
returns-in-Some c = λ yes.
    let d = c.args.sig.now in
    let is = variable_is c.args.p.now c.in-Some.x (sym c.in-Some.ensures) in
    subst (IsOnePiece d c.args.f) (sym is) (single_variable d c.recall_good.ensures c.args.f c.in-Some.x (subst (IsSummand d c.args.f) is c.requires) (c.gives_none.ensures yes))

pub is_one_piece-requires : goal.is_one_piece-requires
is_one_piece-requires c = record { flat = c.requires.flat.flat; kinded = (kind c.args.sig.now c.requires.rank.result, c.requires.flat.has_kind) }

pub returns-in-None : goal.returns-in-None
returns-in-None c = c.is_one_piece.ensures
