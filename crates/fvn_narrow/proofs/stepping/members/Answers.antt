-- The form is put in the place of one of the terms.
use Rattle.fvn_narrow.proofs.Members.{is_within, member_at_fits, can_put, are_members}
use Rattle.fvn_narrow.proofs.stepping.members.Goals as goal

pub bounds-terms-part : goal.bounds-terms-part
bounds-terms-part c = is_within c.args.sig.now c.args.terms.now c.args.part.now.member c.args.part.now.path.now c.args.given.now c.requires.given

pub put-requires : goal.put-requires
put-requires c =
    let can = c.requires.given in record {
      term = member_at_fits c.args.sig.now c.args.terms.now c.args.part.now.member c.args.part.now.path.now c.args.given.now can c.index-terms-part.result c.index-terms-part.is c.requires.terms;
      given = can_put c.args.sig.now c.args.terms.now c.args.part.now.member c.args.part.now.path.now c.args.given.now can c.index-terms-part.result c.index-terms-part.is;
    }

pub with_one_replaced-requires : goal.with_one_replaced-requires
with_one_replaced-requires c = is_within c.args.sig.now c.args.terms.now c.args.part.now.member c.args.part.now.path.now c.args.given.now c.requires.given

pub returns : goal.returns
returns c =
    are_members c.args.sig.now c.args.terms.now c.args.part.now.member c.args.part.now.path.now c.args.given.now c.requires.given c.index-terms-part.result c.index-terms-part.is c.in_ok-u.u c.in_ok-all.all.items c.in_ok-u.ensures c.in_ok-all.ensures
