-- The law, by its lemma, and the one on what is at or below counts.
use Rattle.fvn_combine_complete.proofs.Below.{listed_below}
use Rattle.fvn_combine_complete.proofs.Supporting.{choose}
use Rattle.fvn_combine_complete.proofs.laws.values_choose.Goals as goal

pub returns : goal.returns
returns c = λ d t made has s heads leaf told values go_with obey_heads tag obey follow f sum columns system is basis minimal alive constants may_be_zero asked.
    let meet = c.values_meet_what_is_asked.ensures d t made has s heads leaf told values go_with obey_heads tag obey follow f sum columns system is basis minimal constants may_be_zero asked in
    choose d f values columns system is.wide basis constants may_be_zero meet c.counts_are_made_up.ensures c.pieces_choose.ensures minimal
    (listed_below d t made has s leaf told values go_with tag obey f columns system is basis alive meet.counted meet.counts)
