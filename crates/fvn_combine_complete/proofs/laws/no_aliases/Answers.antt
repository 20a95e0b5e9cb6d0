-- The law, by its lemma.
use Rattle.fvn_combine_complete.proofs.Aliases.{no_alias}
use Rattle.fvn_combine_complete.proofs.laws.no_aliases.Goals as goal

pub returns : goal.returns
returns c = λ d f values columns system basis minimal constants may_be_zero ch.
    no_alias d f values columns system basis minimal constants may_be_zero ch c.made_up_by_taken.ensures
