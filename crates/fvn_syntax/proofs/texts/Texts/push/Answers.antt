-- A new text comes after the others.
use Rattle.fvn_syntax.proofs.TextLemmas.{inserted}
use Rattle.fvn_syntax.proofs.texts.Texts.push.Goals as goal

pub returns-clause-texts : goal.returns-clause-texts
returns-clause-texts c =
    inserted c.self.inside.set.keys c.insert.new.self.keys c.in_ok-copy.copy c.args.self.now c.args.text.now c.self.view_is
    c.in_ok-copy.ensures.items c.requires c.in_ok-insert.ensures.keys
