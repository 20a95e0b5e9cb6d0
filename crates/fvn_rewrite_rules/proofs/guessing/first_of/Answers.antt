-- It stands at the first place.
use Rattle.std.proofs.lemmas.List.Elements.{Contains-get_or}
use Rattle.fvn_rewrite_rules.proofs.guessing.first_of.Goals as goal

pub returns : goal.returns
returns c = Contains-get_or c.args.es.now 0 _ c.requires
