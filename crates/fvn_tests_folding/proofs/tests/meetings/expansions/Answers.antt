-- variants of no terms may be expanded
use Rattle.fvn_tests_folding.proofs.Members.{all_expandable}
use Rattle.fvn_tests_folding.proofs.tests.meetings.expansions.Goals as goal

pub expand_level-requires-clause-members : goal.expand_level-requires-clause-members
expand_level-requires-clause-members g c κs within = rw c.as_slice.ensures.value (all_expandable (g.E.Expander.setting c.args.expander.now) c.requires.fixed c.in_ok-list.list.items c.in_ok-list.ensures)
