-- What is asked and promised of an expansion.
use Rattle.fvn_narrow.proofs.narrower.NarrowerExpander.expand.Goals as goal

pub expansion-requires : goal.expansion-requires
expansion-requires g c = c.requires.variant

pub returns-clause-children : goal.returns-clause-children
returns-clause-children g c = c.in_ok-e.ensures.children

pub returns-clause-whole : goal.returns-clause-whole
returns-clause-whole g c = c.in_ok-e.ensures.whole

pub returns-clause-cause : goal.returns-clause-cause
returns-clause-cause g c = c.in_ok-e.ensures.cause
