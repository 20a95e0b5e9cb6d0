-- What the module keeps of its equations.
use Rattle.fvn_module_engines.proofs.engines.extend.Goals as goal

pub extend-requires : goal.extend-requires
extend-requires c = rw (c.signature.ensures, c.equations.ensures) c.recall_readable.ensures.equations

pub returns-clause-equations : goal.returns-clause-equations
returns-clause-equations c = rw c.equations.ensures at c.in_ok-rules.ensures.equations

pub returns-clause-rules : goal.returns-clause-rules
returns-clause-rules c = rw c.signature.ensures at c.in_ok-rules.ensures.rules
