-- The law of the limits.
use Rattle.fvn_base.specs.Limits.{AreLimits}

-- each limit is the number that is written out for it
abbrev pub LimitsAreNumbers : Type 0
LimitsAreNumbers = AreLimits
