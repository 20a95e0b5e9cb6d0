-- The symbols of an application besides those of its arguments.
use Rattle.std.specs.Prelude.{ℕ, ◌-◌, Bool, true, false, nat_eq, if◌then◌else◌}

-- of a sum one for each argument but the first, else one
abbrev pub own : Bool → ℕ → ℕ
own true n = if nat_eq n 0 then 1 else n - 1
own false n = 1
