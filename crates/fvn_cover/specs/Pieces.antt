-- Pieces of a list: where each begins, and ranges of them.
use Rattle.std.specs.Prelude.{◌≡◌, ◌<◌, ◌≤◌, ℕ, ◌+◌, ◌*◌, ◌/◌}
use Rattle.fvn_cover.specs.declared.marking.TheConstants.{WORKERS}

-- where piece i begins if n things are cut into p pieces of nearly one length; n for i = p
abbrev pub cut : (n p i : ℕ) → ℕ
cut n p i = i * n / p

-- the pieces from low to below high of p, among n things, have this many
pub record IsRange (n p low high count : ℕ) : Type 0 where
  pub some : low < high
  pub within : high ≤ p
  pub few : p ≤ WORKERS
  pub long : cut n p low + count ≡ cut n p high
