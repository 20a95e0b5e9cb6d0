-- How large the numbers of sorts and kinds are.
use Rattle.std.specs.Prelude.{◌<◌, ◌≤◌, ◌*◌, length, All}
use Rattle.fvn_module_names.specs.Vocabulary.{Vocabulary}

-- kinds are places in their list, which is long enough for the sorts and at most twice as long
pub record IsInRange (v : Vocabulary) : Type 0 where
  pub kinds : All (λ k. k.0 < length v.kinds) v.kinds
  pub sorts : length v.sorts ≤ length v.kinds
  pub few : length v.kinds ≤ 2 * length v.sorts
