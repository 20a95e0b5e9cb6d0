-- How a count of faults goes.
use Rattle.std.specs.Prelude.{◌≡◌, ◌<◌, ◌⊎◌, ◌+◌, ◌-◌, ◌^◌, ℕ, min}

-- the last number that a count of faults shows; it stays there
abbrev pub last_count : ℕ
last_count = 2 ^ 64 - 1

-- the count after one more fault
abbrev pub next_count : ℕ → ℕ
next_count count = min (count + 1) last_count

-- the count rose, or it stands at its last number, where a rise does not show
abbrev pub Rose : ℕ → ℕ → Type 0
Rose before after = (before < after) ⊎ (after ≡ last_count)

-- the count is 0 in every state, so it never rises
abbrev pub NeverFails : {T : Type 0} → (T → ℕ) → Type 0
NeverFails {T} faults = (state : T) → faults state ≡ 0
