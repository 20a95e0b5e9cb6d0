-- Which pairs of sorts were declared, as a table of them all.
use Rattle.std.specs.Prelude.{◌≡◌, ◌<◌, ◌≤◌, ◌+◌, ◌*◌, ℕ, Bool, false, List, map, length, slice_index_or}
use Rattle.std.specs.List.{list_any}
use Rattle.fvn_base.specs.declared.limits.TheConstants.{SORTS}
use Rattle.fvn_terms.specs.declared.plain.SortId.{SortId}
use Rattle.fvn_forms.specs.SortOrder.{sort_number}
use Rattle.fvn_signature_draft.specs.declared.collected.Collected.{Collected}
use Rattle.fvn_module_names.specs.Order.{same_pair, with_all}

-- the table tells of each pair whether it is in the list
pub record IsTableOf (known : List Bool) (c : Collected) : Type 0 where
  pub few : c.sorts ≤ SORTS
  pub long : length known ≡ SORTS * SORTS
  pub exact : (s q : ℕ) → s < SORTS → q < SORTS → slice_index_or known (SORTS * s + q) false ≡ list_any (same_pair (sort_number s, sort_number q)) c.below

-- what was collected, with these pairs, each once
abbrev pub with_more : Collected → List (SortId × SortId) → Collected
with_more c ps = record c { below = with_all same_pair c.below ps }

-- a sort with each of these
abbrev pub row : SortId → List SortId → List (SortId × SortId)
row s qs = map (λ q. (s, q)) qs
