-- What a builder collected, and the signature that it becomes.
use Rattle.std.specs.Prelude.{◌≡◌, ◌≤◌, ◌<◌, ◌⊎◌, ℕ, ◌+◌, ◌-◌, Bool, nat_eq, nat_lt, if◌then◌else◌, List, [], ◌∷◌, ◌++◌, map, filter, find, count_by, unwrap_or, slice_index_or, All, Contains}
use Rattle.std.specs.List.{range_with_len}
use Rattle.fvn_base.specs.declared.limits.TheConstants.{FIRST_KIND}
use Rattle.fvn_terms.specs.declared.plain.OpId.{OpId}
use Rattle.fvn_terms.specs.declared.plain.SortId.{SortId}
use Rattle.fvn_terms.specs.declared.declarations.Axioms.{Axioms}
use Rattle.fvn_terms.specs.declared.declarations.Axioms.TheVariants.{Free}
use Rattle.fvn_terms.specs.declared.declarations.Rank.{Rank}
use Rattle.fvn_terms.specs.declared.declarations.OpDecl.{OpDecl}
use Rattle.fvn_terms.specs.declared.declarations.Declarations.{Declarations}
use Rattle.fvn_forms.specs.SortOrder.{sort_number, same_sort, reaches}
use Rattle.fvn_signature.specs.FirstSorts.{first_sorts}
use Rattle.fvn_signature_draft.specs.declared.collected.Declaration.{Declaration}
use Rattle.fvn_signature_draft.specs.declared.collected.Collected.{Collected}

-- the operator with the number
abbrev pub op_number : ℕ → OpId
op_number n = record { 0 = n }

-- whether two operators are the same
abbrev pub same_op : OpId → OpId → Bool
same_op f g = nat_eq f.0 g.0

-- from here on a number in a rank names the kind of the sort with that number less this
abbrev pub first_kind_number : ℕ
first_kind_number = FIRST_KIND

-- the number names one of n sorts, or the kind of one
abbrev pub Names : ℕ → SortId → Type 0
Names n s = (s.0 < n) ⊎ ((first_kind_number ≤ s.0) × (s.0 - first_kind_number < n))

-- pairs and ranks name sorts that were collected, and the operators are those that have a declaration
pub record IsClosed (c : Collected) : Type 0 where
  pub few : c.sorts < first_kind_number
  pub below : All (λ p. (p.0.0 < c.sorts) × (p.1.0 < c.sorts)) c.below
  pub operators : All (λ e. e.op.0 < c.operators) c.declarations
  pub args : All (λ e. All (Names c.sorts) e.rank.args) c.declarations
  pub results : All (λ e. Names c.sorts e.rank.result) c.declarations
  -- each operator has a declaration
  pub each_declared : (f : OpId) → f.0 < c.operators → (e : Declaration) × (Contains c.declarations e × (e.op ≡ f))

-- the pair turned round
abbrev pub turned : SortId × SortId → SortId × SortId
turned p = (p.1, p.0)

-- the pairs, and the pairs turned round
abbrev pub both_ways : List (SortId × SortId) → List (SortId × SortId)
both_ways ps = ps ++ map turned ps

-- the axioms of the first declaration; without one there are none
abbrev pub first_axioms : List Declaration → Axioms
first_axioms [] = Free
first_axioms (e ∷ es) = e.axioms

-- the rank with each sort replaced
abbrev pub rank_on : (SortId → SortId) → Rank → Rank
rank_on f r = record { args = map f r.args; result = f r.result }

module _ (c : Collected) where
  -- what is declared of f
  abbrev pub declarations_of : OpId → List Declaration
  declarations_of f = filter (λ e. same_op e.op f) c.declarations

  -- whether the order joins two sorts, along pairs in either direction
  abbrev pub joins : SortId → SortId → Bool
  joins = reaches (both_ways c.below)

  -- the first sort that the order joins with s
  abbrev pub first_joined : SortId → SortId
  first_joined s = unwrap_or (find (joins s) (first_sorts c.sorts)) s

  -- whether the sort is the first of those that the order joins with it
  abbrev pub is_first : SortId → Bool
  is_first s = same_sort (first_joined s) s

  -- how many of the first n sorts are the first of those that the order joins
  abbrev pub parts_before : ℕ → ℕ
  parts_before n = count_by is_first (first_sorts n)

  -- kinds are numbered after the sorts, in the order of their first sorts
  abbrev pub kind_of : SortId → SortId
  kind_of s = sort_number (c.sorts + parts_before (first_joined s).0)

  -- the kind of each sort, and then of each kind
  unfoldable pub kinds : List SortId
  kinds = map kind_of (first_sorts c.sorts) ++ map sort_number (range_with_len c.sorts (parts_before c.sorts))

  -- the sort that a number in a rank names
  abbrev pub meant : SortId → SortId
  meant s = if nat_lt s.0 first_kind_number then s else slice_index_or kinds (s.0 - first_kind_number) s

  -- the sort that a number in a rank names, and in a partial declaration the kind of that sort
  abbrev pub meant_or_kind : Bool → SortId → SortId
  meant_or_kind partial s = if partial then slice_index_or kinds (meant s).0 (meant s) else meant s

  -- a partial declaration is one on kinds alone
  abbrev pub rank_meant : Declaration → Rank
  rank_meant e = rank_on (meant_or_kind e.partial) e.rank

  -- what some declarations say of their operator
  abbrev pub operator_meant : List Declaration → OpDecl
  operator_meant es = record { axioms = first_axioms es; ranks = map rank_meant es }

  -- the signature: what was collected with kinds added
  abbrev pub completed : Declarations
  completed = record {
    sorts = c.sorts;
    kinds = kinds;
    below = c.below;
    ops = map (λ n. operator_meant (declarations_of (op_number n))) (range_with_len 0 c.operators);
  }
