-- The sorts of variables are numbers of sorts or kinds.
use Rattle.std.proofs.Common.{◌≡◌, ℕ, ◌<◌, ◌≤◌, Bool, true, false, cond, List, [], ◌∷◌, length, Option, Some, None, refl, arith}
use Rattle.std.specs.List.{All}
use Rattle.std.proofs.lemmas.List.Elements.{All-nil, All-push, All-weaker}
use Rattle.fvn_base.specs.declared.limits.TheConstants.{SORTS}
use Rattle.fvn_terms.specs.declared.plain.SortId.{SortId}
use Rattle.fvn_syntax.specs.Pieces.{Text}
use Rattle.fvn_syntax.specs.Texts.{place}
use Rattle.fvn_syntax.specs.Names.{sort_at, sort_named, same_sort, kind_in, if_of_kind, kind_of, kind_of_all, resolve_sort}
use Rattle.fvn_syntax.specs.declared.names.Variables.{Variables}
use Rattle.fvn_syntax.specs.declared.sorts.RawSort.{RawSort}
use Rattle.fvn_syntax.specs.declared.sorts.RawSort.TheVariants.{Name, Kind}
use Rattle.fvn_syntax.proofs.TextLemmas.{place-below}
use Rattle.fvn_module_syntax.specs.declared.statement.Statement.{Statement}
use Rattle.fvn_module_syntax.specs.declared.statement.Statement.TheVariants as statement
use Rattle.fvn_module_names.specs.Variables.{no_variables, unless_declared, with_variables, where_sorted, with_declared, with_all_declared, variables_of}
use Rattle.fvn_module_names.specs.Ranges.{IsInRange}
use Rattle.fvn_module_names.specs.Vocabulary.{Vocabulary}

module _ (v : Vocabulary) (range : IsInRange v) where
  -- the number of a sort or a kind
  abbrev Small : SortId → Type 0
  Small s = s.0 < length v.kinds

  -- such a number, where there is one
  abbrev IsSmall : Option SortId → Type 0
  IsSmall None = Unit {0}
  IsSmall (Some s) = Small s

  named-small : (w : Text) → IsSmall (sort_named v.sorts w)
  named-small w = go (place v.sorts w) refl where
    go : (o : Option ℕ) → place v.sorts w ≡ o → IsSmall (sort_at o)
    go None e = tt
    go (Some i) e = let l = place-below v.sorts w i e in let m = range.sorts in omega arith

  kind-small : (o : Option SortId) → IsSmall o → IsSmall (kind_of v.kinds o)
  kind-small None h = tt
  kind-small (Some s) h = range.kinds s.0 s h

  kept-small : (k : SortId) (o : Option SortId) → Small k → IsSmall (if_of_kind v.kinds k o)
  kept-small k None h = tt
  kept-small k (Some s) h = go (same_sort (kind_in v.kinds s) k) where
    go : (b : Bool) → IsSmall (cond b (Some k) None)
    go true = h
    go false = tt

  all-small : (o : Option SortId) (ws : List Text) → IsSmall o → IsSmall (kind_of_all v.sorts v.kinds o ws)
  all-small None ws h = tt
  all-small (Some k) [] h = h
  all-small (Some k) (w ∷ ws) h = all-small (if_of_kind v.kinds k (sort_named v.sorts w)) ws (kept-small k (sort_named v.sorts w) h)

  resolved-small : (s : RawSort) → IsSmall (resolve_sort v.sorts v.kinds s)
  resolved-small (Name w) = named-small w
  resolved-small (Kind w ws) = all-small (kind_of v.kinds (sort_named v.sorts w)) ws (kind-small (sort_named v.sorts w) (named-small w))

  one-more : (xs : Variables) (w : Text) (s : SortId) (o : Option ℕ) → Small s → All Small xs.sorts → All Small (unless_declared xs w s o).sorts
  one-more xs w s None small h = All-push Small xs.sorts s h small
  one-more xs w s (Some i) small h = h

  names-more : (xs : Variables) (ws : List Text) (s : SortId) → Small s → All Small xs.sorts → All Small (with_variables xs ws s).sorts
  names-more xs [] s small h = h
  names-more xs (w ∷ ws) s small h = names-more (unless_declared xs w s (place xs.texts w)) ws s small (one-more xs w s (place xs.texts w) small h)

  sorted-more : (xs : Variables) (ws : List Text) (o : Option SortId) → IsSmall o → All Small xs.sorts → All Small (where_sorted xs ws o).sorts
  sorted-more xs ws None small h = h
  sorted-more xs ws (Some s) small h = names-more xs ws s small h

  statement-more : (xs : Variables) (st : Statement) → All Small xs.sorts → All Small (with_declared v.sorts v.kinds xs st).sorts
  statement-more xs (statement.Sorts plural ws) h = h
  statement-more xs (statement.Subsorts plural groups) h = h
  statement-more xs (statement.Operator name rank attributes) h = h
  statement-more xs (statement.Operators ws rank attributes) h = h
  statement-more xs (statement.Variables plural ws sort) h = sorted-more xs ws (resolve_sort v.sorts v.kinds sort) (resolved-small sort) h
  statement-more xs (statement.Equation label left right marks) h = h

  all-more : (xs : Variables) (sts : List Statement) → All Small xs.sorts → All Small (with_all_declared v.sorts v.kinds xs sts).sorts
  all-more xs [] h = h
  all-more xs (st ∷ sts) h = all-more (with_declared v.sorts v.kinds xs st) sts (statement-more xs st h)

  -- with few sorts the numbers of the sorts of variables are small
  pub variables-small : length v.sorts ≤ SORTS → (sts : List Statement) → All (λ s. s.0 ≤ 65535) (variables_of v.sorts v.kinds sts).sorts
  variables-small few sts = All-weaker Small (λ s. s.0 ≤ 65535) (λ s l. let m = range.few in omega (arith, l, few)) (variables_of v.sorts v.kinds sts).sorts (all-more no_variables sts (All-nil Small))
