-- What statements without a fault among their names collect is closed.
use Rattle.std.proofs.Common.{◌≡◌, ◌+◌, ◌<◌, ◌≤◌, max, Bool, true, false, cond, List, [], ◌∷◌, ◌++◌, length, map, refl, sym, ap, subst, ◌∙◌, inl, inr, arith}
use Rattle.std.specs.List.{All, Contains, list_any}
use Rattle.std.proofs.lemmas.List.Elements.{All-nil, All-head, All-tail, All-weaker, All-contains, All-contains_itself, Contains-append_cases}
use Rattle.std.proofs.lemmas.Map.Views.{Contains-from_any}
use Rattle.fvn_base.specs.declared.limits.TheConstants.{SORTS, OPERATORS}
use Rattle.fvn_base.proofs.Membership.{contains_none}
use Rattle.fvn_terms.specs.declared.plain.SortId.{SortId}
use Rattle.fvn_signature_draft.specs.declared.collected.Declaration.{Declaration}
use Rattle.fvn_signature_draft.specs.declared.collected.Collected.{Collected}
use Rattle.fvn_signature_draft.specs.Collected.{IsClosed, Names, op_number}
use Rattle.fvn_sorts.specs.Faults.{IsTooLarge}
use Rattle.fvn_sorts.proofs.CollectedSteps.{one_declaration_more}
use Rattle.fvn_syntax.specs.Pieces.{Text}
use Rattle.fvn_syntax.specs.Texts.{place_or_end}
use Rattle.fvn_module_syntax.specs.declared.statement.RawRank.{RawRank}
use Rattle.fvn_module_syntax.specs.declared.statement.Attribute.{Attribute}
use Rattle.fvn_module_syntax.specs.declared.statement.Statement.{Statement}
use Rattle.fvn_module_syntax.specs.declared.statement.Statement.TheVariants.{Sorts, Subsorts, Operator, Operators, Variables, Equation}
use Rattle.fvn_module_names.specs.Names.{joined, name_text, sorts_of}
use Rattle.fvn_module_names.specs.Order.{same_pair, with_all, crossed, declared_among, pairs_between, pairs_of_groups, pairs_in, with_pairs}
use Rattle.fvn_module_names.specs.Faults.{has_unknown_sort, HasNames}
use Rattle.fvn_module_names.specs.Vocabulary.{Vocabulary, vocabulary_of}
use Rattle.fvn_module_names.proofs.NewLists.{contains_with_all}
use Rattle.fvn_module_names.proofs.OrderLemmas.{crossed_contains, declared-below}
use Rattle.fvn_module_names.proofs.Partitions.{all_pairs, with_pairs-all}
use Rattle.fvn_module_names.proofs.TextCounts.{length-with_text}
use Rattle.fvn_module_declarations.specs.Operators.{same_declaration, rank_of}
use Rattle.fvn_module_declarations.specs.Module.{collected_in}
use Rattle.fvn_module_declarations.specs.declared.shapes.Shape.{Shape}
use Rattle.fvn_module_declarations.specs.inner.Shapes.{shape_of, HasRank}
use Rattle.fvn_module_declarations.specs.inner.Drafts.{Draft, declared, axioms_in, with_one, with_name, with_names, with_operators, with_all_operators}
use Rattle.fvn_module_declarations.proofs.CodeLemmas.{same_declaration-true}
use Rattle.fvn_module_declarations.proofs.RankLemmas.{rank_named}
use Rattle.fvn_module_declarations.proofs.NamedRanks.{named-ranks}
use Rattle.fvn_module_declarations.proofs.LongRanks.{few-sorts, few-operators}
use Rattle.fvn_module_declarations.proofs.Drafted.{statement-others}
use Rattle.fvn_module_declarations.proofs.Collecting.{IsCounted, name-counted, statement-counted, draft_of, collected-is}

-- Pairs of sorts.

-- both are sorts that are declared
abbrev InRange : List Text → SortId × SortId → Type 0
InRange sorts p = (p.0.0 < length sorts) × (p.1.0 < length sorts)

module _ (sorts : List Text) where
  between-below : (g : List Text) (hs : List (List Text)) (p : SortId × SortId) → Contains (pairs_between sorts g hs) p → InRange sorts p
  between-below g [] p c = absurd (contains_none p c)
  between-below g (h ∷ hs) p c = elim (Contains-append_cases (crossed (declared_among sorts g) (declared_among sorts h)) (pairs_between sorts h hs) p c) [
    | inl i ↦ let r = crossed_contains (declared_among sorts g) (declared_among sorts h) p i in (declared-below sorts g p.0 r.0, declared-below sorts h p.1 r.1)
    | inr i ↦ between-below h hs p i
  ]

  groups-below : (gs : List (List Text)) (p : SortId × SortId) → Contains (pairs_of_groups sorts gs) p → InRange sorts p
  groups-below [] p c = absurd (contains_none p c)
  groups-below (g ∷ gs) p c = between-below g gs p c

  statement-below : (st : Statement) (p : SortId × SortId) → Contains (pairs_in sorts st) p → InRange sorts p
  statement-below (Sorts plural ws) p c = absurd (contains_none p c)
  statement-below (Subsorts plural groups) p c = groups-below groups p c
  statement-below (Operator name rank xs) p c = absurd (contains_none p c)
  statement-below (Operators ws rank xs) p c = absurd (contains_none p c)
  statement-below (Variables plural ws sort) p c = absurd (contains_none p c)
  statement-below (Equation label left right marks) p c = absurd (contains_none p c)

  all-below : (sts : List Statement) (p : SortId × SortId) → Contains (all_pairs sorts sts) p → InRange sorts p
  all-below [] p c = absurd (contains_none p c)
  all-below (st ∷ sts) p c = elim (Contains-append_cases (pairs_in sorts st) (all_pairs sorts sts) p c) [
    | inl i ↦ statement-below st p i
    | inr i ↦ all-below sts p i
  ]

  pairs-below : (sts : List Statement) → All (InRange sorts) (with_pairs sorts [] sts)
  pairs-below sts = subst (All (InRange sorts)) (sym (with_pairs-all sorts [] sts))
      (All-weaker (Contains all) (InRange sorts) each all (All-contains_itself all))
    where
      all : List (SortId × SortId)
      all = with_all same_pair [] (all_pairs sorts sts)

      each : (p : SortId × SortId) → Contains all p → InRange sorts p
      each p c = elim (contains_with_all same_pair [] (all_pairs sorts sts) p c) [
        | inl i ↦ absurd (contains_none p i)
        | inr i ↦ all-below sts p i
      ]

-- Declarations.

-- one more declaration, unless there is one like it
module _ (c : Collected) (closed : IsClosed c) (e : Declaration) (known_or_next : e.op.0 ≤ c.operators) (args : All (Names c.sorts) e.rank.args) (gives : Names c.sorts e.rank.result) where
  one-closed : IsClosed (with_one c e)
  one-closed = go (list_any (same_declaration e) c.declarations) refl where
    go : (b : Bool) → list_any (same_declaration e) c.declarations ≡ b →
        IsClosed (record c { operators = max c.operators (e.op.0 + 1); declarations = cond b c.declarations (c.declarations ++ e ∷ []) })
    go true is =
        let known = All-contains (λ g. g.op.0 < c.operators) c.declarations e closed.operators (Contains-from_any same_declaration-true e c.declarations is) in
        let same : c.operators ≡ max c.operators (e.op.0 + 1) = omega arith in
        subst (λ n. IsClosed (record c { operators = n })) same closed
    go false is = one_declaration_more c closed e known_or_next args gives

names-closed : (d : Draft) (s : Shape) (ws : List Text) → IsCounted d → All (Names d.collected.sorts) s.rank.args → Names d.collected.sorts s.rank.result → IsClosed d.collected → IsClosed (with_names d s ws).collected
names-closed d s [] counted args gives h = h
names-closed d s (w ∷ ws) counted args gives h =
    let known : place_or_end d.names w ≤ d.collected.operators = (let l = (length-with_text d.names w).0 in omega (arith, counted)) in
    names-closed (with_name d s w) s ws (name-counted d s w counted) args gives
    (one-closed d.collected h (declared (op_number (place_or_end d.names w)) s (axioms_in d s w)) known args gives)

module _ (v : Vocabulary) (few : length v.ops ≤ OPERATORS) where
  ranked-closed : (d : Draft) (rank : RawRank) (xs : List Attribute) (ws : List Text) → length v.sorts ≡ d.collected.sorts → has_unknown_sort v.sorts v.ops v.kinds rank ≡ false → IsCounted d → IsClosed d.collected →
      IsClosed (with_names d (shape_of v rank xs) ws).collected
  ranked-closed d rank xs ws sorts known counted h =
      let named = rank_named v rank known in
      names-closed d (shape_of v rank xs) ws counted
      (subst (λ n. All (Names n) (rank_of v.sorts v.ops rank).args) sorts named.0) (subst (λ n. Names n (rank_of v.sorts v.ops rank).result) sorts named.1) h

  statement-closed : (d : Draft) (st : Statement) → length v.sorts ≡ d.collected.sorts → HasRank v st → IsCounted d → IsClosed d.collected → IsClosed (with_operators v d st).collected
  statement-closed d (Sorts plural ws) sorts known counted h = h
  statement-closed d (Subsorts plural groups) sorts known counted h = h
  statement-closed d (Operator name rank xs) sorts known counted h = ranked-closed d rank xs (joined name ∷ []) sorts known counted h
  statement-closed d (Operators ws rank xs) sorts known counted h = ranked-closed d rank xs (map name_text ws) sorts known counted h
  statement-closed d (Variables plural ws sort) sorts known counted h = h
  statement-closed d (Equation label left right marks) sorts known counted h = h

  all-closed : (d : Draft) (sts : List Statement) → length v.sorts ≡ d.collected.sorts → All (HasRank v) sts → IsCounted d → IsClosed d.collected → IsClosed (with_all_operators v d sts).collected
  all-closed d [] sorts known counted h = h
  all-closed d (st ∷ sts) sorts known counted h =
      all-closed (with_operators v d st) sts
      (sorts ∙ sym (ap (λ (b : Collected). b.sorts) (statement-others v few d st)))
      (All-tail (HasRank v) st sts known) (statement-counted v d st counted)
      (statement-closed d st sorts (All-head (HasRank v) st sts known) counted h)

-- What statements without a fault among their names declare is closed, where it is not too large.
pub collected-closed : (sts : List Statement) → HasNames sts → (IsTooLarge (collected_in sts) → ⊥) → IsClosed (collected_in sts)
collected-closed sts named small =
    subst IsClosed (collected-is sts (few-operators sts small))
    (all-closed (vocabulary_of sts) (few-operators sts small) (draft_of sts) sts refl (named-ranks sts named) refl start)
  where
    start : IsClosed (draft_of sts).collected
    start = record {
      few = (let l : length (sorts_of sts) ≤ SORTS = few-sorts sts small in omega arith);
      below = pairs-below (sorts_of sts) sts;
      operators = All-nil _;
      args = All-nil _;
      results = All-nil _;
      each_declared = λ f l. absurd (omega (arith, l));
    }
