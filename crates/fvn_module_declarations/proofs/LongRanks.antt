-- A declaration that is collected has too many arguments exactly where the rank of a statement has.
use Rattle.std.proofs.Common.{◌≡◌, ◌↔◌, ℕ, suc, ◌<◌, ◌≤◌, Bool, true, false, not, ◌&&◌, ◌||◌, cond, List, [], ◌∷◌, ◌++◌, length, map, refl, sym, ap, ◌∙◌, ◌⊎◌, inl, inr, arith}
use Rattle.std.specs.Prelude.{nat_eq, nat_lt}
use Rattle.std.specs.List.{Any, Contains, list_any}
use Rattle.std.proofs.lemmas.Bool.{cases_lt, true≢false, ltb-true, lt-ltb, ne_eqb, or_left, or_right}
use Rattle.std.proofs.lemmas.List.{length-map}
use Rattle.std.proofs.lemmas.List.Folds.{list_any-append, Any-from_list_any, list_any-from_Any}
use Rattle.std.proofs.lemmas.Map.Views.{Contains-from_any}
use Rattle.fvn_base.proofs.Membership.{contains_cases, contains_none}
use Rattle.fvn_base.specs.declared.limits.TheConstants.{SORTS, OPERATORS, ARGUMENTS}
use Rattle.fvn_signature_draft.specs.declared.collected.Declaration.{Declaration}
use Rattle.fvn_syntax.specs.Pieces.{Text}
use Rattle.fvn_sorts.specs.Faults.{IsTooLarge}
use Rattle.fvn_module_syntax.specs.declared.statement.RawRank.{RawRank}
use Rattle.fvn_module_syntax.specs.declared.statement.Attribute.{Attribute}
use Rattle.fvn_module_syntax.specs.declared.statement.Statement.{Statement}
use Rattle.fvn_module_syntax.specs.declared.statement.Statement.TheVariants.{Sorts, Subsorts, Operator, Operators, Variables, Equation}
use Rattle.fvn_module_names.specs.Names.{joined, name_text, sorts_of, operators_of}
use Rattle.fvn_module_names.specs.Order.{with_new, with_all}
use Rattle.fvn_module_declarations.specs.Operators.{same_declaration, rank_number, declaration_of, with_declarations, with_statement, with_statements, declarations_in}
use Rattle.fvn_module_declarations.specs.Module.{collected_in}
use Rattle.fvn_module_declarations.specs.inner.Shapes.{has_long_rank}
use Rattle.fvn_module_declarations.proofs.CodeLemmas.{same_declaration-true}

-- Disjunctions.

or-false : (a : Bool) → a ≡ (a || false)
or-false true = refl
or-false false = refl

or-assoc : (a b c : Bool) → ((a || b) || c) ≡ (a || (b || c))
or-assoc true b c = refl
or-assoc false b c = refl

or-implied : (a b : Bool) → (b ≡ true → a ≡ true) → a ≡ (a || b)
or-implied true b h = refl
or-implied false true h = h refl
or-implied false false h = refl

or-again : (a b c : Bool) → ((a || (b || false)) || (c && b)) ≡ (a || b)
or-again true b c = refl
or-again false true c = refl
or-again false false true = refl
or-again false false false = refl

-- a list with an element is not empty
counted : (n : ℕ) → not (nat_eq (suc n) 0) ≡ true
counted n = ap not (ne_eqb (suc n) 0 (λ e. omega arith))

-- A test of the elements of a list to which only what is new is added.

module _ {A : Type 0} (same : A → A → Bool) (agrees : (x y : A) → same x y ≡ true → x ≡ y) (p : A → Bool) where
  any-contained : (xs : List A) (y : A) → Contains xs y → p y ≡ true → list_any p xs ≡ true
  any-contained [] y c h = absurd (contains_none y c)
  any-contained (x ∷ xs) y c h = go (contains_cases x xs y c) (any-contained xs y) where
    go : (x ≡ y) ⊎ Contains xs y → (Contains xs y → p y ≡ true → list_any p xs ≡ true) → list_any p (x ∷ xs) ≡ true
    go (inl e) later = or_left (p x) (list_any p xs) (ap p e ∙ h)
    go (inr i) later = or_right (p x) (list_any p xs) (later i h)

  any-with_new : (xs : List A) (y : A) → list_any p (with_new same xs y) ≡ (list_any p xs || p y)
  any-with_new xs y = go (list_any (same y) xs) refl where
    go : (b : Bool) → list_any (same y) xs ≡ b → list_any p (cond b xs (xs ++ y ∷ [])) ≡ (list_any p xs || p y)
    go true e = or-implied (list_any p xs) (p y) (any-contained xs y (Contains-from_any agrees y xs e))
    go false e = list_any-append p xs (y ∷ []) ∙ ap (λ b. list_any p xs || b) (sym (or-false (p y)))

  any-with_all : (xs ys : List A) → list_any p (with_all same xs ys) ≡ (list_any p xs || list_any p ys)
  any-with_all xs [] = or-false (list_any p xs)
  any-with_all xs (y ∷ ys) =
      any-with_all (with_new same xs y) ys
      ∙ ap (λ b. b || list_any p ys) (any-with_new xs y)
      ∙ or-assoc (list_any p xs) (p y) (list_any p ys)

-- a declaration with more arguments than an operator may have
abbrev pub is_long : Declaration → Bool
is_long d = nat_lt ARGUMENTS (length d.rank.args)

module _ (sorts ops : List Text) where
  any-declarations : (before : List Declaration) (rank : RawRank) (xs : List Attribute) (ws : List Text) →
      list_any is_long (with_declarations sorts ops before rank xs ws)
      ≡ (list_any is_long before || (not (nat_eq (length ws) 0) && nat_lt ARGUMENTS (length rank.args)))
  any-declarations before rank xs [] = or-false (list_any is_long before)
  any-declarations before rank xs (w ∷ ws) =
      any-declarations (before ++ declaration_of sorts ops before rank xs w ∷ []) rank xs ws
      ∙ ap (λ b. b || (not (nat_eq (length ws) 0) && nat_lt ARGUMENTS (length rank.args)))
      (list_any-append is_long before (declaration_of sorts ops before rank xs w ∷ [])
      ∙ ap (λ n. list_any is_long before || (nat_lt ARGUMENTS n || false)) (length-map rank.args (rank_number sorts ops)))
      ∙ or-again (list_any is_long before) (nat_lt ARGUMENTS (length rank.args)) (not (nat_eq (length ws) 0))
      ∙ ap (λ b. list_any is_long before || (b && nat_lt ARGUMENTS (length rank.args))) (sym (counted (length ws)))

  any-statement : (before : List Declaration) (st : Statement) → list_any is_long (with_statement sorts ops before st) ≡ (list_any is_long before || has_long_rank st)
  any-statement before (Sorts plural ws) = or-false (list_any is_long before)
  any-statement before (Subsorts plural groups) = or-false (list_any is_long before)
  any-statement before (Operator name rank xs) = any-declarations before rank xs (joined name ∷ [])
  any-statement before (Operators ws rank xs) =
      any-declarations before rank xs (map name_text ws)
      ∙ ap (λ n. list_any is_long before || (not (nat_eq n 0) && nat_lt ARGUMENTS (length rank.args))) (length-map ws name_text)
  any-statement before (Variables plural ws sort) = or-false (list_any is_long before)
  any-statement before (Equation label left right marks) = or-false (list_any is_long before)

  any-statements : (before : List Declaration) (sts : List Statement) → list_any is_long (with_statements sorts ops before sts) ≡ (list_any is_long before || list_any has_long_rank sts)
  any-statements before [] = or-false (list_any is_long before)
  any-statements before (st ∷ sts) =
      any-statements (with_statement sorts ops before st) sts
      ∙ ap (λ b. b || list_any has_long_rank sts) (any-statement before st)
      ∙ or-assoc (list_any is_long before) (has_long_rank st) (list_any has_long_rank sts)

  any-declared : (sts : List Statement) → list_any is_long (declarations_in sorts ops sts) ≡ list_any has_long_rank sts
  any-declared sts = any-with_all same_declaration same_declaration-true is_long [] (with_statements sorts ops [] sts) ∙ any-statements [] sts

-- a declaration has too many arguments where the rank of a statement has
pub long-rank : (sts : List Statement) → list_any has_long_rank sts ≡ true → Any (λ d. ARGUMENTS < length d.rank.args) (collected_in sts).declarations
long-rank sts h =
    let a = Any-from_list_any is_long (collected_in sts).declarations (any-declared (sorts_of sts) (operators_of sts) sts ∙ h) in
    (a.0, a.1, a.2, a.3, ltb-true ARGUMENTS (length a.1.rank.args) a.4)

-- and only there
pub no-long-rank : (sts : List Statement) → list_any has_long_rank sts ≡ false → Any (λ d. ARGUMENTS < length d.rank.args) (collected_in sts).declarations → ⊥
no-long-rank sts h a =
    let found = list_any-from_Any is_long (collected_in sts).declarations (a.0, a.1, a.2, a.3, lt-ltb ARGUMENTS (length a.1.rank.args) a.4) in
    true≢false (sym found ∙ any-declared (sorts_of sts) (operators_of sts) sts ∙ h)

-- what fits is not too large
pub fits : (sts : List Statement) → length (sorts_of sts) ≤ SORTS → length (operators_of sts) ≤ OPERATORS → list_any has_long_rank sts ≡ false → IsTooLarge (collected_in sts) → ⊥
fits sts sorts operators h (inl l) = absurd (omega arith)
fits sts sorts operators h (inr (inl l)) = absurd (omega arith)
fits sts sorts operators h (inr (inr a)) = no-long-rank sts h a

-- with few sorts and operators the ranks of the statements decide
pub long-ranks-decide : (sts : List Statement) → length (sorts_of sts) ≤ SORTS → length (operators_of sts) ≤ OPERATORS → (b : Bool) → b ≡ list_any has_long_rank sts → (b ≡ true) ↔ IsTooLarge (collected_in sts)
long-ranks-decide sts sorts operators true e = (λ t. inr (inr (long-rank sts (sym e))), λ large. refl)
long-ranks-decide sts sorts operators false e = (λ t. absurd (true≢false (sym t)), λ large. absurd (fits sts sorts operators (sym e) large))

-- what is not too large has few sorts and operators
pub few-sorts : (sts : List Statement) → (IsTooLarge (collected_in sts) → ⊥) → length (sorts_of sts) ≤ SORTS
few-sorts sts small = elim (cases_lt SORTS (length (sorts_of sts))) [ inl l ↦ absurd (small (inl l)) | inr l ↦ l ]

pub few-operators : (sts : List Statement) → (IsTooLarge (collected_in sts) → ⊥) → length (operators_of sts) ≤ OPERATORS
few-operators sts small = elim (cases_lt OPERATORS (length (operators_of sts))) [ inl l ↦ absurd (small (inr (inl l))) | inr l ↦ l ]
