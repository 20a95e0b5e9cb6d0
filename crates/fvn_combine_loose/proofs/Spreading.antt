-- Where nodes are of loose classes, each unifier of the state has a more general one under which their values are variables.
use Rattle.std.proofs.Common.{◌≡◌, ◌≢◌, ℕ, zero, suc, ◌<◌, false, List, [], ◌∷◌, length, inl, inr, refl, ap, ◌∙◌, sym, arith, All, Option, None, slice_index_or}
use Rattle.std.proofs.lemmas.Bool.{cases_lt}
use Rattle.std.proofs.lemmas.List.Elements.{All-nil, All-cons, All-head, All-tail}
use Rattle.fvn_terms.specs.declared.plain.Var.{Var}
use Rattle.fvn_terms.specs.declared.plain.OpId.{OpId}
use Rattle.fvn_terms.specs.declared.declarations.Declarations.{Declarations}
use Rattle.fvn_terms.specs.Substitution.{Substitution}
use Rattle.fvn_terms.specs.Unifiers.{Problem}
use Rattle.fvn_forms.specs.Flat.{fvar}
use Rattle.fvn_forms.specs.Canon.{canon}
use Rattle.fvn_forms.specs.Good.{IsGood}
use Rattle.fvn_forms.proofs.Eval.{canon_respects}
use Rattle.fvn_flat.specs.Problems.{IsProblem}
use Rattle.fvn_flat.specs.SolvedLists.{IsKindUnifier}
use Rattle.fvn_combine_nodes.specs.Table.{NodeTable, IsWellMade, IsTableOf}
use Rattle.fvn_combine_nodes.specs.States.{Admits, IsClosed, class_of}
use Rattle.fvn_combine_nodes.specs.Unifiers.{value_at, kernel}
use Rattle.fvn_combine_nodes.specs.declared.state.State.{State}
use Rattle.fvn_combine_inferring.specs.Laws.{SortedUnifiersGoWith}
use Rattle.fvn_combine_loose.specs.Loose.{height_of, IsLooseClass}
use Rattle.fvn_combine_loose.specs.Laws.{IsLoosened, AreVariables, LooseClassesAreVariables}
use Rattle.fvn_combine_loose.proofs.Setting.{Setting, entry}
use Rattle.fvn_combine_loose.proofs.NewVariable.{new}
use Rattle.fvn_combine_loose.proofs.Remade.{same_or_other, remade_bottom, remade_low}
use Rattle.fvn_combine_loose.proofs.Loosened.{loosened, node_value}
use Rattle.fvn_combine_loose.proofs.Loosening.{is_loosened}
use Rattle.fvn_combine_loose.proofs.Preorder.{preorder}

-- the value of node i under v is a variable
abbrev IsVariableAt : Declarations → NodeTable → Substitution → ℕ → Type 0
IsVariableAt d t v i = (x : Var) × (value_at d v t.nodes i ≡ fvar x)

nothing_noted : (sums : List (Option (OpId × ℕ))) → sums ≡ [] → (c : ℕ) → slice_index_or sums c None ≡ None
nothing_noted [] e zero = refl
nothing_noted [] e (suc c) = refl
nothing_noted (x ∷ xs) e c = cc

module _ {d : Declarations} {problem : Problem} {t : NodeTable} {s : State} {z : ℕ} {heights : List ℕ} {u : Substitution} (g : Setting d problem t s z heights u) where
  abbrev height : ℕ → ℕ
  height = height_of s heights

  -- the new value of what is in the loose class is the new variable
  value_bottom : (i : ℕ) → i < length t.nodes → class_of s i ≡ class_of s z → value_at d (loosened g) t.nodes i ≡ fvar (new g)
  value_bottom i l same = canon_respects d (node_value g i l) ∙ ap (canon d) (remade_bottom g i l same)

  -- where the loose class does not stand, the value is the old one
  value_low : (i : ℕ) → i < length t.nodes → height i ≡ 0 → value_at d (loosened g) t.nodes i ≡ value_at d u t.nodes i
  value_low i l low = canon_respects d (node_value g i l) ∙ sym (canon_respects d (remade_low g i l low))

  module _ (unnoted : (i : ℕ) → entry g i ≡ None) where
    -- where nothing is noted, the loose class stands in no other one that only idle nodes head
    open_low : (i : ℕ) → IsLooseClass d t s i → class_of s i ≢ class_of s z → height i ≡ 0
    open_low i own other = elim (cases_lt 0 (height i)) as (λ _. height i ≡ 0) [
      | inl stands ↦
          let m = g.loose.made i own.loose.within stands other (unnoted i) in
          absurd (m.busy (own.loose.open_class m.member m.operator m.arguments m.over m.of))
      | inr le ↦ omega (arith, le)
    ]

    -- what is in a loose class and had a variable for its value has one still
    variable_kept : (i : ℕ) → IsLooseClass d t s i → IsVariableAt d t u i → IsVariableAt d t (loosened g) i
    variable_kept i own old = elim (same_or_other (class_of s i) (class_of s z)) as (λ _. IsVariableAt d t (loosened g) i) [
      | inl same ↦ (new g, value_bottom i own.loose.within same)
      | inr other ↦ (old.0, value_low i own.loose.within (open_low i own other) ∙ old.1)
    ]

    all_kept : (nodes : List ℕ) → All (IsLooseClass d t s) nodes → AreVariables d t nodes u → AreVariables d t nodes (loosened g)
    all_kept nodes own old = λ k e l. variable_kept _ (own k e l) (old k e l)

module _ (d : Declarations) (good : IsGood d) (problem : Problem) (kinded : IsProblem d problem) (t : NodeTable) (made : IsWellMade t) (table : IsTableOf d problem t) (s : State) (closed : IsClosed d t s) where
  -- a unifier that the state admits is loosened by itself
  pub loosened_itself : (u : Substitution) → IsKindUnifier d problem u → Admits s (kernel d u t.nodes) → IsLoosened d problem t s u u
  loosened_itself u unifier admits = record { unifies = unifier; more_general = preorder.itself d good problem kinded u; admits = admits }

  pub loosened_chain : (u v w : Substitution) → IsLoosened d problem t s u v → IsLoosened d problem t s v w → IsLoosened d problem t s u w
  loosened_chain u v w a b = record { unifies = b.unifies; more_general = preorder.after d good problem kinded u v w a.more_general b.more_general; admits = b.admits }

module _ (law : SortedUnifiersGoWith) (d : Declarations) (good : IsGood d) (problem : Problem) (kinded : IsProblem d problem) (t : NodeTable) (made : IsWellMade t) (table : IsTableOf d problem t) (s : State) (closed : IsClosed d t s) where
  -- a loose class without sums
  opened : (z : ℕ) (own : IsLooseClass d t s z) (v : Substitution) → IsKindUnifier d problem v → Admits s (kernel d v t.nodes) → (g : Setting d problem t s z own.heights v) × ((i : ℕ) → entry g i ≡ None)
  opened z own v unifier admits = (
    record {
      good = good;
      kinded = kinded;
      made = made;
      table = table;
      closed = closed;
      sums = [];
      sorted = false;
      loose = own.loose;
      unifier = unifier;
      admits = admits;
      values_go = law d good problem kinded t made table s closed v unifier admits false (λ e. cc);
    },
    λ i. nothing_noted [] refl (class_of s i),
  )

  -- one node more
  one_opened : (z : ℕ) (nodes : List ℕ) → IsLooseClass d t s z → All (IsLooseClass d t s) nodes → (u v : Substitution) → IsLoosened d problem t s u v → AreVariables d t nodes v
      → (w : Substitution) × IsLoosened d problem t s u w × AreVariables d t (z ∷ nodes) w
  one_opened z nodes own others u v first variables =
      let r = opened z own v first.unifies first.admits in
      let g = r.0 in (
        loosened g,
        loosened_chain d good problem kinded t made table s closed u v (loosened g) first (is_loosened g),
        All-cons (IsVariableAt d t (loosened g)) z nodes (new g, value_bottom g z own.loose.within refl) (all_kept g r.1 nodes others variables),
      )

  all_opened : (nodes : List ℕ) → All (IsLooseClass d t s) nodes → (u : Substitution) → IsKindUnifier d problem u → Admits s (kernel d u t.nodes)
      → (v : Substitution) × IsLoosened d problem t s u v × AreVariables d t nodes v
  all_opened [] own u unifier admits = (u, loosened_itself d good problem kinded t made table s closed u unifier admits, All-nil (IsVariableAt d t u))
  all_opened (z ∷ nodes) own u unifier admits =
      let r = all_opened nodes (All-tail (IsLooseClass d t s) z nodes own) u unifier admits in
      one_opened z nodes (All-head (IsLooseClass d t s) z nodes own) (All-tail (IsLooseClass d t s) z nodes own) u r.0 r.1 r.2

pub loose_variables : SortedUnifiersGoWith → LooseClassesAreVariables
loose_variables law d good problem kinded t made table s closed nodes own u unifier admits = all_opened law d good problem kinded t made table s closed nodes own u unifier admits
