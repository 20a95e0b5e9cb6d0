-- The loosened substitution keeps sorts where the unifier does.
use Rattle.std.proofs.Common.{◌≡◌, ℕ, zero, suc, ◌+◌, ◌<◌, ◌≤◌, List, length, refl, sym, subst, inl, inr, arith, All, Contains, Some, slice_get}
use Rattle.std.proofs.lemmas.Bool.{cases_lt}
use Rattle.std.proofs.lemmas.Option.{slice_get_within}
use Rattle.std.proofs.lemmas.List.Elements.{All-contains, All-weaker, All-contains_itself}
use Rattle.fvn_base.specs.Decided.{Decided}
use Rattle.fvn_terms.specs.declared.plain.Var.{Var as Variable}
use Rattle.fvn_terms.specs.declared.plain.OpId.{OpId}
use Rattle.fvn_terms.specs.declared.plain.SortId.{SortId}
use Rattle.fvn_terms.specs.declared.declarations.Declarations.{Declarations}
use Rattle.fvn_terms.specs.Term.{Term, var}
use Rattle.fvn_terms.specs.Substitution.{Substitution, apply, Occurs}
use Rattle.fvn_terms.specs.Signature.{kind, AtOrBelow, HasKind, IsTerm, same}
use Rattle.fvn_terms.specs.Places.{stop}
use Rattle.fvn_terms.specs.Equality.{BEqual}
use Rattle.fvn_terms.specs.Sorts.{HasSort, IsWellSorted}
use Rattle.fvn_terms.specs.Unifiers.{Problem}
use Rattle.fvn_terms.proofs.Substitutions.{apply-agree}
use Rattle.fvn_terms.proofs.Equal.{BEqual-sym, BEqual-trans}
use Rattle.fvn_terms.proofs.WellSorted.{HasSort-apply}
use Rattle.fvn_forms.specs.Flat.{FlatTerm}
use Rattle.fvn_forms.specs.Canon.{parts, canon}
use Rattle.fvn_forms.specs.LeastSort.{least_sort}
use Rattle.fvn_forms.proofs.Eval.{canon_settled}
use Rattle.fvn_forms.proofs.ToCanon.{canon_of_kind}
use Rattle.fvn_forms.proofs.LeastSort.{least_sort_below, least_sort_exact}
use Rattle.fvn_flat.specs.Problems.{variables_of}
use Rattle.fvn_combine_nodes.specs.Table.{NodeTable, term_at}
use Rattle.fvn_combine_nodes.specs.States.{class_of}
use Rattle.fvn_combine_nodes.specs.declared.state.State.{State}
use Rattle.fvn_combine_nodes.specs.declared.table.Node.TheVariants.{Var, App}
use Rattle.fvn_combine_nodes.proofs.Nodes.{term_at-variable}
use Rattle.fvn_combine_nodes.proofs.NodesOf.{node_variable}
use Rattle.fvn_combine_nodes.proofs.Subterms.{node_kinded}
use Rattle.fvn_combine_loose.specs.MoreGeneral.{KeepsSorts}
use Rattle.fvn_combine_loose.specs.Loose.{height_of, IsSumSort, IsHeaded, HaveSort}
use Rattle.fvn_combine_loose.proofs.Decisions.{listed_or_not, occurs_or_not, chosen, chosen_if, chosen_has}
use Rattle.fvn_combine_loose.proofs.Mapped.{equal_is}
use Rattle.fvn_combine_loose.proofs.Rests.{contains_counted, counted_contained, often}
use Rattle.fvn_combine_loose.proofs.Setting.{Setting, noted, entry, one_value, same_height}
use Rattle.fvn_combine_loose.proofs.Deep.{NodeUpTo, below_over}
use Rattle.fvn_combine_loose.proofs.NewVariable.{bottom, new, new_sort, bottom_kinded}
use Rattle.fvn_combine_loose.proofs.Splitting.{Sum, old as old_at, old_kinded}
use Rattle.fvn_combine_loose.proofs.Remade.{same_or_other, remade, remade_same, remade_low, remade_bottom}
use Rattle.fvn_combine_loose.proofs.After.{remade_kinded}
use Rattle.fvn_combine_loose.proofs.Exchanged.{sum_often}
use Rattle.fvn_combine_loose.proofs.Loosened.{loosened, loosened_given, loosened_other, loosened_node, loosened_keeps, node_value}

-- terms that are equal modulo the axioms have the same sorts
equal_sort : (d : Declarations) {v w : Term} (q : SortId) → BEqual d v w → HasSort d v q → HasSort d w q
equal_sort d q e h = record { form = h.form; equal = BEqual-trans d (BEqual-sym d e) h.equal; gets = h.gets }

variable_sort : (d : Declarations) (x : Variable) → HasSort d (var x) x.sort
variable_sort d x = record { form = var x; equal = stop; gets = record { sort = x.sort; gets = refl; below = same } }

module _ {d : Declarations} {problem : Problem} {t : NodeTable} {s : State} {z : ℕ} {heights : List ℕ} {u : Substitution} (g : Setting d problem t s z heights u) where
  abbrev height : ℕ → ℕ
  height = height_of s heights

  -- the loosened substitution on the variables of v, where it gives these their sorts
  module _ (v : Term) (sorted : (x : Variable) → Occurs x v → HasSort d (loosened g x) x.sort) where
    abbrev within : Substitution
    within x = chosen (occurs_or_not x v) (loosened g x) (var x)

    within_sorted : IsWellSorted d within
    within_sorted = (
      λ x i. chosen_has (occurs_or_not x v) (loosened g x) (var x) (λ w. HasKind d w (kind d x.sort)) (λ o. loosened_keeps g x i) (i, refl),
      λ x. chosen_has (occurs_or_not x v) (loosened g x) (var x) (λ w. HasSort d w x.sort) (sorted x) (variable_sort d x),
    )

    loosened_sort : (q : SortId) → HasSort d v q → HasSort d (apply (loosened g) v) q
    loosened_sort q h =
        subst (λ w. HasSort d w q) (apply-agree within (loosened g) v (λ x o. chosen_if (occurs_or_not x v) (loosened g x) (var x) o))
        (HasSort-apply d within within_sorted v q h)

  module _ (old : KeepsSorts d (variables_of problem) u) where
    -- the old value of a variable's node
    old_sort : (i : ℕ) (x : Variable) → slice_get t.nodes i ≡ Some (Var x) → HasSort d (apply u (term_at t.nodes i)) x.sort
    old_sort i x is = subst (λ v. HasSort d (apply u v) x.sort) (sym (term_at-variable t.nodes i x is)) (old x (node_variable g.made g.table i x is))

    low_sort : (i : ℕ) (x : Variable) → slice_get t.nodes i ≡ Some (Var x) → height i ≡ 0 → HasSort d (remade g i) x.sort
    low_sort i x is low = equal_sort d x.sort (remade_low g i (slice_get_within t.nodes i (Var x) is) low) (old_sort i x is)

    bottom_has : (i : ℕ) (x : Variable) → slice_get t.nodes i ≡ Some (Var x) → class_of s i ≡ class_of s z → HasSort d (remade g i) x.sort
    bottom_has i x is e =
        let l = slice_get_within t.nodes i (Var x) is in
        let has : HasSort d (bottom g) x.sort = equal_sort d x.sort (one_value g i z l g.loose.within e) (old_sort i x is) in
        let below = least_sort_below d g.good (bottom g) (bottom_kinded g) x.sort has in
        subst (λ v. HasSort d v x.sort) (sym (remade_bottom g i l e))
        record { form = var (new g); equal = stop; gets = record { sort = (new g).sort; gets = refl; below = rw (new_sort g) below } }

    -- the new values of the variables' nodes up to this height have the sorts of the variables
    abbrev SortedUpTo : ℕ → Type 0
    SortedUpTo n = (k : ℕ) (y : Variable) → slice_get t.nodes k ≡ Some (Var y) → height k ≤ n → HasSort d (remade g k) y.sort

    -- the new value of a headed class has the sorts of its head, where the new values of lower variables have theirs
    head_sort : (i : ℕ) (m : IsHeaded d t s g.sorted i) (n : ℕ) → height i ≤ n + 1 → (q : SortId) → HaveSort d t s g.sorted i q → SortedUpTo n → HasSort d (remade g i) q
    head_sort i m n h q has before =
        let j = m.member in
        let l = slice_get_within t.nodes j (App m.operator m.arguments) m.over in
        let e = same_height g j i m.of in
        let whole : HasSort d (term_at t.nodes j) q =
        elim (has j m.operator m.arguments m.over (sym m.of)) as (λ _. HasSort d (term_at t.nodes j) q) [
          | inl idle ↦ absurd (m.busy idle)
          | inr w ↦ w
        ]
        in
        let lower : (y : Variable) → Occurs y (term_at t.nodes j) → HasSort d (loosened g y) y.sort =
        λ y o.
        let b : NodeUpTo d t s z heights y n = below_over g i m n (omega (arith, e, h)) y o in
        subst (λ v. HasSort d v y.sort) (sym (loosened_node g b.number y b.is)) (before b.number y b.is b.up_to)
        in
        equal_sort d q (BEqual-trans d (node_value g j l) (equal_is d (remade_same g j i m.of))) (loosened_sort (term_at t.nodes j) lower q whole)

    -- all summands of a term that has a sort of sums have it
    summands_sorted : (f : OpId) (q : SortId) → IsSumSort d f q → (v : Term) → IsTerm d v → HasSort d v q → All (λ p. AtOrBelow d (least_sort d p) q) (parts d f (canon d v))
    summands_sorted f q sum_sort v h has =
        (sum_sort.exact (canon d v) (canon_settled d v) (h.0, canon_of_kind d g.good.fits v h.0 h.1)).0 (least_sort_below d g.good v h q has)

    -- the new value of a sum has the sort, where its old value and the new value of the class over which it is have it
    summed_sort : (i : ℕ) → i < length t.nodes → (f : OpId) (p : ℕ) → Sum g f p i → (q : SortId) → IsSumSort d f q → HasSort d (old_at g i) q → HasSort d (remade g p) q → HasSort d (remade g i) q
    summed_sort i l f p is q sum_sort has part =
        let P : FlatTerm → Type 0 = λ v. AtOrBelow d (least_sort d v) q in
        let within = (g.loose.sum i f p l is).part in
        let h = node_kinded d g.good.fits problem g.kinded t g.table i l in
        let k = node_kinded d g.good.fits problem g.kinded t g.table p within in
        let new_kinded : IsTerm d (remade g i) = (h.0, remade_kinded g i h.0 l h.1) in
        let wholes = summands_sorted f q sum_sort (old_at g i) (old_kinded g i l) has in
        let parted = summands_sorted f q sum_sort (remade g p) (k.0, remade_kinded g p k.0 within k.1) part in
        let each : (v : FlatTerm) → Contains (parts d f (canon d (remade g i))) v → P v =
        λ v c.
        let some = counted_contained v (parts d f (canon d (remade g i))) c in
        let changed = sum_often g i l f p is v in
        elim (cases_lt 0 (often d f v (old_at g i))) as (λ _. P v) [
          | inl m ↦ All-contains P (parts d f (canon d (old_at g i))) v wholes (contains_counted v (parts d f (canon d (old_at g i))) m)
          | inr le ↦ All-contains P (parts d f (canon d (remade g p))) v parted (contains_counted v (parts d f (canon d (remade g p))) (omega (arith, some, changed, le)))
        ]
        in
        let all : All P (parts d f (canon d (remade g i))) = All-weaker (Contains (parts d f (canon d (remade g i)))) P each (parts d f (canon d (remade g i))) (All-contains_itself (parts d f (canon d (remade g i)))) in
        let settled = canon_settled d (remade g i) in
        let below = (sum_sort.exact (canon d (remade g i)) settled (h.0, canon_of_kind d g.good.fits (remade g i) h.0 new_kinded.1)).1 all in
        (least_sort_exact d g.good (remade g i) new_kinded q).1 below

    -- the new value of a variable's node has the sort of the variable
    remade_sort : (n : ℕ) → SortedUpTo n
    remade_sort zero i x is h = low_sort i x is (omega (arith, h))
    remade_sort (suc n) i x is h = elim (cases_lt 0 (height i)) as (λ _. HasSort d (remade g i) x.sort) [
      | inl st ↦ go st (same_or_other (class_of s i) (class_of s z)) (λ k y a b. remade_sort n k y a b)
      | inr le ↦ low_sort i x is (omega (arith, le))
    ]
      where
        within : i < length t.nodes
        within = slice_get_within t.nodes i (Var x) is

        summed : (f : OpId) (p : ℕ) → Sum g f p i → 0 < height i → SortedUpTo n → HasSort d (remade g i) x.sort
        summed f p over st before = elim ((g.loose.sum i f p within over).taken i x is refl) as (λ _. HasSort d (remade g i) x.sort) [
          | inl m ↦ head_sort i m n (omega (arith, h)) x.sort (g.loose.sorts i x is st) before
          | inr w ↦
              let low = (g.loose.sum i f p within over).lower in
              summed_sort i within f p over x.sort w.0 (old_sort i x is) (head_sort p w.1 n (omega (arith, low, h)) x.sort w.2 before)
        ]

        go : 0 < height i → Decided (class_of s i ≡ class_of s z) → SortedUpTo n → HasSort d (remade g i) x.sort
        go st (inl e) before = bottom_has i x is e
        go st (inr other) before = elim (noted (entry g i)) as (λ _. HasSort d (remade g i) x.sort) [
          | inl none ↦ head_sort i (g.loose.made i within st other none) n (omega (arith, h)) x.sort (g.loose.sorts i x is st) before
          | inr w ↦ summed w.0 w.1 w.2 st before
        ]

    pub loosened_sorts : KeepsSorts d (variables_of problem) (loosened g)
    loosened_sorts x c = let r = loosened_given g x c in subst (λ v. HasSort d v x.sort) (sym r.3) (remade_sort (height r.0) r.0 x r.2 (omega arith))

  pub loosened_well_sorted : IsWellSorted d u → IsWellSorted d (loosened g)
  loosened_well_sorted h = (loosened_keeps g, λ x. go x (listed_or_not (variables_of problem) x))
    where
      go : (x : Variable) → Decided (Contains (variables_of problem) x) → HasSort d (loosened g x) x.sort
      go x (inl c) = loosened_sorts (λ y k. h.1 y) x c
      go x (inr n) = subst (λ v. HasSort d v x.sort) (sym (loosened_other g x n)) (h.1 x)
