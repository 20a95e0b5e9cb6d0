-- Sums of values add up exactly where the counts of their summands solve the sum system.
use Rattle.std.proofs.Common.{◌≡◌, ℕ, ◌+◌, ◌<◌, List, [], ◌∷◌, ◌++◌, length, map, get_or, refl, sym, ap, ◌∙◌, subst, inl, inr, arith, Contains, Option, Some, None, slice_get}
use Rattle.std.specs.Prelude.{ℤ, pos, ◌↔◌}
use Rattle.std.proofs.lemmas.Bool.{cases_eq}
use Rattle.std.proofs.lemmas.List.{length-map, get_or-map}
use Rattle.std.proofs.lemmas.List.Elements.{All-contains}
use Rattle.fvn_base.proofs.Decided.{some_or_none}
use Rattle.fvn_base.proofs.Membership.{contains_map, map_contains}
use Rattle.fvn_terms.specs.declared.plain.OpId.{OpId}
use Rattle.fvn_terms.specs.declared.declarations.Declarations.{Declarations}
use Rattle.fvn_terms.specs.Signature.{axioms}
use Rattle.fvn_terms.specs.Equality.{IsAssociative}
use Rattle.fvn_forms.specs.Flat.{FlatTerm}
use Rattle.fvn_forms.specs.InOrder.{count}
use Rattle.fvn_forms.specs.Canon.{parts, all_parts}
use Rattle.fvn_forms.specs.Settled.{Settled}
use Rattle.fvn_forms.proofs.InOrder.{count_append}
use Rattle.fvn_forms.proofs.Sums.{sum_parts, sum_same_counts}
use Rattle.fvn_forms.proofs.Build.{build_sum, count_parts_build}
use Rattle.fvn_lindio.specs.declared.system.System.{System}
use Rattle.fvn_lindio.specs.Systems.{IsZeroAt, IsUnused, Solves, rows_of}
use Rattle.fvn_combine_nodes.specs.FlatSolvedLists.{component}
use Rattle.fvn_combine_nodes.specs.Table.{NodeTable, IsOver}
use Rattle.fvn_combine_nodes.proofs.Lists.{all_from}
use Rattle.fvn_combine_systems.specs.NodeSystems.{addends, sums, coefficient, row_at, IsIdentityClass, IsNodeColumn, IsNodeSystem}
use Rattle.fvn_combine_systems.specs.Values.{AddUp, AddsNothing, Counts}
use Rattle.fvn_combine_systems.proofs.Weighing.{zero_row, nothing_row, component-map, component-out}
use Rattle.fvn_combine_systems.proofs.Zeroes.{AgreeWhereUsed, agree_zero, agree_swap, unused_told, zeroed}
use Rattle.fvn_combine_systems.proofs.Members.{addends_over, over_addends, listed_sum, sum_listed}

module _ (d : Declarations) (t : NodeTable) (class : ℕ → ℕ) (f : OpId) (assoc : IsAssociative (axioms d f)) (columns : List ℕ) (system : System) (is : IsNodeSystem t class f columns system) (value : ℕ → FlatTerm) (settled : (k : ℕ) → Settled d (value k)) (nothing : AddsNothing d t class f value) where
  rows : List (List ℤ)
  rows = rows_of system

  -- how often q is a summand of the value of class k
  abbrev times_in : FlatTerm → ℕ → ℕ
  times_in q k = count q (parts d f (value k))

  -- in all columns, used or not
  abbrev in_all : FlatTerm → List ℕ
  in_all q = map (times_in q) columns

  identity_counts : (q : FlatTerm) (k : ℕ) → IsIdentityClass t class f k → times_in q k ≡ 0
  identity_counts q k (i, p, l, e, same) =
      let none : parts d f (value (class p.1)) ≡ [] = subst (λ r. r.0 ≡ f → parts d f (value (class r.1)) ≡ []) e (nothing i p l) same.0 in
      sym (ap (times_in q) same.1) ∙ ap (count q) none

  -- the component of a class of a sum counts its summands, also where it is no column
  class_component : (q : FlatTerm) (k : ℕ) → ((IsIdentityClass t class f k → ⊥) → IsNodeColumn t class f k) → component columns (in_all q) k ≡ times_in q k
  class_component q k column = elim (some_or_none (λ c. c ≡ k) (λ c. cases_eq c k) columns) [
    | inl r ↦ component-map (times_in q) columns k (subst (Contains columns) r.1.1 r.1.0)
    | inr n ↦
        let out : Contains columns k → ⊥ = λ c. n k c refl in
        component-out columns (in_all q) k out
        ∙ sym
        (elim (cases_eq (times_in q k) 0) [
          | inl z ↦ z
          | inr o ↦ absurd (out ((is.exact k).1 (column (λ h. o (identity_counts q k h)))))
        ])
  ]

  module _ (i a b : ℕ) (listed : Contains t.subterms i) (over : IsOver t.nodes i f (a ∷ b ∷ [])) where
    row_is : row_at t class f columns i ≡ map (coefficient class i (Some (a, b))) columns
    row_is = ap (λ n. map (coefficient class i (addends f n)) columns) over ∙ ap (λ p. map (coefficient class i p) columns) (over_addends f a b)

    a_column : (k : ℕ) → Contains (class i ∷ class a ∷ class b ∷ []) k → (IsIdentityClass t class f k → ⊥) → IsNodeColumn t class f k
    a_column k among free = record { sum = i; left = a; right = b; listed = listed; over = over; among = among; no_identity = free }

    -- the row of the sum is zero at the counts exactly where they add up
    sum_zero : (q : FlatTerm) → IsZeroAt (in_all q) (row_at t class f columns i) ↔ (times_in q (class a) + times_in q (class b) ≡ times_in q (class i))
    sum_zero q =
        let left = class_component q (class a) (a_column (class a) (1, omega arith, refl)) in
        let right = class_component q (class b) (a_column (class b) (2, omega arith, refl)) in
        let whole = class_component q (class i) (a_column (class i) (0, omega arith, refl)) in
        let at = zero_row columns (in_all q) is.distinct (class a) (class b) (class i) in (
          λ z. let e = at.0 (subst (IsZeroAt (in_all q)) row_is z) in omega (arith, e, left, right, whole),
          λ e. subst (IsZeroAt (in_all q)) (sym row_is) (at.1 (omega (arith, e, left, right, whole))),
        )

  -- the rows are those of the sums
  row_listed : (i : ℕ) → Contains (sums t f) i → Contains rows (row_at t class f columns i)
  unfolding rows
  row_listed i c = subst (λ rs. Contains rs (row_at t class f columns i)) (sym is.rows) (contains_map (row_at t class f columns) (sums t f) i c)

  -- counts agree with those in all columns, where a row has a coefficient
  counts_agree : (q : FlatTerm) (x : List ℕ) → Counts d f value columns rows q x → (i : ℕ) → Contains (sums t f) i → AgreeWhereUsed (row_at t class f columns i) x (in_all q)
  counts_agree q x counts i c j l =
      let within : j < length columns = let n = counts.sized in omega (arith, n, l) in
      elim (unused_told rows j) [
        | inl u ↦ inl (All-contains (λ r. get_or r j (pos 0) ≡ pos 0) rows (row_at t class f columns i) u (row_listed i c))
        | inr n ↦ inr (counts.used j within n ∙ sym (get_or-map (times_in q) columns j 0 0 within))
      ]

  counts_length : (q : FlatTerm) (x : List ℕ) → Counts d f value columns rows q x → length x ≡ length (in_all q)
  counts_length q x counts = counts.sized ∙ sym (length-map columns (times_in q))

  counts_of : (q : FlatTerm) → (x : List ℕ) × Counts d f value columns rows q x
  counts_of q =
      let z = zeroed (IsUnused rows) (unused_told rows) (in_all q) in (
        z.vector,
        record {
          sized = z.sized ∙ length-map columns (times_in q);
          used = λ j l n. z.kept j n ∙ get_or-map (times_in q) columns j 0 0 l;
          unused = z.zero;
        },
      )

  solve : AddUp d t class f value → (q : FlatTerm) → (x : List ℕ) × Counts d f value columns rows q x × Solves system.columns rows x
  unfolding rows
  solve add q = let r = counts_of q in (r.0, r.1, record { sized = r.1.sized ∙ sym is.wide; zero_rows = all_from (IsZeroAt r.0) rows (zero_at r.0 r.1); unused = r.1.unused })
    where
      zero_at : (x : List ℕ) → Counts d f value columns rows q x → (row : List ℤ) → Contains rows row → IsZeroAt x row
      zero_at x counts row c =
          let m = map_contains (row_at t class f columns) (sums t f) row (subst (λ rs. Contains rs row) is.rows c) in
          subst (IsZeroAt x) m.1.1 (at_sum m.0 m.1.0 (addends f (slice_get t.nodes m.0)) refl)
        where
          at_sum : (i : ℕ) → Contains (sums t f) i → (o : Option (ℕ × ℕ)) → addends f (slice_get t.nodes i) ≡ o → IsZeroAt x (row_at t class f columns i)
          at_sum i l None e = subst (IsZeroAt x) (sym (ap (λ p. map (coefficient class i p) columns) e)) (nothing_row columns x)
          at_sum i l (Some p) e =
              let over = addends_over f (slice_get t.nodes i) p e in
              let listed = (sum_listed t f i l).0 in
              let same = add i p.0 p.1 listed over in
              let zero = (sum_zero i p.0 p.1 listed over q).1 (sym (ap (λ v. count q (parts d f v)) same ∙ count_parts_build d f assoc q (value (class p.0)) (value (class p.1)) (settled (class p.0)) (settled (class p.1)))) in
              agree_zero (row_at t class f columns i) (in_all q) x (sym (counts_length q x counts)) (agree_swap (row_at t class f columns i) x (in_all q) (counts_length q x counts) (counts_agree q x counts i l)) zero

  solved : ((q : FlatTerm) → (x : List ℕ) × Counts d f value columns rows q x × Solves system.columns rows x) → AddUp d t class f value
  unfolding rows
  solved h i a b listed over =
      sym (sum_parts d f (value (class i)) (settled (class i)))
      ∙ sum_same_counts d f (parts d f (value (class i))) (all_parts d f (value (class a) ∷ value (class b) ∷ [])) same
      ∙ sym (build_sum d f assoc (value (class a)) (value (class b) ∷ []))
    where
      same : (q : FlatTerm) → count q (parts d f (value (class i))) ≡ count q (all_parts d f (value (class a) ∷ value (class b) ∷ []))
      same q =
          let x = h q in
          let l = listed_sum t f i (a ∷ b ∷ []) listed over in
          let row = All-contains (IsZeroAt x.0) rows (row_at t class f columns i) x.2.zero_rows (row_listed i l) in
          let zero = agree_zero (row_at t class f columns i) x.0 (in_all q) (counts_length q x.0 x.1) (counts_agree q x.0 x.1 i l) row in
          let e = (sum_zero i a b listed over q).0 zero in
          let m = count_append q (parts d f (value (class a))) (parts d f (value (class b)) ++ []) in
          let n = count_append q (parts d f (value (class b))) [] in
          omega (arith, e, m, n)

-- sums add up exactly where the counts of each flat form solve the system
pub counts_solve : (d : Declarations) (t : NodeTable) (class : ℕ → ℕ) (f : OpId) → IsAssociative (axioms d f) → (columns : List ℕ) (system : System) → IsNodeSystem t class f columns system →
    (value : ℕ → FlatTerm) → ((k : ℕ) → Settled d (value k)) → AddsNothing d t class f value →
    AddUp d t class f value ↔ ((q : FlatTerm) → (x : List ℕ) × Counts d f value columns (rows_of system) q x × Solves system.columns (rows_of system) x)
unfolding rows
counts_solve d t class f assoc columns system is value settled nothing =
    (solve d t class f assoc columns system is value settled nothing, solved d t class f assoc columns system is value settled nothing)
