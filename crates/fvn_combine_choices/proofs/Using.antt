-- Which columns of a sum system its operator uses, and what solutions have in them.
use Rattle.std.proofs.Common.{◌≡◌, ◌≢◌, ℕ, zero, ◌<◌, List, length, get_or, refl, sym, ap, ◌∙◌, subst, ◌⊎◌, inl, inr, arith, Contains, slice_get}
use Rattle.std.specs.Prelude.{ℤ, pos}
use Rattle.std.proofs.lemmas.Bool.{cases_eq}
use Rattle.std.proofs.lemmas.List.{get_or-map, get_or_default}
use Rattle.std.proofs.lemmas.List.Elements.{All-contains, All-map}
use Rattle.fvn_base.specs.Decided.{Decided}
use Rattle.fvn_base.proofs.Decided.{some_or_none}
use Rattle.fvn_base.proofs.Membership.{contains_map}
use Rattle.fvn_terms.specs.declared.plain.OpId.{OpId}
use Rattle.fvn_terms.specs.declared.declarations.Declarations.{Declarations}
use Rattle.fvn_terms.specs.Signature.{axioms}
use Rattle.fvn_terms.specs.Equality.{IsAssociative}
use Rattle.fvn_lindio.specs.declared.system.System.{System}
use Rattle.fvn_lindio.specs.Systems.{IsUnused, Solves, rows_of}
use Rattle.fvn_flat.specs.SolvedLists.{component}
use Rattle.fvn_combine_nodes.specs.Table.{NodeTable}
use Rattle.fvn_combine_nodes.proofs.Lists.{all_from}
use Rattle.fvn_combine_systems.specs.NodeSystems.{addends, sums, coefficient, row_at, IsNodeSystem}
use Rattle.fvn_combine_systems.proofs.Zeroes.{zero_told}
use Rattle.fvn_combine_leaves.specs.Leaves.{Uses}
use Rattle.fvn_combine_choices.proofs.Columns.{component_at, column_listed, column_is}

other_told : (z : ℤ) → Decided (z ≢ pos 0)
other_told z = elim (zero_told z) [ inl e ↦ inr (λ n. n e) | inr n ↦ inl n ]

module _ (d : Declarations) (t : NodeTable) (class : ℕ → ℕ) (f : OpId) (columns : List ℕ) (system : System) (is : IsNodeSystem t class f columns system) where
  abbrev entry : ℕ → ℕ → ℤ
  entry i k = coefficient class i (addends f (slice_get t.nodes i)) k

  -- a class that f uses has a column
  pub used_column : (k : ℕ) → Uses d t class f k → Contains columns k
  used_column k u = (is.exact k).1 u.column

  -- which some row uses
  pub not_unused : (j : ℕ) → j < length columns → Uses d t class f (get_or columns j 0) → IsUnused (rows_of system) j → ⊥
  not_unused j l u z =
      let row = row_at t class f columns u.row in
      let listed : Contains (rows_of system) row = subst (λ rs. Contains rs row) (sym is.rows) (contains_map (row_at t class f columns) (sums t f) u.row u.listed) in
      let zero = All-contains (λ r. get_or r j (pos 0) ≡ pos 0) (rows_of system) row z listed in
      u.other (sym (get_or-map (entry u.row) columns j 0 (pos 0) l) ∙ zero)

  module _ (assoc : IsAssociative (axioms d f)) where
    uses_or_zero : (k : ℕ) → Contains columns k → Uses d t class f k ⊎ ((i : ℕ) → Contains (sums t f) i → entry i k ≡ pos 0)
    uses_or_zero k c = elim (some_or_none (λ i. entry i k ≢ pos 0) (λ i. other_told (entry i k)) (sums t f)) [
      | inl r ↦ inl record { associative = assoc; column = (is.exact k).0 c; row = r.0; listed = r.1.0; other = r.1.1 }
      | inr n ↦ inr (λ i m. elim (zero_told (entry i k)) [ inl z ↦ z | inr o ↦ absurd (n i m o) ])
    ]

    -- f uses a column, or no row does
    pub uses_or_unused : (j : ℕ) → j < length columns → Uses d t class f (get_or columns j 0) ⊎ IsUnused (rows_of system) j
    uses_or_unused j l =
        let k = get_or columns j 0 in
        elim (uses_or_zero k (j, l, get_or_default columns j k 0 l)) [
          | inl u ↦ inl u
          | inr z ↦ inr (subst (λ rs. IsUnused rs j) (sym is.rows) (All-map (λ row. get_or row j (pos 0) ≡ pos 0) (row_at t class f columns) (sums t f) (all_from (λ i. get_or (row_at t class f columns i) j (pos 0) ≡ pos 0) (sums t f) (λ i m. get_or-map (entry i) columns j 0 (pos 0) l ∙ z i m))))
        ]

    pub uses_decided : (k : ℕ) → Decided (Uses d t class f k)
    uses_decided k = elim (some_or_none (λ c. c ≡ k) (λ c. cases_eq c k) columns) [
      | inl r ↦ elim (uses_or_zero k (subst (Contains columns) r.1.1 r.1.0)) [
        | inl u ↦ inl u
        | inr z ↦ inr (λ u. u.other (z u.row u.listed))
      ]
      | inr n ↦ inr (λ u. n k (used_column k u) refl)
    ]

    -- a class that a solution has is used
    pub solution_uses : (v : List ℕ) → Solves system.columns (rows_of system) v → (k : ℕ) → 0 < component columns v k → Uses d t class f k
    solution_uses v h k p =
        let c = column_listed columns v k p in
        let at = column_is columns k c in
        let value = ap (component columns v) (sym at) ∙ component_at columns v is.distinct c.0 c.1 in
        elim (uses_or_unused c.0 c.1) [
          | inl u ↦ subst (Uses d t class f) at u
          | inr z ↦ absurd (let n = h.unused c.0 z in omega (arith, n, value, p))
        ]
