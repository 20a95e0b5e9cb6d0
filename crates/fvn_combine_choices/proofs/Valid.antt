-- A choice is acceptable exactly where it is valid for what is asked, and no shared class is a sum of a constant alone.
use Rattle.std.proofs.Common.{◌≢◌, ◌≡◌, ℕ, ◌<◌, ◌≤◌, List, length, get_or, sym, ap, ◌∙◌, subst, inl, inr, arith, AllPairs, Contains}
use Rattle.std.specs.Prelude.{Bool, nat_lt}
use Rattle.std.proofs.lemmas.Bool.{cases_order, ltb-true, lt-ltb}
use Rattle.std.proofs.lemmas.List.Elements.{All-contains}
use Rattle.fvn_terms.specs.declared.plain.OpId.{OpId}
use Rattle.fvn_terms.specs.declared.declarations.Declarations.{Declarations}
use Rattle.fvn_acunify.specs.ValidChoice.{touched, column_sum, IsValid}
use Rattle.fvn_flat.specs.SolvedLists.{component}
use Rattle.fvn_combine_nodes.specs.Table.{NodeTable}
use Rattle.fvn_combine_nodes.proofs.Lists.{all_from}
use Rattle.fvn_combine_leaves.specs.Leaves.{IsSumOperator, IsShared}
use Rattle.fvn_combine_choices.specs.Binding.{IsBound, solid, alone, tagged, IsConstant, IsRequired, AreAsked}
use Rattle.fvn_combine_choices.specs.Choosing.{Systems, Choice, taken, AreSystems, AreTakenTogether, IsAcceptable, member_count}
use Rattle.fvn_combine_choices.specs.Laws.{ValidChoicesAreAcceptable}
use Rattle.fvn_combine_choices.proofs.Columns.{component_at, column_is, column_sum_is, few_pass, one_passes}
use Rattle.fvn_combine_choices.specs.Tables.{HasSums}
use Rattle.fvn_combine_choices.proofs.Kinded.{tables_have_sums}
use Rattle.fvn_combine_choices.proofs.Solids.{solid_column}

module _ {d : Declarations} {t : NodeTable} (has : HasSums d t) (class : ℕ → ℕ) (y : Systems) (systems : AreSystems d t class y) (c : Choice) (f : OpId) (sum : IsSumOperator d t f) where
  abbrev columns : List ℕ
  columns = y.columns f

  apart_columns : AllPairs ◌≢◌ columns
  apart_columns = (systems.is_system f sum).distinct

  -- a class that is bound to a sum of f has a column
  pub bound_column : (k : ℕ) → IsBound d t class c.tag f k → Contains columns k
  bound_column k (solid assoc h) = ((systems.is_system f sum).exact k).1 (solid_column has class f k assoc h)
  bound_column k (alone u soft only) = ((systems.is_system f sum).exact k).1 u.column
  bound_column k (tagged u shared e) = ((systems.is_system f sum).exact k).1 u.column

  count_is : (j : ℕ) → j < length columns → member_count y c f (get_or columns j 0) ≡ column_sum j (taken y c f)
  count_is j l = column_sum_is columns apart_columns j l (taken y c f)

  value_is : (v : List ℕ) (j : ℕ) → j < length columns → component columns v (get_or columns j 0) ≡ get_or v j 0
  value_is v j l = component_at columns v apart_columns j l

  module _ (constants : List ℕ) (may_be_zero : List Bool) (asked : AreAsked d t class c.tag f columns constants may_be_zero) where
    -- the place of a constant's column
    record IsPlace (k : ℕ) : Type 0 where
      place : ℕ
      within : place < length columns
      at : get_or columns place 0 ≡ k

    place_of : (k : ℕ) → Contains columns k → IsPlace k
    place_of k m = record { place = m.0; within = m.1; at = column_is columns k m }

    constant_place : (k : ℕ) → IsConstant d t class c.tag f k → IsPlace k
    constant_place k h = place_of k (((systems.is_system f sum).exact k).1 h.used.column)

    listed_constant : (k : ℕ) (h : IsConstant d t class c.tag f k) → Contains constants (constant_place k h).place
    listed_constant k h = let p = constant_place k h in (asked.are_constant p.place).1 (p.within, subst (IsConstant d t class c.tag f) (sym p.at) h)

    same_place : (i j : ℕ) → i < length columns → j < length columns → get_or columns i 0 ≡ get_or columns j 0 → i ≡ j
    same_place i j l m e = elim (cases_order i j) [
      | inl z ↦ z
      | inr o ↦ elim o [
        | inl lt ↦ absurd (apart_columns i j 0 lt m e)
        | inr gt ↦ absurd (apart_columns j i 0 gt l (sym e))
      ]
    ]

    pub acceptable_is_valid : IsAcceptable d t class y c f → IsValid constants may_be_zero (y.basis f) (c.number f)
    acceptable_is_valid h = record {
      within = h.within;
      filled = λ j z. let r = (asked.required j).0 z in let n = h.filled (get_or columns j 0) r.1 in let e = count_is j r.0 in omega (arith, n, e);
      once = all_from (λ j. column_sum j (taken y c f) ≡ 1) constants (λ j m. let r = (asked.are_constant j).0 m in sym (count_is j r.0) ∙ h.once (get_or columns j 0) r.1);
      apart = all_from (λ v. touched constants v ≤ 1) (taken y c f) (λ v m. few_pass (λ j. nat_lt 0 (get_or v j 0)) constants asked.distinct (λ i j ci cj pi pj.
          let ri = (asked.are_constant i).0 ci in
          let rj = (asked.are_constant j).0 cj in
          let a = value_is v i ri.0 in
          let b = value_is v j rj.0 in
          let p = ltb-true 0 (get_or v i 0) pi in
          let q = ltb-true 0 (get_or v j 0) pj in
          same_place i j ri.0 rj.0
          (h.apart (get_or columns i 0) (get_or columns j 0) ri.1 rj.1 (record { solution = v; among = m; left = omega (arith, a, p); right = omega (arith, b, q) }))));
    }

    pub valid_is_acceptable : IsValid constants may_be_zero (y.basis f) (c.number f)
        → ((k l : ℕ) → IsShared d t class k → IsBound d t class c.tag f k → IsConstant d t class c.tag f l → AreTakenTogether d t class y c f k l → 2 ≤ member_count y c f k)
        → IsAcceptable d t class y c f
    valid_is_acceptable h no_alias = record {
      within = h.within;
      once = λ k constant.
          let p = constant_place k constant in
          let n = All-contains (λ j. column_sum j (taken y c f) ≡ 1) constants p.place h.once (listed_constant k constant) in
          ap (member_count y c f) (sym p.at) ∙ count_is p.place p.within ∙ n;
      apart = λ k l ck cl together.
          let p = constant_place k ck in
          let q = constant_place l cl in
          let v = together.solution in
          let few = All-contains (λ v. touched constants v ≤ 1) (taken y c f) v h.apart together.among in
          let a = ap (component columns v) (sym p.at) ∙ value_is v p.place p.within in
          let b = ap (component columns v) (sym q.at) ∙ value_is v q.place q.within in
          let left = together.left in
          let right = together.right in
          let one = one_passes (λ j. nat_lt 0 (get_or v j 0)) constants few p.place q.place (listed_constant k ck) (listed_constant l cl) (lt-ltb 0 (get_or v p.place 0) (omega (arith, a, left))) (lt-ltb 0 (get_or v q.place 0) (omega (arith, b, right))) in
          sym p.at ∙ ap (λ j. get_or columns j 0) one ∙ q.at;
      filled = λ k required.
          let p = place_of k (bound_column k required.bound) in
          let n = h.filled p.place ((asked.required p.place).1 (p.within, subst (IsRequired d t class c.tag f) (sym p.at) required)) in
          let e = ap (member_count y c f) (sym p.at) ∙ count_is p.place p.within in
          omega (arith, n, e);
      no_alias = no_alias;
    }

pub valid_choices : ValidChoicesAreAcceptable
valid_choices = λ d fits problem is_problem t made table class y systems c f sum constants may_be_zero asked.
    let has = tables_have_sums d fits problem is_problem t made table in (
      λ h. (acceptable_is_valid has class y systems c f sum constants may_be_zero asked h, h.no_alias),
      λ p. valid_is_acceptable has class y systems c f sum constants may_be_zero asked p.0 p.1,
    )
