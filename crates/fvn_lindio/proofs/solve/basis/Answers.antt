-- The rows one after another, and which prefix is refused.
use Rattle.std.proofs.Common.{◌≤◌, ◌<◌, ◌+◌, ◌↔◌, ℕ, List, length, ap, sym, subst, ◌∙◌, refl, arith}
use Rattle.std.specs.List.{All, Any, Contains}
use Rattle.std.proofs.lemmas.List.{length-map, take_all}
use Rattle.fvn_lindio.specs.Systems.{IsMinimal, rows_of, vectors_of}
use Rattle.fvn_lindio.specs.Refusals.{IsTooMany, IsTooWide}
use Rattle.fvn_lindio.specs.inner.Generators.{vectors_in}
use Rattle.fvn_lindio.proofs.Prefixes.{IsDone, IsReached, done_none, done_more, refused_many, refused_wide}
use Rattle.fvn_lindio.proofs.SystemLemmas.{IsRowAt, row_allowed, before_sized, known_before, basis_after, within_coefficients, many_by_many, wide_by_many, many_by_wide, wide_by_wide, many_by_none, wide_by_none}
use Rattle.fvn_lindio.proofs.solve.basis.Goals as goal
use Rattle.fvn_lindio.proofs.solve.basis.Goals.{In_ok-known, After-as_slice-in-loop-k}

pub loop-k-init : goal.loop-k-init
loop-k-init c =
    let s = c.args.system.now in
    subst (λ list. IsDone s.columns (rows_of s) c.args.most 0 (vectors_in list)) (sym c.new-known.ensures.items) (done_none s.columns (rows_of s) c.args.most)

-- the row that this turn takes
taken : (c : After-as_slice-in-loop-k) → IsRowAt c.args.system.now c.as_slice-rows.result.now c.loop-k.k c.index-rows-k.result c.as_slice.result.now
taken c = record { system = c.requires; whole = c.as_slice-rows.ensures; within = c.loop-k-test.true; is = c.index-rows-k.is; read = c.as_slice.ensures }

pub extended-requires-clause-row : goal.extended-requires-clause-row
extended-requires-clause-row c = row_allowed (taken c)

pub extended-requires-clause-before : goal.extended-requires-clause-before
extended-requires-clause-before c = before_sized (taken c)

pub extended-requires-clause-known : goal.extended-requires-clause-known
extended-requires-clause-known c = known_before (taken c) c.loop-k.known.items c.as_slice-in-loop-k.result.now c.as_slice-in-loop-k.ensures.value c.loop-k.invariant.basis.exact

-- what the search with this row gives
reached_with : (c : In_ok-known) → IsRowAt c.args.system.now c.as_slice-rows.result.now c.loop-k.k c.index-rows-k.result c.as_slice.result.now → IsReached c.args.system.now.columns (rows_of c.args.system.now) c.args.most c.loop-k.k (vectors_in c.in_ok-known.known.items)
reached_with c row =
    record {
      within = within_coefficients row;
      basis = basis_after row c.args.most (vectors_in c.in_ok-known.known.items) c.in_ok-known.ensures.exact c.in_ok-known.ensures.ordered;
      first = c.loop-k.invariant.first;
    }

-- the prefix with this row has too many
many : (c : goal.After-drop-known-then-len-most) → IsTooMany c.args.system.now.columns (rows_of c.args.system.now) c.args.most (c.loop-k.k + 1)
many c =
    let at = goal.at.returns-then-len-most-clause-too_many c in
    refused_many (reached_with at.In_ok-known (taken at.After-as_slice-in-loop-k)) (omega (arith, length-map c.in_ok-known.known.items (λ v. v.items)))

pub returns-then-len-most-clause-too_many : goal.returns-then-len-most-clause-too_many
returns-then-len-most-clause-too_many c = λ _. many_by_many (many c)

pub returns-then-len-most-clause-too_wide : goal.returns-then-len-most-clause-too_wide
returns-then-len-most-clause-too_wide c = λ _. wide_by_many (many c)

-- it has one that is too wide
wide : (c : goal.After-drop-known-then-is_wide) → IsTooWide c.args.system.now.columns (rows_of c.args.system.now) c.args.most (c.loop-k.k + 1)
wide c =
    let at = goal.at.returns-then-is_wide-clause-too_wide c in
    refused_wide (reached_with at.In_ok-known (taken at.After-as_slice-in-loop-k)) (omega (arith, length-map c.in_ok-known.known.items (λ v. v.items)))
    (subst (λ z. (v : List ℕ) × Contains (vectors_in z) v × Any (λ a. 65535 < a) v) c.as_slice-in-loop-k-2.ensures.value (c.if-is_wide.ensures.wide refl))

pub returns-then-is_wide-clause-too_many : goal.returns-then-is_wide-clause-too_many
returns-then-is_wide-clause-too_many c = λ _. many_by_wide (wide c)

pub returns-then-is_wide-clause-too_wide : goal.returns-then-is_wide-clause-too_wide
returns-then-is_wide-clause-too_wide c = λ _. wide_by_wide (wide c)

pub loop-k-preserved : goal.loop-k-preserved
loop-k-preserved c =
    let at = goal.at.loop-k-preserved c in
    done_more (reached_with at.In_ok-known (taken at.After-as_slice-in-loop-k)) (omega (arith, length-map c.in_ok-known.known.items (λ v. v.items)))
    (subst (λ z. All (All (λ a. a ≤ 65535)) (vectors_in z)) c.as_slice-in-loop-k-2.ensures.value (c.if-is_wide.ensures.narrow refl))

-- all rows are taken
whole : (c : goal.After-drop-known-2) → length (rows_of c.args.system.now) ≤ c.loop-k.k
whole c = omega (arith, length-map c.args.system.now.rows (λ r. r.coefficients), ap length c.as_slice-rows.ensures)

pub returns-clause-exact : goal.returns-clause-exact
returns-clause-exact c =
    let s = c.args.system.now in
    let all = subst (λ rows. (v : List ℕ) → Contains (vectors_in c.loop-k.known.items) v ↔ IsMinimal s.columns rows v) (take_all c.loop-k.k (rows_of s) (whole c)) c.loop-k.invariant.basis.exact in
    subst (λ list. (v : List ℕ) → Contains list v ↔ IsMinimal s.columns (rows_of s) v) (ap vectors_in (sym c.as_slice-2.ensures.value) ∙ (sym c.in_ok-solutions.ensures ∙ ap vectors_of (sym c.from_vec.ensures))) all

pub returns-clause-too_many : goal.returns-clause-too_many
returns-clause-too_many c = λ _. many_by_none c.args.system.now.columns (rows_of c.args.system.now) c.args.most c.from_vec.result c.loop-k.k (whole c) c.loop-k.invariant.first

pub returns-clause-too_wide : goal.returns-clause-too_wide
returns-clause-too_wide c = λ _. wide_by_none c.args.system.now.columns (rows_of c.args.system.now) c.args.most c.from_vec.result c.loop-k.k (whole c) c.loop-k.invariant.first
