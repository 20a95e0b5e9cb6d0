-- What is asked, by what is read and by what it means.
use Rattle.std.proofs.Common.{◌≡◌, ◌≢◌, ℕ, ◌+◌, ◌<◌, ◌≤◌, Bool, true, false, List, [], ◌∷◌, ◌++◌, length, get_or, slice_index, slice_index_or, refl, sym, ap, ◌∙◌, subst, inl, inr, arith, All, Contains, Option}
use Rattle.std.specs.Prelude.{◌↔◌, AllPairs, not}
use Rattle.std.proofs.lemmas.Bool.{cases_lt}
use Rattle.std.proofs.lemmas.List.{get_or_past, get_or_append_left, get_or_push, length-append}
use Rattle.std.proofs.lemmas.List.Elements.{Contains-append_left, Contains-push, Contains-push_cases, Contains-get_or}
use Rattle.std.proofs.lemmas.List.Quantifiers.{all_pairs_push}
use Rattle.fvn_terms.specs.declared.plain.OpId.{OpId}
use Rattle.fvn_terms.specs.declared.declarations.Declarations.{Declarations}
use Rattle.fvn_lindio.specs.Systems.{IsSystem}
use Rattle.fvn_lindio.specs.declared.system.System.{System}
use Rattle.fvn_acunify.specs.Theory.{IsOneTheory}
use Rattle.fvn_combine_nodes.specs.Table.{NodeTable, IsWellMade}
use Rattle.fvn_combine_nodes.specs.States.{IsClosed, class_of}
use Rattle.fvn_combine_nodes.specs.declared.state.State.{State}
use Rattle.fvn_combine_nodes.proofs.Lists.{all_from}
use Rattle.fvn_combine_leaves.specs.Readings.{IsReading}
use Rattle.fvn_combine_leaves.specs.declared.reading.Sums.{Sums}
use Rattle.fvn_combine_leaves.specs.declared.reading.Reading.{Reading}
use Rattle.fvn_combine_choices.specs.Binding.{IsConstant, IsRequired, AreAsked}
use Rattle.fvn_combine_admissible.specs.Listed.{tag_in}
use Rattle.fvn_combine_admissible.specs.inner.Reads.{IsConstantAt, AreConstantsBelow, AreConstantsOf, IsRequiredIn, AreMarksBelow, AreMarksOf}
use Rattle.fvn_combine_leaves.proofs.ReadOfState.{are_sums, sums_whole, twin_in, twin_from}
use Rattle.fvn_combine_admissible.proofs.Binding.{bound_iff}

module _ (r : Reading) (tags : List (Option OpId)) (e : Sums) where
  pub no_constants : AreConstantsBelow r tags e 0 []
  no_constants = record {
    distinct = λ i j d l m. absurd (omega (arith, m));
    exact = λ j. ((λ m. let l = m.1 in absurd (omega (arith, l))), (λ m. let l = m.0 in absurd (omega (arith, l))));
  }

  pub one_constant : (i : ℕ) (list : List ℕ) → AreConstantsBelow r tags e i list → IsConstantAt r tags e i → AreConstantsBelow r tags e (i + 1) (list ++ i ∷ [])
  one_constant i list h here = record {
    distinct = all_pairs_push ◌≢◌ list i h.distinct (λ k d l same.
        let b = ((h.exact (get_or list k d)).0 (Contains-get_or list k d l)).0 in
        omega (arith, b, same));
    exact = λ j. (
      λ m. elim (Contains-push_cases list i j m) [
        | inl before ↦ let p = (h.exact j).0 before in (let l = p.0 in omega (arith, l), p.1)
        | inr same ↦ (omega (arith, same), subst (IsConstantAt r tags e) same here)
      ],
      λ m. elim (cases_lt j i) [
        | inl below ↦ Contains-append_left list (i ∷ []) j ((h.exact j).1 (below, m.1))
        | inr above ↦ subst (Contains (list ++ i ∷ [])) (let l = m.0 in omega (arith, above, l)) (Contains-push list i)
      ],
    );
  }

  pub no_constant : (i : ℕ) (list : List ℕ) → AreConstantsBelow r tags e i list → (IsConstantAt r tags e i → ⊥) → AreConstantsBelow r tags e (i + 1) list
  no_constant i list h not_here = record {
    distinct = h.distinct;
    exact = λ j. (
      λ m. let p = (h.exact j).0 m in (let l = p.0 in omega (arith, l), p.1),
      λ m. elim (cases_lt j i) [
        | inl below ↦ (h.exact j).1 (below, m.1)
        | inr above ↦ absurd (not_here (subst (IsConstantAt r tags e) (let l = m.0 in omega (arith, above, l)) m.1))
      ],
    );
  }

  pub all_constants : (i : ℕ) (list : List ℕ) → length e.columns ≤ i → i ≤ length e.columns → AreConstantsBelow r tags e i list → AreConstantsOf r tags e list
  all_constants i list l m h = let same : i ≡ length e.columns = omega arith in subst (λ n. AreConstantsBelow r tags e n list) same h

module _ (d : Declarations) (t : NodeTable) (made : IsWellMade t) (s : State) (closed : IsClosed d t s) (r : Reading) (reading : IsReading d t (class_of s) r) (tags : List (Option OpId)) (e : Sums) (listed : Contains r.sums e) where
  column_at : (j : ℕ) → j < length e.columns → slice_index e.columns j < length t.nodes
  column_at j l = (sums_whole d t made s closed r reading e listed).within j 0 l

  -- a column is that of a constant exactly where its class is one
  pub constant_at : (j : ℕ) → j < length e.columns → IsConstantAt r tags e j ↔ IsConstant d t (class_of s) (tag_in tags) e.operator (slice_index e.columns j)
  constant_at j l =
      let b = bound_iff d t made s closed r reading tags e listed (slice_index e.columns j) (column_at j l) in
      let u = (are_sums d t made s closed r reading e listed).exact j l in (
        λ h. record { used = u.0 h.0; not_bound = λ k. h.1 (b.1 k) },
        λ h. (u.1 h.used, λ k. h.not_bound (b.0 k)),
      )

  pub required_at : (j : ℕ) → j < length e.columns → IsRequiredIn d r tags e (slice_index e.columns j) ↔ IsRequired d t (class_of s) (tag_in tags) e.operator (slice_index e.columns j)
  required_at j l =
      let k = slice_index e.columns j in
      let b = bound_iff d t made s closed r reading tags e listed k (column_at j l) in (
        λ h. record { bound = b.0 h.0; why = elim h.1 [ inl bare ↦ inl bare | inr twin ↦ inr (twin_from d t made s closed r reading e.operator k twin) ] },
        λ h. (b.1 h.bound, elim h.why [ inl bare ↦ inl bare | inr twin ↦ inr (twin_in d t made s closed r reading e.operator k twin) ]),
      )

  pub are_asked : (constants : List ℕ) (marks : List Bool) → AreConstantsOf r tags e constants → AreMarksOf d r tags e marks → AreAsked d t (class_of s) (tag_in tags) e.operator e.columns constants marks
  are_asked constants marks c m = record {
    distinct = c.distinct;
    are_constant = λ j. (
      λ h. let p = (c.exact j).0 h in (p.0, (constant_at j p.0).0 p.1),
      λ h. (c.exact j).1 (h.0, (constant_at j h.0).1 h.1),
    );
    required = λ j. (
      λ h. elim (cases_lt j (length e.columns)) [
        | inl l ↦ (l, (required_at j l).0 ((m.exact j l).0 h))
        | inr past ↦ absurd (past_end j past h)
      ],
      λ h. (m.exact j h.0).1 ((required_at j h.0).1 h.1),
    );
  }
    where
      past_end : (j : ℕ) → length e.columns ≤ j → slice_index_or marks j true ≡ false → ⊥
      past_end j past h = let e : true ≡ false = sym (get_or_past marks j true (let n = m.as_many in omega (arith, n, past))) ∙ h in cc

  pub one_theory : (system : System) (constants cs : List ℕ) (marks ms : List Bool) → system ≡ e.system → cs ≡ constants → ms ≡ marks
      → AreConstantsOf r tags e constants → AreMarksOf d r tags e marks → IsOneTheory (record { system = system; constants = cs; may_be_zero = ms })
  one_theory system constants cs marks ms is is_constants is_marks c m =
      let are = are_sums d t made s closed r reading e listed in
      let w = are.is_system.wide in
      let same : system.columns ≡ e.system.columns = ap (λ y. y.columns) is in
      let long : length ms ≡ length marks = ap length is_marks in
      let n = m.as_many in
      record {
        system = subst IsSystem (sym is) are.fits;
        marked = omega (arith, w, same, long, n);
        among = subst (All (λ j. j < system.columns)) (sym is_constants) (all_from (λ j. j < system.columns) constants (λ j h. let l = ((c.exact j).0 h).0 in omega (arith, l, w, same)));
        apart = subst (AllPairs ◌≢◌) (sym is_constants) c.distinct;
      }

module _ (d : Declarations) (r : Reading) (tags : List (Option OpId)) (e : Sums) where
  pub no_marks : AreMarksBelow d r tags e 0 []
  no_marks = record { as_many = refl; exact = λ j l. absurd (omega (arith, l)) }

  pub one_mark : (i : ℕ) (marks now : List Bool) (b : Bool) → AreMarksBelow d r tags e i marks → now ≡ marks ++ b ∷ [] → (b ≡ false) ↔ IsRequiredIn d r tags e (slice_index e.columns i) → AreMarksBelow d r tags e (i + 1) now
  one_mark i marks now b h is exact = subst (AreMarksBelow d r tags e (i + 1)) (sym is) record {
    as_many = length-append marks (b ∷ []) ∙ ap (λ n. n + 1) h.as_many;
    exact = λ j l. elim (cases_lt j i) [
      | inl below ↦
          let at : slice_index_or (marks ++ b ∷ []) j true ≡ slice_index_or marks j true = get_or_append_left marks (b ∷ []) true j (let n = h.as_many in omega (arith, below, n)) in
          (λ f. (h.exact j below).0 (sym at ∙ f), λ q. at ∙ (h.exact j below).1 q)
      | inr above ↦
          let same : j ≡ i = omega (arith, l, above) in
          let at : slice_index_or (marks ++ b ∷ []) j true ≡ b = get_or_push marks b true j (h.as_many ∙ sym same) in (
            λ f. subst (λ n. IsRequiredIn d r tags e (slice_index e.columns n)) (sym same) (exact.0 (sym at ∙ f)),
            λ q. at ∙ exact.1 (subst (λ n. IsRequiredIn d r tags e (slice_index e.columns n)) same q),
          )
    ];
  }

  pub all_marks : (i : ℕ) (marks : List Bool) → length e.columns ≤ i → i ≤ length e.columns → AreMarksBelow d r tags e i marks → AreMarksOf d r tags e marks
  all_marks i marks l m h = let same : i ≡ length e.columns = omega arith in subst (λ n. AreMarksBelow d r tags e n marks) same h

-- a mark turned round
pub not_false : (b : Bool) → (not b ≡ false) ↔ (b ≡ true)
not_false true = (λ e. refl, λ e. refl)
not_false false = (λ e. cc, λ e. cc)
