-- The tables of results, one operator more.
use Rattle.std.proofs.Common.{◌≡◌, ℕ, ◌<◌, ◌≤◌, ◌⊎◌, List, [], ◌∷◌, ◌++◌, length, get_or, inl, inr, sym, ap, subst, ◌∙◌, arith}
use Rattle.std.proofs.lemmas.Bool.{cases_lt}
use Rattle.std.proofs.lemmas.List.{get_or_append_left, get_or_push, get_or_past, length_push}
use Rattle.fvn_terms.specs.declared.plain.OpId.{OpId}
use Rattle.fvn_terms.specs.declared.plain.SortId.{SortId}
use Rattle.fvn_terms.specs.declared.declarations.Declarations.{Declarations}
use Rattle.fvn_signature.specs.Drafts.{IsTable}
use Rattle.fvn_signature_draft.specs.Collected.{op_number}

-- the tables, with that of the next operator
pub more_tables : (d : Declarations) (n : ℕ) (tables : List (List (List SortId))) (rows : List (List SortId)) (k : ℕ) → length tables ≡ k → ((f : OpId) → IsTable d f n (get_or tables f.0 [])) → IsTable d (op_number k) n rows → (f : OpId) → IsTable d f n (get_or (tables ++ rows ∷ []) f.0 [])
more_tables d n tables rows k long known next f = go (cases_lt f.0 k) where
  go : (f.0 < k) ⊎ (k ≤ f.0) → IsTable d f n (get_or (tables ++ rows ∷ []) f.0 [])
  go (inl l) = subst (IsTable d f n) (sym (get_or_append_left tables (rows ∷ []) [] f.0 (omega arith))) (known f)
  go (inr l) = elim (cases_lt k f.0) [
    | inl m ↦ λ some. absurd (
        let past = get_or_past (tables ++ rows ∷ []) f.0 [] (let e = length_push tables rows in omega (arith, e)) in
        let none : length (get_or (tables ++ rows ∷ []) f.0 []) ≡ 0 = ap length past in
        omega (arith, some)
        )
    | inr m ↦
        let same : k ≡ f.0 = omega arith in
        subst (IsTable d f n) (sym (get_or_push tables rows [] f.0 (long ∙ same))) (subst (λ i. IsTable d (op_number i) n rows) same next)
  ]
