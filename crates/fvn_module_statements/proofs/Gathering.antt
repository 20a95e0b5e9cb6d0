-- One step of gathering, and its two ends, as a loop takes them.
use Rattle.std.proofs.Common.{ℕ, zero, suc, ◌≡◌, ◌+◌, ◌<◌, ◌≤◌, List, [], ◌∷◌, ◌++◌, length, drop, Option, Some, None, refl, ap, ◌∙◌, arith}
use Rattle.std.proofs.lemmas.List.{drop_all}
use Rattle.fvn_lex.specs.Cut.{Piece}
use Rattle.fvn_module_statements.specs.inner.Gather.{gather}

module _ {A : Type 0} (item : List Piece → Option (A × List Piece)) where
  -- where nothing more is read
  pub gather-none : (fs : List Piece) (xs : List A) (ps : List Piece) → item ps ≡ None → gather item fs xs ps ≡ (xs, ps)
  gather-none [] xs ps e = refl
  gather-none (f ∷ fs) xs ps e = rw e refl

  -- where one more thing is read
  gather-next : (row : List Piece) (i : ℕ) (xs : List A) (ps : List Piece) (r : A × List Piece) → i < length row → item ps ≡ Some r →
      gather item (drop i row) xs ps ≡ gather item (drop (suc i) row) (xs ++ (r.0 ∷ [])) r.1
  gather-next [] i xs ps r lt e = absurd (omega (arith, lt))
  gather-next (p ∷ row) zero xs ps r lt e = rw e refl
  gather-next (p ∷ row) (suc i) xs ps r lt e = gather-next row i xs ps r (omega (arith, lt)) e

  -- the same at the next place of a loop
  pub gather-some : (row : List Piece) (i : ℕ) (xs : List A) (ps : List Piece) (r : A × List Piece) → i < length row → item ps ≡ Some r →
      gather item (drop i row) xs ps ≡ gather item (drop (i + 1) row) (xs ++ (r.0 ∷ [])) r.1
  gather-some row i xs ps r lt e =
      let on : suc i ≡ i + 1 = omega arith in
      gather-next row i xs ps r lt e ∙ ap (λ n. gather item (drop n row) (xs ++ (r.0 ∷ [])) r.1) on

  -- where the loop ends
  pub gather-end : (row : List Piece) (i : ℕ) (xs : List A) (ps : List Piece) → length row ≤ i → gather item (drop i row) xs ps ≡ (xs, ps)
  gather-end row i xs ps le = rw (drop_all i row le) refl
