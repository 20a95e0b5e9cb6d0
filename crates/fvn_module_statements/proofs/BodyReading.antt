-- One turn of the loop over the statements of a module, and its ends.
use Rattle.std.proofs.Common.{ℕ, zero, suc, ◌≡◌, ◌+◌, ◌<◌, ◌≤◌, List, [], ◌∷◌, ◌++◌, length, drop, Some, None, Ok, Err, refl, ap, ◌∙◌, arith}
use Rattle.std.proofs.lemmas.List.{drop_all}
use Rattle.fvn_lex.specs.Cut.{Piece}
use Rattle.fvn_module_syntax.specs.declared.statement.Statement.{Statement}
use Rattle.fvn_module_syntax.specs.declared.statement.Feature.{Feature}
use Rattle.fvn_module_statements.specs.declared.outcome.Reading.TheVariants.{Read, LeftOut, NoForm}
use Rattle.fvn_module_statements.specs.declared.form.FormFault.TheVariants as fault
use Rattle.fvn_module_statements.specs.inner.Statements.{statement_of}
use Rattle.fvn_module_statements.specs.inner.Forms.{split_dot, on_dot, statements_from}

module _ (row : List Piece) (i n : ℕ) (sts : List Statement) (ps : List Piece) where
  -- after the last turn
  pub from-end : length row ≤ i → statements_from (drop i row) n sts ps ≡ Ok sts
  from-end le = rw (drop_all i row le) refl

-- the turn at a place of the row
turn-next : (row : List Piece) (i n : ℕ) (sts : List Statement) (ps : List Piece) → i < length row →
    statements_from (drop i row) n sts ps ≡ on_dot n sts ps (split_dot ps) (λ m more rest. statements_from (drop (suc i) row) m more rest)
turn-next [] i n sts ps lt = absurd (omega (arith, lt))
turn-next (p ∷ row) zero n sts ps lt = refl
turn-next (p ∷ row) (suc i) n sts ps lt = turn-next row i n sts ps (omega (arith, lt))

module _ (row : List Piece) (i n : ℕ) (sts : List Statement) (ps : List Piece) (lt : i < length row) where
  -- the same, with the place as the loop has it
  turn : statements_from (drop i row) n sts ps ≡ on_dot n sts ps (split_dot ps) (λ m more rest. statements_from (drop (i + 1) row) m more rest)
  turn =
      let on : suc i ≡ i + 1 = omega arith in
      turn-next row i n sts ps lt ∙ ap (λ k. on_dot n sts ps (split_dot ps) (λ m more rest. statements_from (drop k row) m more rest)) on

  -- where nothing is left
  pub turn-over : split_dot ps ≡ None → ps ≡ [] → statements_from (drop i row) n sts ps ≡ Ok sts
  turn-over none e = turn ∙ (rw (none, e) refl)

  -- where no dot follows
  pub turn-none : split_dot ps ≡ None → (length ps ≡ 0 → ⊥) → statements_from (drop i row) n sts ps ≡ Err (fault.Statement n)
  turn-none none some = turn ∙ ap (λ o. on_dot n sts ps o (λ m more rest. statements_from (drop (i + 1) row) m more rest)) none ∙ go ps some where
    go : (qs : List Piece) → (length qs ≡ 0 → ⊥) → on_dot n sts qs None (λ m more rest. statements_from (drop (i + 1) row) m more rest) ≡ Err (fault.Statement n)
    go [] some = absurd (some refl)
    go (q ∷ qs) some = refl

  module _ (before after : List Piece) (dot : split_dot ps ≡ Some (before, after)) where
    -- where a statement is read
    pub turn-read : (st : Statement) → statement_of before ≡ Read st →
        statements_from (drop i row) n sts ps ≡ statements_from (drop (i + 1) row) (n + 1) (sts ++ (st ∷ [])) after
    turn-read st e = turn ∙ (rw (dot, e) refl)

    -- where a form is left out
    pub turn-left_out : (f : Feature) → statement_of before ≡ LeftOut f → statements_from (drop i row) n sts ps ≡ Err (fault.LeftOut n f)
    turn-left_out f e = turn ∙ (rw (dot, e) refl)

    -- where there is no form
    pub turn-no_form : statement_of before ≡ NoForm → statements_from (drop i row) n sts ps ≡ Err (fault.Statement n)
    turn-no_form e = turn ∙ (rw (dot, e) refl)
