-- Values that go with a leaf choose minimal solutions, with pieces.
use Rattle.std.proofs.Common.{◌≡◌, ℕ, ◌<◌, List, [], ◌∷◌, length, replicate, get_or, refl, sym, ap, ◌∙◌, subst, inl, inr, arith, All, Contains}
use Rattle.std.specs.Prelude.{Bool}
use Rattle.std.specs.List.{flat_map}
use Rattle.std.proofs.lemmas.Bool.{cases_eq, false_from_ne_true}
use Rattle.std.proofs.lemmas.List.{same_lists, length-replicate, get_or-replicate, get_or_default}
use Rattle.std.proofs.lemmas.List.Elements.{All-contains_itself, All-weaker, Contains-get_or}
use Rattle.fvn_base.proofs.Membership.{contains_here, contains_later}
use Rattle.fvn_terms.specs.declared.plain.OpId.{OpId}
use Rattle.fvn_terms.specs.declared.declarations.Declarations.{Declarations}
use Rattle.fvn_forms.specs.Flat.{FlatTerm}
use Rattle.fvn_forms.specs.Order.{same_flat}
use Rattle.fvn_forms.specs.InOrder.{one_if, count}
use Rattle.fvn_forms.specs.Canon.{parts}
use Rattle.fvn_forms.proofs.Order.{same_flat_is}
use Rattle.fvn_lindio.specs.declared.system.System.{System}
use Rattle.fvn_lindio.specs.Vectors.{IsAtOrBelow}
use Rattle.fvn_lindio.specs.Systems.{IsMinimal, rows_of}
use Rattle.fvn_combine_nodes.proofs.Lists.{contains_flat_map}
use Rattle.fvn_combine_supports.specs.Laws.{CountsAreMadeUp, PiecesChoose}
use Rattle.fvn_combine_complete.specs.Laws.{CountsMeet, IsChosen}

-- what is not listed is counted no times
count_none : (q : FlatTerm) (l : List FlatTerm) → (Contains l q → ⊥) → count q l ≡ 0
count_none q [] n = refl
count_none q (t ∷ l) n =
    let first = ap one_if (false_from_ne_true (same_flat q t) (λ e. n (subst (Contains (t ∷ l)) (sym (same_flat_is q t e)) (contains_here t l)))) in
    let rest = count_none q l (λ c. n (contains_later t l q c)) in
    omega (arith, first, rest)

zeroes_long : (n : ℕ) → length {A = ℕ} (replicate n 0) ≡ n
zeroes_long n = length-replicate n 0

zeroes_at : (n j e : ℕ) → j < n → get_or {A = ℕ} (replicate n 0) j e ≡ 0
zeroes_at n j e l = get_or-replicate n j 0 e l

module _ (d : Declarations) (f : OpId) (values : ℕ → FlatTerm) (columns : List ℕ) (system : System) (wide : system.columns ≡ length columns) (basis : List (List ℕ)) (constants : List ℕ) (may_be_zero : List Bool) (meet : CountsMeet d f values columns system basis constants may_be_zero) where
  listed : List FlatTerm
  listed = flat_map (λ k. parts d f (values k)) columns

  -- nothing is counted of what is no summand of a value
  nothing : (q : FlatTerm) → (Contains listed q → ⊥) → meet.counted q ≡ replicate system.columns 0
  unfolding listed
  nothing q out =
      let c = meet.counts q in
      same_lists (meet.counted q) (replicate system.columns 0) (c.sized ∙ sym wide ∙ sym (zeroes_long system.columns))
      (λ j e l.
      let within : j < length columns = let s = c.sized in omega (arith, l, s) in
      let zero : get_or (meet.counted q) j 0 ≡ 0 = none_at j within in
      get_or_default (meet.counted q) j e 0 l ∙ zero ∙ sym (zeroes_at system.columns j e (omega (arith, within, wide))))
    where
      none_at : (j : ℕ) → j < length columns → get_or (meet.counted q) j 0 ≡ 0
      none_at j l = elim (cases_eq (get_or (meet.counted q) j 0) 0) [
        | inl z ↦ z
        | inr n ↦
            (meet.counts q).used j l (λ u. n ((meet.counts q).unused j u))
            ∙ count_none q (parts d f (values (get_or columns j 0))) (λ c. out (contains_flat_map (λ k. parts d f (values k)) columns (get_or columns j 0) q (Contains-get_or columns j 0 l) c))
      ]

  pub choose : CountsAreMadeUp → PiecesChoose → ((v : List ℕ) → Contains basis v → IsMinimal system.columns (rows_of system) v)
      → ((q : FlatTerm) (v : List ℕ) → IsMinimal system.columns (rows_of system) v → IsAtOrBelow v (meet.counted q) → Contains basis v) → IsChosen d f values columns system basis constants may_be_zero
  choose made_up chooses minimal among =
      let sized : All (λ v. length v ≡ system.columns) basis = All-weaker (Contains basis) (λ v. length v ≡ system.columns) (λ v c. (minimal v c).solves.sized) basis (All-contains_itself basis) in
      let r = made_up system.columns (rows_of system) basis minimal meet.counted meet.solve among listed nothing in
      let c = chooses system.columns basis sized meet.counted r.0 r.1 constants may_be_zero (λ j. values (get_or columns j 0)) meet.meets in
      record { counted = meet.counted; counts = meet.counts; pieces = r.0; made_up = r.1; valid = c.0; stand = c.1 }
