-- Terms for classes: the new variable for the loose class, and what it stands in made anew from it; a sum over a class has the new
-- term of that one in the place of its old value.
use Rattle.std.proofs.Common.{◌≡◌, ◌≢◌, ◌⊎◌, ℕ, zero, suc, ◌+◌, ◌<◌, ◌≤◌, List, [], ◌∷◌, length, map, refl, ap, ◌∙◌, sym, subst, inl, inr, arith, slice_index_or, Option, Some, None}
use Rattle.std.proofs.lemmas.Bool.{cases_lt, cases_order}
use Rattle.fvn_terms.specs.declared.plain.OpId.{OpId}
use Rattle.fvn_terms.specs.declared.declarations.Declarations.{Declarations}
use Rattle.fvn_terms.specs.Term.{Term, var, app, pack}
use Rattle.fvn_terms.specs.Substitution.{Substitution, apply}
use Rattle.fvn_terms.specs.Equality.{two, BEqual}
use Rattle.fvn_terms.specs.Unifiers.{Problem}
use Rattle.fvn_combine_nodes.specs.Table.{NodeTable, term_at}
use Rattle.fvn_combine_nodes.specs.States.{class_of}
use Rattle.fvn_combine_nodes.specs.declared.state.State.{State}
use Rattle.fvn_combine_loose.specs.Loose.{height_of, IsHeaded}
use Rattle.fvn_combine_loose.proofs.Mapped.{map_agree}
use Rattle.fvn_combine_loose.proofs.Setting.{Setting, noted, entry, class_again, same_height, same_entry, argument_within, argument_at}
use Rattle.fvn_combine_loose.proofs.NewVariable.{new}
use Rattle.fvn_combine_loose.proofs.Rests.{Splits}
use Rattle.fvn_combine_loose.proofs.Splitting.{Sum, old, sum_stands, sum_splits}

-- a number that none of these is above
abbrev top : List ℕ → ℕ
top [] = 0
top (h ∷ hs) = h + top hs

within_top : (hs : List ℕ) (i : ℕ) → slice_index_or hs i 0 ≤ top hs
within_top [] zero = omega arith
within_top [] (suc i) = omega arith
within_top (h ∷ hs) zero = omega arith
within_top (h ∷ hs) (suc i) = let l = within_top hs i in omega (arith, l)

not_both : (o : Option (OpId × ℕ)) (a : OpId × ℕ) → o ≡ None → o ≡ Some a → ⊥
not_both o a e h = cc

one_noted : (o : Option (OpId × ℕ)) (a b : OpId × ℕ) → o ≡ Some a → o ≡ Some b → a ≡ b
one_noted o a b e h = cc

module _ {d : Declarations} {problem : Problem} {t : NodeTable} {s : State} {z : ℕ} {heights : List ℕ} {u : Substitution} (g : Setting d problem t s z heights u) where
  abbrev height : ℕ → ℕ
  height = height_of s heights

  -- class i is noted as a sum over a lower class, and its value is that one's, or a sum of it and a rest
  abbrev IsSplit : ℕ → Type 0
  IsSplit i = (f : OpId) × (p : ℕ) × (Sum g f p i × (p < length t.nodes) × (height p < height i) × Splits d f (old g i) (old g p))

  -- class i is headed, and not noted as a sum
  abbrev IsMade : ℕ → Type 0
  IsMade i = (entry g i ≡ None) × IsHeaded d t s g.sorted i

  -- what class i is: none of a node or one in which the loose class does not stand, the loose class, one that is made, or a sum
  abbrev Role : ℕ → Type 0
  Role i = ((length t.nodes ≤ i) ⊎ (height i ≡ 0)) ⊎ ((0 < height i) × ((class_of s i ≡ class_of s z) ⊎ (IsMade i ⊎ IsSplit i)))

  other_role : (i : ℕ) → i < length t.nodes → 0 < height i → class_of s i ≢ class_of s z → IsMade i ⊎ IsSplit i
  other_role i l h n = elim (noted (entry g i)) as (λ _. IsMade i ⊎ IsSplit i) [
    | inl none ↦ inl (none, g.loose.made i l h n none)
    | inr w ↦ let m = g.loose.sum i w.0 w.1 l w.2 in inr (w.0, w.1, (w.2, m.part, m.lower, sum_splits g i l w.0 w.1 w.2))
  ]

  role : (i : ℕ) → Role i
  role i = elim (cases_lt i (length t.nodes)) as (λ _. Role i) [
    | inl l ↦ elim (cases_lt 0 (height i)) as (λ _. Role i) [
      | inl h ↦ elim (cases_order (class_of s i) (class_of s z)) as (λ _. Role i) [
        | inl e ↦ inr (h, inl e)
        | inr o ↦ inr (
          h,
          inr (other_role i l h (elim o as (λ _. class_of s i ≢ class_of s z) [
            | inl a ↦ λ e. omega (arith, a, e)
            | inr a ↦ λ e. omega (arith, a, e)
          ])),
        )
      ]
      | inr n ↦ inl (inr (omega (arith, n)))
    ]
    | inr m ↦ inl (inl m)
  ]

  -- the term of class i by its role, over those of other classes
  abbrev made_of : (ℕ → Term) → (i : ℕ) → Role i → Term
  made_of V i (inl r) = apply u (term_at t.nodes i)
  made_of V i (inr (h, inl e)) = var (new g)
  made_of V i (inr (h, inr (inl (none, m)))) = app m.operator (pack (map (λ k. V (class_of s k)) m.arguments))
  made_of V i (inr (h, inr (inr (f, p, (is, within, lower, inl e))))) = V (class_of s p)
  made_of V i (inr (h, inr (inr (f, p, (is, within, lower, inr (rest, e)))))) = two f (V (class_of s p)) rest

  abbrev turns : ℕ → ℕ → Term
  turns zero i = apply u (term_at t.nodes i)
  turns (suc n) i = made_of (turns n) i (role i)

  -- after as many turns as the class is high nothing changes
  steady : (n i : ℕ) → height i ≤ n → turns (suc n) i ≡ turns n i
  steady zero i h = go (role i)
    where
      go : (r : Role i) → made_of (turns zero) i r ≡ turns zero i
      go (inl r) = refl
      go (inr (st, q)) = absurd (omega (arith, st, h))
  steady (suc n) i h = go (λ j l. steady n j l) (role i)
    where
      go : ((j : ℕ) → height j ≤ n → turns (suc n) j ≡ turns n j) → (r : Role i) → made_of (turns (suc n)) i r ≡ made_of (turns n) i r
      go before (inl r) = refl
      go before (inr (st, inl e)) = refl
      go before (inr (st, inr (inr (f, p, (is, within, lower, inl e))))) = let h1 = same_height g (class_of s p) p (class_again g p within) in before (class_of s p) (omega (arith, h1, lower, h))
      go before (inr (st, inr (inr (f, p, (is, within, lower, inr (rest, e)))))) =
          let h1 = same_height g (class_of s p) p (class_again g p within) in ap (λ v. two f v rest) (before (class_of s p) (omega (arith, h1, lower, h)))
      go before (inr (st, inr (inl (none, m)))) =
          ap (λ ts. app m.operator (pack ts))
          (map_agree (λ k. turns (suc n) (class_of s k)) (λ k. turns n (class_of s k)) m.arguments
          (λ k c.
          let w = argument_within g m.member m.operator m.arguments m.over k c in
          let e = same_height g (class_of s k) k (class_again g k w) in
          let f = same_height g m.member i m.of in
          let a = argument_at g i m k c n (omega (arith, f, h)) in
          before (class_of s k) (omega (arith, e, a))))

  -- the term of class i
  pub worth : ℕ → Term
  worth i = turns (top heights) i

  worth_is : (i : ℕ) → worth i ≡ made_of worth i (role i)
  unfolding worth
  worth_is i = sym (steady (top heights) i (within_top heights (class_of s i)))

  -- that of a class in which the loose class does not stand is its value
  pub worth_low : (i : ℕ) → height i ≡ 0 → worth i ≡ apply u (term_at t.nodes i)
  worth_low i low = worth_is i ∙ go (role i)
    where
      go : (r : Role i) → made_of worth i r ≡ apply u (term_at t.nodes i)
      go (inl r) = refl
      go (inr (st, q)) = absurd (omega (arith, st, low))

  -- that of the loose class is the new variable
  pub worth_bottom : (i : ℕ) → i < length t.nodes → class_of s i ≡ class_of s z → worth i ≡ var (new g)
  worth_bottom i l same = worth_is i ∙ go (role i)
    where
      go : (r : Role i) → made_of worth i r ≡ var (new g)
      go (inl (inl out)) = absurd (omega (arith, out, l))
      go (inl (inr low)) = absurd (let e = same_height g i z same in let st = g.loose.stands in omega (arith, low, e, st))
      go (inr (st, inl e)) = refl
      go (inr (st, inr (inl (none, m)))) = absurd (m.busy (g.loose.open_class m.member m.operator m.arguments m.over (m.of ∙ same)))
      go (inr (st, inr (inr (f, p, (is, within, lower, splits))))) = absurd (not_both (entry g i) (f, p) (same_entry g i z same ∙ g.loose.no_sum) is)

  -- that of each other class in which it stands and that is no sum is a member's operator over the terms of the arguments' classes
  pub worth_headed : (i : ℕ) → i < length t.nodes → 0 < height i → class_of s i ≢ class_of s z → entry g i ≡ None → (m : IsHeaded d t s g.sorted i) × (worth i ≡ app m.operator (pack (map (λ k. worth (class_of s k)) m.arguments)))
  worth_headed i l stands other none = let r = go (role i) in (r.0, worth_is i ∙ r.1)
    where
      go : (r : Role i) → (m : IsHeaded d t s g.sorted i) × (made_of worth i r ≡ app m.operator (pack (map (λ k. worth (class_of s k)) m.arguments)))
      go (inl (inl out)) = absurd (omega (arith, out, l))
      go (inl (inr low)) = absurd (omega (arith, stands, low))
      go (inr (st, inl e)) = absurd (other e)
      go (inr (st, inr (inl (n, m)))) = (m, refl)
      go (inr (st, inr (inr (f, p, (is, within, lower, splits))))) = absurd (not_both (entry g i) (f, p) none is)

  -- v is a sum of f in which the term w stands for the old value of p, in that of i
  abbrev pub IsSummed : OpId → ℕ → ℕ → Term → Term → Type 0
  IsSummed f p i v w = (BEqual d (old g i) (old g p) × (v ≡ w)) ⊎ ((rest : Term) × (BEqual d (old g i) (two f (old g p) rest) × (v ≡ two f w rest)))

  -- that of a sum is made from the term of the class over which it is
  pub worth_summed : (i : ℕ) → i < length t.nodes → (f : OpId) (p : ℕ) → Sum g f p i → IsSummed f p i (worth i) (worth (class_of s p))
  worth_summed i l f p noted_as = subst (λ v. IsSummed f p i v (worth (class_of s p))) (sym (worth_is i)) (go (role i))
    where
      go : (r : Role i) → IsSummed f p i (made_of worth i r) (worth (class_of s p))
      go (inl (inl out)) = absurd (omega (arith, out, l))
      go (inl (inr low)) = absurd (let st = sum_stands g f p i l noted_as in omega (arith, st, low))
      go (inr (st, inl e)) = absurd (not_both (entry g i) (f, p) (same_entry g i z e ∙ g.loose.no_sum) noted_as)
      go (inr (st, inr (inl (n, m)))) = absurd (not_both (entry g i) (f, p) n noted_as)
      go (inr (st, inr (inr (h, q, (is, within, lower, inl e))))) =
          subst (λ (o : OpId × ℕ). IsSummed o.0 o.1 i (worth (class_of s q)) (worth (class_of s o.1))) (one_noted (entry g i) (h, q) (f, p) is noted_as) (inl (e, refl))
      go (inr (st, inr (inr (h, q, (is, within, lower, inr (rest, e)))))) =
          subst (λ (o : OpId × ℕ). IsSummed o.0 o.1 i (two h (worth (class_of s q)) rest) (worth (class_of s o.1))) (one_noted (entry g i) (h, q) (f, p) is noted_as) (inr (rest, (e, refl)))
