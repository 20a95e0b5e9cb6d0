-- The new values of nodes: those of their classes.
use Rattle.std.proofs.Common.{◌≡◌, ◌≢◌, ◌⊎◌, ℕ, zero, suc, ◌<◌, ◌≤◌, List, [], ◌∷◌, length, map, refl, ap, ◌∙◌, sym, subst, inl, inr, arith, Contains, None}
use Rattle.std.proofs.lemmas.Bool.{cases_order}
use Rattle.fvn_base.specs.Decided.{Decided}
use Rattle.fvn_terms.specs.declared.plain.OpId.{OpId}
use Rattle.fvn_terms.specs.declared.declarations.Declarations.{Declarations}
use Rattle.fvn_terms.specs.Term.{Term, var, app, pack}
use Rattle.fvn_terms.specs.Substitution.{Substitution, apply, Occurs}
use Rattle.fvn_terms.specs.Places.{here, stop, step}
use Rattle.fvn_terms.specs.Equality.{BEqual, swap}
use Rattle.fvn_terms.specs.Unifiers.{Problem}
use Rattle.fvn_terms.proofs.Equal.{BEqual-trans}
use Rattle.fvn_combine_nodes.specs.Table.{NodeTable, IsOver, term_at}
use Rattle.fvn_combine_nodes.specs.States.{class_of}
use Rattle.fvn_combine_nodes.specs.declared.state.State.{State}
use Rattle.fvn_combine_loose.specs.Loose.{height_of, IsIdle, AreMadeAlike, IsHeaded}
use Rattle.fvn_combine_loose.proofs.Mapped.{equal_is, mapped_among}
use Rattle.fvn_combine_loose.proofs.Setting.{Setting, noted, entry, same_entry, class_within, class_again, one_value, same_height, argument_within, head_raised, argument_at}
use Rattle.fvn_combine_loose.proofs.NewVariable.{new, not_in_old}
use Rattle.fvn_combine_loose.proofs.Splitting.{Sum, same_sum}
use Rattle.fvn_combine_loose.proofs.Worths.{worth, worth_low, worth_bottom, worth_headed, IsSummed, worth_summed}

-- two numbers are one or not
pub same_or_other : (a b : ℕ) → Decided (a ≡ b)
same_or_other a b = elim (cases_order a b) as (λ _. Decided (a ≡ b)) [
  | inl e ↦ inl e
  | inr o ↦ inr (λ e. elim o as (λ _. ⊥) [
    | inl l ↦ omega (arith, l, e)
    | inr m ↦ omega (arith, m, e)
  ])
]

module _ {d : Declarations} {problem : Problem} {t : NodeTable} {s : State} {z : ℕ} {heights : List ℕ} {u : Substitution} (g : Setting d problem t s z heights u) where
  abbrev height : ℕ → ℕ
  height = height_of s heights

  -- the new value of node i
  abbrev pub remade : ℕ → Term
  remade i = worth g (class_of s i)

  pub remade_same : (i j : ℕ) → class_of s i ≡ class_of s j → remade i ≡ remade j
  remade_same i j e = ap (worth g) e

  -- where the loose class does not stand, it is the old one, up to the axioms
  pub remade_low_is : (i : ℕ) → i < length t.nodes → height i ≡ 0 → remade i ≡ apply u (term_at t.nodes (class_of s i))
  remade_low_is i l low = worth_low g (class_of s i) (same_height g (class_of s i) i (class_again g i l) ∙ low)

  pub remade_low : (i : ℕ) → i < length t.nodes → height i ≡ 0 → BEqual d (apply u (term_at t.nodes i)) (remade i)
  remade_low i l low =
      subst (BEqual d (apply u (term_at t.nodes i))) (sym (remade_low_is i l low)) (one_value g i (class_of s i) l (class_within g i l) (sym (class_again g i l)))

  pub remade_bottom : (i : ℕ) → i < length t.nodes → class_of s i ≡ class_of s z → remade i ≡ var (new g)
  remade_bottom i l e = worth_bottom g (class_of s i) (class_within g i l) (class_again g i l ∙ e)

  -- elsewhere it is a member's operator over new values, where the class is no sum
  pub remade_headed : (i : ℕ) → i < length t.nodes → 0 < height i → class_of s i ≢ class_of s z → entry g i ≡ None → (m : IsHeaded d t s g.sorted i) × (remade i ≡ app m.operator (pack (map remade m.arguments)))
  remade_headed i l stands other none =
      let again = class_again g i l in
      let e = same_height g (class_of s i) i again in
      let h = worth_headed g (class_of s i) (class_within g i l) (omega (arith, e, stands)) (λ f. other (sym again ∙ f)) (same_entry g (class_of s i) i again ∙ none) in
      (record { member = h.0.member; operator = h.0.operator; arguments = h.0.arguments; over = h.0.over; of = h.0.of ∙ again; busy = h.0.busy }, h.1)

  -- that of a sum has the new value of the class over which it is in the place of the old one
  pub remade_summed : (i : ℕ) → i < length t.nodes → (f : OpId) (p : ℕ) → Sum g f p i → IsSummed g f p i (remade i) (remade p)
  remade_summed i l f p is =
      let again = class_again g i l in
      let same = one_value g i (class_of s i) l (class_within g i l) (sym again) in
      elim (worth_summed g (class_of s i) (class_within g i l) f p (same_sum g f p (class_of s i) i again is)) as (λ _. IsSummed g f p i (remade i) (remade p)) [
        | inl w ↦ inl (BEqual-trans d same w.0, w.1)
        | inr w ↦ inr (w.0, (BEqual-trans d same w.1.0, w.1.1))
      ]

  remade_classes : (ks : List ℕ) → map remade ks ≡ map (worth g) (map (class_of s) ks)
  remade_classes [] = refl
  remade_classes (k ∷ ks) = ap (λ ts. remade k ∷ ts) (remade_classes ks)

  -- the operator over arguments of these classes
  pub over_classes : (f : OpId) (ks cs : List ℕ) → map (class_of s) ks ≡ cs → BEqual d (app f (pack (map remade ks))) (app f (pack (map (worth g) cs)))
  over_classes f ks cs e = equal_is d (ap (λ ts. app f (pack ts)) (remade_classes ks ∙ ap (map (worth g)) e))

  classes_over : (f : OpId) (ks cs : List ℕ) → map (class_of s) ks ≡ cs → BEqual d (app f (pack (map (worth g) cs))) (app f (pack (map remade ks)))
  classes_over f ks cs e = equal_is d (sym (ap (λ ts. app f (pack ts)) (remade_classes ks ∙ ap (map (worth g)) e)))

  -- arguments that are made alike have new values over which the operator is equal
  remade_alike : (f : OpId) (ks ls : List ℕ) → AreMadeAlike d (class_of s) f ks ls → BEqual d (app f (pack (map remade ks))) (app f (pack (map remade ls)))
  remade_alike f ks ls (inl e) = BEqual-trans d (over_classes f ks (map (class_of s) ls) e) (classes_over f ls (map (class_of s) ls) refl)
  remade_alike f ks ls (inr (commutes, w)) =
      BEqual-trans d (over_classes f ks (w.first ∷ w.second ∷ []) w.left)
      (BEqual-trans d (exchanged (worth g w.first) (worth g w.second)) (classes_over f ls (w.second ∷ w.first ∷ []) w.right))
    where
      exchanged : (v r : Term) → BEqual d (app f (pack (v ∷ r ∷ []))) (app f (pack (r ∷ v ∷ [])))
      exchanged v r = step (here (inl (swap commutes))) stop

  -- that of an operator in which the loose class stands is the operator over the new values of its arguments, up to the axioms, where
  -- the node is not idle
  abbrev IsRemade : ℕ → OpId → List ℕ → Type 0
  IsRemade i f ks = IsIdle t s i f ks ⊎ BEqual d (remade i) (app f (pack (map remade ks)))

  headed_over : (i : ℕ) (f : OpId) (ks : List ℕ) → IsOver t.nodes i f ks → i < length t.nodes → 0 < height i → class_of s i ≢ class_of s z → entry g i ≡ None → IsRemade i f ks
  headed_over i f ks over l stands other none =
      let r = remade_headed i l stands other none in
      let e = same_height g r.0.member i r.0.of in
      elim (g.loose.alike r.0.member i r.0.operator f r.0.arguments ks r.0.over over r.0.of (omega (arith, e, stands)) (same_entry g r.0.member i r.0.of ∙ none)) as (λ _. IsRemade i f ks) [
        | inl one ↦ elim one as (λ _. IsRemade i f ks) [
          | inl head ↦ absurd (r.0.busy head)
          | inr idle ↦ inl idle
        ]
        | inr a ↦
            inr (BEqual-trans d (equal_is d r.1) (BEqual-trans d (remade_alike r.0.operator r.0.arguments ks a.1) (equal_is d (ap (λ o. app o (pack (map remade ks))) a.0))))
      ]

  pub remade_over : (i : ℕ) (f : OpId) (ks : List ℕ) → IsOver t.nodes i f ks → i < length t.nodes → 0 < height i → entry g i ≡ None → IsIdle t s i f ks ⊎ BEqual d (remade i) (app f (pack (map remade ks)))
  remade_over i f ks over l stands none = elim (same_or_other (class_of s i) (class_of s z)) as (λ _. IsRemade i f ks) [
    | inl e ↦ inl (g.loose.open_class i f ks over e)
    | inr other ↦ headed_over i f ks over l stands other none
  ]

  -- the new variable stands in the new values of those in which the loose class stands, and in no others
  pub new_stands : (n i : ℕ) → height i ≤ n → i < length t.nodes → 0 < height i → Occurs (new g) (remade i)
  new_stands zero i h l stands = absurd (omega (arith, h, stands))
  new_stands (suc n) i h l stands = go (same_or_other (class_of s i) (class_of s z)) (λ k a b c. new_stands n k a b c)
    where
      go : Decided (class_of s i ≡ class_of s z) → ((k : ℕ) → height k ≤ n → k < length t.nodes → 0 < height k → Occurs (new g) (remade k)) → Occurs (new g) (remade i)
      go (inl e) before = subst (Occurs (new g)) (sym (remade_bottom i l e)) refl
      go (inr other) before = elim (noted (entry g i)) as (λ _. Occurs (new g) (remade i)) [
        | inl none ↦
            let r = remade_headed i l stands other none in
            let e = same_height g r.0.member i r.0.of in
            let some = (head_raised g i r.0).over (omega (arith, e, stands)) in
            let k = some.1 in
            let c : Contains r.0.arguments k = (some.0, some.2, some.3) in
            let low = argument_at g i r.0 k c n (omega (arith, e, h)) in
            subst (Occurs (new g)) (sym r.1) (mapped_among remade (new g) r.0.arguments k c (before k low (argument_within g r.0.member r.0.operator r.0.arguments r.0.over k c) some.4))
        | inr w ↦
            let m = g.loose.sum i w.0 w.1 l w.2 in
            let low = m.lower in
            let part : Occurs (new g) (remade w.1) = before w.1 (omega (arith, low, h)) m.part m.stands in
            elim (remade_summed i l w.0 w.1 w.2) as (λ _. Occurs (new g) (remade i)) [
              | inl r ↦ subst (Occurs (new g)) (sym r.1) part
              | inr r ↦ subst (Occurs (new g)) (sym r.1.1) (inl part)
            ]
      ]

  pub new_stands_not : (i : ℕ) → i < length t.nodes → height i ≡ 0 → Occurs (new g) (remade i) → ⊥
  new_stands_not i l low o = not_in_old g (class_of s i) (class_within g i l) (subst (Occurs (new g)) (remade_low_is i l low) o)
