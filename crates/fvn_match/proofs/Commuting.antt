-- Commutative pairs of which one order of the targets is left.
use Rattle.std.proofs.Common.{◌≡◌, ◌+◌, Bool, true, false, List, [], ◌∷◌, length, Some, sym, ap, ◌∙◌, subst, inl, inr, arith}
use Rattle.std.specs.Prelude.{◌↔◌, ◌⊎◌}
use Rattle.std.specs.List.{AllZip}
use Rattle.fvn_terms.specs.declared.plain.Var.{Var}
use Rattle.fvn_terms.specs.declared.plain.OpId.{OpId}
use Rattle.fvn_terms.specs.declared.declarations.Axioms.TheVariants.{Comm}
use Rattle.fvn_terms.specs.declared.declarations.Declarations.{Declarations}
use Rattle.fvn_terms.specs.Signature.{axioms}
use Rattle.fvn_forms.specs.Flat.{FlatTerm, fvar}
use Rattle.fvn_forms.specs.Canon.{inst}
use Rattle.fvn_forms.specs.FitsKinds.{FitsKinds}
use Rattle.fvn_flat.specs.Bindings.{Bindings}
use Rattle.fvn_flat.specs.Forms.{head_of, args_of}
use Rattle.fvn_match.specs.inner.Candidates.{Values, IsCandidate, Agrees}
use Rattle.fvn_match.specs.inner.Goals.{AllMake, IsPair, weight, weight_of}
use Rattle.fvn_match.specs.inner.Refusing.{NeverMakes}
use Rattle.fvn_match.specs.inner.Searching.{crossed, IsCrossing}
use Rattle.fvn_match.specs.inner.Apart.{HasOther, NeverMakeAll, IsOnlyOrder, values_with, TakesApart}
use Rattle.fvn_match.specs.declared.apart.Apart.{Apart}
use Rattle.fvn_match.proofs.Weights.{weight_args}
use Rattle.fvn_match.proofs.PairSteps.{commutative_head, crossing, two_patterns, two_targets, commutative_step}

module _ (d : Declarations) where
  -- a variable makes the form alone that it is bound to
  pub other_never : (b : Bindings) (x : Var) (t : FlatTerm) → HasOther b x t → NeverMakes d b (fvar x) t
  other_never b x t h = λ c k agrees is. h.2 (sym (agrees x h.0 h.1) ∙ is)

  -- the orders of two targets
  module _ (b : Bindings) (ps ts : List FlatTerm) (pairs : IsCrossing d ps ts) where
    straight_only : ((c : Values) → IsCandidate d c → Agrees b c → AllMake d ps (crossed ts) c → AllMake d ps ts c) → IsOnlyOrder d b ps ts ts
    straight_only h = record { pairs = pairs.straight; asks = λ c k a. (λ g. elim g [ inl m ↦ m | inr m ↦ h c k a m ], λ m. inl m) }

    across_only : ((c : Values) → IsCandidate d c → Agrees b c → AllMake d ps ts c → AllMake d ps (crossed ts) c) → IsOnlyOrder d b ps ts (crossed ts)
    across_only h = record { pairs = pairs.across; asks = λ c k a. (λ g. elim g [ inl m ↦ h c k a m | inr m ↦ m ], λ m. inr m) }

    module _ (p q t u : FlatTerm) (ps_are : ps ≡ p ∷ q ∷ []) (ts_are : ts ≡ t ∷ u ∷ []) where
      pub crossing_pairs : IsPair d p t × (IsPair d q u × (IsPair d p u × IsPair d q t))
      crossing_pairs =
          let s = subst (λ l. AllZip (IsPair d) l (t ∷ u ∷ [])) ps_are (subst (AllZip (IsPair d) ps) ts_are pairs.straight) in
          let a = subst (λ l. AllZip (IsPair d) l (u ∷ t ∷ [])) ps_are (subst (λ m. AllZip (IsPair d) ps (crossed m)) ts_are pairs.across) in
          (s.0, (s.1.0, (a.0, a.1.0)))

      -- two equal targets have one order
      pub equal_order : t ≡ u → IsOnlyOrder d b ps ts (t ∷ u ∷ [])
      equal_order e = subst (IsOnlyOrder d b ps ts) ts_are (straight_only (λ c k a m. subst (λ l. AllMake d ps l c) swapped m))
        where
          swapped : crossed ts ≡ ts
          swapped = ap crossed ts_are ∙ ap (λ v. v ∷ t ∷ []) (sym e) ∙ ap (λ v. t ∷ v ∷ []) e ∙ sym ts_are

      -- and others one where the other one is refused
      pub straight_order : NeverMakeAll d b (p ∷ q ∷ []) (u ∷ t ∷ []) → IsOnlyOrder d b ps ts (t ∷ u ∷ [])
      straight_order never =
          subst (IsOnlyOrder d b ps ts) ts_are
          (straight_only (λ c k a m. absurd (never c k a (subst (λ l. AllMake d l (u ∷ t ∷ []) c) ps_are (subst (λ l. AllMake d ps (crossed l) c) ts_are m)))))

      pub across_order : NeverMakeAll d b (p ∷ q ∷ []) (t ∷ u ∷ []) → IsOnlyOrder d b ps ts (u ∷ t ∷ [])
      across_order never =
          subst (IsOnlyOrder d b ps ts) (ap crossed ts_are)
          (across_only (λ c k a m. absurd (never c k a (subst (λ l. AllMake d l (t ∷ u ∷ []) c) ps_are (subst (λ l. AllMake d ps l c) ts_are m)))))

  module _ (b : Bindings) where
    -- two pairs, one after the other
    module _ (ps : List FlatTerm) (p q : FlatTerm) (ps_are : ps ≡ p ∷ q ∷ []) (t u : FlatTerm) where
      two_parted : (R : FlatTerm → FlatTerm → Type 0) → AllZip R ps (t ∷ u ∷ []) ↔ (R p t × R q u)
      two_parted R = subst (λ l. AllZip R l (t ∷ u ∷ []) ↔ (R p t × R q u)) (sym ps_are) (λ h. (h.0, h.1.0), λ h. (h.0, (h.1, tt)))

      pub first_of_two : AllZip (IsPair d) ps (t ∷ u ∷ []) → IsPair d p t
      first_of_two h = ((two_parted (IsPair d)).0 h).0

      pub second_of_two : AllZip (IsPair d) ps (t ∷ u ∷ []) → IsPair d q u
      second_of_two h = ((two_parted (IsPair d)).0 h).1

      module _ (a middle after : Apart) where
        pub first_refused : TakesApart d b a middle (λ c. inst d c p ≡ t) (weight p + 2) false → TakesApart d b a after (AllMake d ps (t ∷ u ∷ [])) (weight_of ps) false
        first_refused never = λ c k h g. never c k ((two_parted (λ v w. inst d c v ≡ w)).0 h).0 g

        pub both_taken : TakesApart d b a middle (λ c. inst d c p ≡ t) (weight p + 2) true → (can : Bool) → TakesApart d b middle after (λ c. inst d c q ≡ u) (weight q + 2) can → TakesApart d b a after (AllMake d ps (t ∷ u ∷ [])) (weight_of ps) can
        both_taken first true second = record {
          fits = second.fits;
          asks = λ c k.
              let z = first.asks c k in
              let y = second.asks c k in
              let s = two_parted (λ v w. inst d c v ≡ w) in (
                λ h. let m = s.0 h.0 in y.0 (m.1, z.0 (m.0, h.1)),
                λ h. let m = y.1 h in let n = z.1 m.1 in (s.1 (n.0, m.0), n.1),
              );
          lighter = let l = first.lighter in let m = second.lighter in let e = ap weight_of ps_are in omega arith;
        }
        both_taken first false never = λ c k h g. never c k ((two_parted (λ v w. inst d c v ≡ w)).0 h).1 ((first.asks c k).0 (((two_parted (λ v w. inst d c v ≡ w)).0 h).0, g))

    -- a commutative pair
    module _ (fits : FitsKinds d) (f : OpId) (p t : FlatTerm) (pair : IsPair d p t) (head : head_of p ≡ Some f) (e : axioms d f ≡ Comm) where
      pub never_shared : (head_of t ≡ Some f → ⊥) → (c : Values) → IsCandidate d c → inst d c p ≡ t → ⊥
      never_shared n c k is = n (commutative_head d fits f p t pair head c k.flat.settled e is)

      module _ (shared : head_of t ≡ Some f) (ps ts : List FlatTerm) (ps_are : ps ≡ args_of p) (ts_are : ts ≡ args_of t) where
        pub both_patterns : length ps ≡ 2
        both_patterns = ap length ps_are ∙ two_patterns d fits f p t pair head e shared

        pub both_targets : length ts ≡ 2
        both_targets = ap length ts_are ∙ two_targets d fits f p t pair head e shared

        pub both_crossing : IsCrossing d ps ts
        both_crossing = subst (λ l. IsCrossing d l ts) (sym ps_are) (subst (IsCrossing d (args_of p)) (sym ts_are) (crossing d fits f p t pair head e shared))

        either_steps : (c : Values) → IsCandidate d c → (inst d c p ≡ t) ↔ (AllMake d ps ts c ⊎ AllMake d ps (crossed ts) c)
        either_steps c k =
            subst (λ l. (inst d c p ≡ t) ↔ (AllMake d l ts c ⊎ AllMake d l (crossed ts) c)) (sym ps_are)
            (subst (λ l. (inst d c p ≡ t) ↔ (AllMake d (args_of p) l c ⊎ AllMake d (args_of p) (crossed l) c)) (sym ts_are) (commutative_step d fits f p t pair head e shared c k.flat.settled))

        pub taken_in_order : (a after : Apart) (us : List FlatTerm) → IsOnlyOrder d (values_with d b a) ps ts us → (can : Bool) → TakesApart d b a after (AllMake d ps us) (weight_of ps) can → TakesApart d b a after (λ c. inst d c p ≡ t) (weight p + 2) can
        taken_in_order a after us only true taken = record {
          fits = taken.fits;
          asks = λ c k.
              let z = taken.asks c k in
              let s = either_steps c k in (
                λ g. z.0 ((only.asks c k g.1.0).0 (s.0 g.0), g.1),
                λ g. let y = z.1 g in (s.1 ((only.asks c k y.1.0).1 y.0), y.1),
              );
          lighter = let l = taken.lighter in let w = weight_args p f head in let v = ap weight_of ps_are in omega arith;
        }
        taken_in_order a after us only false never = λ c k is g. never c k ((only.asks c k g.0).0 ((either_steps c k).0 is)) g
