-- Lists of flat forms: their instances, and which form a member or a summand of these comes from.
use Rattle.std.proofs.Common.{◌≡◌, ℕ, zero, suc, ◌+◌, ◌≤◌, Bool, true, false, List, [], ◌∷◌, ◌++◌, refl, sym, ap, ◌∙◌, inl, inr, arith}
use Rattle.std.specs.List.{AllByRecursion}
use Rattle.fvn_terms.specs.declared.plain.Var.{Var}
use Rattle.fvn_terms.specs.declared.plain.OpId.{OpId}
use Rattle.fvn_terms.specs.declared.declarations.Declarations.{Declarations}
use Rattle.fvn_terms.specs.Term.{Term, Terms, var, app, none, more}
use Rattle.fvn_terms.specs.Substitution.{Occurs, OccursAmong}
use Rattle.fvn_terms.specs.Signature.{axioms}
use Rattle.fvn_terms.specs.Equality.{IsAssociative}
use Rattle.fvn_forms.specs.Flat.{FlatTerm, FlatTerms, fapp, fpack, funpack, plain, plain_all}
use Rattle.fvn_forms.specs.InOrder.{count}
use Rattle.fvn_forms.specs.Canon.{parts, all_parts, sum, build, eval, eval_all, canon, inst}
use Rattle.fvn_forms.specs.Settled.{Settled, SettledValues}
use Rattle.fvn_forms.proofs.InOrder.{count_append}
use Rattle.fvn_forms.proofs.Sums.{fpack-funpack, all_parts-append}
use Rattle.fvn_forms.proofs.Eval.{eval_nest}
use Rattle.fvn_rewrite_coherence.proofs.Members.{find_member, canon_plain_around, canon_replaced}

pub not_nothing : (before : List FlatTerm) (p : FlatTerm) (after : List FlatTerm) → [] ≡ before ++ p ∷ after → ⊥
not_nothing [] p after e = cc
not_nothing (t ∷ before) p after e = cc

pub occurs_among : (x : Var) (before : List FlatTerm) (p : FlatTerm) (after : List FlatTerm) → Occurs x (plain p) → OccursAmong x (plain_all (fpack (before ++ p ∷ after)))
occurs_among x [] p after o = inl o
occurs_among x (t ∷ before) p after o = inr (occurs_among x before p after o)

module _ (d : Declarations) where
  -- the instances of a list of forms
  abbrev pub instances : (Var → FlatTerm) → List FlatTerm → List FlatTerm
  instances w l = eval_all d w (plain_all (fpack l))

  -- an operator over forms, a sum of them where they are joined
  abbrev pub combined : OpId → Bool → List FlatTerm → FlatTerm
  combined f true l = sum d f (all_parts d f l)
  combined f false l = build d f l

  pub instances_around : (w : Var → FlatTerm) (before : List FlatTerm) (t : FlatTerm) (after : List FlatTerm) → instances w (before ++ t ∷ after) ≡ instances w before ++ inst d w t ∷ instances w after
  instances_around w [] t after = refl
  instances_around w (b ∷ before) t after = ap (λ l. inst d w b ∷ l) (instances_around w before t after)

  -- an instance of an operator over forms
  pub inst_combined : (w : Var → FlatTerm) → SettledValues d w → (f : OpId) (joined : Bool) → (joined ≡ true → IsAssociative (axioms d f)) → (before : List FlatTerm) (t : FlatTerm) (after : List FlatTerm) →
      inst d w (fapp f joined (fpack (before ++ t ∷ after))) ≡ combined f joined (instances w (before ++ t ∷ after))
  inst_combined w h f false a before t after = refl
  inst_combined w h f true a [] t after = eval_nest d w h f (a refl) (plain t) (plain_all (fpack after))
  inst_combined w h f true a (b ∷ before) t after = eval_nest d w h f (a refl) (plain b) (plain_all (fpack (before ++ t ∷ after)))

  -- values that agree on a term give one instance
  mutual
    eval_agree : (w v : Var → FlatTerm) (t : Term) → ((x : Var) → Occurs x t → w x ≡ v x) → eval d w t ≡ eval d v t
    eval_agree w v (var x) a = a x refl
    eval_agree w v (app f ts) a = ap (build d f) (eval_all_agree w v ts a)

    eval_all_agree : (w v : Var → FlatTerm) (ts : Terms) → ((x : Var) → OccursAmong x ts → w x ≡ v x) → eval_all d w ts ≡ eval_all d v ts
    eval_all_agree w v none a = refl
    eval_all_agree w v (more t ts) a = ap (λ z. z ∷ eval_all d w ts) (eval_agree w v t (λ x o. a x (inl o))) ∙ ap (λ l. eval d v t ∷ l) (eval_all_agree w v ts (λ x o. a x (inr o)))

  pub around_agree : (w v : Var → FlatTerm) (before : List FlatTerm) (p c : FlatTerm) (after : List FlatTerm) → ((x : Var) → OccursAmong x (plain_all (fpack (before ++ p ∷ after))) → w x ≡ v x) →
      instances w before ++ c ∷ instances w after ≡ instances v before ++ c ∷ instances v after
  around_agree w v [] p c after a = ap (λ l. c ∷ l) (eval_all_agree w v (plain_all (fpack after)) (λ x o. a x (inr o)))
  around_agree w v (b ∷ before) p c after a =
      ap (λ z. z ∷ (instances w before ++ c ∷ instances w after)) (eval_agree w v (plain b) (λ x o. a x (inl o)))
      ∙ ap (λ l. inst d v b ∷ l) (around_agree w v before p c after (λ x o. a x (inr o)))

  -- the flat form of an operator that joins nothing, over forms of which one may not be settled
  pub unjoined_canon : (f : OpId) (us : FlatTerms) (before : List FlatTerm) (new : FlatTerm) (after : List FlatTerm) → funpack us ≡ before ++ new ∷ after → AllByRecursion (Settled d) before → AllByRecursion (Settled d) after →
      canon d (plain (fapp f false us)) ≡ build d f (before ++ canon d (plain new) ∷ after)
  unjoined_canon f us before new after is h k =
      ap (λ l. canon d (plain (fapp f false l))) (sym (fpack-funpack us) ∙ ap fpack is)
      ∙ ap (build d f) (canon_plain_around d before new (canon d (plain new)) after h k refl)

  pub joined_canon : (f : OpId) → IsAssociative (axioms d f) → (us : FlatTerms) (before : List FlatTerm) (new : FlatTerm) (after : List FlatTerm) → funpack us ≡ before ++ new ∷ after → AllByRecursion (Settled d) before → AllByRecursion (Settled d) after →
      canon d (plain (fapp f true us)) ≡ sum d f (all_parts d f (before ++ canon d (plain new) ∷ after))
  joined_canon f assoc us before new after is h k =
      ap (λ l. canon d (plain (fapp f true l))) (sym (fpack-funpack us) ∙ ap fpack is)
      ∙ canon_replaced d f assoc before new (canon d (plain new)) after h k refl

  pub count_all_parts_around : (f : OpId) (q : FlatTerm) (before : List FlatTerm) (p : FlatTerm) (after : List FlatTerm) →
      count q (all_parts d f (before ++ p ∷ after)) ≡ count q (all_parts d f before) + (count q (parts d f p) + count q (all_parts d f after))
  count_all_parts_around f q before p after =
      let a = ap (count q) (all_parts-append d f before (p ∷ after)) in
      let b = count_append q (all_parts d f before) (parts d f p ++ all_parts d f after) in
      let c = count_append q (parts d f p) (all_parts d f after) in
      omega arith

  module _ (v : Var → FlatTerm) where
    -- the members of a list whose instances are split
    pub record IsSplit (l before : List FlatTerm) (member : FlatTerm) (after : List FlatTerm) : Type 0 where
      pub first_ones : List FlatTerm
      pub form : FlatTerm
      pub last_ones : List FlatTerm
      pub is : l ≡ first_ones ++ form ∷ last_ones
      pub before_is : instances v first_ones ≡ before
      pub member_is : inst d v form ≡ member
      pub after_is : instances v last_ones ≡ after

    pub split : (l before : List FlatTerm) (member : FlatTerm) (after : List FlatTerm) → instances v l ≡ before ++ member ∷ after → IsSplit l before member after
    split [] before member after e = absurd (not_nothing before member after e)
    split (t ∷ l) [] member after e = record { first_ones = []; form = t; last_ones = l; is = refl; before_is = refl; member_is = cc; after_is = cc }
    split (t ∷ l) (b ∷ before) member after e =
        let first_is : inst d v t ≡ b = cc in
        let rest_is : instances v l ≡ before ++ member ∷ after = cc in go first_is (split l before member after rest_is)
      where
        go : inst d v t ≡ b → IsSplit l before member after → IsSplit (t ∷ l) (b ∷ before) member after
        go first_is w = record {
          first_ones = t ∷ w.first_ones;
          form = w.form;
          last_ones = w.last_ones;
          is = ap (λ m. t ∷ m) w.is;
          before_is = ap (λ z. z ∷ instances v w.first_ones) first_is ∙ ap (λ m. b ∷ m) w.before_is;
          member_is = w.member_is;
          after_is = w.after_is;
        }

    -- the form of a list that a summand of the instances is from
    pub record IsOwner (f : OpId) (part : FlatTerm) (l : List FlatTerm) : Type 0 where
      pub first_ones : List FlatTerm
      pub form : FlatTerm
      pub last_ones : List FlatTerm
      pub is : l ≡ first_ones ++ form ∷ last_ones
      pub front : List FlatTerm
      pub back : List FlatTerm
      pub among : parts d f (inst d v form) ≡ front ++ part ∷ back

    pub owner : (f : OpId) (part : FlatTerm) (l : List FlatTerm) → 1 ≤ count part (all_parts d f (instances v l)) → IsOwner f part l
    owner f part [] n = absurd (omega arith)
    owner f part (t ∷ l) n = go (count part (parts d f (inst d v t))) refl (λ k. owner f part l k) where
      both : count part (all_parts d f (instances v (t ∷ l))) ≡ count part (parts d f (inst d v t)) + count part (all_parts d f (instances v l))
      both = count_append part (parts d f (inst d v t)) (all_parts d f (instances v l))

      go : (n : ℕ) → count part (parts d f (inst d v t)) ≡ n → (1 ≤ count part (all_parts d f (instances v l)) → IsOwner f part l) → IsOwner f part (t ∷ l)
      go zero e ih =
          let b = both in
          let w = ih (omega arith) in
          record { first_ones = t ∷ w.first_ones; form = w.form; last_ones = w.last_ones; is = ap (λ m. t ∷ m) w.is; front = w.front; back = w.back; among = w.among }
      go (suc k) e ih =
          let w = find_member part (parts d f (inst d v t)) (omega arith) in
          record { first_ones = []; form = t; last_ones = l; is = refl; front = w.before; back = w.after; among = w.is }
