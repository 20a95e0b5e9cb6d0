-- What the answer shows.
use Rattle.std.proofs.Common.{◌≡◌, ℕ, suc, ◌+◌, [], ◌∷◌, ◌++◌, length, Some, None, refl, sym, ap, ◌∙◌, subst}
use Rattle.std.specs.Prelude.{Option, Contains}
use Rattle.std.proofs.lemmas.List.Elements.{Contains-append_right}
use Rattle.fvn_base.proofs.Membership.{contains_here, contains_later}
use Rattle.fvn_terms.specs.declared.declarations.Declarations.{Declarations}
use Rattle.fvn_terms.specs.Term.{Term}
use Rattle.fvn_terms.specs.Substitution.{Substitution}
use Rattle.fvn_terms.specs.Unifiers.{Problem}
use Rattle.fvn_terms.specs.Theory.{Equations}
use Rattle.fvn_terms.specs.Rewriting.{IsConfluent}
use Rattle.fvn_forms.specs.Flat.{plain}
use Rattle.fvn_forms.specs.Good.{IsGood}
use Rattle.fvn_signature.specs.Queries.{IsCompleted}
use Rattle.fvn_rewrite_laws.specs.Laws.{RuleLaws}
use Rattle.fvn_rewrite_laws.specs.Losses.{IsLoss, AreSortDecreasing, IsFirstLoss}
use Rattle.fvn_rewrite.specs.Usable.{Rewriting, AreUsable, equations_by}
use Rattle.fvn_critical_pairs.specs.Laws.{OverlapsOfRulesDecideConfluence, DivergenceExcludesConfluence}
use Rattle.fvn_critical.specs.declared.fault.CriticalFault.{CriticalFault}
use Rattle.fvn_critical.specs.declared.fault.CriticalFault.TheVariants.{Sorts, Apart, Steps, Size, Basis, Unifiers}
use Rattle.fvn_critical.specs.Faults.{IsCriticalFault, IsAnswer, TellsFirstLoss, MeetsLimit, IsOnlyLimited}
use Rattle.fvn_critical.specs.inner.Testing.{TestedAs, AreJoinedBySome}
use Rattle.fvn_critical.proofs.Forms.{used_by}
use Rattle.fvn_critical.proofs.Assembling.{all_joined}

module _ (d : Declarations) where
  -- an equation that loses a sort is not sort-decreasing
  loses_none : (equations : Equations) → AreSortDecreasing d equations → (e : Term × Term) → Contains equations e → IsLoss d e.0 e.1 → ⊥
  loses_none equations decreasing e c loss = loss.right_has_not (decreasing e c loss.by loss.well_sorted loss.sort loss.left_has)

  pub no_first_loss : (equations : Equations) → AreSortDecreasing d equations → (n : ℕ) → IsFirstLoss d equations n → ⊥
  no_first_loss equations decreasing n f =
      loses_none equations decreasing f.equation (subst (λ l. Contains l f.equation) (sym f.split) (Contains-append_right f.before (f.equation ∷ f.after) f.equation (contains_here f.equation f.after))) f.loses

  -- there is one first loss
  once : (b c : Equations) (e f : Term × Term) (x y : Equations) → b ++ e ∷ x ≡ c ++ f ∷ y → AreSortDecreasing d b → IsLoss d e.0 e.1 → AreSortDecreasing d c → IsLoss d f.0 f.1 → length b ≡ length c
  once [] [] e f x y q h k i j = refl
  once [] (g ∷ c) e f x y q h k i j = let same : e ≡ g = cc in absurd (loses_none (g ∷ c) i e (subst (Contains (g ∷ c)) (sym same) (contains_here g c)) k)
  once (g ∷ b) [] e f x y q h k i j = let same : f ≡ g = cc in absurd (loses_none (g ∷ b) h f (subst (Contains (g ∷ b)) (sym same) (contains_here g b)) j)
  once (g ∷ b) (z ∷ c) e f x y q h k i j =
      let rest : b ++ e ∷ x ≡ c ++ f ∷ y = cc in
      ap suc (once b c e f x y rest (λ p m. h p (contains_later g b p m)) k (λ p m. i p (contains_later z c p m)) j)

  pub one_first_loss : (equations : Equations) (m n : ℕ) → IsFirstLoss d equations m → IsFirstLoss d equations n → m ≡ n
  one_first_loss equations m n f g = f.number ∙ ap (λ k. k + 1) (once f.before g.before f.equation g.equation f.after g.after (sym f.split ∙ g.split) f.earlier f.loses g.earlier g.loses) ∙ sym g.number

module _ (r : Rewriting) (drawn : Problem → Substitution → Type 0) (unifiers : ℕ) where
  abbrev equations : Equations
  equations = equations_by r

  -- where no equation loses a sort, the tests decide
  pub tested_answer : IsGood r.signature → IsCompleted r.signature → AreUsable r.signature r.rules → RuleLaws r.signature equations → OverlapsOfRulesDecideConfluence → AreSortDecreasing r.signature equations →
      (f : Option CriticalFault) → TestedAs r drawn unifiers (AreJoinedBySome r) f → IsAnswer r drawn unifiers f
  tested_answer good completed usable rules decide decreasing None all = record {
    decreasing = decreasing;
    confluent = λ ends. decide r.signature r.rules (used_by r good completed usable) decreasing all.chosen all.enough (all_joined r good completed usable rules all) ends;
  }
  tested_answer good completed usable rules decide decreasing (Some f) shown = shown

  pub tells_none : AreSortDecreasing r.signature equations → (f : Option CriticalFault) → TellsFirstLoss r f
  tells_none decreasing f n loss = absurd (no_first_loss r.signature equations decreasing n loss)

  pub tells_this : (m : ℕ) → IsFirstLoss r.signature equations m → TellsFirstLoss r (Some (Sorts m))
  tells_this m first n loss = ap (λ k. Some (Sorts k)) (one_first_loss r.signature equations m n first loss)

  limited : DivergenceExcludesConfluence → AreSortDecreasing r.signature equations → IsConfluent r.signature equations → (f : CriticalFault) → IsCriticalFault r drawn unifiers f → MeetsLimit f
  limited diverging decreasing confluent (Sorts n) h = no_first_loss r.signature equations decreasing n h
  limited diverging decreasing confluent (Apart m n t u) h = diverging r.signature r.rules.equations m n (plain t) (plain u) h.1 confluent
  limited diverging decreasing confluent (Steps start end) h = tt
  limited diverging decreasing confluent (Size cause) h = tt
  limited diverging decreasing confluent (Basis f system) h = tt
  limited diverging decreasing confluent (Unifiers given list) h = tt

  pub only_limited : DivergenceExcludesConfluence → (answer : Option CriticalFault) → IsAnswer r drawn unifiers answer → IsOnlyLimited r answer
  only_limited diverging answer told decreasing confluent f e = limited diverging decreasing confluent f (subst (IsAnswer r drawn unifiers) e told)
