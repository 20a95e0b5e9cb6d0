-- A term is irreducible where it is its own normal form.
use Rattle.std.proofs.Common.{◌≡◌, ◌<◌, ◌≤◌, ◌+◌, ℕ, List, [], length, take, get_or, sym, ◌∙◌, subst, inl, inr, arith}
use Rattle.std.specs.Prelude.{Contains}
use Rattle.std.proofs.lemmas.List.{take_all, take_more}
use Rattle.std.proofs.lemmas.List.Elements.{Contains-get_or, Contains-push_cases}
use Rattle.fvn_base.proofs.Membership.{contains_none}
use Rattle.fvn_terms.specs.declared.plain.Var.{Var}
use Rattle.fvn_terms.specs.Rewriting.{IsIrreducible}
use Rattle.fvn_terms.specs.Laws.{RewritingLaws}
use Rattle.fvn_forms.specs.Flat.{FlatTerm, plain}
use Rattle.fvn_forms.proofs.Eval.{canon_respects, canon_plain}
use Rattle.fvn_flat.specs.Bindings.{Bindings, value}
use Rattle.fvn_flat.specs.Fits.{Fits}
use Rattle.fvn_rewrite_laws.specs.Normalised.{counted, IsForm, IsUnfinished as IsUnfinishedFrom, IsTooLarge}
use Rattle.fvn_exploring.specs.Setting.{Setting}
use Rattle.fvn_vunify.specs.declared.testing.Test.{Test}
use Rattle.fvn_vunify.specs.inner.Tests.{IsPassed, IsUnfinished, GrowsTo, IsTestOf, IsTestOfSome}

module _ (g : Setting) (t form : FlatTerm) where
  pub passes : IsForm g.declarations g.equations t g.bounds form → form ≡ t → IsPassed g t
  passes h e = subst (IsPassed g) e (record { irreducible = h.irreducible; small = h.small })

  pub fails : RewritingLaws g.declarations g.equations → Fits g.declarations t → IsForm g.declarations g.equations t g.bounds form → (form ≡ t → ⊥) →
      IsIrreducible g.declarations g.equations (plain t) → ⊥
  fails laws fits h n irreducible =
      let d = g.declarations in
      let at = h.reached in
      let one = laws.ended at.count (plain t) (plain form) irreducible at.reached.sequence in
      n (sym (canon_plain d form at.reached.fits.flat) ∙ sym (canon_respects d one.1) ∙ canon_plain d t fits.flat)

  pub unfinished : (start : FlatTerm) → IsUnfinishedFrom g.declarations g.equations t g.bounds start form → IsUnfinished g t start form
  unfinished start h = record { is = h.is; reached = h.reached; reducible = h.reducible }

  pub grows : IsTooLarge g.declarations g.equations t g.bounds form → GrowsTo g t form
  grows h = let l : g.bounds.size < counted form = h.large in record { steps = h.reached.count; reached = h.reached.reached; large = omega (arith, l) }

-- Members of a list in turn.
module _ {A : Type 0} (P : A → Type 0) (xs : List A) where
  abbrev AllBefore : ℕ → Type 0
  AllBefore i = (x : A) → Contains (take i xs) x → P x

  pub each_none : (x : A) → Contains [] x → P x
  each_none x m = absurd (contains_none x m)

  pub each_more : (i : ℕ) (e : A) → i < length xs → P (get_or xs i e) → AllBefore i → AllBefore (i + 1)
  each_more i e l one h x m =
      elim (Contains-push_cases (take i xs) (get_or xs i e) x (subst (λ ys. Contains ys x) (take_more xs i e l) m)) as (λ _. P x) [
        | inl o ↦ h x o
        | inr q ↦ subst P q one
      ]

  pub each_all : (i : ℕ) → length xs ≤ i → AllBefore i → (x : A) → Contains xs x → P x
  each_all i l h = subst (λ ys. (x : A) → Contains ys x → P x) (take_all i xs l) h

-- a value that does not pass
pub some_not_passed : (g : Setting) (vars : List Var) (s : Bindings) (i : ℕ) (e : Var) → i < length vars →
    (test : Test) → IsTestOf g (value s (get_or vars i e)) test → IsTestOfSome g vars s test
some_not_passed g vars s i e l test h = (get_or vars i e, Contains-get_or vars i e l, h)
