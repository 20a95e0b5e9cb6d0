-- A term is irreducible under a substitution where the flat form of its instance is.
use Rattle.std.proofs.Common.{◌≡◌, ◌<◌, ℕ, List, map, length, get_or, sym, ◌∙◌, subst, inr}
use Rattle.std.specs.Prelude.{Contains}
use Rattle.std.proofs.lemmas.List.Elements.{Contains-get_or}
use Rattle.fvn_base.proofs.Membership.{contains_map, map_contains}
use Rattle.fvn_terms.specs.declared.plain.Var.{Var}
use Rattle.fvn_terms.specs.Substitution.{apply}
use Rattle.fvn_terms.specs.Equality.{BEqual}
use Rattle.fvn_terms.proofs.Equal.{BEqual-sym}
use Rattle.fvn_forms.specs.Flat.{FlatTerm, fvar, plain}
use Rattle.fvn_forms.specs.Canon.{eval, inst}
use Rattle.fvn_forms.specs.Good.{IsGood}
use Rattle.fvn_forms.proofs.Eval.{eval_apply, canon_plain}
use Rattle.fvn_flat.specs.Bindings.{Bindings, value, BindingsFit}
use Rattle.fvn_flat.specs.Fits.{Fits}
use Rattle.fvn_flat.specs.Solving.{substitution}
use Rattle.fvn_flat.proofs.Instances.{inst_equal}
use Rattle.fvn_rewrite_laws.specs.Laws.{SequenceLaws}
use Rattle.fvn_exploring.specs.Setting.{Setting}
use Rattle.fvn_vunify.specs.declared.testing.Test.{Test}
use Rattle.fvn_vunify.specs.declared.testing.Test.TheVariants.{Irreducible, Reducible, Stopped}
use Rattle.fvn_vunify.specs.inner.Tests.{IsTestOf, ArePassed, StaysUnder, form_under, IsTestUnder, AllStay, IsTestUnderSome, AreTestsUnder, AreTestsOfAll}

module _ (g : Setting) (good : IsGood g.declarations) (sequences : SequenceLaws g.declarations g.equations) (s : Bindings) (fit : BindingsFit g.declarations s)
    (t : FlatTerm) (fits : Fits g.declarations t) (u : FlatTerm) (is : u ≡ inst g.declarations (value s) t) (u_fits : Fits g.declarations u) where
  is_form : u ≡ form_under g s (plain t)
  is_form =
      is ∙ (λ i. eval g.declarations (λ x. sym (canon_plain g.declarations (value s x) (fit.settled x)) i) (plain t))
      ∙ sym (eval_apply g.declarations fvar (substitution s) (plain t))

  same : BEqual g.declarations (apply (substitution s) (plain t)) (plain u)
  same =
      subst (λ w. BEqual g.declarations (apply (substitution s) (plain t)) (plain w)) (sym is)
      (inst_equal g.declarations (value s) good fit t fits.kinded)

  -- what a test of the form comes to
  pub tested_under : (test : Test) → IsTestOf g u test → IsTestUnder g s (plain t) test
  tested_under Irreducible h =
      sequences.irreducible (plain u) (apply (substitution s) (plain t)) (BEqual-sym g.declarations same) h.irreducible
  tested_under Reducible h = λ k. h (sequences.irreducible (apply (substitution s) (plain t)) (plain u) same k)
  tested_under (Stopped end) h = record {
    fits = subst (Fits g.declarations) is_form u_fits;
    stop = subst (λ w. IsTestOf g w (Stopped end)) is_form h;
  }

module _ (g : Setting) (s : Bindings) (terms : List FlatTerm) where
  -- one that does not stay
  pub some_not_staying : (i : ℕ) (e : FlatTerm) → i < length terms → (test : Test) → IsTestUnder g s (plain (get_or terms i e)) test →
      IsTestUnderSome g s (map plain terms) test
  some_not_staying i e l test h = (plain (get_or terms i e), contains_map plain terms (get_or terms i e) (Contains-get_or terms i e l), h)

  -- each stays
  pub all_staying : ((t : FlatTerm) → Contains terms t → StaysUnder g s (plain t)) → AllStay g s (map plain terms)
  all_staying h t m = let w = map_contains plain terms t m in subst (StaysUnder g s) w.1.1 (h w.0 w.1.0)

-- the values pass; the fixed terms come to this
pub with_values : (g : Setting) (vars : List Var) (s : Bindings) → ArePassed g vars s → (test : Test) → AreTestsUnder g s g.fixed test → AreTestsOfAll g vars s test
with_values g vars s passed Irreducible h = (passed, h)
with_values g vars s passed Reducible h = inr h
with_values g vars s passed (Stopped end) h = inr h
