-- Rules that subsume others, and how they are chosen.
use Rattle.std.proofs.Common.{◌≡◌, ◌⊎◌, List, [], ◌∷◌, ◌++◌, map, length, Some, None, inl, inr, refl, sym, ◌∙◌, subst, arith}
use Rattle.std.specs.Prelude.{Option, All, Contains, IfSome, IsTrue, is_some}
use Rattle.std.proofs.lemmas.List.Elements.{All-contains, All-weaker, All-contains_itself, Contains-append_left, Contains-push, Contains-push_cases}
use Rattle.fvn_base.proofs.Membership.{contains_none}
use Rattle.fvn_terms.specs.declared.plain.OpId.{OpId}
use Rattle.fvn_terms.specs.declared.declarations.Declarations.{Declarations}
use Rattle.fvn_terms.specs.Term.{Term, var}
use Rattle.fvn_terms.specs.Substitution.{apply, followed_by}
use Rattle.fvn_terms.specs.Signature.{same}
use Rattle.fvn_terms.specs.Places.{stop}
use Rattle.fvn_terms.specs.Equality.{BEqual}
use Rattle.fvn_terms.specs.Sorts.{IsWellSorted}
use Rattle.fvn_terms.proofs.Substitutions.{apply-apply, apply-var}
use Rattle.fvn_terms.proofs.Equal.{BEqual-apply, BEqual-trans}
use Rattle.fvn_terms.proofs.WellSorted.{IsWellSorted-followed_by}
use Rattle.fvn_forms.specs.Flat.{FlatTerm, plain}
use Rattle.fvn_forms.specs.Good.{IsGood}
use Rattle.fvn_signature.specs.Queries.{IsCompleted}
use Rattle.fvn_flat.specs.Bindings.{Bindings}
use Rattle.fvn_flat.specs.Forms.{head_of}
use Rattle.fvn_flat.specs.Solving.{substitution}
use Rattle.fvn_match.specs.Matching.{IsMatcher, Matches}
use Rattle.fvn_rewrite_laws.specs.Laws.{RuleLaws, RulesAreLawful}
use Rattle.fvn_rewrite_rules.specs.declared.rule.Rule.{Rule}
use Rattle.fvn_rewrite.specs.Usable.{Rewriting, AreUsable, equations_by}
use Rattle.fvn_lifting.specs.Laws.{AreUsed}
use Rattle.fvn_critical_pairs.specs.Overlaps.{Subsumes, SomeSubsumes, SubsumeAll}
use Rattle.fvn_critical_pairs.proofs.GivenRules.{left_fits, right_fits}
use Rattle.fvn_critical.specs.inner.Choosing.{SidesFit, AreAmong, AreChosenBut}
use Rattle.fvn_critical.proofs.Forms.{used_by}

module _ (d : Declarations) where
  -- both sides of a rule
  abbrev pub both : Rule → List FlatTerm
  both rule = rule.right ∷ rule.left ∷ []

  -- a matcher of both sides shows that a rule subsumes another one
  pub subsumes_by_match : (general special : Rule) (f : OpId) → head_of special.left ≡ Some f → head_of general.left ≡ Some f → (ps ts : List FlatTerm) → ps ≡ both general → ts ≡ both special →
      (o : Option Bindings) → IfSome o (Matches d ps ts) → IsTrue (is_some o) → Subsumes d general special
  subsumes_by_match general special f e g ps ts p t None found is = cc
  subsumes_by_match general special f e g ps ts p t (Some s) found is =
      let m : IsMatcher d (map plain (both general)) (map plain (both special)) (substitution s) = subst (λ l. Matches d l (both special) s) p (subst (λ l. Matches d ps l s) t found) in
      record { by = substitution s; well_sorted = m.0; left = m.1.1.0; right = m.1.0; head = g ∙ sym e }

  -- each variable goes to itself
  var_sorted : IsWellSorted d var
  var_sorted = (λ x i. (i, refl), λ x. record { form = var x; equal = stop; gets = record { sort = x.sort; gets = refl; below = same } })

  -- each rule subsumes itself
  subsumes_itself : (rule : Rule) → Subsumes d rule rule
  subsumes_itself rule = record { by = var; well_sorted = var_sorted; left = same_term (plain rule.left); right = same_term (plain rule.right); head = refl }
    where
      same_term : (t : Term) → BEqual d (apply var t) t
      same_term t = subst (λ v. BEqual d v t) (sym (apply-var t)) stop

  -- and what one subsumes that it subsumes
  subsumes_through : (a b c : Rule) → Subsumes d a b → Subsumes d b c → Subsumes d a c
  subsumes_through a b c g h = record {
    by = followed_by g.by h.by;
    well_sorted = IsWellSorted-followed_by d g.by h.by g.well_sorted h.well_sorted;
    left = through (plain a.left) (plain b.left) (plain c.left) g.left h.left;
    right = through (plain a.right) (plain b.right) (plain c.right) g.right h.right;
    head = g.head ∙ h.head;
  }
    where
      through : (t u v : Term) → BEqual d (apply g.by t) u → BEqual d (apply h.by u) v → BEqual d (apply (followed_by g.by h.by) t) v
      through t u v m n = subst (λ w. BEqual d w v) (apply-apply g.by h.by t) (BEqual-trans d (BEqual-apply d h.by h.well_sorted.0 m) n)

  -- before any is looked at
  pub none_chosen : (rules : List Rule) → AreChosenBut d rules rules []
  none_chosen rules = record { left = λ rule c. c; given = λ rule c. absurd (contains_none rule c); enough = λ rule c. inl c }

  -- the last of those that are left is chosen, or one subsumes it
  module _ (rules before rest chosen : List Rule) (rule : Rule) (is : before ≡ rest ++ rule ∷ []) (h : AreChosenBut d rules before chosen) where
    left_before : (r : Rule) → Contains rest r → Contains before r
    left_before r c = subst (λ l. Contains l r) (sym is) (Contains-append_left rest (rule ∷ []) r c)

    pub last_given : Contains rules rule
    last_given = h.left rule (subst (λ l. Contains l rule) (sym is) (Contains-push rest rule))

    pub chosen_more : AreChosenBut d rules rest (chosen ++ rule ∷ [])
    chosen_more = record {
      left = λ r c. h.left r (left_before r c);
      given = λ r c. given_or_last r (Contains-push_cases chosen rule r c);
      enough = λ r c. covered r (h.enough r c);
    }
      where
        given_or_last : (r : Rule) → Contains chosen r ⊎ (rule ≡ r) → Contains rules r
        given_or_last r (inl c) = h.given r c
        given_or_last r (inr e) = subst (Contains rules) e last_given

        last_or_not : (r : Rule) → Contains rest r ⊎ (rule ≡ r) → Contains rest r ⊎ SomeSubsumes d (chosen ++ rule ∷ []) r
        last_or_not r (inl c) = inl c
        last_or_not r (inr e) = inr (rule, (Contains-push chosen rule, subst (Subsumes d rule) e (subsumes_itself rule)))

        covered : (r : Rule) → Contains before r ⊎ SomeSubsumes d chosen r → Contains rest r ⊎ SomeSubsumes d (chosen ++ rule ∷ []) r
        covered r (inl c) = last_or_not r (Contains-push_cases rest rule r (subst (λ l. Contains l r) is c))
        covered r (inr (general, (i, s))) = inr (general, (Contains-append_left chosen (rule ∷ []) general i, s))

    pub chosen_without : SomeSubsumes d chosen rule → AreChosenBut d rules rest chosen
    chosen_without some = record {
      left = λ r c. h.left r (left_before r c);
      given = h.given;
      enough = λ r c. covered r (h.enough r c);
    }
      where
        last_or_not : (r : Rule) → Contains rest r ⊎ (rule ≡ r) → Contains rest r ⊎ SomeSubsumes d chosen r
        last_or_not r (inl c) = inl c
        last_or_not r (inr e) = inr (subst (SomeSubsumes d chosen) e some)

        covered : (r : Rule) → Contains before r ⊎ SomeSubsumes d chosen r → Contains rest r ⊎ SomeSubsumes d chosen r
        covered r (inl c) = last_or_not r (Contains-push_cases rest rule r (subst (λ l. Contains l r) is c))
        covered r (inr s) = inr s

  -- where none is left
  pub all_chosen : (rules rest chosen : List Rule) → length rest ≡ 0 → AreChosenBut d rules rest chosen → SubsumeAll d rules chosen
  all_chosen rules [] chosen e h = record { given = h.given; enough = λ rule c. covered rule (h.enough rule c) }
    where
      covered : (rule : Rule) → Contains [] rule ⊎ SomeSubsumes d chosen rule → SomeSubsumes d chosen rule
      covered rule (inl c) = absurd (contains_none rule c)
      covered rule (inr s) = s
  all_chosen rules (r ∷ rest) chosen e h = absurd (omega (arith, e))

  -- some of some
  pub all_through : (rules some fewer : List Rule) → SubsumeAll d rules some → SubsumeAll d some fewer → SubsumeAll d rules fewer
  all_through rules some fewer g h = record {
    given = λ rule c. g.given rule (h.given rule c);
    enough = λ rule c.
        let a = g.enough rule c in
        let b = h.enough a.0 a.1.0 in
        (b.0, (b.1.0, subsumes_through b.0 a.0 rule b.1.1 a.1.1));
  }

  -- their sides fit
  pub some_fit : (rules some : List Rule) → AreAmong some rules → All (SidesFit d) rules → All (SidesFit d) some
  some_fit rules some given fit = All-weaker (Contains some) (SidesFit d) (λ rule c. All-contains (SidesFit d) rules rule fit (given rule c)) some (All-contains_itself some)

-- the sides of given rules fit
module _ (r : Rewriting) (good : IsGood r.signature) (completed : IsCompleted r.signature) (usable : AreUsable r.signature r.rules) (lawful : RulesAreLawful) where
  abbrev d : Declarations
  d = r.signature

  abbrev rules : RuleLaws d (equations_by r)
  rules = lawful d good completed (equations_by r) (λ e i. (usable.admissible e i).kinded.kinds)

  abbrev used : AreUsed d (equations_by r) r.rules
  used = used_by r good completed usable

  pub rules_fit : All (SidesFit d) r.rules.rules
  rules_fit = All-weaker (Contains r.rules.rules) (SidesFit d) fits r.rules.rules (All-contains_itself r.rules.rules)
    where
      fits : (rule : Rule) → Contains r.rules.rules rule → SidesFit d rule
      fits rule c = record { left = left_fits d r.rules used rules rule c; right = right_fits d r.rules used rules rule c }
