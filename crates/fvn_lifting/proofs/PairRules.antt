-- A needed rule that is met by two is a rule of the equations, so that the law of sums speaks of it.
use Rattle.std.proofs.Common.{◌≡◌, ◌≤◌, ℕ, true, false, List, [], ◌∷◌, None, Some, refl, sym, ◌∙◌, subst, inl, inr, arith}
use Rattle.std.specs.Prelude.{slice_get}
use Rattle.std.specs.List.{Contains}
use Rattle.std.proofs.lemmas.Option.{slice_get_within, get_or_from_slice_get}
use Rattle.std.proofs.lemmas.List.Elements.{All-contains}
use Rattle.fvn_base.proofs.Membership.{contains_map}
use Rattle.fvn_terms.specs.declared.plain.OpId.{OpId}
use Rattle.fvn_terms.specs.declared.declarations.Declarations.{Declarations}
use Rattle.fvn_terms.specs.Term.{Term, var, none}
use Rattle.fvn_terms.specs.Signature.{axioms, HaveKinds}
use Rattle.fvn_terms.specs.Substitution.{Substitution, apply}
use Rattle.fvn_terms.specs.Equality.{two, IsAssociative, identity}
use Rattle.fvn_terms.specs.Theory.{Equations}
use Rattle.fvn_terms.specs.Sorts.{IsWellSorted}
use Rattle.fvn_terms.specs.Rewriting.{IsReducible}
use Rattle.fvn_terms.specs.Laws.{RewritingLaws}
use Rattle.fvn_forms.specs.Flat.{FlatTerm, fvar, fapp, fnone, fmore, funpack, plain}
use Rattle.fvn_forms.specs.Settled.{Settled}
use Rattle.fvn_forms.specs.FitsKinds.{FitsKinds}
use Rattle.fvn_forms.specs.Good.{IsGood}
use Rattle.fvn_forms.proofs.Eval.{canon_settled}
use Rattle.fvn_theory.specs.Equations.{sides_of, equations_of}
use Rattle.fvn_flat.specs.Fits.{Fits}
use Rattle.fvn_flat.specs.Forms.{head_of, args_of}
use Rattle.fvn_flat.specs.FlatPlaces.{IsDivided}
use Rattle.fvn_flat.specs.Rules.{IsRuleFrom, IsRuleOf}
use Rattle.fvn_rewrite_laws.specs.Laws.{KindedLaws, RuleLaws}
use Rattle.fvn_rewrite_rules.specs.declared.rule.Rule.{Rule}
use Rattle.fvn_rewrite_rules.specs.Given.{RuleLists, AreRules, IsNumberedRule, headed}
use Rattle.fvn_lifting.specs.Meetings.{Meet}
use Rattle.fvn_lifting.specs.Pairs.{IsMetByTwo, IsMetBySome, IsMet, IsMetInPairs, IsReducibleInPart}
use Rattle.fvn_lifting.proofs.Singles.{summands, are_lowered}
use Rattle.fvn_lifting.proofs.Parting.{HasReduciblePair, two_fit, joined_kinded, two_kinded, of_lowered, pair_for_both}
use Rattle.fvn_lifting.proofs.PairSteps.{steps_in_part}

sides_settled : (d : Declarations) (equation : Term × Term) (l r : FlatTerm) → IsRuleFrom d equation l r → Settled d l
sides_settled d equation l r (inl i) = subst (Settled d) (sym i.left) (canon_settled d (apply i.by equation.0))
sides_settled d equation l r (inr e) = subst (Settled d) (sym e.left) (canon_settled d (two e.operator (plain e.inner_left) (var e.beside)))

-- a sum has some argument
record HasSome (t : FlatTerm) : Type 0 where
  argument : FlatTerm
  rest : List FlatTerm
  is : args_of t ≡ argument ∷ rest

has_some : (d : Declarations) → FitsKinds d → (f : OpId) → IsAssociative (axioms d f) → (t : FlatTerm) → Fits d t → head_of t ≡ Some f → HasSome t
has_some d kinds f assoc (fvar x) fits e = cc
has_some d kinds f assoc (fapp g true fnone) fits e = let n : 2 ≤ 0 = fits.flat.0.two_or_more in absurd (omega arith)
has_some d kinds f assoc (fapp g true (fmore t ts)) fits e = record { argument = t; rest = funpack ts; is = refl }
has_some d kinds f assoc (fapp g false fnone) fits e =
    let q : g ≡ f = cc in
    let h = fits.kinded.1 in
    absurd (subst (HaveKinds d none) (kinds.associative g h.rank (subst (λ o. IsAssociative (axioms d o)) (sym q) assoc) h.listed) h.args)
has_some d kinds f assoc (fapp g false (fmore t ts)) fits e = record { argument = t; rest = funpack ts; is = refl }

one_operator : (f g : OpId) → Some f ≡ Some g → f ≡ g
one_operator f g e = cc

item_in : {A : Type 0} (l : List A) (i : ℕ) (a : A) → slice_get l i ≡ Some a → Contains l a
item_in l i a e = (i, slice_get_within l i a e, get_or_from_slice_get l i a a e)

module _ (d : Declarations) (good : IsGood d) (lists : RuleLists) (given : AreRules d lists) (rewriting : RewritingLaws d (equations_of lists.equations)) (kinded : KindedLaws d (equations_of lists.equations)) (rules : RuleLaws d (equations_of lists.equations)) where
  abbrev equations : Equations
  equations = equations_of lists.equations

  module _ (f : OpId) (rule : Rule) (listed : Contains (headed lists f) rule) where
    numbered : IsNumberedRule d lists.equations rule
    numbered = All-contains (IsNumberedRule d lists.equations) lists.rules rule given.sound (given.given f rule listed).0

    is_rule : IsRuleOf d equations rule.left rule.right
    is_rule = let n = numbered in (sides_of n.equation, contains_map sides_of lists.equations n.equation (item_in lists.equations n.before n.equation n.is), n.made)

    left_settled : Settled d rule.left
    left_settled = let n = numbered in sides_settled d (sides_of n.equation) rule.left rule.right n.made

    heads_left : head_of rule.left ≡ Some f
    heads_left = (given.given f rule listed).1

  -- the law, at one operator
  module _ (at : FlatTerm) (fits : Fits d at) (f : OpId) (heads : head_of at ≡ Some f) (rule : Rule) (listed : Contains (headed lists f) rule) (met : IsMetInPairs d lists rule) (s by : Substitution) (meet : Meet d (plain at) (plain rule.left) s by) where
    same : met.operator ≡ f
    same = one_operator met.operator f (sym met.heads ∙ heads_left f rule listed)

    needed : Contains (headed lists f) met.inner
    needed = subst (λ o. Contains (headed lists o) met.inner) same met.needed

    left_fits : (some : Rule) → Contains (headed lists f) some → Fits d some.left
    left_fits some i = let kinds = rules.kinds some.left some.right (is_rule f some i) in record { flat = left_settled f some i; kinded = (kinds.kind, kinds.left) }

    inner_fits : Fits d met.inner.left
    inner_fits = left_fits met.inner needed

    inner_steps : (c : Substitution) → IsWellSorted d c → IsReducible d equations (apply c (plain met.inner.left))
    inner_steps c sorted = (apply c (plain met.inner.right), rules.steps met.inner.left met.inner.right (is_rule f met.inner needed) c sorted)

    -- two of the rule's summands, one of each of which are reducible as a sum
    module _ (assoc : IsAssociative (axioms d f)) (no_identity : identity (axioms d f) ≡ None) (first second : FlatTerm) (two : args_of met.inner.left ≡ first ∷ second ∷ [])
        (found : HasReduciblePair d equations f inner_fits.kinded.0 (summands d good f assoc no_identity by first) (summands d good f assoc no_identity by second)) where
      some_argument : HasSome at
      some_argument = has_some d good.fits f assoc at fits heads

      steps : IsReducibleInPart d equations f at s
      steps =
          steps_in_part d good equations rewriting kinded f assoc no_identity inner_fits.kinded.0 found.pair s meet.left at some_argument.argument some_argument.rest fits heads some_argument.is first second by found.had_first found.had_second
          rule.left (left_settled f rule listed) (heads_left f rule listed) met.others (subst (λ l. IsDivided (args_of rule.left) l met.others) two met.among) meet.equal

    by_two : IsMetByTwo d f met.inner.left → IsReducibleInPart d equations f at s
    by_two t =
        let fit = two_fit d good f t.associative t.no_identity met.inner.left t.first t.second inner_fits t.heads t.are_two in
        let joined = joined_kinded d good f t.associative t.no_identity met.inner.left t.first t.second inner_fits t.heads t.are_two in
        let kinds = two_kinded d good f t.associative t.no_identity met.inner.left t.first t.second inner_fits t.heads t.are_two in
        let low = are_lowered d good f t.associative t.no_identity joined.rank joined.listed inner_fits.kinded.0 joined.result t.first t.second fit.0.flat fit.1.0.flat kinds.0 kinds.1.0 t.by_first t.by_second by meet.right in
        steps t.associative t.no_identity t.first t.second t.are_two
        (of_lowered d good f t.associative t.no_identity equations met.inner.left t.first t.second inner_fits t.heads t.are_two inner_steps by low)

    by_some : IsMetBySome d equations f met.inner.left → IsReducibleInPart d equations f at s
    by_some t = steps t.associative t.no_identity (fvar t.variable) t.form t.are_two (pair_for_both d good equations rewriting f met.inner.left inner_fits inner_steps t by meet.right)

    pub sum_steps : IsReducibleInPart d equations f at s
    sum_steps = go (subst (λ o. IsMet d equations o met.inner.left) same met.met) where
      go : IsMet d equations f met.inner.left → IsReducibleInPart d equations f at s
      go (inl t) = by_two t
      go (inr t) = by_some t
