-- What is promised of the rules, from what was made.
use Rattle.std.proofs.Common.{◌≡◌, ◌⊎◌, ◌<◌, ◌≤◌, ℕ, List, [], length, get_or, Some, None, sym, ap, ◌∙◌, subst, inl, inr, arith}
use Rattle.std.specs.Prelude.{All, AllPairs, slice_get}
use Rattle.std.specs.List.{Contains}
use Rattle.std.proofs.lemmas.Bool.{cases_lt}
use Rattle.std.proofs.lemmas.List.{get_or_past}
use Rattle.std.proofs.lemmas.List.Elements.{All-contains}
use Rattle.std.proofs.lemmas.Option.{slice_get-get_or, slice_get_cases}
use Rattle.fvn_base.proofs.Membership.{contains_none, contains_map, map_contains}
use Rattle.fvn_terms.specs.declared.plain.OpId.{OpId}
use Rattle.fvn_terms.specs.declared.declarations.Rank.{Rank}
use Rattle.fvn_terms.specs.declared.declarations.Declarations.{Declarations}
use Rattle.fvn_terms.specs.Term.{Term, var, app}
use Rattle.fvn_terms.specs.Substitution.{apply}
use Rattle.fvn_terms.specs.Equality.{two}
use Rattle.fvn_terms.specs.Signature.{unknown, declared, HasKind}
use Rattle.fvn_forms.specs.Flat.{FlatTerm, plain}
use Rattle.fvn_forms.specs.Settled.{Settled}
use Rattle.fvn_forms.proofs.Eval.{canon_settled}
use Rattle.fvn_flat.specs.Forms.{head_of}
use Rattle.fvn_flat.specs.Rules.{IsRuleFrom}
use Rattle.fvn_theory.specs.declared.equation.Equation.{Equation}
use Rattle.fvn_theory.specs.Equations.{sides_of, equations_of, IsReadableEquation}
use Rattle.fvn_rewrite_laws.specs.Kinds.{HasOneKind, HaveOneKind}
use Rattle.fvn_rewrite_laws.specs.Laws.{RuleLaws}
use Rattle.fvn_rewrite_rules.specs.declared.rule.Rule.{Rule}
use Rattle.fvn_rewrite_rules.specs.Given.{RuleLists, HasOldVariables, IsNumberedRule, HaveNoInstances, AreGivenUnder, AreEnoughUnder, AreApartUnder, AreRules}
use Rattle.fvn_rewrite_rules.specs.inner.Making.{IsKindedRule}
use Rattle.fvn_rewrite_rules.specs.inner.Collecting.{AreRulesUpTo}
use Rattle.fvn_rewrite_rules.specs.inner.Heads.{IsTable}
use Rattle.fvn_rewrite_rules.proofs.General.{HasInstance-trans}
use Rattle.fvn_rewrite_rules.proofs.Collecting.{All-contained}
use Rattle.fvn_rewrite_rules.proofs.Wide.{head_app}

-- an element that is got
pub got_contained : {X : Type 0} (xs : List X) (i : ℕ) (x : X) → slice_get xs i ≡ Some x → Contains xs x
got_contained {X} xs i x e = go (slice_get_cases xs i).1 where
  go : ((y : X) × (i < length xs) × (slice_get xs i ≡ Some y) × (get_or xs i y ≡ y)) ⊎ ((length xs ≤ i) × (slice_get xs i ≡ None)) → Contains xs x
  go (inl w) =
      let s : Some w.0 ≡ Some x = sym w.2 ∙ e in
      let is : w.0 ≡ x = cc in
      subst (Contains xs) is (i, w.1, w.3)
  go (inr w) = cc

-- the sides of equations have one kind
pub kinds_of : (d : Declarations) (equations : List Equation) → All (IsReadableEquation d) equations → HaveOneKind d (equations_of equations)
kinds_of d equations all sides c =
    let w = map_contains sides_of equations sides c in
    let r = All-contains (IsReadableEquation d) equations w.0 all w.1.0 in
    subst (HasOneKind d) w.1.1 (record { kind = r.kind; left = r.left; right = r.right })

module _ (d : Declarations) where
  -- the sides of a rule are flat
  settled_sides : (equation : Term × Term) (l r : FlatTerm) → IsRuleFrom d equation l r → Settled d l × Settled d r
  settled_sides equation l r (inl i) = (subst (Settled d) (sym i.left) (canon_settled d (apply i.by equation.0)), subst (Settled d) (sym i.right) (canon_settled d (apply i.by equation.1)))
  settled_sides equation l r (inr e) = (
    subst (Settled d) (sym e.left) (canon_settled d (two e.operator (plain e.inner_left) (var e.beside))),
    subst (Settled d) (sym e.right) (canon_settled d (two e.operator (plain e.inner_right) (var e.beside))),
  )

  -- an operator that heads a term is one of the signature
  operator_known : (f : OpId) (t : FlatTerm) → Settled d t → head_of t ≡ Some f → (k : _) → HasKind d (plain t) k → f.0 < length d.ops
  operator_known f t h e k j =
      let w = head_app d t f h e in
      let r : HasKind d (app f w.0) k = subst (λ u. HasKind d u k) w.1 j in
      go r.rank r.listed
    where
      go : (r : Rank) → Contains (declared d f).ranks r → f.0 < length d.ops
      go r c = elim (cases_lt f.0 (length d.ops)) as (λ _. f.0 < length d.ops) [
        | inl l ↦ l
        | inr m ↦ absurd (contains_none r (subst (λ (o : _). Contains o.ranks r) (get_or_past d.ops f.0 unknown m) c))
      ]

  module _ (equations : List Equation) (laws : RuleLaws d (equations_of equations)) (rules : List Rule) (made : AreRulesUpTo d equations (length equations) rules) where
    rule_kinded : (rule : Rule) → Contains rules rule → IsKindedRule d rule
    rule_kinded rule c =
        let n = made.sound rule c in
        let s = settled_sides (sides_of n.equation) rule.left rule.right n.made in
        record {
          kinds = laws.kinds rule.left rule.right (sides_of n.equation, contains_map sides_of equations n.equation (got_contained equations n.before n.equation n.is), n.made);
          left = s.0;
          right = s.1;
        }

    pub all_kinded : All (IsKindedRule d) rules
    all_kinded = All-contained (IsKindedRule d) rules rule_kinded

    module _ (table : List (List Rule)) (tabled : IsTable d rules table) where
      abbrev lists : RuleLists
      lists = record { equations = equations; rules = rules; table = table }

      given_under : (f : OpId) → AreGivenUnder d lists f
      given_under f rule c = elim (cases_lt f.0 (length table)) as (λ _. Contains rules rule × (head_of rule.left ≡ Some f)) [
        | inl lt ↦ (tabled.needed f (subst (λ n. f.0 < n) tabled.all lt)).given rule c
        | inr m ↦ absurd (contains_none rule (subst (λ l. Contains l rule) (get_or_past table f.0 [] m) c))
      ]

      enough_under : (f : OpId) → AreEnoughUnder d lists f
      enough_under f l r w h =
          let e = map_contains sides_of equations w.0 w.1 in
          let c : Contains equations e.0 = e.1.0 in
          let got = slice_get-get_or equations c.0 e.0 c.1 ∙ ap Some c.2 in
          let g = made.complete c.0 e.0 l r c.1 got (subst (λ s. IsRuleFrom d s l r) (sym e.1.1) w.2) in
          let rule : Rule = g.0 in
          let stands = g.1.1.1 in
          let kinded = rule_kinded rule g.1.0 in
          let heads = stands.head ∙ h in
          let known = operator_known f rule.left kinded.left heads kinded.kinds.kind kinded.kinds.left in
          let n = (tabled.needed f known).enough rule g.1.0 heads in
          (n.0, (n.1.0, HasInstance-trans d n.0 rule l n.1.1 stands.instance))

      apart_under : (f : OpId) → AreApartUnder d lists f
      apart_under f = elim (cases_lt f.0 (length table)) as (λ _. AreApartUnder d lists f) [
        | inl lt ↦ (tabled.needed f (subst (λ n. f.0 < n) tabled.all lt)).apart
        | inr m ↦ subst (AllPairs (HaveNoInstances d)) (sym (get_or_past table f.0 [] m)) (λ i j r lt within. absurd (omega (arith, within)))
      ]

      pub all_promises : AreRules d lists
      all_promises = record {
        sound = All-contained (IsNumberedRule d equations) rules made.sound;
        complete = λ before e l r is from.
            let g = made.complete before e l r (within before e is) is from in
            (g.0, (g.1.0, (g.1.1.0, g.1.1.1.renamed)));
        ordered = made.ordered;
        old = All-contained HasOldVariables rules made.old;
        given = given_under;
        enough = enough_under;
        apart = apart_under;
      }
        where
          within : (before : ℕ) (e : Equation) → slice_get equations before ≡ Some e → before < length equations
          within before e is = go (slice_get_cases equations before).1 where
            go : ((y : Equation) × (before < length equations) × (slice_get equations before ≡ Some y) × (get_or equations before y ≡ y)) ⊎ ((length equations ≤ before) × (slice_get equations before ≡ None)) → before < length equations
            go (inl w) = w.1
            go (inr w) = cc
