-- Given rules: they are rules of the equations, fit, and have old variables.
use Rattle.std.proofs.Common.{◌≡◌, ◌≤◌, ℕ, true, false, List, [], ◌∷◌, Some, inl, inr, sym, ◌∙◌, subst, arith}
use Rattle.std.specs.Prelude.{Contains}
use Rattle.std.proofs.lemmas.List.Elements.{All-contains, All-from_recursion}
use Rattle.fvn_terms.specs.declared.plain.Var.{Var}
use Rattle.fvn_terms.specs.declared.plain.OpId.{OpId}
use Rattle.fvn_terms.specs.declared.plain.SortId.{SortId}
use Rattle.fvn_terms.specs.declared.declarations.Rank.{Rank}
use Rattle.fvn_terms.specs.declared.declarations.Declarations.{Declarations}
use Rattle.fvn_terms.specs.Term.{Term, var}
use Rattle.fvn_terms.specs.Signature.{kind, declared, HasKind}
use Rattle.fvn_terms.specs.Substitution.{apply, Occurs}
use Rattle.fvn_terms.specs.Equality.{two}
use Rattle.fvn_terms.specs.Rewriting.{BringsNoVariable}
use Rattle.fvn_terms.specs.Theory.{Equations}
use Rattle.fvn_forms.specs.Flat.{FlatTerm, FlatTerms, fvar, fapp, fnone, fmore, plain, plain_all}
use Rattle.fvn_forms.specs.Settled.{Settled}
use Rattle.fvn_forms.specs.FitsKinds.{FitsKinds}
use Rattle.fvn_forms.proofs.Eval.{canon_settled}
use Rattle.fvn_flat.specs.Fits.{Fits, AllFit}
use Rattle.fvn_flat.specs.FlatPlaces.{IsReplaced, IsReplacedAmong, here, inside, first, later}
use Rattle.fvn_flat.specs.Forms.{head_of, args_of}
use Rattle.fvn_flat.specs.Rules.{IsRuleFrom, IsRuleOf}
use Rattle.fvn_flat.proofs.Fitting.{args_fit}
use Rattle.fvn_flat.proofs.Occurrences.{occurs_in_app}
use Rattle.fvn_terms.specs.Substitution.{OccursAmong}
use Rattle.fvn_rewrite_laws.specs.Kinds.{HasOneKind}
use Rattle.fvn_rewrite_laws.specs.Laws.{RuleLaws}
use Rattle.fvn_theory.specs.Equations.{sides_of, equations_of}
use Rattle.fvn_rewrite_rules.specs.declared.rule.Rule.{Rule}
use Rattle.fvn_rewrite_rules.specs.Given.{RuleLists, HasOldVariables, IsNumberedRule, IsRenamedRule}
use Rattle.fvn_places.specs.Paths.{LeadsTo}
use Rattle.fvn_lifting.specs.Laws.{AreUsed}
use Rattle.fvn_critical_pairs.proofs.Single.{item_in, sides_listed, listed_at}

fits_in : {d : Declarations} (l : List FlatTerm) (t : FlatTerm) → AllFit d l → Contains l t → Fits d t
fits_in {d} l t h c = All-contains (Fits d) l t (All-from_recursion (Fits d) l h) c

-- what occurs in a part occurs in the whole
mutual
  pub occurs_in_part : (x : Var) {at given t w : FlatTerm} → IsReplaced at given t w → Occurs x (plain at) → Occurs x (plain t)
  occurs_in_part x here o = o
  occurs_in_part x (inside {f} {joined} {ts} r) o = (occurs_in_app x f joined ts).1 (occurs_among_parts x r o)

  occurs_among_parts : (x : Var) {at given : FlatTerm} {ts us : FlatTerms} → IsReplacedAmong at given ts us → Occurs x (plain at) → OccursAmong x (plain_all ts)
  occurs_among_parts x (first r) o = inl (occurs_in_part x r o)
  occurs_among_parts x (later r) o = inr (occurs_among_parts x r o)

module _ (d : Declarations) (fits : FitsKinds d) where
  -- what stands at the end of a path fits
  pub path_fits : (path : List ℕ) (t at : FlatTerm) → Fits d t → LeadsTo path t at → Fits d at
  path_fits [] t at h e = subst (Fits d) e h
  path_fits (i ∷ path) t at h l = path_fits path l.0 at (fits_in (args_of t) l.0 (args_fit t d fits h) (item_in (args_of t) i l.0 l.1)) l.2

  -- a form has the kind that its head gives
  record HasRank (f : OpId) (k : SortId) : Type 0 where
    rank : Rank
    listed : Contains (declared d f).ranks rank
    result : kind d rank.result ≡ k

  rank_of_head : (f : OpId) (t : FlatTerm) → Settled d t → head_of t ≡ Some f → (k : SortId) → HasKind d (plain t) k → HasRank f k
  rank_of_head f (fvar x) s e k h = cc
  rank_of_head f (fapp g true fnone) s e k h = let n : 2 ≤ 0 = s.0.two_or_more in absurd (omega arith)
  rank_of_head f (fapp g true (fmore t fnone)) s e k h = let n : 2 ≤ 1 = s.0.two_or_more in absurd (omega arith)
  rank_of_head f (fapp g true (fmore t (fmore w ws))) s e k h = let q : g ≡ f = cc in subst (λ o. HasRank o k) q record { rank = h.rank; listed = h.listed; result = h.result }
  rank_of_head f (fapp g false ts) s e k h = let q : g ≡ f = cc in subst (λ o. HasRank o k) q record { rank = h.rank; listed = h.listed; result = h.result }

  -- so two forms with one head have one kind
  pub one_kind : (f : OpId) (t u : FlatTerm) → Settled d t → Settled d u → head_of t ≡ Some f → head_of u ≡ Some f → (k q : SortId) → HasKind d (plain t) k → HasKind d (plain u) q → k ≡ q
  one_kind f t u st su et eu k q h j =
      let a = rank_of_head f t st et k h in
      let b = rank_of_head f u su eu q j in
      sym a.result ∙ (fits.agree f a.rank b.rank a.listed b.listed).1 ∙ b.result

rule_settled : (d : Declarations) (equation : Term × Term) (l r : FlatTerm) → IsRuleFrom d equation l r → Settled d l × Settled d r
rule_settled d equation l r (inl i) = (subst (Settled d) (sym i.left) (canon_settled d (apply i.by equation.0)), subst (Settled d) (sym i.right) (canon_settled d (apply i.by equation.1)))
rule_settled d equation l r (inr e) = (
  subst (Settled d) (sym e.left) (canon_settled d (two e.operator (plain e.inner_left) (var e.beside))),
  subst (Settled d) (sym e.right) (canon_settled d (two e.operator (plain e.inner_right) (var e.beside))),
)

module _ (d : Declarations) (lists : RuleLists) (used : AreUsed d (equations_of lists.equations) lists) (rules : RuleLaws d (equations_of lists.equations)) where
  abbrev equations : Equations
  equations = equations_of lists.equations

  none_brought : BringsNoVariable equations
  none_brought left right i x o = (used.admissible (left, right) i).kinded.brings_none x o

  -- both sides of a rule of the equations fit
  pub sides_fit : (l r : FlatTerm) → IsRuleOf d equations l r → Fits d l × Fits d r
  sides_fit l r rule =
      let s = rule_settled d rule.0 l r rule.2 in
      let k = rules.kinds l r rule in
      (record { flat = s.0; kinded = (k.kind, k.left) }, record { flat = s.1; kinded = (k.kind, k.right) })

  -- each rule of the equations is a given one, up to a renaming
  pub given_rule : (l r : FlatTerm) → IsRuleOf d equations l r → (rule : Rule) × (Contains lists.rules rule × IsRenamedRule d l r rule)
  given_rule l r rule =
      let e = listed_at lists.equations rule.0 rule.1 in
      let g = used.rules.complete e.before e.equation l r e.is (subst (λ p. IsRuleFrom d p l r) (sym e.same) rule.2) in
      (g.0, (g.1.0, g.1.1.1))

  module _ (rule : Rule) (given : Contains lists.rules rule) where
    pub numbered : IsNumberedRule d lists.equations rule
    numbered = All-contains (IsNumberedRule d lists.equations) lists.rules rule used.rules.sound given

    pub is_rule : IsRuleOf d equations rule.left rule.right
    is_rule = (sides_of numbered.equation, sides_listed lists.equations numbered.before numbered.equation numbered.is, numbered.made)

    pub old : HasOldVariables rule
    old = All-contains HasOldVariables lists.rules rule used.rules.old given

    pub left_fits : Fits d rule.left
    left_fits = (sides_fit rule.left rule.right is_rule).0

    pub right_fits : Fits d rule.right
    right_fits = (sides_fit rule.left rule.right is_rule).1

    pub sides_of_kind : HasOneKind d (plain rule.left, plain rule.right)
    sides_of_kind = rules.kinds rule.left rule.right is_rule

    pub brings_none : (x : Var) → Occurs x (plain rule.right) → Occurs x (plain rule.left)
    brings_none = rules.variables none_brought rule.left rule.right is_rule
