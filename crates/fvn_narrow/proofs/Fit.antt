-- What is met in a turn fits, and part and left side have one kind.
use Rattle.std.proofs.Common.{◌≡◌, ◌≤◌, ℕ, true, false, List, [], ◌∷◌, Some, sym, ◌∙◌, subst, inl, inr, arith}
use Rattle.std.specs.Prelude.{Contains, slice_get}
use Rattle.std.proofs.lemmas.Option.{slice_get_within, get_or_from_slice_get}
use Rattle.std.proofs.lemmas.List.Elements.{All-contains, All-from_recursion}
use Rattle.fvn_base.proofs.Membership.{contains_map}
use Rattle.fvn_terms.specs.declared.plain.OpId.{OpId}
use Rattle.fvn_terms.specs.declared.plain.SortId.{SortId}
use Rattle.fvn_terms.specs.declared.declarations.Rank.{Rank}
use Rattle.fvn_terms.specs.declared.declarations.Declarations.{Declarations}
use Rattle.fvn_terms.specs.Term.{Term, var}
use Rattle.fvn_terms.specs.Signature.{kind, declared, HasKind}
use Rattle.fvn_terms.specs.declared.plain.Var.{Var}
use Rattle.fvn_terms.specs.Substitution.{apply, Occurs}
use Rattle.fvn_terms.specs.Equality.{two}
use Rattle.fvn_forms.specs.Flat.{FlatTerm, fvar, fapp, fnone, fmore, plain}
use Rattle.fvn_forms.specs.Settled.{Settled}
use Rattle.fvn_forms.specs.FitsKinds.{FitsKinds}
use Rattle.fvn_forms.specs.Good.{IsGood}
use Rattle.fvn_forms.proofs.Eval.{canon_settled}
use Rattle.fvn_flat.specs.Fits.{Fits, AllFit}
use Rattle.fvn_flat.specs.Forms.{head_of, args_of}
use Rattle.fvn_flat.specs.Rules.{IsRuleFrom, IsRuleOf}
use Rattle.fvn_flat.proofs.Fitting.{args_fit}
use Rattle.fvn_cover.specs.declared.variant.Variant.{Variant}
use Rattle.fvn_rewrite_laws.specs.Laws.{RuleLaws}
use Rattle.fvn_theory.specs.Equations.{sides_of}
use Rattle.fvn_rewrite.specs.Usable.{Rewriting, AreUsable, equations_by}
use Rattle.fvn_rewrite_rules.specs.declared.rule.Rule.{Rule}
use Rattle.fvn_rewrite_rules.specs.Given.{headed, HasOldVariables, IsNumberedRule}
use Rattle.fvn_places.specs.Paths.{LeadsTo}
use Rattle.fvn_places.specs.Putting.{KeepsKindsOf}
use Rattle.fvn_narrow.specs.inner.Turns.{Turn, put_in, CanStandBeside, IsTurnAt, IsMeetingAt}
use Rattle.fvn_narrow.proofs.Turning.{IsFitTurn}
use Rattle.fvn_narrow.proofs.Beside.{part_fits, occurs_in_whole, given_fits, given_keeps, given_occurs, can_stand}

item_in : {A : Type 0} (l : List A) (i : ℕ) (a : A) → slice_get l i ≡ Some a → Contains l a
item_in l i a e = (i, slice_get_within l i a e, get_or_from_slice_get l i a a e)

fits_in : {d : Declarations} (l : List FlatTerm) (t : FlatTerm) → AllFit d l → Contains l t → Fits d t
fits_in {d} l t h c = All-contains (Fits d) l t (All-from_recursion (Fits d) l h) c

module _ (d : Declarations) (fits : FitsKinds d) where
  -- what stands at the end of a path fits
  pub path_fits : (path : List ℕ) (t at : FlatTerm) → Fits d t → LeadsTo path t at → Fits d at
  path_fits [] t at h e = subst (Fits d) e h
  path_fits (i ∷ path) t at h l = path_fits path l.0 at (fits_in (args_of t) l.0 (args_fit t d fits h) (item_in (args_of t) i l.0 l.1)) l.2

  -- a form has the kind that its head gives
  record HasRank (f : OpId) (k : SortId) : Type 0 where
    rank : Rank
    listed : Contains (declared d f).ranks rank
    result : kind d rank.result ≡ k

  rank_of_head : (f : OpId) (t : FlatTerm) → Settled d t → head_of t ≡ Some f → (k : SortId) → HasKind d (plain t) k → HasRank f k
  rank_of_head f (fvar x) s e k h = cc
  rank_of_head f (fapp g true fnone) s e k h = let n : 2 ≤ 0 = s.0.two_or_more in absurd (omega arith)
  rank_of_head f (fapp g true (fmore t fnone)) s e k h = let n : 2 ≤ 1 = s.0.two_or_more in absurd (omega arith)
  rank_of_head f (fapp g true (fmore t (fmore w ws))) s e k h = let q : g ≡ f = cc in subst (λ o. HasRank o k) q record { rank = h.rank; listed = h.listed; result = h.result }
  rank_of_head f (fapp g false ts) s e k h = let q : g ≡ f = cc in subst (λ o. HasRank o k) q record { rank = h.rank; listed = h.listed; result = h.result }

  -- so two forms with one head have one kind
  pub one_kind : (f : OpId) (t u : FlatTerm) → Settled d t → Settled d u → head_of t ≡ Some f → head_of u ≡ Some f → (k q : SortId) → HasKind d (plain t) k → HasKind d (plain u) q → k ≡ q
  one_kind f t u st su et eu k q h j =
      let a = rank_of_head f t st et k h in
      let b = rank_of_head f u su eu q j in
      sym a.result ∙ (fits.agree f a.rank b.rank a.listed b.listed).1 ∙ b.result

rule_settled : (d : Declarations) (equation : Term × Term) (l r : FlatTerm) → IsRuleFrom d equation l r → Settled d l × Settled d r
rule_settled d equation l r (inl i) = (subst (Settled d) (sym i.left) (canon_settled d (apply i.by equation.0)), subst (Settled d) (sym i.right) (canon_settled d (apply i.by equation.1)))
rule_settled d equation l r (inr e) = (
  subst (Settled d) (sym e.left) (canon_settled d (two e.operator (plain e.inner_left) (var e.beside))),
  subst (Settled d) (sym e.right) (canon_settled d (two e.operator (plain e.inner_right) (var e.beside))),
)

module _ (r : Rewriting) (good : IsGood r.signature) (usable : AreUsable r.signature r.rules) (rules : RuleLaws r.signature (equations_by r)) where
  abbrev d : Declarations
  d = r.signature

  numbered : (rule : Rule) → Contains r.rules.rules rule → IsNumberedRule d r.rules.equations rule
  numbered rule listed = All-contains (IsNumberedRule d r.rules.equations) r.rules.rules rule usable.rules.sound listed

  is_rule : (rule : Rule) → Contains r.rules.rules rule → IsRuleOf d (equations_by r) rule.left rule.right
  is_rule rule listed =
      let n = numbered rule listed in
      (sides_of n.equation, contains_map sides_of r.rules.equations n.equation (item_in r.rules.equations n.before n.equation n.is), n.made)

  -- the left side of a rule fits
  pub left_side_fits : (rule : Rule) → Contains r.rules.rules rule → Fits d rule.left
  left_side_fits rule listed =
      let n = numbered rule listed in
      let sides = rules.kinds rule.left rule.right (is_rule rule listed) in
      record { flat = (rule_settled d (sides_of n.equation) rule.left rule.right n.made).0; kinded = (sides.kind, sides.left) }

  -- so does that of a needed one
  pub needed_fits : (f : OpId) (rule : Rule) → Contains (headed r.rules f) rule → Fits d rule.left
  needed_fits f rule needed = left_side_fits rule (usable.rules.given f rule needed).0

  -- a needed rule is one of all, and its left side has the head under which it is needed
  pub meeting_of : (v : Variant) (at : FlatTerm) (turn : Turn) → IsTurnAt r v at turn → IsMeetingAt r v at turn
  meeting_of v at turn t =
      let given = usable.rules.given t.operator turn.rule t.needed in record {
        term = t.term;
        is = t.is;
        whole = t.whole;
        leads = t.leads;
        part = t.part;
        left = t.left;
        operator = t.operator;
        heads = t.heads;
        listed = given.0;
        left_heads = given.1;
      }

  module _ (v : Variant) (terms : AllFit r.signature v.terms) (at : FlatTerm) (turn : Turn) (t : IsMeetingAt r v at turn) where
    whole_fits : Fits d t.whole
    whole_fits = path_fits d good.fits turn.path t.term t.whole (fits_in v.terms t.term terms (item_in v.terms turn.member t.term t.is)) t.leads

    at_fits : Fits d at
    at_fits = part_fits d good t.whole at whole_fits turn.beside t.part

    pub at_within : (x : Var) → Occurs x (plain at) → Occurs x (plain t.whole)
    at_within x o = occurs_in_whole d good t.whole at whole_fits turn.beside t.part x o

    module _ (left_flat : Settled d turn.rule.left) (rule : IsRuleOf d (equations_by r) turn.rule.left turn.rule.right) where
      -- part, left side and right side have one kind
      kinds_agree : (k : SortId) → HasKind d (plain at) k → HasKind d (plain turn.rule.left) k × HasKind d (plain turn.rule.right) k
      kinds_agree k h =
          let sides = rules.kinds turn.rule.left turn.rule.right rule in
          let e : sides.kind ≡ k = one_kind d good.fits t.operator turn.rule.left at left_flat at_fits.flat t.left_heads t.heads sides.kind k sides.left h in
          (subst (HasKind d (plain turn.rule.left)) e sides.left, subst (HasKind d (plain turn.rule.right)) e sides.right)

    left_settled : Settled d turn.rule.left
    left_settled = let n = numbered turn.rule t.listed in (rule_settled d (sides_of n.equation) turn.rule.left turn.rule.right n.made).0

    right_settled : Settled d turn.rule.right
    right_settled = let n = numbered turn.rule t.listed in (rule_settled d (sides_of n.equation) turn.rule.left turn.rule.right n.made).1

    rule_here : IsRuleOf d (equations_by r) turn.rule.left turn.rule.right
    rule_here = is_rule turn.rule t.listed

    pub same_kind : (k : SortId) → HasKind d (plain at) k → HasKind d (plain turn.rule.left) k × HasKind d (plain turn.rule.right) k
    same_kind = kinds_agree left_settled rule_here

    right_keeps : KeepsKindsOf d at turn.rule.right
    right_keeps k h = (same_kind k h).1

    right_fit : Fits d turn.rule.right
    right_fit = let k = rules.kinds turn.rule.left turn.rule.right rule_here in record { flat = right_settled; kinded = (k.kind, k.right) }

    pub fit_turn : IsFitTurn r v at turn
    fit_turn =
        let k = rules.kinds turn.rule.left turn.rule.right rule_here in record {
          turn_is = t;
          rule = rule_here;
          old = All-contains HasOldVariables r.rules.rules turn.rule usable.rules.old t.listed;
          whole_fits = whole_fits;
          at_fits = at_fits;
          left_fits = record { flat = left_settled; kinded = (k.kind, k.left) };
          right_fits = right_fit;
          given_fits = given_fits d good t.whole at whole_fits turn.rule.right right_fit right_keeps turn.beside t.part;
          given_occurs = given_occurs d good t.whole at whole_fits turn.rule.right right_fit right_keeps turn.beside t.part;
          within = at_within;
        }

    -- what is put in place of the form keeps its kind
    pub put_keeps : KeepsKindsOf d t.whole (put_in d turn)
    put_keeps = given_keeps d good t.whole at whole_fits turn.rule.right right_fit right_keeps turn.beside t.part

    -- and is made with what stands there
    pub right_stands : CanStandBeside d turn.beside turn.rule.right
    right_stands = can_stand d good t.whole at whole_fits turn.rule.right right_fit right_keeps turn.beside t.part t.left
