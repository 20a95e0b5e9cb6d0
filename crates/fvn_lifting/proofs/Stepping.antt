-- A narrowing step is a step of the instance by its unifier.
use Rattle.std.proofs.Common.{◌≡◌, ◌⊎◌, ◌∙◌, List, [], ◌∷◌, ◌++◌, map, None, Some, ap, sym, subst, inl, inr}
use Rattle.std.specs.List.{AllZip, All}
use Rattle.std.proofs.lemmas.List.Elements.{All-head}
use Rattle.fvn_base.specs.Decided.{Decided}
use Rattle.fvn_terms.specs.declared.plain.Var.{Var}
use Rattle.fvn_terms.specs.declared.plain.OpId.{OpId}
use Rattle.fvn_terms.specs.declared.plain.SortId.{SortId}
use Rattle.fvn_terms.specs.declared.declarations.Declarations.{Declarations}
use Rattle.fvn_terms.specs.Term.{Term}
use Rattle.fvn_terms.specs.Substitution.{Substitution, apply, followed_by, Occurs}
use Rattle.fvn_terms.specs.Signature.{HasKind}
use Rattle.fvn_terms.specs.Places.{stop}
use Rattle.fvn_terms.specs.Equality.{BEqual}
use Rattle.fvn_terms.specs.Sorts.{IsWellSorted}
use Rattle.fvn_terms.specs.Unifiers.{Problem}
use Rattle.fvn_terms.specs.Theory.{Equations}
use Rattle.fvn_terms.specs.Rewriting.{Rewrites, ListRewrites}
use Rattle.fvn_terms.specs.Laws.{RewritingLaws}
use Rattle.fvn_terms.proofs.Substitutions.{apply-apply}
use Rattle.fvn_terms.proofs.Equal.{HasKind-apply, BEqual-apply, BEqual-sym, BEqual-trans}
use Rattle.fvn_terms.proofs.WellSorted.{IsWellSorted-followed_by}
use Rattle.fvn_forms.specs.Flat.{FlatTerm, plain}
use Rattle.fvn_forms.specs.Canon.{canon}
use Rattle.fvn_forms.specs.Good.{IsGood}
use Rattle.fvn_forms.proofs.Eval.{canon_settled}
use Rattle.fvn_forms.proofs.KindsKept.{kind_unique, b_equal_keeps_kind}
use Rattle.fvn_forms.proofs.ToCanon.{to_canon}
use Rattle.fvn_flat.specs.Drawn.{Renaming, renamed}
use Rattle.fvn_flat.specs.Fits.{Fits, AllFit}
use Rattle.fvn_flat.specs.FlatPlaces.{Beside, IsPartOf, IsPartOfSum, with_beside}
use Rattle.fvn_flat.specs.Rules.{IsRuleOf}
use Rattle.fvn_flat.specs.Successors.{Narrowed, IsRenaming, renamed_form, IsStepFrom}
use Rattle.fvn_rewrite_laws.specs.Laws.{KindedLaws, RuleLaws}
use Rattle.fvn_rewrite_coherence.specs.Laws.{InstanceLaws}
use Rattle.fvn_lifting.specs.Lifted.{may_be_any, IsStepUnder}
use Rattle.fvn_lifting.proofs.Chosen.{occurs_or_not, either_or}
use Rattle.fvn_lifting.proofs.Parts.{place_fits, part_kind, whole_steps as whole_part_steps}
use Rattle.fvn_lifting.proofs.Renamed.{renaming_among, renaming_among_sorted, renaming_among_is, renamed_form_equal, renamed_form_kind}

-- a step with what some solver draws, as one for which any substitution may be drawn
pub any_step : (d : Declarations) (vars : List Var) (equations : Equations) (drawn : Problem → Substitution → Type 0) (v w : Narrowed) → IsStepFrom d vars equations drawn v w → IsStepFrom d vars equations may_be_any v w
any_step d vars equations drawn v w s = record {
  before = s.before;
  term = s.term;
  after = s.after;
  listed = s.listed;
  whole = s.whole;
  at = s.at;
  beside = s.beside;
  part = s.part;
  no_variable = s.no_variable;
  l = s.l;
  r = s.r;
  rule = s.rule;
  by = s.by;
  renames = s.renames;
  apart = s.apart;
  unifier = s.unifier;
  problem = s.problem;
  is_problem = s.is_problem;
  unifies = s.unifies;
  drawn_for = record {
    before = s.drawn_for.before;
    after = s.drawn_for.after;
    draw = s.drawn_for.draw;
    renames_problem = s.drawn_for.renames_problem;
    renames_values = s.drawn_for.renames_values;
    is_drawn = tt;
    equal = s.drawn_for.equal;
  };
  others_stay = s.others_stay;
  new = s.new;
  replaced = s.replaced;
  replaces = s.replaces;
  terms = s.terms;
  values = s.values;
}

-- the variables of a rule
abbrev AmongRule : FlatTerm → FlatTerm → Var → Type 0
AmongRule l r x = Occurs x (plain l) ⊎ Occurs x (plain r)

module _ (d : Declarations) (good : IsGood d) (equations : Equations) (rewriting : RewritingLaws d equations) (rules : RuleLaws d equations) where
  module _ (l r : FlatTerm) (rule : IsRuleOf d equations l r) (by : Renaming) (renames : IsRenaming (AmongRule l r) by) (u : Substitution) (sorted : IsWellSorted d u) where
    among_or_not : (x : Var) → Decided (AmongRule l r x)
    among_or_not x = either_or (occurs_or_not x (plain l)) (occurs_or_not x (plain r))

    abbrev names : Substitution
    names = renaming_among d (AmongRule l r) among_or_not by renames

    names_sorted : IsWellSorted d names
    names_sorted = renaming_among_sorted d (AmongRule l r) among_or_not by renames

    -- the instance of a renamed side
    side_equal : (t : FlatTerm) (k : SortId) → HasKind d (plain t) k → ((x : Var) → Occurs x (plain t) → AmongRule l r x) → BEqual d (apply (followed_by names u) (plain t)) (apply u (plain (renamed_form d by t)))
    side_equal t k h within =
        let is : apply u (renamed by (plain t)) ≡ apply (followed_by names u) (plain t) =
        ap (apply u) (sym (renaming_among_is d (AmongRule l r) among_or_not by renames (plain t) within)) ∙ apply-apply names u (plain t) in
        subst (λ a. BEqual d a (apply u (plain (renamed_form d by t)))) is
        (BEqual-apply d u sorted.0 (renamed_form_equal d (AmongRule l r) among_or_not by renames good t k h within))

    renamed_side_kind : (t : FlatTerm) (k : SortId) → HasKind d (plain t) k → ((x : Var) → Occurs x (plain t) → AmongRule l r x) → HasKind d (plain (renamed_form d by t)) k
    renamed_side_kind t k h within = renamed_form_kind d (AmongRule l r) among_or_not by renames good t k h within

    -- what the instance of the renamed left side is equal to steps to that of the renamed right side
    pub renamed_rule_steps : (a : Term) → BEqual d (apply u (plain (renamed_form d by l))) a → Rewrites d equations a (apply u (plain (renamed_form d by r)))
    renamed_rule_steps a e =
        let kinds = rules.kinds l r rule in
        rewriting.modulo (apply (followed_by names u) (plain l)) a (apply (followed_by names u) (plain r)) (apply u (plain (renamed_form d by r)))
        (BEqual-trans d (side_equal l kinds.kind kinds.left (λ x o. inl o)) e)
        (rules.steps l r rule (followed_by names u) (IsWellSorted-followed_by d names u names_sorted sorted))
        (side_equal r kinds.kind kinds.right (λ x o. inr o))

  module _ (kinded : KindedLaws d equations) (u : Substitution) (sorted : IsWellSorted d u) where
    -- the form of an instance stands for it
    form_equal : (t : FlatTerm) → Fits d t → BEqual d (apply u (plain t)) (plain (canon d (apply u (plain t))))
    form_equal t h = to_canon d good.fits (apply u (plain t)) h.kinded.0 (HasKind-apply d u sorted.0 (plain t) h.kinded.0 h.kinded.1)

    -- the forms of the instances of a list
    abbrev forms : List FlatTerm → List FlatTerm
    forms l = map (λ t. canon d (apply u (plain t))) l

    forms_equal : (l : List FlatTerm) → AllFit d l → AllZip (BEqual d) (map (apply u) (map plain l)) (map plain (forms l))
    forms_equal [] h = tt
    forms_equal (t ∷ l) h = (form_equal t h.0, forms_equal l h.1)

    module _ (term replaced : FlatTerm) (step : Rewrites d equations (apply u (plain term)) (apply u (plain replaced))) where
      member_steps : Fits d term → Rewrites d equations (apply u (plain term)) (plain (canon d (apply u (plain replaced))))
      member_steps h =
          let k = h.kinded.0 in
          let before = HasKind-apply d u sorted.0 (plain term) k h.kinded.1 in
          let after = kinded.steps (apply u (plain term)) (apply u (plain replaced)) step k before in
          rewriting.modulo (apply u (plain term)) (apply u (plain term)) (apply u (plain replaced)) (plain (canon d (apply u (plain replaced)))) stop step (to_canon d good.fits (apply u (plain replaced)) k after)

      -- a step of one member is one of the list
      pub list_steps : (before after : List FlatTerm) → AllFit d (before ++ term ∷ after) → ListRewrites d equations (map (apply u) (map plain (before ++ term ∷ after))) (map plain (forms (before ++ replaced ∷ after)))
      list_steps [] after h = inl (member_steps h.0, forms_equal after h.1)
      list_steps (t ∷ before) after h = inr (form_equal t h.0, list_steps before after h.1)

  module _ (kinded : KindedLaws d equations) (vars : List Var) (v w : Narrowed) (fits : AllFit d v.terms) (step : IsStepFrom d vars equations may_be_any v w)
      (laws : (t : FlatTerm) → Fits d t → InstanceLaws d equations t step.unifier) where
    abbrev u : Substitution
    u = step.unifier

    sorted : IsWellSorted d u
    sorted = step.unifies.0

    abbrev IsMade : Term × Term → Type 0
    IsMade p = BEqual d (apply u p.0) (apply u p.1)

    sides_meet : BEqual d (apply u (plain step.at)) (apply u (plain (renamed_form d step.by step.l)))
    sides_meet = All-head IsMade (plain step.at, plain (renamed_form d step.by step.l)) [] (subst (All IsMade) step.is_problem step.unifies.1)

    -- what is put in the place of the part
    abbrev given : FlatTerm
    given = renamed_form d step.by step.r

    part_steps : Rewrites d equations (apply u (plain step.at)) (apply u (plain given))
    part_steps = renamed_rule_steps step.l step.r step.rule step.by step.renames u sorted (apply u (plain step.at)) (BEqual-sym d sides_meet)

    fit_there : AllFit d (step.before ++ step.term ∷ step.after)
    fit_there = subst (AllFit d) step.listed fits

    term_fits : Fits d step.term
    term_fits = middle step.before step.after step.term fit_there where
      middle : (before after : List FlatTerm) (t : FlatTerm) → AllFit d (before ++ t ∷ after) → Fits d t
      middle [] after t h = h.0
      middle (x ∷ before) after t h = middle before after t h.1

    -- the kind of the right side is that of the part
    given_kind : (k : SortId) → HasKind d (plain step.at) k → HasKind d (plain given) k
    given_kind k h =
        let sides = rules.kinds step.l step.r step.rule in
        let left = renamed_side_kind step.l step.r step.rule step.by step.renames u sorted step.l sides.kind sides.left (λ x o. inl o) in
        let right = renamed_side_kind step.l step.r step.rule step.by step.renames u sorted step.r sides.kind sides.right (λ x o. inr o) in
        let there = b_equal_keeps_kind d good.fits sides_meet k (HasKind-apply d u sorted.0 (plain step.at) k h) in
        let same : sides.kind ≡ k = kind_unique d good.fits (apply u (plain (renamed_form d step.by step.l))) sides.kind k (HasKind-apply d u sorted.0 (plain (renamed_form d step.by step.l)) sides.kind left) there in
        subst (HasKind d (plain given)) same right

    sum_steps : (f : OpId) (others : List FlatTerm) → IsPartOfSum f others step.whole step.at → Rewrites d equations (apply u (plain step.whole)) (apply u (plain (with_beside d (Some (f, others)) given)))
    sum_steps f others p =
        let fits_there = place_fits d good step.whole (with_beside d step.beside given) step.replaces term_fits in
        let k = given_kind fits_there.kinded.0 (part_kind d good f others step.whole step.at p fits_there) in
        whole_part_steps d good f others step.whole step.at p fits_there equations rewriting u sorted given record { flat = canon_settled d (renamed step.by (plain step.r)); kinded = (fits_there.kinded.0, k) } k part_steps

    whole_steps : Rewrites d equations (apply u (plain step.whole)) (apply u (plain (with_beside d step.beside given)))
    whole_steps = go step.beside step.part where
      go : (b : Beside) → IsPartOf step.whole step.at b → Rewrites d equations (apply u (plain step.whole)) (apply u (plain (with_beside d b given)))
      go None e = subst (λ t. Rewrites d equations (apply u (plain t)) (apply u (plain given))) (sym e) part_steps
      go (Some sum) p = sum_steps sum.0 sum.1 p

    term_steps : Rewrites d equations (apply u (plain step.term)) (apply u (plain step.replaced))
    term_steps = (laws step.term term_fits).steps step.whole (with_beside d step.beside given) step.replaced step.replaces whole_steps

    pub is_step : IsStepUnder d vars equations v w u
    is_step = record {
      step =
          subst (λ l. ListRewrites d equations (map (apply u) (map plain l)) (map plain w.terms)) (sym step.listed)
          (subst (λ l. ListRewrites d equations (map (apply u) (map plain (step.before ++ step.term ∷ step.after))) (map plain l)) (sym step.terms)
          (list_steps kinded u sorted step.term step.replaced term_steps step.before step.after fit_there));
      same = λ x c. BEqual-sym d (step.values x c);
    }
