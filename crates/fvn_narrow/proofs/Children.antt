-- What a unifier makes of a variant is a child by one step.
use Rattle.std.proofs.Common.{◌≡◌, ◌<◌, ◌+◌, ℕ, suc, List, [], ◌∷◌, ◌++◌, map, take, drop, length, None, Some, refl, sym, ap, ◌∙◌, subst, inl, inr, arith}
use Rattle.std.specs.Prelude.{◌⊎◌, Option, All, Any, Contains, slice_get}
use Rattle.std.specs.List.{AllZip, AllByRecursion}
use Rattle.std.proofs.lemmas.List.{length-map}
use Rattle.std.proofs.lemmas.List.Elements.{All-nil, All-head, All-contains, All-from_recursion, length_all_zip, Contains-append_left, Contains-append_right, Contains-append_cases}
use Rattle.std.proofs.lemmas.Option.{slice_get_within, get_or_from_slice_get}
use Rattle.fvn_base.specs.declared.limits.TheConstants.{EXPANDED_FRESH}
use Rattle.fvn_base.proofs.Membership.{contains_here, contains_later, contains_cases, contains_none, map_contains}
use Rattle.fvn_terms.specs.declared.plain.Var.{Var}
use Rattle.fvn_terms.specs.declared.declarations.Declarations.{Declarations}
use Rattle.fvn_terms.specs.Theory.{Equations}
use Rattle.fvn_terms.specs.Term.{Term}
use Rattle.fvn_terms.specs.Signature.{kind, IsSort, IsTerm}
use Rattle.fvn_terms.specs.Substitution.{Substitution, apply, Occurs}
use Rattle.fvn_terms.specs.Equality.{BEqual}
use Rattle.fvn_terms.specs.Unifiers.{Problem}
use Rattle.fvn_terms.specs.Rewriting.{ListSequence, IsIrreducible, BringsNoVariable}
use Rattle.fvn_terms.specs.Laws.{RewritingLaws}
use Rattle.fvn_terms.proofs.Equal.{BEqual-refl}
use Rattle.fvn_terms.proofs.Occurrences.{occurs_value, occurs_instance, BEqual-occurs}
use Rattle.fvn_forms.specs.Flat.{FlatTerm, plain}
use Rattle.fvn_forms.specs.Canon.{canon, inst}
use Rattle.fvn_forms.specs.Good.{IsGood}
use Rattle.fvn_forms.proofs.ToCanon.{to_canon}
use Rattle.fvn_flat.specs.Bindings.{Bindings, bound, form_or, value}
use Rattle.fvn_flat.specs.Fits.{Fits, AllFit}
use Rattle.fvn_flat.specs.Solving.{substitution}
use Rattle.fvn_cover.specs.declared.variant.Variant.{Variant}
use Rattle.fvn_rewrite_laws.specs.Laws.{ListLaws, RuleLaws}
use Rattle.fvn_rewrite_laws.specs.Lists.{EachHasSequence}
use Rattle.fvn_rewrite.specs.Usable.{Rewriting, equations_by}
use Rattle.fvn_exploring.specs.Setting.{Setting}
use Rattle.fvn_exploring.specs.Children.{HoldsVariables, IsMember}
use Rattle.fvn_places.specs.Putting.{IsPut}
use Rattle.fvn_narrow_children.specs.Growing.{IsFormOf, IsGrown}
use Rattle.fvn_places.proofs.Replacing.{split_at}
use Rattle.fvn_narrow.specs.Settings.{narrowing_setting}
use Rattle.fvn_narrow.specs.inner.Turns.{Turn, put_in, IsReady, AreMembers, IsStepChild}
use Rattle.fvn_narrow.proofs.Turning.{problem_at, IsFitTurn, IsGivenIn}
use Rattle.fvn_narrow.proofs.Steps.{successor, is_put, step_from}
use Rattle.fvn_narrow.proofs.Occurring.{occurs_replaced, occurs_at, occurs_in_inst, inst_has}

pub item_listed : (l : List FlatTerm) (i : ℕ) (a : FlatTerm) → slice_get l i ≡ Some a → Contains l a
item_listed l i a e = (i, slice_get_within l i a e, get_or_from_slice_get l i a a e)

-- what stands around the new member stood there before
around_new : (l : List FlatTerm) (i : ℕ) (a b w : FlatTerm) → slice_get l i ≡ Some a → Contains (take i l ++ b ∷ drop (i + 1) l) w → Contains l w ⊎ (w ≡ b)
around_new l i a b w e c = elim (Contains-append_cases (take i l) (b ∷ drop (i + 1) l) w c) [
  | inl k ↦ inl (subst (λ m. Contains m w) (sym split) (Contains-append_left (take i l) (a ∷ drop (i + 1) l) w k))
  | inr k ↦ after k
]
  where
    split : l ≡ take i l ++ a ∷ drop (i + 1) l
    split = split_at l i a e

    after : Contains (b ∷ drop (i + 1) l) w → Contains l w ⊎ (w ≡ b)
    after k = elim (contains_cases b (drop (i + 1) l) w k) [
      | inl q ↦ inr (sym q)
      | inr q ↦ inl (subst (λ m. Contains m w) (sym split) (Contains-append_right (take i l) (a ∷ drop (i + 1) l) w (contains_later a (drop (i + 1) l) w q)))
    ]

same_length : (before : List FlatTerm) (a b : FlatTerm) (after : List FlatTerm) → length (before ++ a ∷ after) ≡ length (before ++ b ∷ after)
same_length [] a b after = refl
same_length (x ∷ before) a b after = ap suc (same_length before a b after)

pub fits_at : {d : Declarations} (l : List FlatTerm) (t : FlatTerm) → AllFit d l → Contains l t → Fits d t
fits_at {d} l t h c = All-contains (Fits d) l t (All-from_recursion (Fits d) l h) c

module _ (r : Rewriting) where
  abbrev d : Declarations
  d = r.signature

  abbrev equations : Equations
  equations = equations_by r

  -- normal forms of the members are reached by one sequence of the list
  each_reached : (ts us : List FlatTerm) → AllZip (IsFormOf r) ts us → (k : ℕ) × EachHasSequence d equations k (map plain ts) (map plain us)
  each_reached [] [] h = (0, refl)
  each_reached [] (u ∷ us) h = absurd h
  each_reached (t ∷ ts) [] h = absurd h
  each_reached (t ∷ ts) (u ∷ us) h = let rest = each_reached ts us h.1 in (h.0.count + rest.0, (h.0.count, rest.0, refl, (h.0.reached.sequence, rest.1)))

  forms_fit : (ts us : List FlatTerm) → AllZip (IsFormOf r) ts us → AllFit d us
  forms_fit [] [] h = tt
  forms_fit [] (u ∷ us) h = absurd h
  forms_fit (t ∷ ts) [] h = absurd h
  forms_fit (t ∷ ts) (u ∷ us) h = (h.0.reached.fits, forms_fit ts us h.1)

  forms_irreducible : (ts us : List FlatTerm) → AllZip (IsFormOf r) ts us → All (IsIrreducible d equations) (map plain us)
  forms_irreducible ts us h = All-from_recursion (IsIrreducible d equations) (map plain us) (go ts us h)
    where
      go : (ts us : List FlatTerm) → AllZip (IsFormOf r) ts us → AllByRecursion (IsIrreducible d equations) (map plain us)
      go [] [] h = tt
      go [] (u ∷ us) h = absurd h
      go (t ∷ ts) [] h = absurd h
      go (t ∷ ts) (u ∷ us) h = (h.0.irreducible, go ts us h.1)

  form_from : (ts us : List FlatTerm) → AllZip (IsFormOf r) ts us → (u : FlatTerm) → Contains us u → (t : FlatTerm) × Contains ts t × IsFormOf r t u
  form_from [] [] h u c = absurd (contains_none u c)
  form_from [] (w ∷ us) h u c = absurd h
  form_from (t ∷ ts) [] h u c = absurd h
  form_from (t ∷ ts) (w ∷ us) h u c = elim (contains_cases w us u c) [
    | inl e ↦ (t, contains_here t ts, subst (IsFormOf r t) e h.0)
    | inr i ↦ let p = form_from ts us h.1 u i in (p.0, contains_later t ts p.0 p.1, p.2)
  ]

module _ (r : Rewriting) (good : IsGood r.signature) (brings_none : BringsNoVariable (equations_by r)) (rewriting : RewritingLaws r.signature (equations_by r)) (lists : ListLaws r.signature (equations_by r)) (rules : RuleLaws r.signature (equations_by r))
    (unifiers : ℕ) (drawn : Problem → Substitution → Type 0) (v : Variant) (next : ℕ) (ready : IsReady r v next) (at : FlatTerm) (turn : Turn) (t : IsFitTurn r v at turn)
    (members : List FlatTerm) (m : AreMembers r.signature v.terms turn.member turn.path (put_in r.signature turn) members) (s : Bindings) (u : IsGivenIn r drawn next (problem_at at turn.rule.left) s) where
  abbrev g : Setting
  g = narrowing_setting r unifiers

  put : IsPut r.signature turn.path t.turn_is.whole m.term (put_in r.signature turn) m.new
  put = is_put r good drawn v next ready at turn t members m s u

  term_listed : Contains v.terms m.term
  term_listed = item_listed v.terms turn.member m.term m.is

  in_replaced : (z : Var) → Occurs z (plain m.new) → Occurs z (plain put.replaced)
  in_replaced z o =
      let raw = plain put.replaced in
      BEqual-occurs z r.signature raw (plain (canon r.signature raw)) (to_canon r.signature good.fits raw put.kinded.0 put.kinded.1) (subst (λ q. Occurs z (plain q)) put.is o)

  -- the variables of the terms with the right side put in
  abbrev OccursThere : Var → Type 0
  OccursThere z = Any (λ w. Occurs z (plain w)) v.terms ⊎ Occurs z (plain turn.rule.right)

  in_member : (w : FlatTerm) → Contains members w → (z : Var) → Occurs z (plain w) → OccursThere z
  in_member w i z o = go (around_new v.terms turn.member m.term m.new w m.is (subst (λ l. Contains l w) m.all_are i))
    where
      go : Contains v.terms w ⊎ (w ≡ m.new) → OccursThere z
      go (inl k) = inl (k.0, w, k.1, k.2, o)
      go (inr e) = elim (occurs_replaced z t.turn_is.whole (put_in r.signature turn) put.replaces (in_replaced z (subst (λ q. Occurs z (plain q)) e o))) [
        | inl p ↦ inl (term_listed.0, m.term, term_listed.1, term_listed.2, p)
        | inr p ↦ elim (t.given_occurs z p) [
          | inl q ↦ inr q
          | inr q ↦ inl (term_listed.0, m.term, term_listed.1, term_listed.2, occurs_at z t.turn_is.whole (put_in r.signature turn) put.replaces q)
        ]
      ]

  pub member_fits : (w : FlatTerm) → Contains members w → Fits r.signature w
  member_fits w i = elim (around_new v.terms turn.member m.term m.new w m.is (subst (λ l. Contains l w) m.all_are i)) [
    | inl k ↦ fits_at v.terms w ready.flat.terms k
    | inr e ↦ subst (Fits r.signature) (sym e) put.fits
  ]

  module _ (c : Variant) (grown : IsGrown r v members s c) where
    value_is : (x : Var) → Contains v.vars x → substitution c.subst x ≡ plain (inst r.signature (value s) (value v.subst x))
    value_is x i = ap plain (grown.values.values x i)

    value_of_kind : (x : Var) → Contains v.vars x → IsTerm r.signature (substitution v.subst x)
    value_of_kind x i = (kind r.signature x.sort, ready.flat.values.keeps_kinds x (All-contains (λ (y : Var). IsSort r.signature y.sort) v.vars x ready.flat.vars i))

    -- what a variable of a term becomes stands in a value
    in_some_value : (z y : Var) → Any (λ w. Occurs z (plain w)) v.terms → Occurs y (substitution s z) → (x : Var) × Contains c.vars x × Occurs y (substitution c.subst x)
    in_some_value z y i o =
        let h = ready.holds z i in (
          h.0,
          subst (λ l. Contains l h.0) (sym grown.vars) h.1,
          subst (Occurs y) (sym (value_is h.0 h.1)) (inst_has r.signature good s u.fits (value v.subst h.0) y z (value_of_kind h.0 h.1) h.2 o),
        )

    -- also of one of the rule's right side
    of_right : (z y : Var) → Occurs z (plain turn.rule.right) → Occurs y (substitution s z) → (x : Var) × Contains c.vars x × Occurs y (substitution c.subst x)
    of_right z y i o =
        let in_left = rules.variables brings_none turn.rule.left turn.rule.right t.rule z i in
        let whole = occurs_instance y (substitution s) (plain turn.rule.left) z in_left o in
        let there = occurs_value y (substitution s) (plain at) (BEqual-occurs y r.signature (apply (substitution s) (plain at)) (apply (substitution s) (plain turn.rule.left)) unified whole) in
        let within = occurs_at there.0 t.turn_is.whole (put_in r.signature turn) put.replaces (t.within there.0 there.1.0) in
        in_some_value there.0 y (term_listed.0, m.term, term_listed.1, term_listed.2, within) there.1.1
      where
        unified : BEqual r.signature (apply (substitution s) (plain at)) (apply (substitution s) (plain turn.rule.left))
        unified = All-head (λ (p : Term × Term). BEqual r.signature (apply (substitution s) p.0) (apply (substitution s) p.1)) (plain at, plain turn.rule.left) [] u.unifies.1

    holds : HoldsVariables c
    holds y i =
        let f = form_from r (map (inst r.signature (value s)) members) c.terms grown.terms i.1 (i.0, i.2, i.3) in
        let before = rewriting.variables brings_none y f.2.count (plain f.0) (plain i.1) f.2.reached.sequence i.4 in
        let raw = map_contains (inst r.signature (value s)) members f.0 f.1 in
        let z = occurs_in_inst r.signature good s u.fits raw.0 y (member_fits raw.0 raw.1.0).kinded (subst (λ w. Occurs y (plain w)) (sym raw.1.1) before) in
        elim (in_member raw.0 raw.1.0 z.0 z.1) [ inl k ↦ in_some_value z.0 y k z.2 | inr k ↦ of_right z.0 y k z.2 ]

    number_of_value : (x y : Var) → Contains v.vars x → Occurs y (substitution c.subst x) → y.name < EXPANDED_FRESH
    number_of_value x y i o =
        let z = occurs_in_inst r.signature good s u.fits (value v.subst x) y (value_of_kind x i) (subst (Occurs y) (value_is x i) o) in
        go z.0 z.1 z.2 (bound s z.0) refl
      where
        go : (z : Var) → Occurs z (substitution v.subst x) → Occurs y (substitution s z) → (b : Option FlatTerm) → bound s z ≡ b → y.name < EXPANDED_FRESH
        go z old new None e =
            let same : y ≡ z = subst (Occurs y) (ap (λ b. plain (form_or z b)) e) new in
            let n = ready.numbers z (inr (x, i, old)) in
            let high = subst (λ (w : Var). w.name < next) (sym same) n.high in
            let small = ready.small in
            omega arith
        go z old new (Some w) e =
            let n = u.numbered z y ((u.binds z).1 (w, e)) new in
            let high = n.2 in
            let low = u.bounded in
            omega arith

    number_below : (y : Var) → Any (λ w. Occurs y (plain w)) c.terms ⊎ ((x : Var) × Contains c.vars x × Occurs y (substitution c.subst x)) → y.name < EXPANDED_FRESH
    number_below y (inl i) = let h = holds y i in number_of_value h.0 y (subst (λ l. Contains l h.0) grown.vars h.1) h.2
    number_below y (inr h) = number_of_value h.0 y (subst (λ l. Contains l h.0) grown.vars h.1) h.2

    is_member : IsMember g c
    is_member = record {
      flat = record {
        terms = forms_fit r (map (inst r.signature (value s)) members) c.terms grown.terms;
        values = grown.values.fits;
        vars = subst (All (λ (x : Var). IsSort r.signature x.sort)) (sym grown.vars) ready.flat.vars;
      };
      holds = holds;
      others = λ x n. ap (λ o. plain (form_or x o)) (grown.values.others x (λ i. n (subst (λ l. Contains l x) (sym grown.vars) i)));
      numbers = λ y i f. number_below y i;
      terms = (rewriting.lists (map plain c.terms)).1 (forms_irreducible r (map (inst r.signature (value s)) members) c.terms grown.terms);
      values = λ x i. All-contains (λ y. IsIrreducible r.signature (equations_by r) (substitution c.subst y)) v.vars x grown.irreducible (subst (λ l. Contains l x) grown.vars i);
      stay = All-nil (λ w. IsIrreducible r.signature (equations_by r) (apply (substitution c.subst) w));
    }

    same_terms : length v.terms ≡ length c.terms
    same_terms =
        ap length (split_at v.terms turn.member m.term m.is)
        ∙ same_length (take turn.member v.terms) m.term m.new (drop (turn.member + 1) v.terms)
        ∙ ap length (sym m.all_are)
        ∙ sym (length-map members (inst r.signature (value s)))
        ∙ length_all_zip (IsFormOf r) (map (inst r.signature (value s)) members) c.terms grown.terms

    -- one sequence leads from what the unifier makes of the members to the child's terms
    pub all_reached : (k : ℕ) × ListSequence r.signature (equations_by r) k (map plain (map (inst r.signature (value s)) members)) (map plain c.terms)
    all_reached =
        let e = each_reached r (map (inst r.signature (value s)) members) c.terms grown.terms in
        (e.0, (lists.members e.0 (map plain (map (inst r.signature (value s)) members)) (map plain c.terms)).1 e.1)

    pub is_step_child : IsStepChild g drawn v c
    is_step_child = record {
      successor = successor r good drawn v next ready at turn t members m s u;
      step = step_from r good drawn v next ready at turn t members m s u;
      steps = all_reached.0;
      reached = all_reached.1;
      same = λ x i. subst (BEqual r.signature (substitution c.subst x)) (value_is x i) (BEqual-refl r.signature (substitution c.subst x));
      alike = record { vars = sym grown.vars; terms = same_terms };
      member = is_member;
    }
