-- The problem of a part and a left side may be given to a solver; where the two clash, nothing meets.
use Rattle.std.proofs.Common.{◌≡◌, ◌<◌, ℕ, true, false, List, [], ◌∷◌, ◌++◌, length, nat_eq, refl, sym, ap, ◌∙◌, subst, inl, inr, arith}
use Rattle.std.specs.Prelude.{◌⊎◌, All, Contains}
use Rattle.std.proofs.lemmas.Bool.{eqb-true}
use Rattle.std.proofs.lemmas.List.Elements.{All-nil, All-cons, Contains-append_cases}
use Rattle.fvn_base.proofs.Membership.{contains_none}
use Rattle.fvn_terms.specs.declared.plain.Var.{Var}
use Rattle.fvn_terms.specs.declared.plain.SortId.{SortId}
use Rattle.fvn_terms.specs.declared.declarations.Declarations.{Declarations}
use Rattle.fvn_terms.specs.Term.{Term}
use Rattle.fvn_terms.specs.Signature.{HasKind}
use Rattle.fvn_terms.specs.Substitution.{Substitution, Occurs}
use Rattle.fvn_terms.specs.Unifiers.{Problem}
use Rattle.fvn_forms.specs.Flat.{FlatTerm, plain}
use Rattle.fvn_forms.specs.Good.{IsGood}
use Rattle.fvn_forms.proofs.Eval.{canon_respects}
use Rattle.fvn_flat.specs.Fits.{Fits}
use Rattle.fvn_flat.specs.FlatPlaces.{with_beside}
use Rattle.fvn_flat.specs.Problems.{variables, variables_of, plain_pairs, IsProblem}
use Rattle.fvn_flat.specs.Solving.{IsGiven}
use Rattle.fvn_flat.specs.declared.solver.Pairs.{Pairs}
use Rattle.fvn_flat.proofs.VariableLists.{variables_occur}
use Rattle.fvn_cover.specs.declared.variant.Variant.{Variant}
use Rattle.fvn_rewrite_laws.specs.Laws.{RuleLaws}
use Rattle.fvn_rewrite.specs.Usable.{Rewriting, AreUsable, equations_by}
use Rattle.fvn_exploring.specs.declared.ends.Expansion.{Expansion}
use Rattle.fvn_exploring.specs.declared.ends.ExpandEnd.TheVariants.{Whole}
use Rattle.fvn_places.specs.Clashes.{NeverMeet}
use Rattle.fvn_places.proofs.PathFacts.{stands_at}
use Rattle.fvn_narrow.specs.inner.Turns.{Turn, put_in, IsReady, CanStandBeside, IsMeetingAt, CanReplace, try_of, TryLifts, AreFound}
use Rattle.fvn_narrow.proofs.Turning.{IsFitTurn}
use Rattle.fvn_narrow.proofs.Fit.{fit_turn, same_kind, put_keeps, right_stands, at_within}
use Rattle.fvn_narrow.proofs.Children.{item_listed}
use Rattle.fvn_narrow.proofs.Occurring.{occurs_at}
use Rattle.fvn_narrow.proofs.Joined.{nothing_found}

abbrev BothFit : Declarations → FlatTerm × FlatTerm → Type 0
BothFit d p = Fits d p.0 × Fits d p.1

abbrev OfOneKind : Declarations → Term × Term → Type 0
OfOneKind d p = (k : SortId) × HasKind d p.0 k × HasKind d p.1 k

-- a variable of the problem occurs in one of the two
in_either : (x : Var) (t u : Term) → Contains (variables_of ((t, u) ∷ [])) x → Occurs x t ⊎ Occurs x u
in_either x t u m = elim (Contains-append_cases (variables t ++ variables u) [] x m) [
  | inl c ↦ side (Contains-append_cases (variables t) (variables u) x c)
  | inr c ↦ absurd (contains_none x c)
]
  where
    side : Contains (variables t) x ⊎ Contains (variables u) x → Occurs x t ⊎ Occurs x u
    side (inl c) = inl (variables_occur x t c)
    side (inr c) = inr (variables_occur x u c)

module _ (r : Rewriting) (good : IsGood r.signature) (usable : AreUsable r.signature r.rules) (rules : RuleLaws r.signature (equations_by r)) (v : Variant) (next : ℕ) (ready : IsReady r v next) (at : FlatTerm) (turn : Turn) (t : IsMeetingAt r v at turn) where
  abbrev d : Declarations
  d = r.signature

  abbrev left : FlatTerm
  left = turn.rule.left

  pub fit_here : IsFitTurn r v at turn
  fit_here = fit_turn r good usable rules v ready.flat.terms at turn t

  pub can_replace : CanReplace d v.terms turn.member turn.path (put_in d turn)
  can_replace = record {
    term = t.term;
    is = t.is;
    can = record { at = t.whole; leads = t.leads; fits = fit_here.given_fits; keeps = put_keeps r good usable rules v ready.flat.terms at turn t };
  }

  -- the right side stands beside the others
  pub stands : CanStandBeside d turn.beside turn.rule.right
  stands = right_stands r good usable rules v ready.flat.terms at turn t

  number_below : (x : Var) → x.fresh ≡ true → Occurs x (plain at) ⊎ Occurs x (plain left) → x.name < next
  number_below x fresh (inl o) =
      let i = item_listed v.terms turn.member t.term t.is in
      (ready.numbers x (inl (i.0, t.term, i.1, i.2, occurs_at x t.whole t.whole (stands_at turn.path t.term t.whole t.leads) (at_within r good usable rules v ready.flat.terms at turn t x o)))).high
  number_below x fresh (inr o) = go (fit_here.old x (inl o))
    where
      go : (x.fresh ≡ false) ⊎ (x.name ≡ 0) → x.name < next
      go (inl e) = let q : true ≡ false = sym fresh ∙ e in cc
      go (inr e) = let p = ready.positive in omega arith

  pub may_be_given : (given : Pairs) → given.pairs ≡ (at, left) ∷ [] → IsGiven d given next
  may_be_given given is =
      let k = fit_here.at_fits.kinded in
      let other = (same_kind r good usable rules v ready.flat.terms at turn t k.0 k.1).0 in record {
        fit = subst (All (BothFit d)) (sym is) (All-cons (BothFit d) (at, left) [] (fit_here.at_fits, fit_here.left_fits) (All-nil (BothFit d)));
        kinds = subst (λ ps. IsProblem d (plain_pairs ps)) (sym is) (All-cons (OfOneKind d) (plain at, plain left) [] (k.0, k.1, other) (All-nil (OfOneKind d)));
        numbers = λ x m fresh. number_below x fresh (in_either x (plain at) (plain left) (subst (λ ps. Contains (variables_of (plain_pairs ps)) x) is m));
        small = ready.small;
      }

  -- where they clash nothing is found
  pub found_none : (unifiers : ℕ) (drawn : Problem → Substitution → Type 0) → NeverMeet d at left → (e : Expansion) → e.children ≡ [] → e.end ≡ Whole → AreFound r unifiers drawn v (TryLifts r unifiers v (try_of at turn.rule)) e
  found_none unifiers drawn never e none whole = nothing_found r unifiers drawn v (TryLifts r unifiers v (try_of at turn.rule)) e none whole (λ s c keeps meet. absurd (never s c (canon_respects d meet.equal)))

-- what is made with what stands there is what is put in
pub given_is : (d e : Declarations) (turn : Turn) (given : FlatTerm) → e ≡ d → given ≡ with_beside e turn.beside turn.rule.right → given ≡ put_in d turn
given_is d e turn given same is = is ∙ ap (λ (x : Declarations). with_beside x turn.beside turn.rule.right) same

-- a list without a member
pub no_unifiers : {A : Type 0} (l : List A) → nat_eq (length l) 0 ≡ true → l ≡ []
no_unifiers [] e = refl
no_unifiers (x ∷ l) e = let q : length (x ∷ l) ≡ 0 = eqb-true (length (x ∷ l)) 0 e in absurd (omega (arith, q))
