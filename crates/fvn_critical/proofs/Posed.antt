-- The problem of an overlap may be given to a solver; where part and left side clash, nothing meets.
use Rattle.std.proofs.Common.{◌≡◌, ◌<◌, true, false, [], ◌∷◌, ◌++◌, sym, ◌∙◌, subst, inl, inr, arith}
use Rattle.std.specs.Prelude.{◌⊎◌, All, Contains}
use Rattle.std.proofs.lemmas.List.Elements.{All-nil, All-cons, Contains-append_cases}
use Rattle.fvn_base.proofs.Membership.{contains_none}
use Rattle.fvn_terms.specs.declared.plain.Var.{Var}
use Rattle.fvn_terms.specs.declared.plain.SortId.{SortId}
use Rattle.fvn_terms.specs.declared.declarations.Declarations.{Declarations}
use Rattle.fvn_terms.specs.Term.{Term}
use Rattle.fvn_terms.specs.Signature.{HasKind}
use Rattle.fvn_terms.specs.Substitution.{Occurs}
use Rattle.fvn_forms.specs.Flat.{FlatTerm, plain}
use Rattle.fvn_forms.proofs.Eval.{canon_respects}
use Rattle.fvn_flat.specs.Fits.{Fits}
use Rattle.fvn_flat.specs.Problems.{variables, variables_of, plain_pairs, IsProblem}
use Rattle.fvn_flat.specs.Solving.{IsGiven}
use Rattle.fvn_flat.specs.declared.solver.Pairs.{Pairs}
use Rattle.fvn_flat.proofs.VariableLists.{variables_occur}
use Rattle.fvn_rewrite.specs.Usable.{Rewriting, equations_by}
use Rattle.fvn_places.specs.Clashes.{NeverMeet}
use Rattle.fvn_places.specs.Putting.{CanPut}
use Rattle.fvn_places.proofs.PathFacts.{stands_at}
use Rattle.fvn_lifting.specs.Laws.{AreUsed}
use Rattle.fvn_critical_pairs.specs.Overlaps.{Overlap, IsOverlap, Joins}
use Rattle.fvn_critical_pairs.proofs.GivenRules.{occurs_in_part, path_fits, one_kind, old, left_fits, right_fits, sides_of_kind}
use Rattle.fvn_critical.specs.declared.pairing.Meeting.{Meeting}
use Rattle.fvn_critical.specs.inner.Testing.{overlap_in}
use Rattle.fvn_critical.proofs.Forms.{used_by, IsKnown, outer_left_fits}

abbrev BothFit : Declarations → FlatTerm × FlatTerm → Type 0
BothFit d p = Fits d p.0 × Fits d p.1

abbrev OfOneKind : Declarations → Term × Term → Type 0
OfOneKind d p = (k : SortId) × HasKind d p.0 k × HasKind d p.1 k

-- a variable of the problem occurs in one of the two
in_either : (x : Var) (t u : Term) → Contains (variables_of ((t, u) ∷ [])) x → Occurs x t ⊎ Occurs x u
in_either x t u m = elim (Contains-append_cases (variables t ++ variables u) [] x m) [
  | inl c ↦ side (Contains-append_cases (variables t) (variables u) x c)
  | inr c ↦ absurd (contains_none x c)
]
  where
    side : Contains (variables t) x ⊎ Contains (variables u) x → Occurs x t ⊎ Occurs x u
    side (inl c) = inl (variables_occur x t c)
    side (inr c) = inr (variables_occur x u c)

module _ (r : Rewriting) (m : Meeting) (k : IsKnown r m) where
  abbrev o : Overlap
  o = overlap_in m

  abbrev is : IsOverlap r.signature r.rules m.next o
  is = k.testable

  abbrev d : Declarations
  d = r.signature

  abbrev used : AreUsed d (equations_by r) r.rules
  used = used_by r k.good k.completed k.usable

  pub outer_fits : Fits d o.outer.left
  outer_fits = outer_left_fits r m k

  pub part_fits : Fits d o.at
  part_fits = path_fits d k.good.fits o.path o.outer.left o.at outer_fits is.overlaps.leads

  pub inner_fits : Fits d o.inner.left
  inner_fits = left_fits d r.rules used k.lawful o.inner is.overlaps.given

  -- part, left side and right side have one kind
  same_kind : (i : SortId) → HasKind d (plain o.at) i → HasKind d (plain o.inner.left) i × HasKind d (plain o.inner.right) i
  same_kind i h =
      let sides = sides_of_kind d r.rules used k.lawful o.inner is.overlaps.given in
      let e : sides.kind ≡ i = one_kind d k.good.fits is.overlaps.operator o.inner.left o.at inner_fits.flat part_fits.flat is.overlaps.heads_inner is.overlaps.heads sides.kind i sides.left h in
      (subst (HasKind d (plain o.inner.left)) e sides.left, subst (HasKind d (plain o.inner.right)) e sides.right)

  pub can_put : CanPut d o.path o.outer.left o.inner.right
  can_put = record { at = o.at; leads = is.overlaps.leads; fits = right_fits d r.rules used k.lawful o.inner is.overlaps.given; keeps = λ i h. (same_kind i h).1 }

  number_below : (x : Var) → x.fresh ≡ true → Occurs x (plain o.at) ⊎ Occurs x (plain o.inner.left) → x.name < m.next
  number_below x fresh (inl i) = (is.renewed.numbers x (inl (occurs_in_part x (stands_at o.path o.outer.left o.at is.overlaps.leads) i))).high
  number_below x fresh (inr i) = go (old d r.rules used k.lawful o.inner is.overlaps.given x (inl i))
    where
      go : (x.fresh ≡ false) ⊎ (x.name ≡ 0) → x.name < m.next
      go (inl e) = let q : true ≡ false = sym fresh ∙ e in cc
      go (inr e) = let p = is.renewed.positive in omega arith

  pub may_be_given : (given : Pairs) → given.pairs ≡ (o.at, o.inner.left) ∷ [] → IsGiven d given m.next
  may_be_given given e =
      let i = part_fits.kinded in
      let other = (same_kind i.0 i.1).0 in record {
        fit = subst (All (BothFit d)) (sym e) (All-cons (BothFit d) (o.at, o.inner.left) [] (part_fits, inner_fits) (All-nil (BothFit d)));
        kinds = subst (λ ps. IsProblem d (plain_pairs ps)) (sym e) (All-cons (OfOneKind d) (plain o.at, plain o.inner.left) [] (i.0, i.1, other) (All-nil (OfOneKind d)));
        numbers = λ x i fresh. number_below x fresh (in_either x (plain o.at) (plain o.inner.left) (subst (λ ps. Contains (variables_of (plain_pairs ps)) x) e i));
        small = is.renewed.small;
      }

  -- where they clash nothing meets
  pub never_joins : NeverMeet d o.at o.inner.left → Joins d (equations_by r) o
  never_joins never s c meet = absurd (never s c (canon_respects d meet.equal))
