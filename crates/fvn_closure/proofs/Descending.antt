-- From a member of a level run down to one that covers: each reducible instance lifts into a member one level below.
use Rattle.std.proofs.Common.{◌⊎◌, ℕ, zero, suc, ◌+◌, ◌≤◌, ◌<◌, List, [], ◌∷◌, get_or, map, sym, subst, inl, inr, arith}
use Rattle.std.specs.List.{AllZip, All, Contains}
use Rattle.std.proofs.lemmas.List.Elements.{All-nil, All-cons, All-head, All-tail, All-contains}
use Rattle.fvn_terms.specs.declared.plain.Var.{Var}
use Rattle.fvn_terms.specs.declared.declarations.Declarations.{Declarations}
use Rattle.fvn_terms.specs.Term.{Term}
use Rattle.fvn_terms.specs.Substitution.{Substitution, apply, followed_by, Occurs}
use Rattle.fvn_terms.specs.Signature.{IsTerm}
use Rattle.fvn_terms.specs.Places.{stop}
use Rattle.fvn_terms.specs.Equality.{BEqual}
use Rattle.fvn_terms.specs.Sorts.{IsWellSorted}
use Rattle.fvn_terms.specs.Theory.{Equations}
use Rattle.fvn_terms.specs.Rewriting.{ListRewrites, ListSequence, IsReducible, IsIrreducible, IsIrreducibleList, IsConfluent}
use Rattle.fvn_terms.specs.Variants.{OccursInSome, Covers}
use Rattle.fvn_terms.proofs.Substitutions.{apply-apply}
use Rattle.fvn_terms.proofs.Equal.{HasKind-apply, BEqual-trans}
use Rattle.fvn_forms.specs.Flat.{FlatTerm, plain}
use Rattle.fvn_flat.specs.Fits.{AllFit}
use Rattle.fvn_flat.specs.Solving.{substitution}
use Rattle.fvn_rewrite_laws.specs.Lawful.{AreLawful}
use Rattle.fvn_rewrite_laws.specs.Lists.{EachHasSequence}
use Rattle.fvn_rewrite_laws.proofs.Lists.{each_equal_itself}
use Rattle.fvn_rewrite_laws.proofs.Agreement.{equal_by_agreement}
use Rattle.fvn_exploring.specs.declared.ends.Deep.{Deep}
use Rattle.fvn_exploring.specs.Setting.{Setting}
use Rattle.fvn_exploring.specs.Liftings.{instance_of, value_under, IsLifted, KeepsIrreducible}
use Rattle.fvn_exploring.specs.Explorations.{IsVariantOf, IsFound}
use Rattle.fvn_closure.specs.Closing.{IsExplorable, AreClosedBelow}
use Rattle.fvn_closure.proofs.Known.{IsKnown}

-- instances of forms that fit are well-kinded
pub instances_kinded : (d : Declarations) (s : Substitution) → IsWellSorted d s → (ts : List FlatTerm) → AllFit d ts → All (IsTerm d) (map (apply s) (map plain ts))
instances_kinded d s sorted [] h = All-nil (IsTerm d)
instances_kinded d s sorted (t ∷ ts) h =
    let k = h.0.kinded in
    All-cons (IsTerm d) (apply s (plain t)) (map (apply s) (map plain ts)) (k.0, HasKind-apply d s sorted.0 (plain t) k.0 k.1) (instances_kinded d s sorted ts h.1)

module _ (d : Declarations) (equations : Equations) (lawful : AreLawful d equations) where
  -- a step leads on from a list of well-kinded terms, or none does
  pub list_decided : (ts : List Term) → All (IsTerm d) ts → ((us : List Term) × ListRewrites d equations ts us) ⊎ IsIrreducibleList d equations ts
  list_decided [] h = inr (λ us l. l)
  list_decided (t ∷ ts) h = go (lawful.decided t (All-head (IsTerm d) t ts h)) (list_decided ts (All-tail (IsTerm d) t ts h)) where
    stays : IsIrreducible d equations t → IsIrreducibleList d equations ts → (us : List Term) → ListRewrites d equations (t ∷ ts) us → ⊥
    stays one rest [] l = l
    stays one rest (u ∷ us) (inl l) = one u l.0
    stays one rest (u ∷ us) (inr l) = rest us l.1

    go : IsReducible d equations t ⊎ IsIrreducible d equations t → ((us : List Term) × ListRewrites d equations ts us) ⊎ IsIrreducibleList d equations ts →
        ((us : List Term) × ListRewrites d equations (t ∷ ts) us) ⊎ IsIrreducibleList d equations (t ∷ ts)
    go (inl r) rest = inl (r.0 ∷ ts, inl (r.1, each_equal_itself d ts))
    go (inr one) (inl l) = inl (t ∷ l.0, inr (stop, l.1))
    go (inr one) (inr rest) = inr (stays one rest)

-- irreducible lists that one list is brought to are equal modulo the axioms, where the equations are confluent
module _ (d : Declarations) (equations : Equations) (known : IsKnown d equations) (confluent : IsConfluent d equations) where
  each_normal : (ts us vs : List Term) (j k : ℕ) → All (IsTerm d) ts → EachHasSequence d equations j ts us → EachHasSequence d equations k ts vs →
      All (IsIrreducible d equations) us → All (IsIrreducible d equations) vs → AllZip (BEqual d) us vs
  each_normal [] [] [] j k h p q x y = tt
  each_normal [] [] (v ∷ vs) j k h p q x y = absurd q
  each_normal [] (u ∷ us) vs j k h p q x y = absurd p
  each_normal (t ∷ ts) [] vs j k h p q x y = absurd p
  each_normal (t ∷ ts) (u ∷ us) [] j k h p q x y = absurd q
  each_normal (t ∷ ts) (u ∷ us) (v ∷ vs) j k h p q x y = (
    known.rewriting.one_normal_form confluent t u v p.0 q.0 (All-head (IsTerm d) t ts h) p.3.0 q.3.0 (All-head (IsIrreducible d equations) u us x) (All-head (IsIrreducible d equations) v vs y),
    each_normal ts us vs p.1 q.1 (All-tail (IsTerm d) t ts h) p.3.1 q.3.1 (All-tail (IsIrreducible d equations) u us x) (All-tail (IsIrreducible d equations) v vs y),
  )

  pub one_list_normal_form : (ts us vs : List Term) (j k : ℕ) → All (IsTerm d) ts → ListSequence d equations j ts us → ListSequence d equations k ts vs →
      IsIrreducibleList d equations us → IsIrreducibleList d equations vs → AllZip (BEqual d) us vs
  one_list_normal_form ts us vs j k h p q x y =
      each_normal ts us vs j k h ((known.lists.members j ts us).0 p) ((known.lists.members k ts vs).0 q) ((known.rewriting.lists us).0 x) ((known.rewriting.lists vs).0 y)

module _ (g : Setting) (start : List FlatTerm) (explorable : IsExplorable g start) (known : IsKnown g.declarations g.equations)
    (kept : List Deep) (found : All (λ m. IsFound g start m.variant) kept) (us : List Term) (s : Substitution) (variant : IsVariantOf g start us s) where
  -- the instance of the start is brought to one of the member, with the same values
  pub record IsAt (m : Deep) (by : Substitution) : Type 0 where
    pub well_sorted : IsWellSorted g.declarations by
    pub same : (x : Var) → Contains m.variant.vars x → BEqual g.declarations (s x) (value_under by m.variant x)
    pub steps : ℕ
    pub reached : ListSequence g.declarations g.equations steps (map (apply s) (map plain start)) (instance_of by m.variant)

  -- an irreducible one
  pub record HasLanded : Type 0 where
    pub member : Deep
    pub listed : Contains kept member
    pub by : Substitution
    pub at : IsAt member by
    pub irreducible : IsIrreducibleList g.declarations g.equations (instance_of by member.variant)

  found_at : (m : Deep) → Contains kept m → IsFound g start m.variant
  found_at m h = All-contains (λ m. IsFound g start m.variant) kept m found h

  -- the values of such an instance are irreducible, and the fixed terms stay so
  keeps : (m : Deep) (by : Substitution) → Contains kept m → IsAt m by → KeepsIrreducible g m.variant by
  keeps m by listed at = record {
    well_sorted = at.well_sorted;
    values = λ x h. known.sequences.irreducible (s x) (value_under by m.variant x) (at.same x h) (variant.values x ((f.vars.all x).0 h));
    stay = λ k e l. one (get_or g.fixed k e) (explorable.fixed k e l) (variant.stay k e l);
  } where
    f : IsFound g start m.variant
    f = found_at m listed

    one : (t : Term) → ((y : Var) → Occurs y t → OccursInSome y (map plain start)) → IsIrreducible g.declarations g.equations (apply s t) → IsIrreducible g.declarations g.equations (apply by (apply (substitution m.variant.subst) t))
    one t within irreducible =
        known.sequences.irreducible (apply s t) (apply by (apply (substitution m.variant.subst) t))
        (subst (BEqual g.declarations (apply s t)) (sym (apply-apply (substitution m.variant.subst) by t)) (equal_by_agreement g.declarations s (followed_by (substitution m.variant.subst) by) t (λ x o. at.same x ((f.vars.all x).1 (within x o)))))
        irreducible

  -- the instance of what a member lifts into
  lifted_at : (m n : Deep) (by : Substitution) → Contains kept m → Contains kept n → IsAt m by → (l : IsLifted g m.variant by n.variant) → IsAt n l.by
  lifted_at m n by listed next at l = record {
    well_sorted = l.well_sorted;
    same = λ x h.
        let here = ((found_at m listed).vars.all x).1 (((found_at n next).vars.all x).0 h) in
        BEqual-trans g.declarations (at.same x here) (l.same x here);
    steps = at.steps + suc l.steps;
    reached = known.rewriting.list_joined at.steps (suc l.steps) (map (apply s) (map plain start)) (instance_of by m.variant) (instance_of l.by n.variant) at.reached l.sequence;
  }

  -- no sequence from the instance has more steps than this
  abbrev IsBoundAt : ℕ → Deep → Substitution → Type 0
  IsBoundAt most m by = (k : ℕ) (vs : List Term) → ListSequence g.declarations g.equations k (instance_of by m.variant) vs → k ≤ most

  -- what is left of a bound behind a lifting
  bound_left : (most : ℕ) (m n : Deep) (by : Substitution) → IsBoundAt (suc most) m by → (l : IsLifted g m.variant by n.variant) → IsBoundAt most n l.by
  bound_left most m n by bound l k vs q =
      let whole : suc l.steps + k ≤ suc most = bound (suc l.steps + k) vs (known.rewriting.list_joined (suc l.steps) k (instance_of by m.variant) (instance_of l.by n.variant) vs l.sequence q) in
      omega (arith, whole)

  decided_at : (m : Deep) (by : Substitution) → Contains kept m → IsAt m by → ((vs : List Term) × ListRewrites g.declarations g.equations (instance_of by m.variant) vs) ⊎ IsIrreducibleList g.declarations g.equations (instance_of by m.variant)
  decided_at m by listed at =
      list_decided g.declarations g.equations explorable.lawful (instance_of by m.variant) (instances_kinded g.declarations by at.well_sorted m.variant.terms ((found_at m listed).member.flat.terms))

  module _ (below : ℕ) (closed : AreClosedBelow g kept below) where
    -- where a reducible instance lifts to
    record NextAt (m : Deep) (by : Substitution) : Type 0 where
      next : Deep
      listed : Contains kept next
      depth : next.depth ≤ m.depth + 1
      lifted : IsLifted g m.variant by next.variant

    next_at : (m : Deep) (by : Substitution) → Contains kept m → m.depth < below → IsAt m by → (vs : List Term) → ListRewrites g.declarations g.equations (instance_of by m.variant) vs → NextAt m by
    next_at m by listed above at vs r =
        let w = closed m listed above by (keeps m by listed at) vs r in
        let n = w.1 in
        record { next = n.0; listed = n.1; depth = n.3; lifted = subst (IsLifted g m.variant by) (sym n.2) w.2 }

    pub descend : (most : ℕ) (m : Deep) (by : Substitution) → Contains kept m → IsAt m by → IsBoundAt most m by → m.depth + most ≤ below → HasLanded
    descend zero m by listed at bound room = go (decided_at m by listed at) where
      go : ((vs : List Term) × ListRewrites g.declarations g.equations (instance_of by m.variant) vs) ⊎ IsIrreducibleList g.declarations g.equations (instance_of by m.variant) → HasLanded
      go (inl r) = absurd (let l : 1 ≤ 0 = bound 1 r.0 (r.0, (r.1, each_equal_itself g.declarations r.0)) in omega arith)
      go (inr stays) = record { member = m; listed = listed; by = by; at = at; irreducible = stays }
    descend (suc most) m by listed at bound room =
        go (decided_at m by listed at)
        (λ w. descend most w.next w.lifted.by w.listed (lifted_at m w.next by listed w.listed at w.lifted) (bound_left most m w.next by bound w.lifted) (let l : w.next.depth ≤ m.depth + 1 = w.depth in omega (arith, l, room)))
      where
        go : ((vs : List Term) × ListRewrites g.declarations g.equations (instance_of by m.variant) vs) ⊎ IsIrreducibleList g.declarations g.equations (instance_of by m.variant) → (NextAt m by → HasLanded) → HasLanded
        go (inl r) further = further (next_at m by listed (omega (arith, room)) at r.0 r.1)
        go (inr stays) further = record { member = m; listed = listed; by = by; at = at; irreducible = stays }

  -- where one lands covers the variant
  pub landed_covers : IsConfluent g.declarations g.equations → (l : HasLanded) → Covers g.declarations l.member.variant.vars (map plain l.member.variant.terms) (substitution l.member.variant.subst) us s
  landed_covers confluent l = record {
    by = l.by;
    well_sorted = l.at.well_sorted;
    same_terms =
        one_list_normal_form g.declarations g.equations known confluent (map (apply s) (map plain start)) us (instance_of l.by l.member.variant) variant.steps l.at.steps
        (instances_kinded g.declarations s variant.well_sorted start explorable.fits) variant.sequence l.at.reached variant.irreducible l.irreducible;
    same_values = l.at.same;
  }
