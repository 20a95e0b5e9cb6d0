-- The sides of pairs, and what they are brought to, two by two.
use Rattle.std.proofs.Common.{◌≡◌, ◌<◌, ◌≤◌, ◌⊎◌, ◌+◌, ℕ, zero, suc, List, [], ◌∷◌, ◌++◌, map, length, get_or, drop, refl, sym, ap, ◌∙◌, subst, inl, inr, arith}
use Rattle.std.specs.List.{All, AllZip, Contains}
use Rattle.std.proofs.lemmas.List.{append-nil, append_assoc, length-drop, drop_more}
use Rattle.std.proofs.lemmas.List.Elements.{All-nil, All-cons, All-head, All-tail}
use Rattle.std.proofs.lemmas.List.Elements.{Contains-append_left, Contains-append_right, Contains-append_cases}
use Rattle.fvn_base.proofs.Membership.{contains_none}
use Rattle.fvn_terms.specs.declared.plain.Var.{Var}
use Rattle.fvn_terms.specs.declared.declarations.Declarations.{Declarations}
use Rattle.fvn_terms.specs.Term.{Term}
use Rattle.fvn_terms.specs.Substitution.{Substitution, apply, followed_by, Occurs}
use Rattle.fvn_terms.specs.Signature.{IsTerm, KeepsKinds}
use Rattle.fvn_terms.specs.Equality.{BEqual}
use Rattle.fvn_terms.specs.Sorts.{IsWellSorted}
use Rattle.fvn_terms.specs.Unifiers.{Solves}
use Rattle.fvn_terms.specs.Theory.{Equations, TEqual}
use Rattle.fvn_terms.specs.Rewriting.{IsIrreducible, IsConfluent}
use Rattle.fvn_terms.specs.Variants.{OccursInSome}
use Rattle.fvn_terms.specs.Laws.{TheoryLaws}
use Rattle.fvn_terms.proofs.Substitutions.{apply-apply}
use Rattle.fvn_terms.proofs.Equal.{HasKind-apply, BEqual-sym, BEqual-trans}
use Rattle.fvn_forms.specs.Flat.{FlatTerm, plain}
use Rattle.fvn_flat.specs.Problems.{variables, variables_of, plain_pairs, IsProblem}
use Rattle.fvn_flat.specs.Solving.{FlatPairs}
use Rattle.fvn_flat.proofs.VariableLists.{variables_list, variables_occur}
use Rattle.fvn_rewrite_laws.specs.Lists.{EachHasSequence}
use Rattle.fvn_rewrite_laws.specs.Laws.{KindedLaws}
use Rattle.fvn_rewrite_laws.proofs.Agreement.{equal_by_agreement}
use Rattle.fvn_vunify.specs.Sides.{sides_in_turn, two_by_two, problem_over}
use Rattle.fvn_vunify.proofs.IrreducibleValues.{OfOneKind}

-- the sides of the pairs as plain terms
abbrev pub plain_sides : FlatPairs → List Term
plain_sides pairs = map plain (sides_in_turn pairs)

-- the variables of a problem are those of its sides
pub variable_of_sides : (pairs : FlatPairs) (x : Var) → Contains (variables_of (plain_pairs pairs)) x → OccursInSome x (plain_sides pairs)
variable_of_sides [] x m = absurd (contains_none x m)
variable_of_sides (p ∷ pairs) x m =
    go (Contains-append_cases (variables (plain p.0) ++ variables (plain p.1)) (variables_of (plain_pairs pairs)) x m) (variable_of_sides pairs x)
  where
    side : Contains (variables (plain p.0)) x ⊎ Contains (variables (plain p.1)) x → OccursInSome x (plain_sides (p ∷ pairs))
    side (inl a) = (0, plain p.0, omega arith, refl, variables_occur x (plain p.0) a)
    side (inr b) = (1, plain p.1, omega arith, refl, variables_occur x (plain p.1) b)

    go : Contains (variables (plain p.0) ++ variables (plain p.1)) x ⊎ Contains (variables_of (plain_pairs pairs)) x →
        (Contains (variables_of (plain_pairs pairs)) x → OccursInSome x (plain_sides pairs)) → OccursInSome x (plain_sides (p ∷ pairs))
    go (inl pair) later = side (Contains-append_cases (variables (plain p.0)) (variables (plain p.1)) x pair)
    go (inr rest) later = let w = later rest in (suc (suc w.0), w.1, omega (arith, w.2), w.3, w.4)

pub side_has_variable : (pairs : FlatPairs) (x : Var) → OccursInSome x (plain_sides pairs) → Contains (variables_of (plain_pairs pairs)) x
side_has_variable [] x (k, t, l, e, o) = absurd (omega (arith, l))
side_has_variable (p ∷ pairs) x (zero, t, l, e, o) =
    Contains-append_left (variables (plain p.0) ++ variables (plain p.1)) (variables_of (plain_pairs pairs)) x
    (Contains-append_left (variables (plain p.0)) (variables (plain p.1)) x (variables_list x (plain p.0) (subst (Occurs x) (sym e) o)))
side_has_variable (p ∷ pairs) x (suc zero, t, l, e, o) =
    Contains-append_left (variables (plain p.0) ++ variables (plain p.1)) (variables_of (plain_pairs pairs)) x
    (Contains-append_right (variables (plain p.0)) (variables (plain p.1)) x (variables_list x (plain p.1) (subst (Occurs x) (sym e) o)))
side_has_variable (p ∷ pairs) x (suc (suc k), t, l, e, o) =
    Contains-append_right (variables (plain p.0) ++ variables (plain p.1)) (variables_of (plain_pairs pairs)) x
    (side_has_variable pairs x (k, t, omega (arith, l), e, o))

-- forms are taken two by two before they change or after
pub two_by_two-map : (f : FlatTerm → FlatTerm) (ts : List FlatTerm) → two_by_two (map f ts) ≡ map (λ p. (f p.0, f p.1)) (two_by_two ts)
two_by_two-map f [] = refl
two_by_two-map f (t ∷ []) = refl
two_by_two-map f (t ∷ u ∷ ts) = ap (λ l. (f t, f u) ∷ l) (two_by_two-map f ts)

-- the next two of what is left
two_left : (f : FlatTerm → FlatTerm) (ts : List FlatTerm) (i : ℕ) (a b : FlatTerm) → i + 1 < length ts →
    two_by_two (map f (drop i ts)) ≡ (f (get_or ts i a), f (get_or ts (i + 1) b)) ∷ two_by_two (map f (drop (i + 2) ts))
two_left f ts i a b l =
    let further : i + 1 + 1 ≡ i + 2 = omega arith in
    ap (λ l. two_by_two (map f l))
    (drop_more ts i a (omega (arith, l)) ∙ ap (λ l. get_or ts i a ∷ l) (drop_more ts (i + 1) b l) ∙ ap (λ n. get_or ts i a ∷ get_or ts (i + 1) b ∷ drop n ts) further)

pub pairs_step : (f : FlatTerm → FlatTerm) (ts : List FlatTerm) (i : ℕ) (a b : FlatTerm) (now next : FlatPairs) → i + 1 < length ts → a ≡ get_or ts i a → b ≡ get_or ts (i + 1) b →
    next ≡ now ++ (f a, f b) ∷ [] → now ++ two_by_two (map f (drop i ts)) ≡ two_by_two (map f ts) → next ++ two_by_two (map f (drop (i + 2) ts)) ≡ two_by_two (map f ts)
pairs_step f ts i a b now next l is_a is_b e h =
    let rest = two_by_two (map f (drop (i + 2) ts)) in
    let left : two_by_two (map f (drop i ts)) ≡ (f a, f b) ∷ rest =
    two_left f ts i a b l ∙ ap (λ t. (f t, f (get_or ts (i + 1) b)) ∷ rest) (sym is_a) ∙ ap (λ t. (f a, f t) ∷ rest) (sym is_b) in
    ap (λ ps. ps ++ rest) e ∙ append_assoc now ((f a, f b) ∷ []) rest ∙ ap (λ ps. now ++ ps) (sym left) ∙ h

-- one that is left has no other
pub pairs_whole : (f : FlatTerm → FlatTerm) (ts : List FlatTerm) (i : ℕ) (now : FlatPairs) → length ts ≤ i + 1 →
    now ++ two_by_two (map f (drop i ts)) ≡ two_by_two (map f ts) → now ≡ two_by_two (map f ts)
pairs_whole f ts i now l h =
    sym (append-nil now) ∙ ap (λ ps. now ++ ps) (sym (go (drop i ts) (let e = length-drop i ts in omega (arith, e, l)))) ∙ h
  where
    go : (left : List FlatTerm) → length left ≤ 1 → two_by_two (map f left) ≡ []
    go [] n = refl
    go (t ∷ []) n = refl
    go (t ∷ u ∷ us) n = absurd (omega (arith, n))

module _ (d : Declarations) (equations : Equations) where
  abbrev UnifiesIn : Substitution → Term × Term → Type 0
  UnifiesIn s p = TEqual d equations (apply s p.0) (apply s p.1)

  abbrev Unifies : Substitution → Term × Term → Type 0
  Unifies s p = BEqual d (apply s p.0) (apply s p.1)

  -- what first leads from the sides to forms, and then makes these equal two by two, makes the sides equal in the theory
  module _ (theory : TheoryLaws d equations) (s c r : Substitution) (sorted : IsWellSorted d c) where
    abbrev AgreesOn : Term → Type 0
    AgreesOn t = (x : Var) → Occurs x t → BEqual d (r x) (apply c (s x))

    under_both : (t : Term) (u : Term) → TEqual d equations (apply s t) u → AgreesOn t → TEqual d equations (apply r t) (apply c u)
    under_both t u e agree =
        let both : BEqual d (apply r t) (apply c (apply s t)) = subst (BEqual d (apply r t)) (sym (apply-apply s c t)) (equal_by_agreement d r (followed_by s c) t agree) in
        theory.equivalence.transitive (apply r t) (apply c (apply s t)) (apply c u)
        (theory.modulo (apply r t) (apply c (apply s t)) both)
        (theory.substitution c sorted (apply s t) u e)

    sides_equal : (a b t u : Term) → TEqual d equations (apply s a) t → TEqual d equations (apply s b) u → AgreesOn a → AgreesOn b →
        BEqual d (apply c t) (apply c u) → TEqual d equations (apply r a) (apply r b)
    sides_equal a b t u ea eb ga gb e =
        let eq = theory.equivalence in
        let left = under_both a t ea ga in
        let right = under_both b u eb gb in
        eq.transitive (apply r a) (apply c t) (apply r b) left
        (eq.transitive (apply c t) (apply c u) (apply r b) (theory.modulo (apply c t) (apply c u) e) (eq.symmetric (apply r b) (apply c u) right))

    pub unifies_in_theory : (pairs : FlatPairs) (ts : List FlatTerm) → AllZip (TEqual d equations) (map (apply s) (plain_sides pairs)) (map plain ts) →
        Solves (BEqual d) (problem_over ts) c → ((x : Var) → OccursInSome x (plain_sides pairs) → BEqual d (r x) (apply c (s x))) →
        Solves (TEqual d equations) (plain_pairs pairs) r
    unifies_in_theory [] ts z h agree = All-nil (UnifiesIn r)
    unifies_in_theory (p ∷ pairs) [] z h agree = absurd z
    unifies_in_theory (p ∷ pairs) (t ∷ []) z h agree = absurd z.1
    unifies_in_theory (p ∷ pairs) (t ∷ u ∷ ts) z h agree =
        All-cons (UnifiesIn r) (plain p.0, plain p.1) (plain_pairs pairs)
        (sides_equal (plain p.0) (plain p.1) (plain t) (plain u) z.0 z.1.0
        (λ x o. agree x (0, plain p.0, omega arith, refl, o)) (λ x o. agree x (1, plain p.1, omega arith, refl, o))
        (All-head (Unifies c) (plain t, plain u) (problem_over ts) h))
        (unifies_in_theory pairs ts z.1.1 (All-tail (Unifies c) (plain t, plain u) (problem_over ts) h)
        (λ x o. agree x (suc (suc o.0), o.1, omega (arith, o.2), o.3, o.4)))

  module _ (kinded : KindedLaws d equations) (s : Substitution) (keeps : KeepsKinds d s) where
    -- what the sides of pairs of one kind are brought to are pairs of one kind
    pub kinds_reached : (pairs : FlatPairs) (ts : List FlatTerm) (k : ℕ) → IsProblem d (plain_pairs pairs) →
        EachHasSequence d equations k (map (apply s) (plain_sides pairs)) (map plain ts) → IsProblem d (problem_over ts)
    kinds_reached [] [] k h q = All-nil (OfOneKind d)
    kinds_reached [] (t ∷ ts) k h q = absurd q
    kinds_reached (p ∷ pairs) [] k h q = absurd q
    kinds_reached (p ∷ pairs) (t ∷ []) k h q = absurd q.3.1
    kinds_reached (p ∷ pairs) (t ∷ u ∷ ts) k h q =
        let one = All-head (OfOneKind d) (plain p.0, plain p.1) (plain_pairs pairs) h in
        let rest = q.3.1 in
        All-cons (OfOneKind d) (plain t, plain u) (problem_over ts) (
          one.0,
          kinded.sequences q.0 (apply s (plain p.0)) (plain t) q.3.0 one.0 (HasKind-apply d s keeps (plain p.0) one.0 one.1),
          kinded.sequences rest.0 (apply s (plain p.1)) (plain u) rest.3.0 one.0 (HasKind-apply d s keeps (plain p.1) one.0 one.2),
        )
        (kinds_reached pairs ts rest.1 (All-tail (OfOneKind d) (plain p.0, plain p.1) (plain_pairs pairs) h) rest.3.1)

    -- the instances of the sides are well-kinded
    pub sides_kinded : (pairs : FlatPairs) → IsProblem d (plain_pairs pairs) → All (IsTerm d) (map (apply s) (plain_sides pairs))
    sides_kinded [] h = All-nil (IsTerm d)
    sides_kinded (p ∷ pairs) h =
        let one = All-head (OfOneKind d) (plain p.0, plain p.1) (plain_pairs pairs) h in
        All-cons (IsTerm d) (apply s (plain p.0)) (apply s (plain p.1) ∷ map (apply s) (plain_sides pairs)) (one.0, HasKind-apply d s keeps (plain p.0) one.0 one.1)
        (All-cons (IsTerm d) (apply s (plain p.1)) (map (apply s) (plain_sides pairs)) (one.0, HasKind-apply d s keeps (plain p.1) one.0 one.2)
        (sides_kinded pairs (All-tail (OfOneKind d) (plain p.0, plain p.1) (plain_pairs pairs) h)))

    -- the normal forms of the sides under a unifier in the theory are equal two by two; so are instances to which they are equal
    module _ (confluent : IsConfluent d equations) (c : Substitution) where
      pub normal_forms_unified : (pairs : FlatPairs) (us : List Term) (ts : List FlatTerm) (k : ℕ) → IsProblem d (plain_pairs pairs) →
          Solves (TEqual d equations) (plain_pairs pairs) s → EachHasSequence d equations k (map (apply s) (plain_sides pairs)) us →
          All (IsIrreducible d equations) us → AllZip (BEqual d) us (map (apply c) (map plain ts)) → Solves (BEqual d) (problem_over ts) c
      normal_forms_unified [] [] [] k h e q n z = All-nil (Unifies c)
      normal_forms_unified [] [] (t ∷ ts) k h e q n z = absurd z
      normal_forms_unified [] (u ∷ us) ts k h e q n z = absurd q
      normal_forms_unified (p ∷ pairs) [] ts k h e q n z = absurd q
      normal_forms_unified (p ∷ pairs) (u ∷ []) ts k h e q n z = absurd q.3.1
      normal_forms_unified (p ∷ pairs) (u ∷ v ∷ us) [] k h e q n z = absurd z
      normal_forms_unified (p ∷ pairs) (u ∷ v ∷ us) (t ∷ []) k h e q n z = absurd z.1
      normal_forms_unified (p ∷ pairs) (u ∷ v ∷ us) (t ∷ w ∷ ts) k h e q n z =
          let one = All-head (OfOneKind d) (plain p.0, plain p.1) (plain_pairs pairs) h in
          let rest = q.3.1 in
          let later = All-tail (IsIrreducible d equations) u (v ∷ us) n in
          let same = kinded.one_normal_form confluent (apply s (plain p.0)) (apply s (plain p.1)) u v q.0 rest.0
          (one.0, HasKind-apply d s keeps (plain p.0) one.0 one.1)
          (All-head (UnifiesIn s) (plain p.0, plain p.1) (plain_pairs pairs) e) q.3.0 rest.3.0
          (All-head (IsIrreducible d equations) u (v ∷ us) n) (All-head (IsIrreducible d equations) v us later)
          in
          All-cons (Unifies c) (plain t, plain w) (problem_over ts)
          (BEqual-trans d (BEqual-sym d z.0) (BEqual-trans d same z.1.0))
          (normal_forms_unified pairs us ts rest.1
          (All-tail (OfOneKind d) (plain p.0, plain p.1) (plain_pairs pairs) h)
          (All-tail (UnifiesIn s) (plain p.0, plain p.1) (plain_pairs pairs) e)
          rest.3.1 (All-tail (IsIrreducible d equations) v us later) z.1.1)
