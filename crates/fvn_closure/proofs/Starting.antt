-- The first member of a level run, and the instance of it that a variant is.
use Rattle.std.proofs.Common.{◌≡◌, ◌⊎◌, ℕ, ◌+◌, ◌≤◌, Bool, true, false, List, [], ◌∷◌, map, refl, sym, ap, ◌∙◌, subst, inl, inr, arith}
use Rattle.std.specs.List.{All, Contains}
use Rattle.std.proofs.lemmas.List.Elements.{All-contains}
use Rattle.fvn_base.proofs.Membership.{contains_here, contains_later, contains_cases, contains_none, contains_map}
use Rattle.fvn_terms.specs.declared.plain.Var.{Var}
use Rattle.fvn_terms.specs.declared.declarations.Declarations.{Declarations}
use Rattle.fvn_terms.specs.Term.{Term, var}
use Rattle.fvn_terms.specs.Substitution.{Substitution, apply, followed_by, same_var}
use Rattle.fvn_terms.specs.Signature.{IsSort, kind, HasKind}
use Rattle.fvn_terms.specs.Places.{stop}
use Rattle.fvn_terms.specs.Equality.{BEqual}
use Rattle.fvn_terms.specs.Sorts.{HasSort, IsWellSorted}
use Rattle.fvn_terms.specs.Unifiers.{Problem}
use Rattle.fvn_terms.specs.Rewriting.{ListSequence, IsTerminating, IsConfluent}
use Rattle.fvn_terms.specs.Variants.{Covers}
use Rattle.fvn_terms.proofs.Variables.{same_var_is, same_var_itself}
use Rattle.fvn_forms.specs.Flat.{FlatTerm, plain}
use Rattle.fvn_flat.specs.Drawn.{Renaming, IsOneToOne}
use Rattle.fvn_flat.specs.Solving.{substitution}
use Rattle.fvn_rewrite_laws.proofs.Lists.{list_before}
use Rattle.fvn_rewrite_laws.proofs.Agreement.{each_equal_by_agreement}
use Rattle.fvn_cover.specs.declared.variant.Variant.{Variant}
use Rattle.fvn_exploring.specs.declared.ends.Deep.{Deep}
use Rattle.fvn_exploring.specs.Setting.{Setting}
use Rattle.fvn_exploring.specs.Liftings.{instance_of}
use Rattle.fvn_exploring.specs.LevelRuns.{IsStart, IsLevelRun}
use Rattle.fvn_exploring.specs.Explorations.{variants_of, IsVariantOf, IsStartWithin, IsCovered, IsFound}
use Rattle.fvn_closure.specs.Closing.{IsExplorable, AreClosedBelow}
use Rattle.fvn_closure.specs.Laws.{LevelRunLaws}
use Rattle.fvn_closure.proofs.Known.{IsKnown}
use Rattle.fvn_closure.proofs.Renamings.{variable_of_sort, variable_of_kind}
use Rattle.fvn_closure.proofs.Following.{instances_followed}
use Rattle.fvn_closure.proofs.Found.{all_found}
use Rattle.fvn_closure.proofs.Descending.{IsAt, descend, landed_covers, instances_kinded}

-- the variant covers these terms with this substitution
abbrev CoversReached : Setting → List Term → Substitution → Variant → Type 0
CoversReached g us s v = Covers g.declarations v.vars (map plain v.terms) (substitution v.subst) us s

-- what the variable goes to that is renamed to y, if one is
abbrev pub back_one : Term → Bool → Term → Term
back_one t true u = t
back_one t false u = u

-- renamed variables go to what s makes of the others
abbrev pub back : Renaming → Substitution → List Var → Substitution
back r s [] y = var y
back r s (x ∷ xs) y = back_one (s x) (same_var (r x) y) (back r s xs y)

module _ (r : Renaming) (s : Substitution) (vars : List Var) (apart : IsOneToOne (Contains vars) r) where
  pub back_renamed : (xs : List Var) → ((x : Var) → Contains xs x → Contains vars x) → (x : Var) → Contains xs x → back r s xs (r x) ≡ s x
  back_renamed [] within x h = absurd (contains_none x h)
  back_renamed (z ∷ xs) within x h = go (same_var (r z) (r x)) refl (contains_cases z xs x h) (λ i. back_renamed xs (λ y m. within y (contains_later z xs y m)) x i) where
    go : (b : Bool) → same_var (r z) (r x) ≡ b → (z ≡ x) ⊎ Contains xs x → (Contains xs x → back r s xs (r x) ≡ s x) → back_one (s z) b (back r s xs (r x)) ≡ s x
    go true e c later = ap s (apart z x (within z (contains_here z xs)) (within x h) (same_var_is (r z) (r x) e))
    go false e (inr i) later = later i
    go false e (inl same) later = absurd (let t : same_var (r z) (r x) ≡ true = subst (λ y. same_var (r z) (r y) ≡ true) same (same_var_itself (r z)) in let f : true ≡ false = sym t ∙ e in cc)

  module _ (d : Declarations) (sorted : IsWellSorted d s) (sorts : (x : Var) → Contains vars x → (r x).sort ≡ x.sort) where
    back_of_kind : (xs : List Var) → ((x : Var) → Contains xs x → Contains vars x) → (y : Var) → IsSort d y.sort → HasKind d (back r s xs y) (kind d y.sort)
    back_of_kind [] within y i = variable_of_kind d y y refl i
    back_of_kind (x ∷ xs) within y i = go (same_var (r x) y) refl (back_of_kind xs (λ z m. within z (contains_later x xs z m)) y i) where
      go : (b : Bool) → same_var (r x) y ≡ b → HasKind d (back r s xs y) (kind d y.sort) → HasKind d (back_one (s x) b (back r s xs y)) (kind d y.sort)
      go true e later =
          let same : x.sort ≡ y.sort = sym (sorts x (within x (contains_here x xs))) ∙ ap (λ (z : Var). z.sort) (same_var_is (r x) y e) in
          subst (λ q. IsSort d q → HasKind d (s x) (kind d q)) same (sorted.0 x) i
      go false e later = later

    back_of_sort : (xs : List Var) → ((x : Var) → Contains xs x → Contains vars x) → (y : Var) → HasSort d (back r s xs y) y.sort
    back_of_sort [] within y = variable_of_sort d y y refl
    back_of_sort (x ∷ xs) within y = go (same_var (r x) y) refl (back_of_sort xs (λ z m. within z (contains_later x xs z m)) y) where
      go : (b : Bool) → same_var (r x) y ≡ b → HasSort d (back r s xs y) y.sort → HasSort d (back_one (s x) b (back r s xs y)) y.sort
      go true e later =
          let same : x.sort ≡ y.sort = sym (sorts x (within x (contains_here x xs))) ∙ ap (λ (z : Var). z.sort) (same_var_is (r x) y e) in
          subst (HasSort d (s x)) same (sorted.1 x)
      go false e later = later

    pub back_sorted : IsWellSorted d (back r s vars)
    back_sorted = (back_of_kind vars (λ x m. m), back_of_sort vars (λ x m. m))

module _ (g : Setting) (start : List FlatTerm) (explorable : IsExplorable g start) (known : IsKnown g.declarations g.equations) (drawn : Problem → Substitution → Type 0) (kept : List Deep) (run : IsLevelRun g drawn start kept) where
  abbrev AllFound : Type 0
  AllFound = All (λ m. IsFound g start m.variant) kept

  found : AllFound
  found = all_found g start explorable known drawn kept run

  module _ (us : List Term) (s : Substitution) (variant : IsVariantOf g start us s) where
    -- the first member has an instance that the start's is brought to
    start_at : (m : Deep) → IsStart g start m.variant → (by : Substitution) × IsAt g start explorable known kept found us s variant m by
    start_at m h = ((back h.by s m.variant.vars), record { well_sorted = sorted; same = same; steps = h.steps; reached = reached }) where
      sorted : IsWellSorted g.declarations (back h.by s m.variant.vars)
      sorted = back_sorted h.by s m.variant.vars h.renames.one_to_one g.declarations variant.well_sorted h.renames.sorts

      is : (x : Var) → Contains m.variant.vars x → apply (back h.by s m.variant.vars) ((substitution m.variant.subst) x) ≡ s x
      is x i = ap (apply (back h.by s m.variant.vars)) (h.renamed x i) ∙ back_renamed h.by s m.variant.vars h.renames.one_to_one m.variant.vars (λ y j. j) x i

      same : (x : Var) → Contains m.variant.vars x → BEqual g.declarations (s x) (apply (back h.by s m.variant.vars) ((substitution m.variant.subst) x))
      same x i = subst (BEqual g.declarations (s x)) (sym (is x i)) stop

      reached : ListSequence g.declarations g.equations h.steps (map (apply s) (map plain start)) (instance_of (back h.by s m.variant.vars) m.variant)
      reached =
          list_before g.declarations g.equations known.rewriting h.steps (map (apply (followed_by (substitution m.variant.subst) (back h.by s m.variant.vars))) (map plain start)) (map (apply s) (map plain start)) (instance_of (back h.by s m.variant.vars) m.variant)
          (each_equal_by_agreement g.declarations (map plain start) s (followed_by (substitution m.variant.subst) (back h.by s m.variant.vars)) (λ x o. same x ((h.vars.all x).1 o)))
          (subst (λ ts. ListSequence g.declarations g.equations h.steps ts (instance_of (back h.by s m.variant.vars) m.variant)) (instances_followed (substitution m.variant.subst) (back h.by s m.variant.vars) (map plain start))
          (known.lists.instances (back h.by s m.variant.vars) sorted h.steps (map (apply (substitution m.variant.subst)) (map plain start)) (map plain m.variant.terms) h.reached))

    -- a bound of the start's instance is one of the member's
    bounded_at : (k : ℕ) → IsStartWithin g start k s → (m : Deep) (by : Substitution) → IsAt g start explorable known kept found us s variant m by →
        (j : ℕ) (vs : List Term) → ListSequence g.declarations g.equations j (instance_of by m.variant) vs → j ≤ k
    bounded_at k within m by a j vs q =
        let w : a.steps + j ≤ k = known.rewriting.within k (map plain start) (instance_of by m.variant) s a.steps within a.reached j vs q in
        omega (arith, w)

    -- from the first member down
    covered_from : IsConfluent g.declarations g.equations → (m : Deep) (rest : List Deep) → kept ≡ m ∷ rest → (k : ℕ) → AreClosedBelow g kept k → IsStartWithin g start k s → IsCovered g (variants_of kept) us s
    covered_from confluent m rest e k closed within =
        let first = run.first m rest e in
        let listed : Contains kept m = subst (λ l. Contains l m) (sym e) (contains_here m rest) in
        let a = start_at m first.1 in
        let depth : m.depth ≡ 0 = first.0 in
        let l = descend g start explorable known kept found us s variant k closed k m a.0 listed a.1 (bounded_at k within m a.0 a.1) (omega (arith, depth)) in
        of_member l.member l.listed (landed_covers g start explorable known kept found us s variant confluent l)
      where
        of_member : (n : Deep) → Contains kept n → CoversReached g us s n.variant → IsCovered g (variants_of kept) us s
        of_member n h c = let w = contains_map (λ (m : Deep). m.variant) kept n h in (w.0, n.variant, w.1, w.2, c)

    covered_within : IsConfluent g.declarations g.equations → (n : Deep) → Contains kept n → (k : ℕ) → AreClosedBelow g kept k → IsStartWithin g start k s → IsCovered g (variants_of kept) us s
    covered_within confluent n h k closed within = go kept refl h where
      go : (l : List Deep) → kept ≡ l → Contains l n → IsCovered g (variants_of kept) us s
      go [] e h = absurd (contains_none n h)
      go (m ∷ rest) e h = covered_from confluent m rest e k closed within

    covered_all : IsTerminating g.declarations g.equations → IsConfluent g.declarations g.equations → (n : Deep) → Contains kept n → ((k : ℕ) → AreClosedBelow g kept k) → IsCovered g (variants_of kept) us s
    covered_all terminating confluent n h closed =
        let b = known.rewriting.bounded terminating (map (apply s) (map plain start)) (instances_kinded g.declarations s variant.well_sorted start explorable.fits) in
        covered_within confluent n h b.0 (closed b.0) b.1

  pub run_laws : LevelRunLaws g start kept
  run_laws = record {
    found = λ m h. All-contains (λ m. IsFound g start m.variant) kept m found h;
    within = λ confluent first listed k closed us s variant within. covered_within us s variant confluent first listed k closed within;
    complete = λ terminating confluent first listed closed us s variant. covered_all us s variant terminating confluent first listed closed;
  }
