-- Variables bound to values: the substitution that the pairs stand for, and patterns as instances.
use Rattle.std.proofs.Common.{◌≡◌, ◌+◌, ◌<◌, ℕ, Bool, true, false, List, [], ◌∷◌, ◌++◌, Option, Some, None, length, take, get_or, refl, sym, ap, ◌∙◌, subst}
use Rattle.std.specs.Prelude.{if◌then◌else◌}
use Rattle.std.proofs.lemmas.List.{take_more}
use Rattle.fvn_terms.specs.declared.plain.Var.{Var}
use Rattle.fvn_terms.specs.declared.plain.OpId.{OpId}
use Rattle.fvn_terms.specs.declared.declarations.Axioms.TheVariants.{Free}
use Rattle.fvn_terms.specs.declared.declarations.Declarations.{Declarations}
use Rattle.fvn_terms.specs.Term.{var, app, more}
use Rattle.fvn_terms.specs.Signature.{kind, axioms, IsSort, AtOrBelow, HasKind, same}
use Rattle.fvn_terms.specs.Sorts.{HasSort, IsWellSorted}
use Rattle.fvn_terms.specs.Equality.{IsAssociative}
use Rattle.fvn_terms.specs.Substitution.{apply, apply_all, same_var}
use Rattle.fvn_terms.proofs.Equal.{BEqual-refl}
use Rattle.fvn_forms.specs.Flat.{FlatTerm, FlatTerms, fvar, fapp, fnone, fmore, fpack, plain, plain_all}
use Rattle.fvn_forms.specs.Good.{IsGood}
use Rattle.fvn_forms.specs.Settled.{Settled}
use Rattle.fvn_forms.proofs.InOrder.{each_append}
use Rattle.fvn_forms.proofs.Sums.{fpack-funpack}
use Rattle.fvn_flat.specs.Forms.{args_of}
use Rattle.fvn_flat.proofs.Binding.{same_var_is, same_var_itself}
use Rattle.fvn_rewrite.specs.inner.SortedTerms.{SortedTerm, SortedTerms, svar, sapp, snone, smore, sunpack, sort_of, operator_of, parts_of, forms_of, term_of, IsSorted, IsValue}
use Rattle.fvn_rewrite.specs.inner.Fitting.{SortedBindings, sorted_bound, sorted_or, standing_for, IsInstance, AreInstances, Keeps, IsFreeHead, IsBinding, AreBindings, IsFitted, AreFitted}
use Rattle.fvn_rewrite.proofs.Values.{value_has_sort, value_has_kind}

-- pairs at the end change nothing of what is bound before
pub bound_kept : (b : SortedBindings) (p : Var × SortedTerm) → Keeps b (b ++ p ∷ [])
bound_kept [] p x v e = cc
bound_kept (q ∷ b) p x v e = go (same_var q.0 x) (bound_kept b p x v) e
  where
    go : (t : Bool) → (sorted_bound b x ≡ Some v → sorted_bound (b ++ p ∷ []) x ≡ Some v) → (if t then Some q.1 else sorted_bound b x) ≡ Some v → (if t then Some q.1 else sorted_bound (b ++ p ∷ []) x) ≡ Some v
    go true k h = h
    go false k h = k h

-- and bind what was not
pub bound_last : (b : SortedBindings) (x : Var) (v : SortedTerm) → sorted_bound b x ≡ None → sorted_bound (b ++ (x, v) ∷ []) x ≡ Some v
bound_last [] x v e = ap (λ t. if t then Some v else None) (same_var_itself x)
bound_last (q ∷ b) x v e = go (same_var q.0 x) e (bound_last b x v)
  where
    go : (t : Bool) → (if t then Some q.1 else sorted_bound b x) ≡ None → (sorted_bound b x ≡ None → sorted_bound (b ++ (x, v) ∷ []) x ≡ Some v) → (if t then Some q.1 else sorted_bound (b ++ (x, v) ∷ []) x) ≡ Some v
    go true h k = cc
    go false h k = k h

-- what more pairs bind makes the same instances
mutual
  pub keeps_instance : (b c : SortedBindings) → Keeps b c → (p : FlatTerm) (v : SortedTerm) → IsInstance b p v → IsInstance c p v
  keeps_instance b c k (fvar x) v h = k x v h
  keeps_instance b c k (fapp f joined ps) v h = (h.0, (h.1.0, keeps_instances b c k ps (parts_of v) h.1.1))

  pub keeps_instances : (b c : SortedBindings) → Keeps b c → (ps : FlatTerms) (vs : List SortedTerm) → AreInstances b ps vs → AreInstances c ps vs
  keeps_instances b c k fnone [] h = tt
  keeps_instances b c k fnone (v ∷ vs) h = absurd h
  keeps_instances b c k (fmore p ps) [] h = absurd h
  keeps_instances b c k (fmore p ps) (v ∷ vs) h = (keeps_instance b c k p v h.0, keeps_instances b c k ps vs h.1)

-- the plain term of an instance
mutual
  pub instance_term : (b : SortedBindings) (p : FlatTerm) (v : SortedTerm) → IsInstance b p v → apply (standing_for b) (plain p) ≡ term_of v
  instance_term b (fvar x) v h = ap (λ o. term_of (sorted_or x o)) h
  instance_term b (fapp f true ps) v h = let q = h.0 in cc
  instance_term b (fapp f false ps) (svar y) h = let q = h.1.0 in cc
  instance_term b (fapp f false ps) (sapp g s vs) h =
      let is : f ≡ g = let q = h.1.0 in cc in
      ap (app f) (instances_terms b ps vs h.1.1) ∙ ap (λ o. app o (plain_all (forms_of vs))) is

  instances_terms : (b : SortedBindings) (ps : FlatTerms) (vs : SortedTerms) → AreInstances b ps (sunpack vs) → apply_all (standing_for b) (plain_all ps) ≡ plain_all (forms_of vs)
  instances_terms b fnone snone h = refl
  instances_terms b fnone (smore v vs) h = absurd h
  instances_terms b (fmore p ps) snone h = absurd h
  instances_terms b (fmore p ps) (smore v vs) h = ap (λ t. more t (apply_all (standing_for b) (plain_all ps))) (instance_term b p v h.0) ∙ ap (more (term_of v)) (instances_terms b ps vs h.1)

instances_append : (b : SortedBindings) (ps : List FlatTerm) (vs : List SortedTerm) (p : FlatTerm) (v : SortedTerm) → AreInstances b (fpack ps) vs → IsInstance b p v → AreInstances b (fpack (ps ++ p ∷ [])) (vs ++ v ∷ [])
instances_append b [] [] p v h j = (j, tt)
instances_append b [] (w ∷ vs) p v h j = absurd h
instances_append b (q ∷ ps) [] p v h j = absurd h
instances_append b (q ∷ ps) (w ∷ vs) p v h j = (h.0, instances_append b ps vs p v h.1 j)

module _ (d : Declarations) where
  -- what is bound is a value of the variable's sort
  pub binding_found : (b : SortedBindings) (x : Var) (v : SortedTerm) → AreBindings d b → sorted_bound b x ≡ Some v → IsBinding d (x, v)
  binding_found [] x v h e = cc
  binding_found (p ∷ b) x v h e = go (same_var p.0 x) refl (binding_found b x v h.1) e
    where
      go : (t : Bool) → same_var p.0 x ≡ t → (sorted_bound b x ≡ Some v → IsBinding d (x, v)) → (if t then Some p.1 else sorted_bound b x) ≡ Some v → IsBinding d (x, v)
      go true q k i =
          let is : p.0 ≡ x = same_var_is p.0 x q in
          let it : p.1 ≡ v = cc in
          subst (λ y. IsBinding d (y, v)) is (subst (λ w. IsBinding d (p.0, w)) it h.0)
      go false q k i = k i

  module _ (good : IsGood d) (b : SortedBindings) (h : AreBindings d b) where
    standing_has_kind : (x : Var) (o : Option SortedTerm) → sorted_bound b x ≡ o → IsSort d x.sort → HasKind d (term_of (sorted_or x o)) (kind d x.sort)
    standing_has_kind x None e i = (i, refl)
    standing_has_kind x (Some v) e i = let w = binding_found b x v h e in value_has_kind d good v w.value x.sort w.below

    standing_has_sort : (x : Var) (o : Option SortedTerm) → sorted_bound b x ≡ o → HasSort d (term_of (sorted_or x o)) x.sort
    standing_has_sort x None e = record { form = var x; equal = BEqual-refl d (var x); gets = record { sort = x.sort; gets = refl; below = same } }
    standing_has_sort x (Some v) e = let w = binding_found b x v h e in value_has_sort d good v w.value x.sort w.below

    -- each variable goes to a term of its sort
    pub bound_well_sorted : IsWellSorted d (standing_for b)
    bound_well_sorted = (λ x i. standing_has_kind x (sorted_bound b x) refl i, λ x. standing_has_sort x (sorted_bound b x) refl)

    standing_is_sorted : (x : Var) (o : Option SortedTerm) → sorted_bound b x ≡ o → IsSorted d (sorted_or x o)
    standing_is_sorted x None e = tt
    standing_is_sorted x (Some v) e = (binding_found b x v h e).value.sorted

    -- and bears its sort
    pub bound_is_sorted : (x : Var) → IsSorted d (sorted_or x (sorted_bound b x))
    bound_is_sorted x = standing_is_sorted x (sorted_bound b x) refl

  -- a variable that is bound to the term already
  pub fitted_same : (x : Var) (v : SortedTerm) (b : SortedBindings) → AreBindings d b → sorted_bound b x ≡ Some v → IsFitted d (fvar x) v b b
  fitted_same x v b h e = record { keeps = λ y w i. i; bindings = h; fits = e }

  -- one more variable
  pub fitted_new : (x : Var) (v w : SortedTerm) (b c : SortedBindings) → AreBindings d b → IsValue d v → AtOrBelow d (sort_of v) x.sort → sorted_bound b x ≡ None → w ≡ v → c ≡ b ++ (x, w) ∷ [] → IsFitted d (fvar x) v b c
  fitted_new x v w b c h value below free is longer =
      subst (λ a. IsFitted d (fvar x) v b a) (sym (longer ∙ ap (λ u. b ++ (x, u) ∷ []) is)) record {
        keeps = bound_kept b (x, v);
        bindings = each_append (IsBinding d) b ((x, v) ∷ []) h (record { value = value; below = below }, tt);
        fits = bound_last b x v free;
      }

  -- no pattern
  pub fitted_none : (ps : List FlatTerm) (vs : List SortedTerm) (b : SortedBindings) → AreBindings d b → AreFitted d (take 0 ps) (take 0 vs) b b
  fitted_none ps vs b h = record { keeps = λ y w i. i; bindings = h; fit = tt }

  -- one more pattern
  pub fitted_more : (ps : List FlatTerm) (vs : List SortedTerm) (i : ℕ) (p : FlatTerm) (v : SortedTerm) (b c e : SortedBindings) → i < length ps → i < length vs → p ≡ get_or ps i p → v ≡ get_or vs i v →
      AreFitted d (take i ps) (take i vs) b c → IsFitted d p v c e → AreFitted d (take (i + 1) ps) (take (i + 1) vs) b e
  fitted_more ps vs i p v b c e within room is it h j =
      let longer_ps : take (i + 1) ps ≡ take i ps ++ p ∷ [] = take_more ps i p within ∙ ap (λ u. take i ps ++ u ∷ []) (sym is) in
      let longer_vs : take (i + 1) vs ≡ take i vs ++ v ∷ [] = take_more vs i v room ∙ ap (λ u. take i vs ++ u ∷ []) (sym it) in
      let all = instances_append e (take i ps) (take i vs) p v (keeps_instances c e j.keeps (fpack (take i ps)) (take i vs) h.fit) j.fits in
      record {
        keeps = λ x w k. j.keeps x w (h.keeps x w k);
        bindings = j.bindings;
        fit = subst (λ l. AreInstances e (fpack l) (take (i + 1) vs)) (sym longer_ps) (subst (AreInstances e (fpack (take i ps ++ p ∷ []))) (sym longer_vs) all);
      }

  no_joined : (f g : OpId) → g ≡ f → axioms d f ≡ Free → IsAssociative (axioms d g) → ⊥
  no_joined f g q free h = subst IsAssociative (ap (axioms d) q ∙ free) h

  -- an operator without axioms stands over its arguments as they are
  pub free_plain : (p : FlatTerm) (f : OpId) → IsFreeHead d p f → Settled d p → plain p ≡ app f (plain_all (fpack (args_of p)))
  free_plain (fvar x) f h s = let q = h.heads in cc
  free_plain (fapp g true ps) f h s = let q : g ≡ f = (let e = h.heads in cc) in absurd (no_joined f g q h.free s.0.associative)
  free_plain (fapp g false ps) f h s = let q : g ≡ f = (let e = h.heads in cc) in ap (λ o. app o (plain_all ps)) q ∙ ap (λ l. app f (plain_all l)) (sym (fpack-funpack ps))

  -- a pattern whose arguments are fitted
  pub fitted_whole : (p : FlatTerm) (f : OpId) (v : SortedTerm) (b c : SortedBindings) (ps : List FlatTerm) (vs : List SortedTerm) → ps ≡ args_of p → vs ≡ parts_of v → IsFreeHead d p f → Settled d p → operator_of v ≡ Some f → AreFitted d ps vs b c → IsFitted d p v b c
  fitted_whole (fvar x) f v b c ps vs are them h s o j = let q = h.heads in cc
  fitted_whole (fapp g true qs) f v b c ps vs are them h s o j = let q : g ≡ f = (let e = h.heads in cc) in absurd (no_joined f g q h.free s.0.associative)
  fitted_whole (fapp g false qs) f v b c ps vs are them h s o j = record {
    keeps = j.keeps;
    bindings = j.bindings;
    fits = (refl, (o ∙ sym h.heads, subst (λ l. AreInstances c l (parts_of v)) (ap fpack are ∙ fpack-funpack qs) (subst (AreInstances c (fpack ps)) them j.fit)));
  }
