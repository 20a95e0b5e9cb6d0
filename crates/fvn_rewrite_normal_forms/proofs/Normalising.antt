-- Normal forms of terms and lists, and of the values of substitutions.
use Rattle.std.proofs.Common.{◌⊎◌, ℕ, zero, suc, ◌+◌, ◌≤◌, List, [], ◌∷◌, map, refl, inl, inr, arith}
use Rattle.std.specs.List.{All, AllZip}
use Rattle.std.proofs.lemmas.List.Elements.{All-nil, All-cons, All-head, All-tail}
use Rattle.fvn_base.specs.Decided.{Decided}
use Rattle.fvn_terms.specs.declared.plain.Var.{Var}
use Rattle.fvn_terms.specs.declared.plain.SortId.{SortId}
use Rattle.fvn_terms.specs.declared.declarations.Declarations.{Declarations}
use Rattle.fvn_terms.specs.Term.{Term, Terms, var, app, none, more}
use Rattle.fvn_terms.specs.Substitution.{Substitution, apply, apply_all}
use Rattle.fvn_terms.specs.Signature.{kind, IsSort, HasKind, IsTerm}
use Rattle.fvn_terms.specs.Places.{AmongOnePlace, here, inside, first, later, stop}
use Rattle.fvn_terms.specs.Equality.{BEqual}
use Rattle.fvn_terms.specs.Sorts.{HasSort, IsWellSorted}
use Rattle.fvn_terms.specs.Unifiers.{Problem, Solves}
use Rattle.fvn_terms.specs.Theory.{Equations, IsLaw, TEqual, IsTheoryUnifier}
use Rattle.fvn_terms.specs.Rewriting.{ListRewrites, TermSequence, ListSequence, IsReducible, IsIrreducible, IsIrreducibleList, IsTerminating}
use Rattle.fvn_terms.specs.Variants.{IsWithin}
use Rattle.fvn_terms.specs.Laws.{RewritingLaws, TheoryLaws}
use Rattle.fvn_terms.proofs.Steps.{EachLeads, each_none, each_more, Leads_inside}
use Rattle.fvn_forms.specs.FitsKinds.{FitsKinds}
use Rattle.fvn_forms.proofs.KindsKept.{b_equal_keeps_kind}
use Rattle.fvn_rewrite_laws.specs.Lists.{EachHasSequence}
use Rattle.fvn_rewrite_laws.specs.Laws.{SequenceLaws, ListLaws, KindedLaws}
use Rattle.fvn_rewrite_laws.proofs.Lists.{each_equal_itself}
use Rattle.fvn_rewrite_laws.proofs.Agreement.{equal_by_agreement}
use Rattle.fvn_rewrite_normal_forms.specs.NormalForms.{HasNormalForm, HaveNormalForms, IsNormalisedFrom}
use Rattle.fvn_rewrite_normal_forms.proofs.Kinding.{sort_or_not}

-- where reducibility is decided, a term whose sequences are bounded has a normal form
module _ (d : Declarations) (equations : Equations) (kinded : KindedLaws d equations) (decide : (t : Term) → IsTerm d t → IsReducible d equations t ⊎ IsIrreducible d equations t) where
  normal_form_within : (most : ℕ) (t : Term) → IsTerm d t → ((k : ℕ) (u : Term) → TermSequence d equations k t u → k ≤ most) → HasNormalForm d equations t
  normal_form_within zero t h bound = go (decide t h) where
    go : IsReducible d equations t ⊎ IsIrreducible d equations t → HasNormalForm d equations t
    go (inl w) = absurd (let l : 1 ≤ 0 = bound 1 w.0 (w.0, (w.1, stop)) in omega arith)
    go (inr n) = record { form = t; steps = 0; reached = stop; irreducible = n }
  normal_form_within (suc most) t h bound =
      go (decide t h) (λ w. normal_form_within most w.0 (h.0, kinded.steps t w.0 w.1 h.0 h.1) (λ k u q. let l : suc k ≤ suc most = bound (suc k) u (w.0, (w.1, q)) in omega arith))
    where
      go : IsReducible d equations t ⊎ IsIrreducible d equations t → ((w : IsReducible d equations t) → HasNormalForm d equations w.0) → HasNormalForm d equations t
      go (inl w) further = let f = further w in record { form = f.form; steps = suc f.steps; reached = (w.0, (w.1, f.reached)); irreducible = f.irreducible }
      go (inr n) further = record { form = t; steps = 0; reached = stop; irreducible = n }

  pub normal_form : IsTerminating d equations → (t : Term) → IsTerm d t → HasNormalForm d equations t
  normal_form ends t h = let b = ends t h in normal_form_within b.0 t h b.1

-- the same of lists
module _ (d : Declarations) (fits : FitsKinds d) (equations : Equations) (kinded : KindedLaws d equations)
    (decide : (ts : List Term) → All (IsTerm d) ts → ((us : List Term) × ListRewrites d equations ts us) ⊎ IsIrreducibleList d equations ts) where
  equal_kinded : (ts us : List Term) → AllZip (BEqual d) ts us → All (IsTerm d) ts → All (IsTerm d) us
  equal_kinded [] [] p h = h
  equal_kinded [] (u ∷ us) p h = absurd p
  equal_kinded (t ∷ ts) [] p h = absurd p
  equal_kinded (t ∷ ts) (u ∷ us) p h =
      let w = All-head (IsTerm d) t ts h in
      All-cons (IsTerm d) u us (w.0, b_equal_keeps_kind d fits p.0 w.0 w.1) (equal_kinded ts us p.1 (All-tail (IsTerm d) t ts h))

  step_kinded : (ts us : List Term) → ListRewrites d equations ts us → All (IsTerm d) ts → All (IsTerm d) us
  step_kinded [] us r h = absurd r
  step_kinded (t ∷ ts) [] r h = absurd r
  step_kinded (t ∷ ts) (u ∷ us) (inl r) h =
      let w = All-head (IsTerm d) t ts h in
      All-cons (IsTerm d) u us (w.0, kinded.steps t u r.0 w.0 w.1) (equal_kinded ts us r.1 (All-tail (IsTerm d) t ts h))
  step_kinded (t ∷ ts) (u ∷ us) (inr r) h =
      let w = All-head (IsTerm d) t ts h in
      All-cons (IsTerm d) u us (w.0, b_equal_keeps_kind d fits r.0 w.0 w.1) (step_kinded ts us r.1 (All-tail (IsTerm d) t ts h))

  abbrev IsReducibleList : List Term → Type 0
  IsReducibleList ts = (us : List Term) × ListRewrites d equations ts us

  pub normal_forms_within : (most : ℕ) (ts : List Term) → All (IsTerm d) ts → ((k : ℕ) (us : List Term) → ListSequence d equations k ts us → k ≤ most) → HaveNormalForms d equations ts
  normal_forms_within zero ts h bound = go (decide ts h) where
    go : IsReducibleList ts ⊎ IsIrreducibleList d equations ts → HaveNormalForms d equations ts
    go (inl w) = absurd (let l : 1 ≤ 0 = bound 1 w.0 (w.0, (w.1, each_equal_itself d w.0)) in omega arith)
    go (inr n) = record { forms = ts; steps = 0; reached = each_equal_itself d ts; irreducible = n }
  normal_forms_within (suc most) ts h bound =
      go (decide ts h) (λ w. normal_forms_within most w.0 (step_kinded ts w.0 w.1 h) (λ k us q. let l : suc k ≤ suc most = bound (suc k) us (w.0, (w.1, q)) in omega arith))
    where
      go : IsReducibleList ts ⊎ IsIrreducibleList d equations ts → ((w : IsReducibleList ts) → HaveNormalForms d equations w.0) → HaveNormalForms d equations ts
      go (inl w) further = let f = further w in record { forms = f.forms; steps = suc f.steps; reached = (w.0, (w.1, f.reached)); irreducible = f.irreducible }
      go (inr n) further = record { forms = ts; steps = 0; reached = each_equal_itself d ts; irreducible = n }

-- each value of a well-sorted substitution brought to its normal form
module _ (d : Declarations) (equations : Equations) (kinded : KindedLaws d equations) (normal : (t : Term) → IsTerm d t → HasNormalForm d equations t)
    (keep_sorts : (n : ℕ) (t u : Term) → IsTerm d t → TermSequence d equations n t u → (q : SortId) → HasSort d t q → HasSort d u q) (s : Substitution) (sorted : IsWellSorted d s) where
  -- what a variable's value is brought to; without a sort of the signature it stays
  record NormalValue (x : Var) : Type 0 where
    pub value : Term
    pub steps : ℕ
    pub reached : TermSequence d equations steps (s x) value
    pub of_kind : IsSort d x.sort → HasKind d value (kind d x.sort)
    pub of_sort : HasSort d value x.sort
    pub irreducible : IsSort d x.sort → IsIrreducible d equations value

  normal_value : (x : Var) → NormalValue x
  normal_value x = go (sort_or_not d x.sort) where
    go : Decided (IsSort d x.sort) → NormalValue x
    go (inl i) =
        let h : IsTerm d (s x) = (kind d x.sort, sorted.0 x i) in
        let f = normal (s x) h in
        record {
          value = f.form;
          steps = f.steps;
          reached = f.reached;
          of_kind = λ _. kinded.sequences f.steps (s x) f.form f.reached (kind d x.sort) (sorted.0 x i);
          of_sort = keep_sorts f.steps (s x) f.form h f.reached x.sort (sorted.1 x);
          irreducible = λ _. f.irreducible;
        }
    go (inr n) = record { value = s x; steps = 0; reached = stop; of_kind = λ i. absurd (n i); of_sort = sorted.1 x; irreducible = λ i. absurd (n i) }

  pub normalised_substitution : (c : Substitution) × IsNormalisedFrom d equations s c
  normalised_substitution = (
    λ x. (normal_value x).value,
    record {
      well_sorted = (λ x. (normal_value x).of_kind, λ x. (normal_value x).of_sort);
      steps = λ x. (normal_value x).steps;
      reached = λ x. (normal_value x).reached;
      irreducible = λ x. (normal_value x).irreducible;
    },
  )

-- what is known of a substitution that is normalised from another one
module _ (d : Declarations) (equations : Equations) (laws : RewritingLaws d equations) (sequences : SequenceLaws d equations) (s c : Substitution) (n : IsNormalisedFrom d equations s c) where
  -- the instances are equal in the theory
  mutual
    instance_in_theory : (t : Term) → TEqual d equations (apply s t) (apply c t)
    instance_in_theory (var x) = laws.theory (n.steps x) (s x) (c x) (n.reached x)
    instance_in_theory (app f ts) = Leads_inside f (instances_in_theory ts)

    instances_in_theory : (ts : Terms) → EachLeads (IsLaw d equations) (apply_all s ts) (apply_all c ts)
    instances_in_theory none = each_none
    instances_in_theory (more t ts) = each_more (instance_in_theory t) (instances_in_theory ts)

  solves_too : TheoryLaws d equations → (problem : Problem) → Solves (TEqual d equations) problem s → Solves (TEqual d equations) problem c
  solves_too theory [] h = All-nil _
  solves_too theory (p ∷ problem) h =
      let e = theory.equivalence in
      let a = e.symmetric (apply s p.0) (apply c p.0) (instance_in_theory p.0) in
      let b = All-head (λ (p : Term × Term). TEqual d equations (apply s p.0) (apply s p.1)) p problem h in
      let both = e.transitive (apply c p.0) (apply s p.0) (apply c p.1) a (e.transitive (apply s p.0) (apply s p.1) (apply c p.1) b (instance_in_theory p.1)) in
      All-cons (λ (p : Term × Term). TEqual d equations (apply c p.0) (apply c p.1)) p problem both
      (solves_too theory problem (All-tail (λ (p : Term × Term). TEqual d equations (apply s p.0) (apply s p.1)) p problem h))

  pub unifier_too : TheoryLaws d equations → (problem : Problem) → IsTheoryUnifier d equations problem s → IsTheoryUnifier d equations problem c
  unifier_too theory problem h = (n.well_sorted, solves_too theory problem h.1)

  -- sequences lead from the first instance to the second
  abbrev IsContext : (Terms → Term) → Type 0
  IsContext C = (k : ℕ) (us vs : Terms) → AmongOnePlace (TermSequence d equations k) us vs → TermSequence d equations k (C us) (C vs)

  mutual
    instance_sequence : (t : Term) → (k : ℕ) × TermSequence d equations k (apply s t) (apply c t)
    instance_sequence (var x) = (n.steps x, n.reached x)
    instance_sequence (app f ts) = let w = instances_sequence ts in (w.0, w.1 (app f) (λ k us vs p. sequences.inside k (app f us) (app f vs) (inside p)))

    instances_sequence : (ts : Terms) → (k : ℕ) × ((C : Terms → Term) → IsContext C → TermSequence d equations k (C (apply_all s ts)) (C (apply_all c ts)))
    instances_sequence none = (0, λ C within. stop)
    instances_sequence (more t ts) =
        let a = instance_sequence t in
        let b = instances_sequence ts in (
          a.0 + b.0,
          λ C within.
              laws.joined a.0 b.0 (C (more (apply s t) (apply_all s ts))) (C (more (apply c t) (apply_all s ts))) (C (more (apply c t) (apply_all c ts)))
              (within a.0 (more (apply s t) (apply_all s ts)) (more (apply c t) (apply_all s ts)) (first (here a.1)))
              (b.1 (λ us. C (more (apply c t) us)) (λ k us vs p. within k (more (apply c t) us) (more (apply c t) vs) (later p))),
        )

  list_sequence : (ts : List Term) → (k : ℕ) × EachHasSequence d equations k (map (apply s) ts) (map (apply c) ts)
  list_sequence [] = (0, refl)
  list_sequence (t ∷ ts) = let a = instance_sequence t in let b = list_sequence ts in (a.0 + b.0, (a.0, b.0, refl, (a.1, b.1)))

  pub within_too : ListLaws d equations → (most : ℕ) (ts : List Term) → IsWithin d equations most ts s → IsWithin d equations most ts c
  within_too lists most ts bound k us q =
      let w = list_sequence ts in
      let l = laws.within most ts (map (apply c) ts) s w.0 bound ((lists.members w.0 (map (apply s) ts) (map (apply c) ts)).1 w.1) k us q in
      omega arith

  -- an irreducible instance has irreducible values, which stay
  pub stays_too : (t : Term) → IsIrreducible d equations (apply s t) → IsIrreducible d equations (apply c t)
  stays_too t h =
      sequences.irreducible (apply s t) (apply c t)
      (equal_by_agreement d s c t (λ x o. (laws.ended (n.steps x) (s x) (c x) (laws.values s t x o h) (n.reached x)).1)) h
