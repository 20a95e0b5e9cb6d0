-- Laws of rewriting modulo the axioms.
use Rattle.std.proofs.Common.{◌≡◌, ◌≤◌, ◌+◌, ℕ, zero, suc, List, [], ◌∷◌, map, All, refl, sym, subst, inl, inr, arith}
use Rattle.std.specs.List.{AllZip, Contains}
use Rattle.std.proofs.lemmas.List.Elements.{All-nil, All-cons, All-head, All-tail}
use Rattle.fvn_terms.specs.declared.plain.Var.{Var}
use Rattle.fvn_terms.specs.declared.plain.SortId.{SortId}
use Rattle.fvn_terms.specs.declared.declarations.Declarations.{Declarations}
use Rattle.fvn_terms.specs.Term.{Term, Terms, var, app, none, more}
use Rattle.fvn_terms.specs.Substitution.{Substitution, apply, apply_all, Occurs, OccursAmong}
use Rattle.fvn_terms.specs.Signature.{IsTerm}
use Rattle.fvn_terms.specs.Places.{AtOnePlace, AmongOnePlace, here, inside, first, later, Leads, stop, step}
use Rattle.fvn_terms.specs.Equality.{IsAxiomEitherWay, BEqual}
use Rattle.fvn_terms.specs.Sorts.{HasSort, IsWellSorted}
use Rattle.fvn_terms.specs.Theory.{Equations, IsRule, TEqual}
use Rattle.fvn_terms.specs.Rewriting.{Rewrites, TermSequence, ListRewrites, ListSequence, IsReducible, IsSortDecreasing, IsIrreducible, IsIrreducibleList, IsTerminating, IsConfluent}
use Rattle.fvn_terms.specs.Variants.{IsVariant, IsWithin}
use Rattle.fvn_terms.specs.Laws.{RewritingLaws}
use Rattle.fvn_terms.proofs.Steps.{Leads-append, Leads-map, AtOnePlace-apply, AtOnePlace-weaker}
use Rattle.fvn_terms.proofs.Equal.{BEqual-apply, BEqual-trans, BEqual-sym}
use Rattle.fvn_terms.proofs.TheoryLaws.{IsRule-apply, TEqual-modulo}
use Rattle.fvn_terms.proofs.Occurrences.{TermSequence-occurs}

module _ (d : Declarations) (equations : Equations) where
  pub Rewrites-modulo : (t v u w : Term) → BEqual d t v → Rewrites d equations t u → BEqual d u w → Rewrites d equations v w
  Rewrites-modulo t v u w e r f = record { from = r.from; to = r.to; before = BEqual-trans d (BEqual-sym d e) r.before; replaced = r.replaced; after = BEqual-trans d r.after f }

  -- a step among arguments
  record RewritesAmong (ts us : Terms) : Type 0 where
    from : Terms
    to : Terms
    before : Leads (AmongOnePlace (IsAxiomEitherWay d)) ts from
    replaced : AmongOnePlace (IsRule d equations) from to
    after : Leads (AmongOnePlace (IsAxiomEitherWay d)) to us

  mutual
    pub Rewrites-inside : (t u : Term) → AtOnePlace (Rewrites d equations) t u → Rewrites d equations t u
    Rewrites-inside t u (here r) = r
    Rewrites-inside t u (inside {f} {ts} {us} p) =
        let r = Rewrites-among ts us p in
        record { from = app f r.from; to = app f r.to; before = Leads-map (app f) (λ _ _. inside) r.before; replaced = inside r.replaced; after = Leads-map (app f) (λ _ _. inside) r.after }

    Rewrites-among : (ts us : Terms) → AmongOnePlace (Rewrites d equations) ts us → RewritesAmong ts us
    Rewrites-among _ _ (first {t} {u} {ts} p) =
        let r = Rewrites-inside t u p in
        record { from = more r.from ts; to = more r.to ts; before = Leads-map (λ (v : Term). more v ts) (λ _ _. first) r.before; replaced = first r.replaced; after = Leads-map (λ (v : Term). more v ts) (λ _ _. first) r.after }
    Rewrites-among _ _ (later {t} {ts} {us} p) =
        let r = Rewrites-among ts us p in
        record { from = more t r.from; to = more t r.to; before = Leads-map (more t) (λ _ _. later) r.before; replaced = later r.replaced; after = Leads-map (more t) (λ _ _. later) r.after }

  pub Rewrites-apply : (s : Substitution) → IsWellSorted d s → (t u : Term) → Rewrites d equations t u → Rewrites d equations (apply s t) (apply s u)
  Rewrites-apply s sorted t u r = record {
    from = apply s r.from;
    to = apply s r.to;
    before = BEqual-apply d s sorted.0 r.before;
    replaced = AtOnePlace-apply s (IsRule-apply d equations s sorted) r.replaced;
    after = BEqual-apply d s sorted.0 r.after;
  }

  -- a step of what stands at a variable is one of a subterm
  mutual
    at_variable : (s : Substitution) (t : Term) (x : Var) → Occurs x t → (v : Term) → Rewrites d equations (s x) v → (u : Term) × AtOnePlace (Rewrites d equations) (apply s t) u
    at_variable s (var y) x e v r = (v, here (subst (λ z. Rewrites d equations (s z) v) e r))
    at_variable s (app f ts) x o v r = let q = among_variables s ts x o v r in (app f q.0, inside q.1)

    among_variables : (s : Substitution) (ts : Terms) (x : Var) → OccursAmong x ts → (v : Term) → Rewrites d equations (s x) v → (us : Terms) × AmongOnePlace (Rewrites d equations) (apply_all s ts) us
    among_variables s none x o v r = absurd o
    among_variables s (more t ts) x (inl o) v r = let q = at_variable s t x o v r in (more q.0 (apply_all s ts), first q.1)
    among_variables s (more t ts) x (inr o) v r = let q = among_variables s ts x o v r in (more (apply s t) q.0, later q.1)

  pub irreducible_value : (s : Substitution) (t : Term) (x : Var) → Occurs x t → IsIrreducible d equations (apply s t) → IsIrreducible d equations (s x)
  irreducible_value s t x o stays v r = let q = at_variable s t x o v r in stays q.0 (Rewrites-inside (apply s t) q.0 q.1)

  pub reducible_value : (s : Substitution) (t : Term) (x : Var) → Occurs x t → IsReducible d equations (s x) → IsReducible d equations (apply s t)
  reducible_value s t x o r = let q = at_variable s t x o r.0 r.1 in (q.0, Rewrites-inside (apply s t) q.0 q.1)

  pub sorts_kept : ((left right : Term) → Contains equations (left, right) → IsSortDecreasing d left right) → (t u : Term) → IsRule d equations t u → (q : SortId) → HasSort d t q → HasSort d u q
  sorts_kept decreasing t u r q h =
      subst (λ v. HasSort d v q) (sym r.to) (decreasing r.left r.right r.listed r.by r.well_sorted q (subst (λ v. HasSort d v q) r.from h))

  pub TermSequence-modulo : (k : ℕ) (t v u : Term) → BEqual d t v → TermSequence d equations k t u → TermSequence d equations k v u
  TermSequence-modulo zero t v u e q = BEqual-trans d (BEqual-sym d e) q
  TermSequence-modulo (suc k) t v u e q = (q.0, (Rewrites-modulo t v q.0 q.0 e q.1.0 stop, q.1.1))

  pub TermSequence-append : (j k : ℕ) (t u v : Term) → TermSequence d equations j t u → TermSequence d equations k u v → TermSequence d equations (j + k) t v
  TermSequence-append zero k t u v p q = let e : k ≡ 0 + k = omega arith in subst (λ n. TermSequence d equations n t v) e (TermSequence-modulo k u t v (BEqual-sym d p) q)
  TermSequence-append (suc j) k t u v p q =
      let e : suc (j + k) ≡ suc j + k = omega arith in
      subst (λ n. TermSequence d equations n t v) e (p.0, (p.1.0, TermSequence-append j k p.0 u v p.1.1 q))

  pub irreducible_ends : (k : ℕ) (t u : Term) → IsIrreducible d equations t → TermSequence d equations k t u → (k ≡ 0) × BEqual d t u
  irreducible_ends zero t u stays q = (refl, q)
  irreducible_ends (suc k) t u stays q = absurd (stays q.0 q.1.0)

  Rewrites-theory : (t u : Term) → Rewrites d equations t u → TEqual d equations t u
  Rewrites-theory t u r =
      Leads-append (TEqual-modulo d equations t r.from r.before)
      (step (AtOnePlace-weaker (λ _ _ rule. inr (inl rule)) r.replaced) (TEqual-modulo d equations r.to u r.after))

  pub TermSequence-theory : (k : ℕ) (t u : Term) → TermSequence d equations k t u → TEqual d equations t u
  TermSequence-theory zero t u q = TEqual-modulo d equations t u q
  TermSequence-theory (suc k) t u q = Leads-append (Rewrites-theory t q.0 q.1.0) (TermSequence-theory k q.0 u q.1.1)

  AllZip-equal : (ts : List Term) → AllZip (BEqual d) ts ts
  AllZip-equal [] = tt
  AllZip-equal (t ∷ ts) = (stop, AllZip-equal ts)

  each_irreducible : (ts : List Term) → IsIrreducibleList d equations ts → All (IsIrreducible d equations) ts
  each_irreducible [] h = All-nil (IsIrreducible d equations)
  each_irreducible (t ∷ ts) h =
      All-cons (IsIrreducible d equations) t ts (λ u r. h (u ∷ ts) (inl (r, AllZip-equal ts))) (each_irreducible ts (λ us l. h (t ∷ us) (inr (stop, l))))

  irreducible_list : (ts : List Term) → All (IsIrreducible d equations) ts → IsIrreducibleList d equations ts
  irreducible_list [] h us l = l
  irreducible_list (t ∷ ts) h [] l = l
  irreducible_list (t ∷ ts) h (u ∷ us) (inl l) = All-head (IsIrreducible d equations) t ts h u l.0
  irreducible_list (t ∷ ts) h (u ∷ us) (inr l) = irreducible_list ts (All-tail (IsIrreducible d equations) t ts h) us l.1

  pub TermSequence-apply : (s : Substitution) → IsWellSorted d s → (k : ℕ) (t u : Term) → TermSequence d equations k t u → TermSequence d equations k (apply s t) (apply s u)
  TermSequence-apply s sorted zero t u q = BEqual-apply d s sorted.0 q
  TermSequence-apply s sorted (suc k) t u q = (apply s q.0, (Rewrites-apply s sorted t q.0 q.1.0, TermSequence-apply s sorted k q.0 u q.1.1))

  -- Lists

  AllZip-flip : (ts us : List Term) → AllZip (BEqual d) ts us → AllZip (BEqual d) us ts
  AllZip-flip [] [] h = tt
  AllZip-flip [] (u ∷ us) h = absurd h
  AllZip-flip (t ∷ ts) [] h = absurd h
  AllZip-flip (t ∷ ts) (u ∷ us) h = (BEqual-sym d h.0, AllZip-flip ts us h.1)

  AllZip-join : (ts us vs : List Term) → AllZip (BEqual d) ts us → AllZip (BEqual d) us vs → AllZip (BEqual d) ts vs
  AllZip-join [] [] vs h g = g
  AllZip-join [] (u ∷ us) vs h g = absurd h
  AllZip-join (t ∷ ts) [] vs h g = absurd h
  AllZip-join (t ∷ ts) (u ∷ us) [] h g = absurd g
  AllZip-join (t ∷ ts) (u ∷ us) (v ∷ vs) h g = (BEqual-trans d h.0 g.0, AllZip-join ts us vs h.1 g.1)

  ListRewrites-modulo : (ts us vs : List Term) → AllZip (BEqual d) us ts → ListRewrites d equations ts vs → ListRewrites d equations us vs
  ListRewrites-modulo [] us vs h l = absurd l
  ListRewrites-modulo (t ∷ ts) [] vs h l = absurd h
  ListRewrites-modulo (t ∷ ts) (u ∷ us) [] h l = absurd l
  ListRewrites-modulo (t ∷ ts) (u ∷ us) (v ∷ vs) h (inl l) = inl (Rewrites-modulo t u v v (BEqual-sym d h.0) l.0 stop, AllZip-join us ts vs h.1 l.1)
  ListRewrites-modulo (t ∷ ts) (u ∷ us) (v ∷ vs) h (inr l) = inr (BEqual-trans d h.0 l.0, ListRewrites-modulo ts us vs h.1 l.1)

  ListSequence-modulo : (k : ℕ) (ts us vs : List Term) → AllZip (BEqual d) us ts → ListSequence d equations k ts vs → ListSequence d equations k us vs
  ListSequence-modulo zero ts us vs h q = AllZip-join us ts vs h q
  ListSequence-modulo (suc k) ts us vs h q = (q.0, (ListRewrites-modulo ts us q.0 h q.1.0, q.1.1))

  pub ListSequence-append : (j k : ℕ) (ts us vs : List Term) → ListSequence d equations j ts us → ListSequence d equations k us vs → ListSequence d equations (j + k) ts vs
  ListSequence-append zero k ts us vs p q = let e : k ≡ 0 + k = omega arith in subst (λ n. ListSequence d equations n ts vs) e (ListSequence-modulo k us ts vs p q)
  ListSequence-append (suc j) k ts us vs p q =
      let e : suc (j + k) ≡ suc j + k = omega arith in
      subst (λ n. ListSequence d equations n ts vs) e (p.0, (p.1.0, ListSequence-append j k p.0 us vs p.1.1 q))

  -- each member has a sequence of its own, and the lengths add up
  abbrev pub Separate : ℕ → List Term → List Term → Type 0
  Separate k [] [] = k ≡ 0
  Separate k [] (u ∷ us) = ⊥
  Separate k (t ∷ ts) [] = ⊥
  Separate k (t ∷ ts) (u ∷ us) = (i : ℕ) × (j : ℕ) × (k ≡ i + j) × (TermSequence d equations i t u × Separate j ts us)

  separate_none : (ts us : List Term) → AllZip (BEqual d) ts us → Separate 0 ts us
  separate_none [] [] h = refl
  separate_none [] (u ∷ us) h = absurd h
  separate_none (t ∷ ts) [] h = absurd h
  separate_none (t ∷ ts) (u ∷ us) h = (0, 0, refl, (h.0, separate_none ts us h.1))

  separate_modulo : (k : ℕ) (ts us vs : List Term) → AllZip (BEqual d) us ts → Separate k ts vs → Separate k us vs
  separate_modulo k [] [] vs h q = q
  separate_modulo k [] (u ∷ us) vs h q = absurd h
  separate_modulo k (t ∷ ts) [] vs h q = absurd h
  separate_modulo k (t ∷ ts) (u ∷ us) [] h q = absurd q
  separate_modulo k (t ∷ ts) (u ∷ us) (v ∷ vs) h q = (q.0, q.1, q.2, (TermSequence-modulo q.0 t u v (BEqual-sym d h.0) q.3.0, separate_modulo q.1 ts us vs h.1 q.3.1))

  separate_step : (k : ℕ) (ts us vs : List Term) → ListRewrites d equations ts us → Separate k us vs → Separate (suc k) ts vs
  separate_step k [] us vs l q = absurd l
  separate_step k (t ∷ ts) [] vs l q = absurd l
  separate_step k (t ∷ ts) (u ∷ us) [] l q = absurd q
  separate_step k (t ∷ ts) (u ∷ us) (v ∷ vs) (inl l) q = (suc q.0, q.1, omega (arith, q.2), ((u, (l.0, q.3.0)), separate_modulo q.1 us ts vs l.1 q.3.1))
  separate_step k (t ∷ ts) (u ∷ us) (v ∷ vs) (inr l) q = (q.0, suc q.1, omega (arith, q.2), (TermSequence-modulo q.0 u t v (BEqual-sym d l.0) q.3.0, separate_step q.1 ts us vs l.1 q.3.1))

  pub ListSequence-separate : (k : ℕ) (ts us : List Term) → ListSequence d equations k ts us → Separate k ts us
  ListSequence-separate zero ts us q = separate_none ts us q
  ListSequence-separate (suc k) ts us q = separate_step k ts q.0 us q.1.0 (ListSequence-separate k q.0 us q.1.1)

  -- a bound of the sequences of a list's members together
  abbrev Bounded : List Term → Type 0
  Bounded ts = (most : ℕ) × ((k : ℕ) (us : List Term) → Separate k ts us → k ≤ most)

  bounded_none : (k : ℕ) (us : List Term) → Separate k [] us → k ≤ 0
  bounded_none k [] q = omega (arith, q)
  bounded_none k (u ∷ us) q = absurd q

  bounded_more : (t : Term) (ts : List Term) (m n : ℕ) → ((k : ℕ) (u : Term) → TermSequence d equations k t u → k ≤ m) → ((k : ℕ) (us : List Term) → Separate k ts us → k ≤ n) → (k : ℕ) (us : List Term) → Separate k (t ∷ ts) us → k ≤ m + n
  bounded_more t ts m n one rest k [] q = absurd q
  bounded_more t ts m n one rest k (u ∷ us) q = omega (arith, q.2, one q.0 u q.3.0, rest q.1 us q.3.1)

  separate_bounded : IsTerminating d equations → (ts : List Term) → All (IsTerm d) ts → Bounded ts
  separate_bounded ends [] h = (0, bounded_none)
  separate_bounded ends (t ∷ ts) h =
      let a = ends t (All-head (IsTerm d) t ts h) in
      let rest = separate_bounded ends ts (All-tail (IsTerm d) t ts h) in
      (a.0 + rest.0, bounded_more t ts a.0 rest.0 a.1 rest.1)

  pub lists_terminate : IsTerminating d equations → (ts : List Term) → All (IsTerm d) ts → (most : ℕ) × ((k : ℕ) (us : List Term) → ListSequence d equations k ts us → k ≤ most)
  lists_terminate ends ts h = let b = separate_bounded ends ts h in (b.0, λ k us q. b.1 k us (ListSequence-separate k ts us q))

  -- Normal forms and variants

  pub one_normal_form : IsConfluent d equations → (t u v : Term) (j k : ℕ) → IsTerm d t → TermSequence d equations j t u → TermSequence d equations k t v →
      IsIrreducible d equations u → IsIrreducible d equations v → BEqual d u v
  one_normal_form confluent t u v j k kinded p q stays_u stays_v =
      let joined = confluent t u v j k kinded p q in
      let left = irreducible_ends joined.left_steps u joined.left stays_u joined.left_reached in
      let right = irreducible_ends joined.right_steps v joined.right stays_v joined.right_reached in
      BEqual-trans d left.1 (BEqual-trans d joined.equal (BEqual-sym d right.1))

  pub within_after : (most : ℕ) (terms us : List Term) (s : Substitution) (k : ℕ) → IsWithin d equations most terms s → ListSequence d equations k (map (apply s) terms) us →
      (j : ℕ) (vs : List Term) → ListSequence d equations j us vs → k + j ≤ most
  within_after most terms us s k bound p j vs q = bound (k + j) vs (ListSequence-append k j (map (apply s) terms) us vs p q)

  separate_theory : (k : ℕ) (ts us : List Term) → Separate k ts us → AllZip (TEqual d equations) ts us
  separate_theory k [] [] q = tt
  separate_theory k [] (u ∷ us) q = absurd q
  separate_theory k (t ∷ ts) [] q = absurd q
  separate_theory k (t ∷ ts) (u ∷ us) q = (TermSequence-theory q.0 t u q.3.0, separate_theory q.1 ts us q.3.1)

  pub variants_theory : (fixed terms us : List Term) (s : Substitution) → IsVariant d equations fixed terms us s → AllZip (TEqual d equations) (map (apply s) terms) us
  variants_theory fixed terms us s v = separate_theory v.steps (map (apply s) terms) us (ListSequence-separate v.steps (map (apply s) terms) us v.sequence)

  pub rewriting_laws : RewritingLaws d equations
  rewriting_laws = record {
    modulo = Rewrites-modulo;
    inside = Rewrites-inside;
    instances = Rewrites-apply;
    joined = TermSequence-append;
    ended = irreducible_ends;
    values = irreducible_value;
    reducible = reducible_value;
    sorts = sorts_kept;
    theory = TermSequence-theory;
    lists = λ ts. (each_irreducible ts, irreducible_list ts);
    sequences = TermSequence-apply;
    list_joined = ListSequence-append;
    variables = λ bound x. TermSequence-occurs x d equations bound;
    bounded = lists_terminate;
    one_normal_form = one_normal_form;
    within = within_after;
    variants = variants_theory;
  }
