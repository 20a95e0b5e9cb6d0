-- Sequences of instances whose normal forms are sought from the inside out.
use Rattle.std.proofs.Common.{◌≡◌, ◌+◌, ◌-◌, ◌<◌, ◌≤◌, ℕ, suc, List, [], ◌∷◌, ◌++◌, length, drop, get_or, map, Some, refl, sym, ap, ◌∙◌, subst, arith}
use Rattle.std.proofs.lemmas.List.{drop_more, drop_all}
use Rattle.std.proofs.lemmas.List.Elements.{All-contains}
use Rattle.fvn_terms.specs.declared.plain.OpId.{OpId}
use Rattle.fvn_terms.specs.declared.plain.Var.{Var}
use Rattle.fvn_terms.specs.declared.plain.Plain.{Plain}
use Rattle.fvn_terms.specs.declared.declarations.Axioms.TheVariants.{Free}
use Rattle.fvn_terms.specs.declared.declarations.Declarations.{Declarations}
use Rattle.fvn_terms.specs.Term.{Term, Terms, var, app, none, more}
use Rattle.fvn_terms.specs.Plain.{term}
use Rattle.fvn_terms.specs.Signature.{axioms, IsTerm}
use Rattle.fvn_terms.specs.Substitution.{apply, apply_all}
use Rattle.fvn_terms.specs.Equality.{BEqual}
use Rattle.fvn_terms.specs.Places.{AmongOnePlace, here, inside, first, later}
use Rattle.fvn_terms.specs.Theory.{Equations}
use Rattle.fvn_terms.specs.Rewriting.{Rewrites, TermSequence}
use Rattle.fvn_terms.specs.Laws.{RewritingLaws}
use Rattle.fvn_terms.proofs.Equal.{BEqual-refl, HasKind-apply}
use Rattle.fvn_terms.proofs.Substitutions.{apply-var}
use Rattle.fvn_forms.specs.Flat.{FlatTerm, fvar, fapp, fpack, plain, plain_all}
use Rattle.fvn_forms.specs.Good.{IsGood}
use Rattle.fvn_forms.specs.Ranks.{result}
use Rattle.fvn_flat.specs.Forms.{variable_of, args_of}
use Rattle.fvn_flat.specs.Fits.{Fits}
use Rattle.fvn_rewrite_laws.specs.Laws.{SequenceLaws, KindedLaws}
use Rattle.fvn_theory.specs.Equations.{equations_of}
use Rattle.fvn_rewrite_rules.specs.Given.{RuleLists, headed}
use Rattle.fvn_rewrite.specs.declared.fitting.Found.{Found}
use Rattle.fvn_rewrite.specs.declared.making.Made.{Made}
use Rattle.fvn_rewrite.specs.declared.making.MadeAll.{MadeAll}
use Rattle.fvn_rewrite.specs.declared.quick.Begun.{Begun}
use Rattle.fvn_rewrite.specs.inner.Trying.{SidesFit}
use Rattle.fvn_rewrite.specs.inner.SortedTerms.{SortedTerm, sapp, spack, sort_of, term_of, terms_of, IsSorted, AreSorted, IsValue}
use Rattle.fvn_rewrite.specs.inner.Fitting.{SortedBindings, sorted_bound, sorted_or, standing_for, IsFreeHead, AreBindings, IsFound}
use Rattle.fvn_rewrite.specs.inner.Making.{AreStepRules, LeadsTo, IsMade, AreMade, IsMadeOver, IsReachedFrom}
use Rattle.fvn_rewrite.proofs.Values.{sorted_append, sorted_over}
use Rattle.fvn_rewrite.proofs.Bound.{bound_well_sorted, bound_is_sorted, instance_term, free_plain}

-- terms before the others of a list
abbrev pub before : List SortedTerm → Terms → Terms
before [] ts = ts
before (v ∷ vs) ts = more (term_of v) (before vs ts)

before_last : (vs : List SortedTerm) (v : SortedTerm) (ts : Terms) → before (vs ++ v ∷ []) ts ≡ before vs (more (term_of v) ts)
before_last [] v ts = refl
before_last (w ∷ vs) v ts = ap (more (term_of w)) (before_last vs v ts)

before_none : (vs : List SortedTerm) → before vs none ≡ terms_of vs
before_none [] = refl
before_none (w ∷ vs) = ap (more (term_of w)) (before_none vs)

among_before : (R : Term → Term → Type 0) (vs : List SortedTerm) (t u : Term) (ts : Terms) → R t u → AmongOnePlace R (before vs (more t ts)) (before vs (more u ts))
among_before R [] t u ts r = first (here r)
among_before R (w ∷ vs) t u ts r = later (among_before R vs t u ts r)

module _ (d : Declarations) (equations : Equations) where
  -- a term leads to itself
  pub leads_itself : (t : Term) (n : ℕ) → LeadsTo d equations t n t n
  leads_itself t n = record { count = 0; spent = omega arith; sequence = BEqual-refl d t }

  -- of terms this is told which are the same
  pub leads_same : (t u v w : Term) (n m : ℕ) → t ≡ u → v ≡ w → LeadsTo d equations u n w m → LeadsTo d equations t n v m
  leads_same t u v w n m e q l = subst (λ a. LeadsTo d equations a n v m) (sym e) (subst (λ a. LeadsTo d equations u n a m) (sym q) l)

  module _ (laws : RewritingLaws d equations) where
    -- one after the other
    pub leads_joined : (t u v : Term) (n m k : ℕ) → LeadsTo d equations t n u m → LeadsTo d equations u m v k → LeadsTo d equations t n v k
    leads_joined t u v n m k a b = record { count = a.count + b.count; spent = omega (arith, a.spent, b.spent); sequence = laws.joined a.count b.count t u v a.sequence b.sequence }

  -- a step before
  pub leads_step : (t u v : Term) (n k : ℕ) → 1 ≤ n → Rewrites d equations t u → LeadsTo d equations u (n - 1) v k → LeadsTo d equations t n v k
  leads_step t u v n k some r l = record { count = suc l.count; spent = omega (arith, l.spent); sequence = (u, (r, l.sequence)) }

  -- inside an operator
  pub leads_inside : SequenceLaws d equations → (f : OpId) (vs : List SortedTerm) (t u : Term) (ts : Terms) (n m : ℕ) → LeadsTo d equations t n u m → LeadsTo d equations (app f (before vs (more t ts))) n (app f (before vs (more u ts))) m
  leads_inside laws f vs t u ts n m l = record {
    count = l.count;
    spent = l.spent;
    sequence = laws.inside l.count (app f (before vs (more t ts))) (app f (before vs (more u ts))) (inside (among_before (TermSequence d equations l.count) vs t u ts l.sequence));
  }

  -- the term keeps its kind
  pub leads_to_term : KindedLaws d equations → (t u : Term) (n m : ℕ) → LeadsTo d equations t n u m → IsTerm d t → IsTerm d u
  leads_to_term laws t u n m l h = (h.0, laws.sequences l.count t u l.sequence h.0 h.1)

  variable_plain : (p : FlatTerm) (x : Var) → variable_of p ≡ Some x → plain p ≡ var x
  variable_plain (fvar y) x e = let q : y ≡ x = cc in ap var q
  variable_plain (fapp f joined ps) x e = cc

  -- what a variable stands for
  pub made_variable : IsGood d → (b : SortedBindings) (x : Var) (p : FlatTerm) (n : ℕ) (made : Made) → AreBindings d b → variable_of p ≡ Some x → made.value ≡ sorted_or x (sorted_bound b x) → made.left ≡ n → IsMade d equations (apply (standing_for b) (plain p)) n made
  made_variable good b x p n made h is value left = record {
    leads = leads_same (apply (standing_for b) (plain p)) (standing_for b x) (term_of made.value) (standing_for b x) n made.left (ap (apply (standing_for b)) (variable_plain p x is)) (ap term_of value)
        (subst (LeadsTo d equations (standing_for b x) n (standing_for b x)) (sym left) (leads_itself (standing_for b x) n));
    sorted = subst (IsSorted d) (sym value) (bound_is_sorted d good b h x);
  }

  -- an operator over arguments that are made
  pub made_over : (b : SortedBindings) (p : FlatTerm) (f : OpId) (n : ℕ) (made : MadeAll) → (ps : List FlatTerm) → ps ≡ args_of p → IsFreeHead d p f → Fits d p → AreMade d equations (apply_all (standing_for b) (plain_all (fpack ps))) n made → IsMadeOver d equations (apply (standing_for b) (plain p)) n f made
  made_over b p f n made ps are h fits all = record {
    leads = subst (λ t. LeadsTo d equations t n (app f (terms_of made.values.items)) made.left) (sym (ap (apply (standing_for b)) (free_plain d p f h fits.flat ∙ ap (λ l. app f (plain_all (fpack l))) (sym are)))) (all.leads f);
    sorted = all.sorted;
    free = h.free;
  }

  -- arguments of which some are made
  pub record ArePartlyMade (b : SortedBindings) (ps : List FlatTerm) (i n : ℕ) (vs : List SortedTerm) (m : ℕ) : Type 0 where
    pub leads : (f : OpId) → LeadsTo d equations (app f (apply_all (standing_for b) (plain_all (fpack ps)))) n (app f (before vs (apply_all (standing_for b) (plain_all (fpack (drop i ps)))))) m
    pub sorted : AreSorted d (spack vs)

  -- none so far
  pub partly_none : (b : SortedBindings) (ps : List FlatTerm) (n : ℕ) (vs : List SortedTerm) → vs ≡ [] → ArePartlyMade b ps 0 n vs n
  partly_none b ps n vs is = subst (λ l. ArePartlyMade b ps 0 n l n) (sym is) record { leads = λ f. leads_itself (app f (apply_all (standing_for b) (plain_all (fpack ps)))) n; sorted = tt }

  -- one more
  pub partly_more : RewritingLaws d equations → SequenceLaws d equations → (b : SortedBindings) (ps : List FlatTerm) (i n : ℕ) (vs us : List SortedTerm) (m : ℕ) (p : FlatTerm) (made : Made) → i < length ps → p ≡ get_or ps i p → us ≡ vs ++ made.value ∷ [] →
      ArePartlyMade b ps i n vs m → IsMade d equations (apply (standing_for b) (plain p)) m made → ArePartlyMade b ps (i + 1) n us made.left
  partly_more rewriting sequences b ps i n vs us m p made within is longer h j = record { leads = lead; sorted = subst (λ l. AreSorted d (spack l)) (sym longer) (sorted_append d vs made.value h.sorted j.sorted) }
    where
      rest : Terms
      rest = apply_all (standing_for b) (plain_all (fpack (drop (i + 1) ps)))

      begun : apply_all (standing_for b) (plain_all (fpack (drop i ps))) ≡ more (apply (standing_for b) (plain p)) rest
      begun = ap (λ l. apply_all (standing_for b) (plain_all (fpack l))) (drop_more ps i p within ∙ ap (λ q. q ∷ drop (i + 1) ps) (sym is))

      ended : before us rest ≡ before vs (more (term_of made.value) rest)
      ended = ap (λ l. before l rest) longer ∙ before_last vs made.value rest

      lead : (f : OpId) → LeadsTo d equations (app f (apply_all (standing_for b) (plain_all (fpack ps)))) n (app f (before us rest)) made.left
      lead f =
          leads_joined rewriting (app f (apply_all (standing_for b) (plain_all (fpack ps)))) (app f (before vs (apply_all (standing_for b) (plain_all (fpack (drop i ps)))))) (app f (before us rest)) n m made.left (h.leads f)
          (leads_same (app f (before vs (apply_all (standing_for b) (plain_all (fpack (drop i ps)))))) (app f (before vs (more (apply (standing_for b) (plain p)) rest))) (app f (before us rest)) (app f (before vs (more (term_of made.value) rest))) m made.left
          (ap (λ l. app f (before vs l)) begun) (ap (app f) ended) (leads_inside sequences f vs (apply (standing_for b) (plain p)) (term_of made.value) rest m made.left j.leads))

  -- all of them
  pub partly_all : (b : SortedBindings) (ps : List FlatTerm) (i n : ℕ) (made : MadeAll) → length ps ≤ i → ArePartlyMade b ps i n made.values.items made.left → AreMade d equations (apply_all (standing_for b) (plain_all (fpack ps))) n made
  partly_all b ps i n made past h = record {
    leads = λ f.
        subst (λ l. LeadsTo d equations (app f (apply_all (standing_for b) (plain_all (fpack ps)))) n (app f l) made.left)
        (ap (λ l. before made.values.items (apply_all (standing_for b) (plain_all (fpack l)))) (drop_all i ps past) ∙ before_none made.values.items) (h.leads f);
    sorted = h.sorted;
  }

  -- an instance is a term
  pub instance_is_term : IsGood d → (b : SortedBindings) (p : FlatTerm) → AreBindings d b → Fits d p → IsTerm d (apply (standing_for b) (plain p))
  instance_is_term good b p h fits = (fits.kinded.0, HasKind-apply d (standing_for b) (bound_well_sorted d good b h).0 (plain p) fits.kinded.0 fits.kinded.1)

  -- a turn, and then the operator that it comes to
  pub made_then : RewritingLaws d equations → (t : Term) (n : ℕ) (f : OpId) (all : MadeAll) (made : Made) → IsMadeOver d equations t n f all → IsMade d equations (app f (terms_of all.values.items)) all.left made → IsMade d equations t n made
  made_then laws t n f all made h j = record { leads = leads_joined laws t (app f (terms_of all.values.items)) (term_of made.value) n all.left made.left h.leads j.leads; sorted = j.sorted }

  -- an operator over terms that are made, to which steps lead
  pub record IsSettling (t : Term) (n : ℕ) (f : OpId) (ts : List SortedTerm) (m : ℕ) : Type 0 where
    pub leads : LeadsTo d equations t n (app f (terms_of ts)) m
    pub sorted : AreSorted d (spack ts)
    pub free : axioms d f ≡ Free

  module _ (t : Term) (n : ℕ) (f : OpId) (ts : List SortedTerm) (m : ℕ) (s : IsSettling t n f ts m) (v : SortedTerm) (is : v ≡ sapp f (result d f (map sort_of ts)) (spack ts)) where
    -- the term that it is
    settling_term : term_of v ≡ app f (terms_of ts)
    settling_term = ap term_of is

    pub settling_value : KindedLaws d equations → IsTerm d t → IsValue d v
    settling_value laws h = record {
      sorted = sorted_over d v f ts is s.free s.sorted;
      kinded = subst (IsTerm d) (sym settling_term) (leads_to_term laws t (app f (terms_of ts)) n m s.leads h);
    }

    -- the end, where no rule has it as an instance
    pub settled_here : (made : Made) → made.value ≡ v → made.left ≡ m → IsMade d equations t n made
    settled_here made value left = record {
      leads = subst (LeadsTo d equations t n (term_of made.value)) (sym left) (subst (λ w. LeadsTo d equations t n w m) (sym (ap term_of value ∙ settling_term)) s.leads);
      sorted = subst (IsSorted d) (sym value) (sorted_over d v f ts is s.free s.sorted);
    }

module _ (d : Declarations) (lists : RuleLists) (laws : AreStepRules d lists) where
  module _ (v : SortedTerm) (f : OpId) (found : Found) (h : IsFound d (headed lists f) v found) where
    -- the right side that is found fits
    pub found_fits : Fits d found.right.now
    found_fits = subst (Fits d) (sym h.right) (All-contains (SidesFit d) (headed lists f) h.rule (laws.fit f) h.listed).right

    -- and a step leads to its instance
    pub found_steps : Rewrites d (equations_of lists.equations) (term_of v) (apply (standing_for found.bound.items) (plain found.right.now))
    found_steps =
        subst (λ r. Rewrites d (equations_of lists.equations) (term_of v) (apply (standing_for found.bound.items) (plain r))) (sym h.right)
        (subst (λ u. Rewrites d (equations_of lists.equations) u (apply (standing_for found.bound.items) (plain h.rule.right))) (instance_term found.bound.items h.rule.left v h.left)
        (laws.steps f h.rule h.listed (standing_for found.bound.items) (bound_well_sorted d laws.good found.bound.items h.bindings)))

    module _ (t : Term) (n : ℕ) (ts : List SortedTerm) (m : ℕ) (s : IsSettling d (equations_of lists.equations) t n f ts m) (is : v ≡ sapp f (result d f (map sort_of ts)) (spack ts)) (some : 1 ≤ m) where
      -- a step at the root
      leads_on : (u : Term) (k : ℕ) → LeadsTo d (equations_of lists.equations) (apply (standing_for found.bound.items) (plain found.right.now)) (m - 1) u k → LeadsTo d (equations_of lists.equations) t n u k
      leads_on u k l =
          leads_joined d (equations_of lists.equations) laws.rewriting t (term_of v) u n m k
          (subst (λ w. LeadsTo d (equations_of lists.equations) t n w m) (sym (ap term_of is)) s.leads)
          (leads_step d (equations_of lists.equations) (term_of v) (apply (standing_for found.bound.items) (plain found.right.now)) u m k some found_steps l)

      -- the end, where it leads to a term that is made
      pub settled_whole : (made : Made) → IsMade d (equations_of lists.equations) (apply (standing_for found.bound.items) (plain found.right.now)) (m - 1) made → IsMade d (equations_of lists.equations) t n made
      settled_whole made j = record { leads = leads_on (term_of made.value) made.left j.leads; sorted = j.sorted }

      -- else it leads to an operator over such terms
      pub settled_over : (g : OpId) (all : MadeAll) → IsMadeOver d (equations_of lists.equations) (apply (standing_for found.bound.items) (plain found.right.now)) (m - 1) g all → IsSettling d (equations_of lists.equations) t n g all.values.items all.left
      settled_over g all j = record { leads = leads_on (app g (terms_of all.values.items)) all.left j.leads; sorted = j.sorted; free = j.free }

  -- what the whole form comes to
  pub begun_here : (t : FlatTerm) (steps : ℕ) (made : Made) (p : Plain) (begun : Begun) → IsMade d (equations_of lists.equations) (apply (standing_for []) (plain t)) steps made → term p ≡ term_of made.value → BEqual d (term p) (plain begun.form) → Fits d begun.form → begun.left ≡ made.left →
      IsReachedFrom d (equations_of lists.equations) t steps begun.form begun.left
  begun_here t steps made p begun m is equal fits left = record {
    count = m.leads.count;
    spent = omega (arith, m.leads.spent, left);
    reached = record {
      sequence = laws.sequences.after m.leads.count (plain t) (term p) (plain begun.form)
          (subst (λ u. TermSequence d (equations_of lists.equations) m.leads.count u (term p)) (apply-var (plain t)) (subst (λ u. TermSequence d (equations_of lists.equations) m.leads.count (apply (standing_for []) (plain t)) u) (sym is) m.leads.sequence)) equal;
      fits = fits;
    };
  }

  -- it is a term
  pub made_is_term : (t : FlatTerm) (steps : ℕ) (made : Made) (p : Plain) → Fits d t → IsMade d (equations_of lists.equations) (apply (standing_for []) (plain t)) steps made → term p ≡ term_of made.value → IsTerm d (term p)
  made_is_term t steps made p fits m is =
      subst (IsTerm d) (sym is) (leads_to_term d (equations_of lists.equations) laws.kinds (apply (standing_for []) (plain t)) (term_of made.value) steps made.left m.leads
      (instance_is_term d (equations_of lists.equations) laws.good [] t tt fits))
