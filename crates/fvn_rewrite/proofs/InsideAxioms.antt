-- Sequences of forms whose normal forms are sought from the inside out, modulo axioms.
use Rattle.std.proofs.Common.{◌≡◌, ◌+◌, ◌-◌, ◌<◌, ◌≤◌, ℕ, List, [], ◌∷◌, ◌++◌, length, drop, get_or, Option, Some, None, refl, sym, ap, ◌∙◌, subst, arith}
use Rattle.std.specs.Prelude.{IfSome}
use Rattle.std.proofs.lemmas.List.{drop_more, drop_all, append-nil}
use Rattle.fvn_terms.specs.declared.plain.OpId.{OpId}
use Rattle.fvn_terms.specs.declared.declarations.Declarations.{Declarations}
use Rattle.fvn_terms.specs.Equality.{BEqual}
use Rattle.fvn_terms.specs.Theory.{Equations}
use Rattle.fvn_terms.specs.Rewriting.{TermSequence}
use Rattle.fvn_forms.specs.Flat.{FlatTerm, plain}
use Rattle.fvn_forms.proofs.InOrder.{each_append}
use Rattle.fvn_flat.specs.Forms.{head_of, args_of}
use Rattle.fvn_flat.specs.Fits.{Fits, AllFit, Takes, plain_over}
use Rattle.fvn_theory.specs.Equations.{equations_of}
use Rattle.fvn_rewrite_rules.specs.Given.{RuleLists}
use Rattle.fvn_rewrite.specs.declared.inside.Reached.{Reached}
use Rattle.fvn_rewrite.specs.declared.inside.ReachedAll.{ReachedAll}
use Rattle.fvn_rewrite.specs.inner.Making.{AreStepRules, LeadsTo, IsReachedFrom}
use Rattle.fvn_rewrite.specs.inner.Inside.{AreReachedFrom}
use Rattle.fvn_rewrite.specs.inner.Walking.{IsNext, RootAs}
use Rattle.fvn_rewrite.proofs.InsideOut.{leads_itself, leads_same, leads_joined, leads_step}
use Rattle.fvn_rewrite.proofs.OverArguments.{own_taken, own_plain, over_replaced, taken_replaced}

last_moved : (us : List FlatTerm) (u : FlatTerm) (ts : List FlatTerm) → (us ++ u ∷ []) ++ ts ≡ us ++ u ∷ ts
last_moved [] u ts = refl
last_moved (v ∷ us) u ts = ap (λ l. v ∷ l) (last_moved us u ts)

module _ (d : Declarations) (equations : Equations) where
  -- what is found at the root is a step
  pub root_next : (t : FlatTerm) (o : Option FlatTerm) → RootAs d equations t o → IfSome o (IsNext d equations t)
  root_next t None h = tt
  root_next t (Some u) h = h

  -- steps between the terms lead from the form to the one that is reached
  reached_by : (t : FlatTerm) (n : ℕ) (u : FlatTerm) (m : ℕ) → LeadsTo d equations (plain t) n (plain u) m → Fits d u → IsReachedFrom d equations t n u m
  reached_by t n u m l fits = record { count = l.count; spent = l.spent; reached = record { sequence = l.sequence; fits = fits } }

  leads_to : (t : FlatTerm) (n : ℕ) (u : FlatTerm) (m : ℕ) → IsReachedFrom d equations t n u m → LeadsTo d equations (plain t) n (plain u) m
  leads_to t n u m h = record { count = h.count; spent = h.spent; sequence = h.reached.sequence }

  -- a form reaches itself
  pub reached_here : (t : FlatTerm) (n : ℕ) (u : FlatTerm) → u ≡ t → Fits d t → IsReachedFrom d equations t n u n
  reached_here t n u is fits = subst (λ v. IsReachedFrom d equations t n v n) (sym is) (reached_by t n t n (leads_itself d equations (plain t) n) fits)

  -- arguments of which some are reached
  pub record ArePartlyReached (ts : List FlatTerm) (i n : ℕ) (us : List FlatTerm) (m : ℕ) : Type 0 where
    pub leads : (f : OpId) → Takes d f ts → LeadsTo d equations (plain_over d f ts) n (plain_over d f (us ++ drop i ts)) m
    pub takes : (f : OpId) → Takes d f ts → Takes d f (us ++ drop i ts)
    pub fit : AllFit d us

  -- none so far
  pub none_reached : (ts : List FlatTerm) (n : ℕ) (us : List FlatTerm) → us ≡ [] → ArePartlyReached ts 0 n us n
  none_reached ts n us is = subst (λ l. ArePartlyReached ts 0 n l n) (sym is) record { leads = λ f h. leads_itself d equations (plain_over d f ts) n; takes = λ f h. h; fit = tt }

  -- all of them
  pub all_reached : (ts : List FlatTerm) (i n : ℕ) (all : ReachedAll) → length ts ≤ i → ArePartlyReached ts i n all.forms.items all.left → AreReachedFrom d equations ts n all
  all_reached ts i n all past h = record {
    leads = λ f k. subst (λ l. LeadsTo d equations (plain_over d f ts) n (plain_over d f l) all.left) ended (h.leads f k);
    takes = λ f k. subst (Takes d f) ended (h.takes f k);
    fit = h.fit;
  }
    where
      ended : all.forms.items ++ drop i ts ≡ all.forms.items
      ended = ap (λ l. all.forms.items ++ l) (drop_all i ts past) ∙ append-nil all.forms.items

module _ (d : Declarations) (lists : RuleLists) (laws : AreStepRules d lists) where
  -- one after the other
  pub reached_then : (t : FlatTerm) (n : ℕ) (u : FlatTerm) (m : ℕ) (v : FlatTerm) (k : ℕ) → IsReachedFrom d (equations_of lists.equations) t n u m → IsReachedFrom d (equations_of lists.equations) u m v k → IsReachedFrom d (equations_of lists.equations) t n v k
  reached_then t n u m v k h j = record {
    count = h.count + j.count;
    spent = omega (arith, h.spent, j.spent);
    reached = record { sequence = laws.rewriting.joined h.count j.count (plain t) (plain u) (plain v) h.reached.sequence j.reached.sequence; fits = j.reached.fits };
  }

  -- one step more, and what that leads to
  pub reached_step : (t : FlatTerm) (n : ℕ) (u : FlatTerm) (m : ℕ) (v w : FlatTerm) (k : ℕ) → 1 ≤ m → IsReachedFrom d (equations_of lists.equations) t n u m → IsNext d (equations_of lists.equations) u v → IsReachedFrom d (equations_of lists.equations) v (m - 1) w k → IsReachedFrom d (equations_of lists.equations) t n w k
  reached_step t n u m v w k some h s j =
      let E = equations_of lists.equations in
      reached_then t n u m w k h (reached_by d E u m w k (leads_step d E (plain u) (plain v) (plain w) m k some s.steps (leads_to d E v (m - 1) w k j)) j.reached.fits)

  -- one argument more
  module _ (ts : List FlatTerm) (i n : ℕ) (us vs : List FlatTerm) (m : ℕ) (t : FlatTerm) (r : Reached) (within : i < length ts) (is : t ≡ get_or ts i t) (longer : vs ≡ us ++ r.form ∷ []) where
    abbrev rest : List FlatTerm
    rest = drop (i + 1) ts

    begun : drop i ts ≡ t ∷ rest
    begun = drop_more ts i t within ∙ ap (λ q. q ∷ rest) (sym is)

    ended : us ++ r.form ∷ rest ≡ vs ++ rest
    ended = sym (ap (λ l. l ++ rest) longer ∙ last_moved us r.form rest)

    module _ (h : ArePartlyReached d (equations_of lists.equations) ts i n us m) (j : IsReachedFrom d (equations_of lists.equations) t m r.form r.left) where
      more_taken : (f : OpId) → Takes d f ts → Takes d f (vs ++ rest)
      more_taken f k = subst (Takes d f) ended (taken_replaced d t r.form (laws.kinds.sequences j.count (plain t) (plain r.form) j.reached.sequence) us rest f (subst (λ l. Takes d f (us ++ l)) begun (h.takes f k)))

      replaced : (f : OpId) → LeadsTo d (equations_of lists.equations) (plain_over d f (us ++ t ∷ rest)) m (plain_over d f (us ++ r.form ∷ rest)) r.left
      replaced f = record {
        count = j.count;
        spent = j.spent;
        sequence = laws.sequences.inside j.count (plain_over d f (us ++ t ∷ rest)) (plain_over d f (us ++ r.form ∷ rest)) (over_replaced d us t r.form rest (TermSequence d (equations_of lists.equations) j.count) j.reached.sequence f);
      }

      more_leads : (f : OpId) → Takes d f ts → LeadsTo d (equations_of lists.equations) (plain_over d f ts) n (plain_over d f (vs ++ rest)) r.left
      more_leads f k =
          leads_joined d (equations_of lists.equations) laws.rewriting (plain_over d f ts) (plain_over d f (us ++ drop i ts)) (plain_over d f (vs ++ rest)) n m r.left (h.leads f k)
          (leads_same d (equations_of lists.equations) (plain_over d f (us ++ drop i ts)) (plain_over d f (us ++ t ∷ rest)) (plain_over d f (vs ++ rest)) (plain_over d f (us ++ r.form ∷ rest)) m r.left
          (ap (λ l. plain_over d f (us ++ l)) begun) (ap (plain_over d f) (sym ended)) (replaced f))

      pub more_reached : ArePartlyReached d (equations_of lists.equations) ts (i + 1) n vs r.left
      more_reached = record { leads = more_leads; takes = more_taken; fit = subst (AllFit d) (sym longer) (each_append (Fits d) us (r.form ∷ []) h.fit (j.reached.fits, tt)) }

  -- an operator over arguments that are reached
  module _ (t : FlatTerm) (f : OpId) (head : head_of t ≡ Some f) (fits : Fits d t) (n : ℕ) (ts : List FlatTerm) (are : ts ≡ args_of t) (all : ReachedAll) (h : AreReachedFrom d (equations_of lists.equations) ts n all) where
    taken : Takes d f ts
    taken = subst (Takes d f) (sym are) (own_taken d laws.good.fits t f head fits)

    pub reached_taken : Takes d f all.forms.items
    reached_taken = h.takes f taken

    pub over_reached : (whole : FlatTerm) → BEqual d (plain_over d f all.forms.items) (plain whole) → Fits d whole → IsReachedFrom d (equations_of lists.equations) t n whole all.left
    over_reached whole equal whole_fits =
        let E = equations_of lists.equations in
        let l = h.leads f taken in
        let is : plain t ≡ plain_over d f ts = own_plain d laws.good.fits t f head fits ∙ ap (plain_over d f) (sym are) in record {
          count = l.count;
          spent = l.spent;
          reached = record {
            sequence = subst (λ v. TermSequence d E l.count v (plain whole)) (sym is) (laws.sequences.after l.count (plain_over d f ts) (plain_over d f all.forms.items) (plain whole) l.sequence equal);
            fits = whole_fits;
          };
        }
