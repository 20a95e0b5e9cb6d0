-- How an exploration begins: its first forms, its first run, and what ends before there is one.
use Rattle.std.proofs.Common.{◌≡◌, ◌⊎◌, ℕ, ◌+◌, ◌-◌, ◌^◌, ◌<◌, ◌≤◌, List, [], ◌∷◌, ◌++◌, length, get_or, take, map, refl, sym, ap, ◌∙◌, subst, inl, inr, arith}
use Rattle.std.specs.Prelude.{min, All, Any, Contains}
use Rattle.std.specs.List.{AllZip}
use Rattle.std.proofs.lemmas.List.{take_more, length-append}
use Rattle.std.proofs.lemmas.List.Elements.{All-nil, All-contains}
use Rattle.fvn_base.proofs.Membership.{contains_cases, contains_none}
use Rattle.fvn_terms.specs.declared.plain.Var.{Var}
use Rattle.fvn_terms.specs.declared.declarations.Declarations.{Declarations}
use Rattle.fvn_terms.specs.Substitution.{Substitution, Occurs}
use Rattle.fvn_terms.specs.Unifiers.{Problem}
use Rattle.fvn_terms.specs.Variants.{OccursInSome}
use Rattle.fvn_forms.specs.Flat.{FlatTerm, fpack, plain, symbols}
use Rattle.fvn_forms.specs.Good.{IsGood}
use Rattle.fvn_signature.specs.Queries.{IsCompleted}
use Rattle.fvn_flat.specs.Bindings.{Bindings, IsInstanceBy}
use Rattle.fvn_flat.specs.Fits.{Fits, AllFit}
use Rattle.fvn_flat.specs.Variables.{with_variables, with_all_variables}
use Rattle.fvn_flat.specs.declared.solver.SizeCause.TheVariants.{Term as OfTerm}
use Rattle.fvn_rewrite_laws.specs.Normalised.{IsForm, IsUnfinished, IsTooLarge}
use Rattle.fvn_cover.specs.declared.variant.Variant.{Variant}
use Rattle.fvn_cover.specs.Covering.{AreAlike}
use Rattle.fvn_cover.specs.Pruning.{IsPruned, IsCoveredBySome}
use Rattle.fvn_exploring.specs.declared.limits.Limits.{Limits}
use Rattle.fvn_exploring.specs.declared.ends.Deep.{Deep}
use Rattle.fvn_exploring.specs.declared.ends.Explored.{Explored}
use Rattle.fvn_exploring.specs.declared.ends.ExploreEnd.{ExploreEnd}
use Rattle.fvn_exploring.specs.declared.ends.ExploreEnd.TheVariants.{Complete, Levels, Variants, Steps, Size, Basis, Unifiers}
use Rattle.fvn_exploring.specs.Setting.{Setting, AreLawfulIn}
use Rattle.fvn_exploring.specs.Children.{IsMember}
use Rattle.fvn_exploring.specs.Causes.{IsStepsCause, IsSizeCause}
use Rattle.fvn_exploring.specs.LevelRuns.{IsStart, IsLevelRun}
use Rattle.fvn_exploring.specs.Explorations.{variants_of, AreOverStart, IsPosed, IsTold, IsFound, IsExploreCause, ReachesPast, IsExploration}
use Rattle.fvn_closure.specs.Closing.{IsExplorable}
use Rattle.fvn_fold.specs.Starts.{IsStartable, IsSettingIn}
use Rattle.fvn_fold.specs.inner.Beginning.{variables_of_forms, IsRenamedForm, IsEarlyEnd}
use Rattle.fvn_fold.specs.declared.runs.Run.{Run}
use Rattle.fvn_fold.specs.inner.Running.{at_depth, LevelLists, lists_of, IsExploredTo}
use Rattle.fvn_fold.proofs.Expansions.{zip_joined}
use Rattle.fvn_fold.proofs.Gathers.{all_members, member_of_any}
use Rattle.fvn_fold.proofs.Nexts.{like_itself}

no_place : (j : ℕ) → j < 0 → ⊥
no_place j h = omega (arith, h)

one_place : (i j : ℕ) → i < j → j < 1 → ⊥
one_place i j l m = omega (arith, l, m)

-- the signature, the equations and the start go together
pub explorable_of : (g : Setting) (d : Declarations) (start : List FlatTerm) → IsSettingIn g d → IsGood d → IsCompleted d → AreLawfulIn g → IsStartable d start → AreOverStart g start → IsExplorable g start
explorable_of g d start within good completed lawful startable over = record {
  good = subst IsGood (sym within.declarations) good;
  completed = subst IsCompleted (sym within.declarations) completed;
  lawful = lawful;
  fits = subst (λ e. AllFit e start) (sym within.declarations) startable.fit;
  fixed = over;
}

-- each form of a list that fits does
pub fits_at : (d : Declarations) (ts : List FlatTerm) → AllFit d ts → (t : FlatTerm) → Contains ts t → Fits d t
fits_at d [] h t m = absurd (contains_none t m)
fits_at d (z ∷ ts) h t m = go (contains_cases z ts t m) (fits_at d ts h.1 t) where
  go : (z ≡ t) ⊎ Contains ts t → (Contains ts t → Fits d t) → Fits d t
  go (inl e) later = subst (Fits d) e h.0
  go (inr i) later = later i

-- the variables of one form more
with_all_push : (ts : List FlatTerm) (t : FlatTerm) (vars : List Var) → with_all_variables (fpack (ts ++ t ∷ [])) vars ≡ with_variables t (with_all_variables (fpack ts) vars)
with_all_push [] t vars = refl
with_all_push (u ∷ ts) t vars = with_all_push ts t (with_variables u vars)

pub variables_more : (start : List FlatTerm) (i : ℕ) (t : FlatTerm) → i < length start → t ≡ get_or start i t → variables_of_forms (take (i + 1) start) ≡ with_variables t (variables_of_forms (take i start))
variables_more start i t l is = ap variables_of_forms (take_more start i t l ∙ ap (λ z. take i start ++ z ∷ []) (sym is)) ∙ with_all_push (take i start) t []

-- one renamed form more
pub rested_more : (g : Setting) (names : Bindings) (start : List FlatTerm) (i : ℕ) (t : FlatTerm) (terms : List FlatTerm) (u : FlatTerm) → i < length start → t ≡ get_or start i t →
    AllZip (IsRenamedForm g names) (take i start) terms → IsRenamedForm g names t u → AllZip (IsRenamedForm g names) (take (i + 1) start) (terms ++ u ∷ [])
rested_more g names start i t terms u l is h k =
    subst (λ ts. AllZip (IsRenamedForm g names) ts (terms ++ u ∷ [])) (sym (take_more start i t l ∙ ap (λ z. take i start ++ z ∷ []) (sym is)))
    (zip_joined (IsRenamedForm g names) (take i start) (t ∷ []) terms (u ∷ []) h (k, tt))

-- a normal form, renamed
pub renamed_form_is : (g : Setting) (d : Declarations) (names : Bindings) (t form u : FlatTerm) → g.declarations ≡ d → IsForm g.declarations g.equations t g.bounds form → IsInstanceBy d names form u → Fits d u → IsRenamedForm g names t u
renamed_form_is g d names t form u e h renamed fits = record { form = form; is_form = h; renamed = subst (λ d. IsInstanceBy d names form u) (sym e) renamed; fits = subst (λ d. Fits d u) (sym e) fits }

below_least : (a b c : ℕ) → a < min b c → a < b
below_least a b c h = omega (arith, h)

module _ (g : Setting) (drawn : Problem → Substitution → Type 0) (start : List FlatTerm) where
  -- a term of the start that has no normal form within the limits
  pub early_steps : (t from to : FlatTerm) → Contains start t → Fits g.declarations t → IsUnfinished g.declarations g.equations t g.bounds from to → IsEarlyEnd g drawn start (Steps from to)
  early_steps t from to m fits h = subst (λ s. IsStepsCause g drawn (IsPosed g []) (IsTold g drawn start []) s to) (sym h.is) record { told = inl m; fits = fits; reached = h.reached; reducible = h.reducible }

  pub early_size : (t u : FlatTerm) → Contains start t → IsTooLarge g.declarations g.equations t g.bounds u → IsEarlyEnd g drawn start (Size (OfTerm u))
  early_size t u m h = record { start = t; told = inl m; steps = (h.reached).count; reached = (h.reached).reached; large = below_least g.bounds.size (symbols u) (2 ^ 64 - 1) h.large }

  -- a run without members
  empty_run : IsLevelRun g drawn start []
  empty_run = record {
    first = λ m rest e. absurd (let l = ap length e in omega (arith, l));
    parents = λ before m after e. absurd (let l = ap length e ∙ length-append before (m ∷ after) in omega (arith, l));
    sorted = λ i j e l m. absurd (no_place j m);
    folded = λ i j e l m. absurd (no_place j m);
  }

  nothing_pruned : IsPruned g.declarations [] []
  nothing_pruned = record {
    choices = [];
    whole = refl;
    sublist = refl;
    apart = λ i j e l m. absurd (no_place j m);
    dropped = All-nil (IsCoveredBySome g.declarations []);
    earlier = λ i j e l m. absurd (no_place j m);
  }

  not_complete : (end : ExploreEnd) → IsEarlyEnd g drawn start end → end ≡ Complete → ⊥
  not_complete end h e = subst (IsEarlyEnd g drawn start) e h

  no_levels : (end : ExploreEnd) (v : Variant) → IsEarlyEnd g drawn start end → end ≡ Levels v → ⊥
  no_levels end v h e = subst (IsEarlyEnd g drawn start) e h

  module _ (limits : Limits) (x : Explored) (none : x.kept ≡ []) where
    early_cause : (end : ExploreEnd) → IsEarlyEnd g drawn start end → IsExploreCause g drawn start limits x end
    early_cause Complete h = absurd h
    early_cause (Levels v) h = absurd h
    early_cause (Variants v) h = absurd h
    early_cause (Steps from to) h = subst (λ l. IsStepsCause g drawn (IsPosed g l) (IsTold g drawn start l) from to) (sym none) h
    early_cause (Size cause) h = subst (λ l. IsSizeCause g drawn (IsPosed g l) (IsTold g drawn start l) cause) (sym none) h
    early_cause (Basis f system) h = absurd h
    early_cause (Unifiers given list) h = absurd h

    never_past : IsEarlyEnd g drawn start x.end → (k : ℕ) → ReachesPast g drawn start limits x k → ⊥
    never_past h k (inl a) = let m = member_of_any (λ (m : Deep). k < m.depth) [] (subst (λ l. Any (λ (m : Deep). k < m.depth) l) none a) in contains_none m.0 m.1.0
    never_past h k (inr w) = no_levels x.end w.0 h w.1

    -- an exploration that ends before anything is kept
    pub early : AreLawfulIn g → AreOverStart g start → x.variants ≡ [] → IsEarlyEnd g drawn start x.end → IsExploration g drawn start limits x
    early lawful over given h = record {
      lawful = lawful;
      fixed = over;
      run = subst (IsLevelRun g drawn start) (sym none) empty_run;
      few = subst (λ l. length l ≤ limits.variants) (sym none) (omega arith);
      shallow = subst (All (λ (m : Deep). m.depth ≤ limits.levels)) (sym none) (All-nil (λ (m : Deep). m.depth ≤ limits.levels));
      pruned = subst (λ l. IsPruned g.declarations (variants_of l) x.variants) (sym none) (subst (IsPruned g.declarations []) (sym given) nothing_pruned);
      found = subst (All (IsFound g start)) (sym given) (All-nil (IsFound g start));
      complete = λ e terminating confluent us s v. absurd (not_complete x.end h e);
      within = λ confluent k past us s v within. absurd (never_past h k past);
      cause = early_cause x.end h;
    }

  -- the run of the start alone
  pub explored_first : AreOverStart g start → (v : Variant) (r : LevelLists) → r ≡ record { done = []; members = v ∷ []; kept = v ∷ [] } → IsStart g start v → IsExploredTo g drawn start 0 r
  explored_first over v r is h = subst (IsExploredTo g drawn start 0) (sym is) record {
    run = record {
      first = λ m rest e. subst (λ (n : Deep). (n.depth ≡ 0) × IsStart g start n.variant) (head_is m rest e) (refl, h);
      parents = λ before m after e. inl (none_before before m after e);
      sorted = λ i j e l m. absurd (one_place i j l m);
      folded = λ i j e l m. absurd (one_place i j l m);
    };
    closed = λ m i above. absurd (no_place m.depth above);
    above = All-nil (λ (m : Deep). m.depth < 0);
    kept = refl;
    some = omega arith;
    ready = record {
      first = v;
      once = (h.vars).once;
      fixed = all_members (λ t. (y : Var) → Occurs y t → Contains v.vars y) g.fixed (λ t m y o. ((h.vars).all y).1 (All-contains (λ u. (z : Var) → Occurs z u → OccursInSome z (map plain start)) g.fixed t over m y o));
      alike = all_members (AreAlike v) (v ∷ []) (λ w m. subst (AreAlike v) (only w m) (like_itself v));
      members = all_members (IsMember g) (v ∷ []) (λ w m. subst (IsMember g) (only w m) h.member);
    };
  } where
    head_is : (m : Deep) (rest : List Deep) → at_depth 0 v ∷ [] ≡ m ∷ rest → at_depth 0 v ≡ m
    head_is m rest e = cc

    none_before : (before : List Deep) (m : Deep) (after : List Deep) → at_depth 0 v ∷ [] ≡ before ++ m ∷ after → before ≡ []
    none_before [] m after e = refl
    none_before (b ∷ before) m after e = absurd (let l = ap length e in let k = length-append before (m ∷ after) in omega (arith, l, k))

    only : (w : Variant) → Contains (v ∷ []) w → v ≡ w
    only w m = elim (contains_cases v [] w m) as (λ _. v ≡ w) [ inl e ↦ e | inr i ↦ absurd (contains_none w i) ]

-- the three lists of the first run
pub lists_are : (r : Run) (v : Variant) → (r.done.items ≡ []) × (r.members.items ≡ v ∷ []) × (r.kept.items ≡ v ∷ []) → lists_of r ≡ record { done = []; members = v ∷ []; kept = v ∷ [] }
lists_are r v h = let a = h.0 in let b = h.1 in let e = h.2 in cc
