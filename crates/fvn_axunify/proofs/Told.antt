-- What is told of what was found.
use Rattle.std.proofs.Common.{◌≡◌, ◌<◌, ℕ, Bool, true, false, List, [], ◌∷◌, map, length, get_or, Some, None, refl, sym, ap, ◌∙◌, subst, inl, inr, arith}
use Rattle.std.specs.Prelude.{All, AllPairs, Any, Contains, if◌then◌else◌}
use Rattle.std.proofs.lemmas.List.{get_or-map, length-map}
use Rattle.std.proofs.lemmas.List.Elements.{All-map, All-weaker, All-contains_itself, All-contains}
use Rattle.fvn_base.specs.declared.limits.TheConstants.{NEXT_FRESH}
use Rattle.fvn_terms.specs.declared.plain.Var.{Var}
use Rattle.fvn_terms.specs.declared.declarations.Declarations.{Declarations}
use Rattle.fvn_terms.specs.Substitution.{Substitution, same_var, Occurs, OccursAmong}
use Rattle.fvn_terms.specs.Unifiers.{IsUnifier, IsInstance}
use Rattle.fvn_forms.specs.Flat.{FlatTerm, fpack, plain, plain_all}
use Rattle.fvn_flat.specs.Bindings.{Bindings, bound, form_or, BindsOnce, BindingsFit}
use Rattle.fvn_flat.specs.Drawn.{IsDrawn}
use Rattle.fvn_flat.specs.OneAnswer.{IsCompleteFor, IsApartFor}
use Rattle.fvn_flat.specs.Problems.{variables_of}
use Rattle.fvn_flat.specs.Solving.{substitution, problem_of, Binds, IsNumbered, IsCause}
use Rattle.fvn_flat.specs.declared.solver.Pairs.{Pairs}
use Rattle.fvn_flat.specs.declared.solver.Solved.{Solved}
use Rattle.fvn_flat.specs.declared.solver.SolveEnd.{SolveEnd}
use Rattle.fvn_flat.specs.declared.solver.SolveEnd.TheVariants.{Complete, Basis, Unifiers, Size}
use Rattle.fvn_flat.specs.declared.solver.SizeCause.TheVariants.{Problem, Binding, Term}
use Rattle.fvn_flat.proofs.Binding.{same_var_is, bound_first}
use Rattle.fvn_cover.specs.Covering.{CoversVariant}
use Rattle.fvn_cover.specs.Laws.{CoveringOfUnifiersIsInstance}
use Rattle.fvn_cover.specs.declared.variant.Variant.{Variant}
use Rattle.fvn_cover.proofs.Leftovers.{any_contains, any_of}
use Rattle.fvn_refine.specs.Refinements.{variables_of_terms}
use Rattle.fvn_refine.proofs.Refined.{listed_member}
use Rattle.fvn_refine.proofs.VariablesListed.{occurs_in_terms}
use Rattle.fvn_axunify.specs.Solved.{IsSolvedAs}
use Rattle.fvn_axunify.specs.inner.Asked.{IsAsked}
use Rattle.fvn_axunify.specs.Searched.{IsAnswered}
use Rattle.fvn_axunify.specs.inner.Members.{IsKept, AreKept, IsReached}
use Rattle.fvn_axunify.specs.inner.Found.{IsEndOf, IsFound}
use Rattle.fvn_axunify.specs.inner.Numbers.{AreBelow, IsAboveAll}
use Rattle.fvn_axunify.proofs.Pairs.{from_terms}
use Rattle.fvn_base.proofs.Membership.{contains_none, contains_map}

-- what occurs in the terms of a substitution occurs in what it binds a variable to
bound_member : (s : Bindings) → BindsOnce s → (y : Var) → OccursAmong y (plain_all (fpack (map (λ p. p.1) s))) → (x : Var) × ((t : FlatTerm) × ((bound s x ≡ Some t) × Occurs y (plain t)))
bound_member [] once y o = absurd o
bound_member (p ∷ s) once y (inl o) = (p.0, (p.1, (bound_first p s, o)))
bound_member (p ∷ s) once y (inr o) =
    let r = bound_member s once.1 y o in
    (r.0, (r.1.0, (later r.0 r.1.0 r.1.1.0 (same_var p.0 r.0) refl, r.1.1.1)))
  where
    later : (x : Var) (t : FlatTerm) → bound s x ≡ Some t → (b : Bool) → same_var p.0 x ≡ b → (if b then Some p.1 else bound s x) ≡ Some t
    later x t h true e = let none : None ≡ Some t = sym once.0 ∙ ap (bound s) (same_var_is p.0 x e) ∙ h in cc
    later x t h false e = h

-- pairs of what is read of members
all_pairs_mapped : {X Y : Type 0} (f : X → Y) (R : Y → Y → Type 0) (xs : List X) → AllPairs (λ a b. R (f a) (f b)) xs → AllPairs R (map f xs)
all_pairs_mapped f R [] h i j d l m = absurd (omega (arith, m))
all_pairs_mapped f R (x ∷ xs) h i j d l m =
    let n : j < length (x ∷ xs) = omega (arith, m, length-map (x ∷ xs) f) in
    subst (λ a. R a (get_or (map f (x ∷ xs)) j d)) (sym (get_or-map f (x ∷ xs) i x d (omega (arith, l, n))))
    (subst (λ b. R (f (get_or (x ∷ xs) i x)) b) (sym (get_or-map f (x ∷ xs) j x d n)) (h i j x l n))

module _ (d : Declarations) (given : Pairs) (vars : List Var) (first most size : ℕ) (asked : IsAsked d given vars first) where
  -- the numbers of all variables in values are small
  small_values : (v : Variant) → IsKept d given vars first v → AreBelow NEXT_FRESH (variables_of_terms v.subst)
  small_values v k = All-weaker (Contains (variables_of_terms v.subst)) (λ y. y.name < NEXT_FRESH) small (variables_of_terms v.subst) (All-contains_itself (variables_of_terms v.subst))
    where
      small : (y : Var) → Contains (variables_of_terms v.subst) y → y.name < NEXT_FRESH
      small y c = elim (from_terms (fpack (map (λ p. p.1) v.subst)) [] y c) [
        | inl o ↦ absurd (contains_none y o)
        | inr o ↦
            let b = bound_member v.subst k.once y o in
            let at : Contains (variables_of (problem_of given)) b.0 = (k.member.binds b.0).1 (b.1.0, b.1.1.0) in
            (k.member.numbered b.0 y at (subst (λ o. Occurs y (plain (form_or b.0 o))) (sym b.1.1.0) b.1.1.1)).2
      ]

  pub all_small : (kept : List Variant) → AreKept d given vars first kept → All (λ s. AreBelow NEXT_FRESH (variables_of_terms s)) (map (λ v. v.subst) kept)
  all_small kept are = All-map (λ s. AreBelow NEXT_FRESH (variables_of_terms s)) (λ v. v.subst) kept (All-weaker (IsKept d given vars first) (λ v. AreBelow NEXT_FRESH (variables_of_terms v.subst)) small_values kept are.members)

  -- instances on the problem's variables
  on_vars : (a b : Substitution) → IsInstance d (variables_of (problem_of given)) a b → IsInstance d vars a b
  on_vars a b i = record { after = i.after; well_sorted = i.well_sorted; equal = λ x c. i.equal x ((asked.variables x).0 c) }

  from_vars : (a b : Substitution) → IsInstance d vars a b → IsInstance d (variables_of (problem_of given)) a b
  from_vars a b i = record { after = i.after; well_sorted = i.well_sorted; equal = λ x c. i.equal x ((asked.variables x).1 c) }

  -- what is an instance of a kept one is one of the answer
  pub reached_answered : (kept : List Variant) (r : Solved) → r.unifiers ≡ map (λ v. v.subst) kept → (u : Substitution) → IsReached d given vars kept u → IsAnswered d given r u
  reached_answered kept r is u reached =
      let P : Bindings → Type 0 = λ s. IsInstance d (variables_of (problem_of given)) u (substitution s) in
      let k = any_contains (λ v. IsInstance d vars u (substitution v.subst)) kept reached in
      subst (λ (l : List Bindings). Any P l) (sym is)
      (any_of P (map (λ v. v.subst) kept) k.0.subst (contains_map (λ v. v.subst) kept k.0 k.1.0) (from_vars u (substitution k.0.subst) k.1.1))

  module _ (law : CoveringOfUnifiersIsInstance) (kept : List Variant) (end : SolveEnd) (found : IsFound d given vars first most size kept end) (next : ℕ) (above : IsAboveAll first (map (λ v. v.subst) kept) next) where
    -- what holds of each
    each : (P : Bindings → Type 0) → ((v : Variant) → IsKept d given vars first v → P v.subst) → All P (map (λ v. v.subst) kept)
    each P f = All-map P (λ v. v.subst) kept (All-weaker (IsKept d given vars first) (λ v. P v.subst) f kept found.are.members)

    number_below : (s : Bindings) → Contains (map (λ v. v.subst) kept) s → (y : Var) → Contains (variables_of_terms s) y → y.name < next
    number_below s c y o = All-contains (λ y. y.name < next) (variables_of_terms s) y (All-contains (λ s. AreBelow next (variables_of_terms s)) (map (λ v. v.subst) kept) s above.below c) o

    numbered : All (IsNumbered first next (problem_of given)) (map (λ v. v.subst) kept)
    numbered = All-map (IsNumbered first next (problem_of given)) (λ v. v.subst) kept
        (All-weaker (Contains kept) (λ v. IsNumbered first next (problem_of given) v.subst) one kept (All-contains_itself kept))
      where
        one : (v : Variant) → Contains kept v → IsNumbered first next (problem_of given) v.subst
        one v c x y i o =
            let k = All-contains (IsKept d given vars first) kept v found.are.members c in
            let n = k.member.numbered x y i o in
            let b = (k.member.binds x).0 i in
            let there : Contains (variables_of_terms v.subst) y = listed_member (variables_of_terms v.subst) y (occurs_in_terms v.subst x y b.0 b.1 (subst (λ o. Occurs y (plain (form_or x o))) b.1 o)) in
            (n.0, n.1, number_below v.subst (contains_map (λ v. v.subst) kept v c) y there)

    covers : (a b : Variant) → IsKept d given vars first a → IsKept d given vars first b → IsInstance d (variables_of (problem_of given)) (substitution b.subst) (substitution a.subst) → CoversVariant d a b
    covers a b j k i = (law d a b j.no_terms k.no_terms).1 (subst (λ l. IsInstance d l (substitution b.subst) (substitution a.subst)) (sym j.vars_are) (on_vars (substitution b.subst) (substitution a.subst) i))

    apart : IsApartFor d (problem_of given) (map substitution (map (λ v. v.subst) kept))
    apart = all_pairs_mapped substitution (λ s c. (IsInstance d (variables_of (problem_of given)) s c → ⊥) × (IsInstance d (variables_of (problem_of given)) c s → ⊥)) (map (λ v. v.subst) kept)
        (
        all_pairs_mapped (λ v. v.subst) (λ s c. (IsInstance d (variables_of (problem_of given)) (substitution s) (substitution c) → ⊥) × (IsInstance d (variables_of (problem_of given)) (substitution c) (substitution s) → ⊥)) kept
        (
        λ i j e l m.
        let a = found.are.members i e (omega (arith, l, m)) in
        let b = found.are.members j e m in
        let p = found.are.apart i j e l m in
        (λ q. p.1 (covers (get_or kept j e) (get_or kept i e) b a q), λ q. p.0 (covers (get_or kept i e) (get_or kept j e) a b q))
        )
        )

    complete : end ≡ Complete → IsCompleteFor d (problem_of given) (map substitution (map (λ v. v.subst) kept))
    complete e =
        let all = subst (IsEndOf d given vars most size kept) e found.end_of in
        record {
          sound = All-map (IsUnifier d (problem_of given)) substitution (map (λ v. v.subst) kept) (each (λ s. IsUnifier d (problem_of given) (substitution s)) (λ v k. k.member.unifier));
          complete = λ u h.
              let r = any_contains (λ v. IsInstance d vars u (substitution v.subst)) kept (all.1 u h) in
              any_of (IsInstance d (variables_of (problem_of given)) u) (map substitution (map (λ v. v.subst) kept)) (substitution r.0.subst)
              (contains_map substitution (map (λ v. v.subst) kept) r.0.subst (contains_map (λ v. v.subst) kept r.0 r.1.0))
              (from_vars u (substitution r.0.subst) r.1.1);
        }

    cause : (end : SolveEnd) → IsEndOf d given vars most size kept end → IsCause d given most size (length (map (λ v. v.subst) kept)) end
    cause Complete h = tt
    cause (Basis f system) h = h.1.at.cause
    cause Unifiers h = length-map kept (λ v. v.subst) ∙ h
    cause (Size (Problem p)) h = absurd h
    cause (Size (Binding list)) h = h.1
    cause (Size (Term t)) h = absurd h

    pub answered : IsSolvedAs d given first most size (record { unifiers = map (λ v. v.subst) kept; next_fresh = next; end = end })
    answered = record {
      sound = each (λ s. IsUnifier d (problem_of given) (substitution s)) (λ v k. k.member.unifier);
      drawn = each (λ s. IsDrawn d (problem_of given) (substitution s)) (λ v k. k.member.drawn);
      binds = each (λ s. Binds (problem_of given) s × BindsOnce s × BindingsFit d s) (λ v k. (k.member.binds, k.once, k.member.fit));
      numbered = numbered;
      next = above.from;
      bounded = above.small;
      apart = apart;
      complete = complete;
      cause = cause end found.end_of;
    }
