-- What stands at a place of a form that stands at a place.
use Rattle.std.proofs.Common.{◌≡◌, ◌⊎◌, ◌+◌, ◌<◌, ◌≤◌, ℕ, List, ◌∷◌, refl, sym, subst, inl, inr, arith}
use Rattle.std.specs.List.{Contains}
use Rattle.fvn_base.proofs.Membership.{contains_here, contains_later, contains_none, contains_cases}
use Rattle.fvn_terms.specs.declared.plain.Var.{Var}
use Rattle.fvn_terms.specs.Substitution.{Occurs, OccursAmong}
use Rattle.fvn_forms.specs.Flat.{FlatTerm, FlatTerms, fvar, fapp, fnone, fmore, funpack, plain, plain_all}
use Rattle.fvn_flat.specs.Forms.{args_of}
use Rattle.fvn_flat.specs.FlatPlaces.{IsReplaced, IsReplacedAmong, IsAtPlace, here, inside, first, later, IsDivided, divided, taking, leaving}
use Rattle.fvn_flat.proofs.Occurrences.{occurs_in_app}

-- how many forms stand at places of a form
abbrev mutual
  pub weight : FlatTerm → ℕ
  weight (fvar x) = 1
  weight (fapp f joined ts) = 1 + weights ts

  weights : FlatTerms → ℕ
  weights fnone = 0
  weights (fmore t ts) = weight t + weights ts

pub some_weight : (t : FlatTerm) → 1 ≤ weight t
some_weight (fvar x) = omega arith
some_weight (fapp f joined ts) = omega arith

weight_listed : (ts : FlatTerms) (t : FlatTerm) → Contains (funpack ts) t → weight t ≤ weights ts
weight_listed fnone t c = absurd (contains_none t c)
weight_listed (fmore w ts) t c = go (contains_cases w (funpack ts) t c) (weight_listed ts t) where
  go : (w ≡ t) ⊎ Contains (funpack ts) t → (Contains (funpack ts) t → weight t ≤ weights ts) → weight t ≤ weight w + weights ts
  go (inl e) more = subst (λ z. weight z ≤ weight w + weights ts) e (omega arith)
  go (inr i) more = let h = more i in omega (arith, h)

-- an argument weighs less
pub argument_weight : (at t : FlatTerm) → Contains (args_of at) t → weight t < weight at
argument_weight (fvar x) t c = absurd (contains_none t c)
argument_weight (fapp f joined ts) t c = let h = weight_listed ts t c in omega (arith, h)

module _ (u : FlatTerm) where
  mutual
    pub weight_at : {v t w : FlatTerm} → IsReplaced u v t w → weight u ≤ weight t
    weight_at here = omega arith
    weight_at (inside r) = let h = weight_among r in omega (arith, h)

    weight_among : {v : FlatTerm} {ts us : FlatTerms} → IsReplacedAmong u v ts us → weight u ≤ weights ts
    weight_among (first r) = let h = weight_at r in omega (arith, h)
    weight_among (later r) = let h = weight_among r in omega (arith, h)

  -- what stands at a place of what stands at a place
  module _ (at : FlatTerm) (p : IsAtPlace u at) where
    mutual
      pub through : {t w : FlatTerm} → IsReplaced at at t w → IsAtPlace u t
      through here = p
      through (inside r) = inside (through_among r)

      through_among : {ts us : FlatTerms} → IsReplacedAmong at at ts us → IsReplacedAmong u u ts ts
      through_among (first r) = first (through r)
      through_among (later r) = later (through_among r)

  among_listed : (ts : FlatTerms) (t : FlatTerm) → Contains (funpack ts) t → IsAtPlace u t → IsReplacedAmong u u ts ts
  among_listed fnone t c p = absurd (contains_none t c)
  among_listed (fmore w ts) t c p = go (contains_cases w (funpack ts) t c) (among_listed ts t) where
    go : (w ≡ t) ⊎ Contains (funpack ts) t → (Contains (funpack ts) t → IsAtPlace u t → IsReplacedAmong u u ts ts) → IsReplacedAmong u u (fmore w ts) (fmore w ts)
    go (inl e) more = first (subst (IsAtPlace u) (sym e) p)
    go (inr i) more = later (more i p)

  -- a place of an argument is one of the form
  pub argument_place : (at t : FlatTerm) → Contains (args_of at) t → IsAtPlace u t → IsAtPlace u at
  argument_place (fvar x) t c p = absurd (contains_none t c)
  argument_place (fapp f joined ts) t c p = inside (among_listed ts t c p)

  mutual
    at_place : {v t w : FlatTerm} → IsReplaced u v t w → IsAtPlace u t
    at_place here = here
    at_place (inside r) = inside (at_place_among r)

    at_place_among : {v : FlatTerm} {ts us : FlatTerms} → IsReplacedAmong u v ts us → IsReplacedAmong u u ts ts
    at_place_among (first r) = first (at_place r)
    at_place_among (later r) = later (at_place_among r)

  -- an argument of the form, at a place of which it stands
  pub record StandsInArgument (t : FlatTerm) : Type 0 where
    pub argument : FlatTerm
    pub listed : Contains (args_of t) argument
    pub place : IsAtPlace u argument

  record StandsAmong (ts : FlatTerms) : Type 0 where
    argument : FlatTerm
    listed : Contains (funpack ts) argument
    place : IsAtPlace u argument

  among_cases : {v : FlatTerm} {ts us : FlatTerms} → IsReplacedAmong u v ts us → StandsAmong ts
  among_cases (first {t} {ts} r) = record { argument = t; listed = contains_here t (funpack ts); place = at_place r }
  among_cases (later {t} {ts} r) = let h = among_cases r in record { argument = h.argument; listed = contains_later t (funpack ts) h.argument h.listed; place = h.place }

  -- a place is the form itself, or one of an argument
  pub place_cases : {v t w : FlatTerm} → IsReplaced u v t w → (u ≡ t) ⊎ StandsInArgument t
  place_cases here = inl refl
  place_cases (inside r) = let h = among_cases r in inr record { argument = h.argument; listed = h.listed; place = h.place }

module _ (x : Var) where
  mutual
    -- what occurs in what stands at a place occurs in the form
    pub occurs_at_place : {u v t w : FlatTerm} → IsReplaced u v t w → Occurs x (plain u) → Occurs x (plain t)
    occurs_at_place here o = o
    occurs_at_place (inside {f} {joined} {ts} r) o = (occurs_in_app x f joined ts).1 (occurs_among_places r o)

    occurs_among_places : {u v : FlatTerm} {ts us : FlatTerms} → IsReplacedAmong u v ts us → Occurs x (plain u) → OccursAmong x (plain_all ts)
    occurs_among_places (first r) o = inl (occurs_at_place r o)
    occurs_among_places (later r) o = inr (occurs_among_places r o)

  -- a form of the list in which the variable occurs
  pub record OccursInOne (ts : FlatTerms) : Type 0 where
    pub one : FlatTerm
    pub listed : Contains (funpack ts) one
    pub there : Occurs x (plain one)

  pub occurs_in_one : (ts : FlatTerms) → OccursAmong x (plain_all ts) → OccursInOne ts
  occurs_in_one fnone o = absurd o
  occurs_in_one (fmore t ts) (inl o) = record { one = t; listed = contains_here t (funpack ts); there = o }
  occurs_in_one (fmore t ts) (inr o) = let h = occurs_in_one ts o in record { one = h.one; listed = contains_later t (funpack ts) h.one h.listed; there = h.there }

-- what is taken is one of all
pub divided_taken : {all taken others : List FlatTerm} → IsDivided all taken others → (t : FlatTerm) → Contains taken t → Contains all t
divided_taken divided t c = c
divided_taken (taking {t = w} {all} {taken} p) t c = go (contains_cases w taken t c) (divided_taken p t) where
  go : (w ≡ t) ⊎ Contains taken t → (Contains taken t → Contains all t) → Contains (w ∷ all) t
  go (inl e) more = subst (Contains (w ∷ all)) e (contains_here w all)
  go (inr i) more = contains_later w all t (more i)
divided_taken (leaving {t = w} {all} p) t c = contains_later w all t (divided_taken p t c)
