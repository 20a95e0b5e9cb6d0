-- A rank that stands there before adds nothing to what is found.
use Rattle.std.proofs.Common.{◌≡◌, ℕ, ◌+◌, ◌<◌, length, get_or, take, Bool, true, false, List, [], ◌∷◌, ◌++◌, map, refl, sym, ap, subst, ◌∙◌, inl, inr}
use Rattle.std.specs.Prelude.{Option, Some, None, cond, find}
use Rattle.std.specs.List.{Contains, filter}
use Rattle.std.proofs.lemmas.List.{take_more}
use Rattle.fvn_base.proofs.Membership.{contains_cases, contains_none}
use Rattle.fvn_terms.specs.declared.plain.SortId.{SortId}
use Rattle.fvn_terms.specs.declared.declarations.Rank.{Rank}
use Rattle.fvn_terms.specs.declared.declarations.Declarations.{Declarations}
use Rattle.fvn_forms.specs.SortOrder.{at_or_below}
use Rattle.fvn_forms.specs.Ranks.{pass_together, results}
use Rattle.fvn_signature.specs.FoundAlike.{FindAlike}

-- the first of two that is there
abbrev or_else : Option SortId → Option SortId → Option SortId
or_else None o = o
or_else (Some s) o = Some s

module _ (d : Declarations) (args : List SortId) (p : SortId → Bool) where
  abbrev serves : Rank → Bool
  serves r = pass_together (at_or_below d) args r.args

  abbrev given : List Rank → List SortId
  given rs = map (λ r. r.result) rs

  one_more : (rs : List Rank) (r : Rank) → find p (results d (rs ++ r ∷ []) args) ≡ or_else (find p (results d rs args)) (find p (results d (r ∷ []) args))
  one_more [] r = refl
  one_more (q ∷ rs) r = go (serves q) (one_more rs r) where
    go : (b : Bool) → find p (results d (rs ++ r ∷ []) args) ≡ or_else (find p (results d rs args)) (find p (results d (r ∷ []) args)) → find p (given (cond b (q ∷ filter serves (rs ++ r ∷ [])) (filter serves (rs ++ r ∷ [])))) ≡ or_else (find p (given (cond b (q ∷ filter serves rs) (filter serves rs)))) (find p (results d (r ∷ []) args))
    go false rest = rest
    go true rest = at (p q.result) where
      at : (b : Bool) → cond b (Some q.result) (find p (results d (rs ++ r ∷ []) args)) ≡ or_else (cond b (Some q.result) (find p (results d rs args))) (find p (results d (r ∷ []) args))
      at true = refl
      at false = rest

  none_each : (q : Rank) (rs : List Rank) → find p (results d (q ∷ rs) args) ≡ None → (find p (results d (q ∷ []) args) ≡ None) × (find p (results d rs args) ≡ None)
  none_each q rs h = go (serves q) h where
    go : (b : Bool) → find p (given (cond b (q ∷ filter serves rs) (filter serves rs))) ≡ None → (find p (given (cond b (q ∷ []) [])) ≡ None) × (find p (results d rs args) ≡ None)
    go false k = (refl, k)
    go true k = at (p q.result) k where
      at : (b : Bool) → cond b (Some q.result) (find p (results d rs args)) ≡ None → (cond b (Some q.result) None ≡ None) × (find p (results d rs args) ≡ None)
      at true e = absurd (let some : Some q.result ≡ None = e in cc)
      at false e = (refl, e)

  none_of : (rs : List Rank) (r : Rank) → Contains rs r → find p (results d rs args) ≡ None → find p (results d (r ∷ []) args) ≡ None
  none_of [] r h none = absurd (contains_none r h)
  none_of (q ∷ rs) r h none = elim (contains_cases q rs r h) [
    | inl e ↦ subst (λ t. find p (results d (t ∷ []) args) ≡ None) e (none_each q rs none).0
    | inr i ↦ none_of rs r i (none_each q rs none).1
  ]

  kept_one : (o t : Option SortId) → (o ≡ None → t ≡ None) → o ≡ or_else o t
  kept_one None t none = sym (none refl)
  kept_one (Some s) t none = refl

-- a rank that is there already
kept : (some all : List Rank) (r : Rank) → Contains some r → FindAlike some all → FindAlike some (all ++ r ∷ [])
kept some all r listed alike d args p =
    let t = find p (results d (r ∷ []) args) in
    kept_one d args p (find p (results d some args)) t (none_of d args p some r listed) ∙ ap (λ o. or_else o t) (alike d args p) ∙ sym (one_more d args p all r)

-- a rank that is not
pushed : (some all : List Rank) (r : Rank) → FindAlike some all → FindAlike (some ++ r ∷ []) (all ++ r ∷ [])
pushed some all r alike d args p = one_more d args p some r ∙ ap (λ o. or_else o (find p (results d (r ∷ []) args))) (alike d args p) ∙ sym (one_more d args p all r)

-- the same of the first ranks of a list, one more
module _ (some all : List Rank) (i : ℕ) (r : Rank) (within : i < length all) (is : r ≡ get_or all i r) (alike : FindAlike some (take i all)) where
  next : take i all ++ r ∷ [] ≡ take (i + 1) all
  next = ap (λ q. take i all ++ q ∷ []) is ∙ sym (take_more all i r within)

  pub kept_at : Contains some r → FindAlike some (take (i + 1) all)
  kept_at listed = subst (FindAlike some) next (kept some (take i all) r listed alike)

  pub pushed_at : FindAlike (some ++ r ∷ []) (take (i + 1) all)
  pushed_at = subst (FindAlike (some ++ r ∷ [])) next (pushed some (take i all) r alike)
