-- The conditions on least results, by the kinds of an operator's first declaration.
use Rattle.std.proofs.Common.{◌≡◌, ◌↔◌, ◌<◌, Bool, true, false, List, [], ◌∷◌, map, refl, sym, ap, subst, ◌∙◌, ◌⊎◌, inl, inr, arith, cond, nat_eq, length, get_or}
use Rattle.std.specs.List.{Contains, All}
use Rattle.std.specs.Prelude.{find, is_some, Some}
use Rattle.std.proofs.lemmas.Bool.{cases_eq, false≢true, true≢false, false_from_ne_true}
use Rattle.std.proofs.lemmas.List.{get_or_default}
use Rattle.std.proofs.lemmas.List.Elements.{All-map, All-weaker}
use Rattle.fvn_terms.specs.declared.plain.OpId.{OpId}
use Rattle.fvn_terms.specs.declared.plain.SortId.{SortId}
use Rattle.fvn_terms.specs.declared.declarations.Rank.{Rank}
use Rattle.fvn_terms.specs.declared.declarations.Declarations.{Declarations}
use Rattle.fvn_terms.specs.Signature.{kind, declared, axioms, IsSort, AtOrBelow}
use Rattle.fvn_terms.specs.Equality.{IsAssociative, identity}
use Rattle.fvn_forms.specs.SortOrder.{sort_number, at_or_below}
use Rattle.fvn_forms.specs.Ranks.{IsResult, ranks_of, results, is_lowest, result}
use Rattle.fvn_forms.specs.Good.{IsOfKind}
use Rattle.fvn_base.proofs.Membership.{contains_here, contains_later, contains_cases, contains_none, list_all_from, list_all_gives}
use Rattle.fvn_forms.proofs.SortTests.{at_or_below-true, at_or_below-complete}
use Rattle.fvn_forms.proofs.Results.{Serves-contains, contains-Serves}
use Rattle.fvn_signature.specs.declared.draft.Draft.{Draft}
use Rattle.fvn_signature_draft.specs.declared.collected.Collected.{Collected}
use Rattle.fvn_sorts.specs.declared.conditions.brackets.Triple.{Triple}
use Rattle.fvn_signature.specs.FoundAlike.{FindAlike}
use Rattle.fvn_signature.proofs.FirstSorts.{positive}
use Rattle.fvn_signature.proofs.FoundAlike.{same_lowest}
use Rattle.fvn_signature_draft.specs.Collected.{completed}
use Rattle.fvn_forms.specs.FitsKinds.{HaveOneKind}
use Rattle.fvn_sorts.specs.Faults.{Differ, HasNoResult, HasBadBrackets, HasBadCollapse}
use Rattle.fvn_sorts.specs.inner.Searches.{AgreeInKinds, has_lowest, HasNoLowest, AreBad, DoesNotCollapse}
use Rattle.fvn_base.proofs.Decided.{unrefuted, both_or}

-- equality of lists of sorts is decided
pub same_sorts : (xs ys : List SortId) → (xs ≡ ys) ⊎ (xs ≡ ys → ⊥)
same_sorts [] [] = inl refl
same_sorts [] (y ∷ ys) = inr (λ e. cc)
same_sorts (x ∷ xs) [] = inr (λ e. cc)
same_sorts (x ∷ xs) (y ∷ ys) = go (cases_eq x.0 y.0) (same_sorts xs ys) where
  go : (x.0 ≡ y.0) ⊎ (x.0 ≡ y.0 → ⊥) → (xs ≡ ys) ⊎ (xs ≡ ys → ⊥) → (x ∷ xs ≡ y ∷ ys) ⊎ (x ∷ xs ≡ y ∷ ys → ⊥)
  go (inl e) (inl f) = inl (ap (λ n. sort_number n ∷ xs) e ∙ ap (λ l. y ∷ l) f)
  go (inl e) (inr g) = inr (λ h. g (cc))
  go (inr n) f = inr (λ h. n (let q : x ≡ y = cc in ap (λ (z : SortId). z.0) q))

pub same_sort_or : (x y : SortId) → (x ≡ y) ⊎ (x ≡ y → ⊥)
same_sort_or x y = elim (cases_eq x.0 y.0) [ inl e ↦ inl (ap sort_number e) | inr n ↦ inr (λ h. n (ap (λ (z : SortId). z.0) h)) ]

-- ranks that do not differ in kinds have the same
pub agree_of : (d : Declarations) (ranks : List Rank) → (Differ (HaveOneKind d) ranks → ⊥) → (r q : Rank) → Contains ranks r → Contains ranks q → HaveOneKind d r q
agree_of d ranks no_two r q hr hq = unrefuted (both_or (same_sorts (map (kind d) r.args) (map (kind d) q.args)) (same_sort_or (kind d r.result) (kind d q.result))) (λ n. no_two record { one = r; other = q; one_listed = hr; other_listed = hq; differ = n })

-- a search finds something exactly where something passes
pub find_some : {A : Type 0} (p : A → Bool) (xs : List A) (y : A) → Contains xs y → p y ≡ true → is_some (find p xs) ≡ true
find_some p [] y h e = absurd (contains_none y h)
find_some {A} p (x ∷ xs) y h e = go (p x) refl (find_some p xs y) where
  go : (b : Bool) → p x ≡ b → (Contains xs y → p y ≡ true → is_some (find p xs) ≡ true) → is_some (cond b (Some x) (find p xs)) ≡ true
  go true q rest = refl
  go false q rest = elim (contains_cases x xs y h) as (λ _. is_some (find p xs) ≡ true) [ inl s ↦ absurd (true≢false (sym e ∙ subst (λ z. p z ≡ false) s q)) | inr i ↦ rest i e ]

pub some_find : {A : Type 0} (p : A → Bool) (xs : List A) → is_some (find p xs) ≡ true → (y : A) × (Contains xs y × (p y ≡ true))
some_find p [] h = absurd (false≢true h)
some_find {A} p (x ∷ xs) h = go (p x) refl h (some_find p xs) where
  go : (b : Bool) → p x ≡ b → is_some (cond b (Some x) (find p xs)) ≡ true → (is_some (find p xs) ≡ true → (y : A) × (Contains xs y × (p y ≡ true))) → (y : A) × (Contains (x ∷ xs) y × (p y ≡ true))
  go true q k rest = (x, (contains_here x xs, q))
  go false q k rest = let w = rest k in (w.0, (contains_later x xs w.0 w.1.0, w.1.1))

module _ (d : Declarations) (f : OpId) (ss : List SortId) where
  pub result_lowest : (r : SortId) → IsResult d f ss r → has_lowest d (ranks_of d f) ss ≡ true
  result_lowest r h = find_some (is_lowest d (results d (ranks_of d f) ss)) (results d (ranks_of d f) ss) r (Serves-contains d f ss r h.serves) (list_all_from (at_or_below d r) (results d (ranks_of d f) ss) (λ q i. at_or_below-complete d (h.least q (contains-Serves d f ss q i))))

  pub lowest_result : has_lowest d (ranks_of d f) ss ≡ true → (r : SortId) × IsResult d f ss r
  lowest_result h =
      let w = some_find (is_lowest d (results d (ranks_of d f) ss)) (results d (ranks_of d f) ss) h in
      (w.0, record { serves = contains-Serves d f ss w.0 w.1.0; least = λ q s. at_or_below-true d w.0 q (list_all_gives (at_or_below d w.0) (results d (ranks_of d f) ss) q w.1.1 (Serves-contains d f ss q s)) })

-- what the first declaration's kinds are good for
module _ (t : Draft) (f : OpId) (r : Rank) (listed : Contains (declared t.declarations f).ranks r) where
  pub arg_kinds_listed : All (λ k. k.0 < t.total) (map (kind t.declarations) r.args)
  arg_kinds_listed = All-map (λ k. k.0 < t.total) (kind t.declarations) r.args (All-weaker (IsSort t.declarations) (λ s. (kind t.declarations s).0 < t.total) (λ s h. let k = t.sound.kinded.listed s h in let e = t.sound.total in omega arith) r.args (t.sound.kinded.ranks f r listed).0)

  result_kind_listed : (kind t.declarations r.result).0 < t.total
  result_kind_listed = let k = t.sound.kinded.listed r.result (t.sound.kinded.ranks f r listed).1 in let e = t.sound.total in omega arith

module _ (c : Collected) (agree : AgreeInKinds c) (f : OpId) (r : Rank) where
  no_result_of : Contains (declared (completed c) f).ranks r → (ss : List SortId) → HasNoLowest (completed c) (map (kind (completed c)) r.args) (ranks_of (completed c) f) ss ↔ HasNoResult c f ss
  no_result_of h ss = (
    λ w. (record { rank = r; listed = h; kinds = w.0 }, λ q is. true≢false (sym (result_lowest (completed c) f ss q is) ∙ w.1)),
    λ w. (w.0.kinds ∙ (agree_of (completed c) (declared (completed c) f).ranks (agree f) w.0.rank r w.0.listed h).0, false_from_ne_true _ (λ e. let q = lowest_result (completed c) f ss e in w.1 q.0 q.1)),
  )

  no_result : (d : Declarations) → d ≡ completed c → Contains (declared d f).ranks r → (ss : List SortId) → HasNoLowest d (map (kind d) r.args) (ranks_of d f) ss ↔ HasNoResult c f ss
  no_result d is = rw is no_result_of

  -- the same by ranks that give what the operator's own do
  pub no_result_by : (d : Declarations) → d ≡ completed c → Contains (declared d f).ranks r → (rs : List Rank) → FindAlike rs (ranks_of d f) → (ss : List SortId) → HasNoLowest d (map (kind d) r.args) rs ss ↔ HasNoResult c f ss
  no_result_by d is listed rs alike ss =
      let same : has_lowest d rs ss ≡ has_lowest d (ranks_of d f) ss = ap (λ o. is_some o) (same_lowest rs (ranks_of d f) alike d ss) in
      let own = no_result d is listed ss in
      (λ w. own.0 (w.0, sym same ∙ w.1), λ h. let w = own.1 h in (w.0, same ∙ w.1))

  of_kind : Contains (declared (completed c) f).ranks r → (s : SortId) → (kind (completed c) s ≡ kind (completed c) r.result) ↔ IsOfKind (completed c) f s
  of_kind h s = (λ e. record { rank = r; listed = h; kind_is = e }, λ w. w.kind_is ∙ (agree_of (completed c) (declared (completed c) f).ranks (agree f) w.rank r w.listed h).1)

  bad_brackets_of : Contains (declared (completed c) f).ranks r → IsAssociative (axioms (completed c) f) → (t : Triple) → AreBad (completed c) f (kind (completed c) r.result) t ↔ HasBadBrackets c f t.first t.second t.third
  bad_brackets_of h assoc t = (
    λ w. record { associative = assoc; first = (of_kind h t.first).0 w.0; second = (of_kind h t.second).0 w.1.0; third = (of_kind h t.third).0 w.1.1.0; bad = w.1.1.1 },
    λ w. ((of_kind h t.first).1 w.first, ((of_kind h t.second).1 w.second, ((of_kind h t.third).1 w.third, w.bad))),
  )

  pub bad_brackets : (d : Declarations) → d ≡ completed c → Contains (declared d f).ranks r → IsAssociative (axioms d f) → (t : Triple) → AreBad d f (kind d r.result) t ↔ HasBadBrackets c f t.first t.second t.third
  bad_brackets d is = rw is bad_brackets_of

  bad_collapse_of : Contains (declared (completed c) f).ranks r → (e : OpId) → identity (axioms (completed c) f) ≡ Some e → (s : SortId) → DoesNotCollapse (completed c) f e (kind (completed c) r.result) s ↔ HasBadCollapse c f s
  bad_collapse_of h e named s = (
    λ w. record { identity = e; named = named; of_kind = (of_kind h s).0 w.0; bad = w.1 },
    λ w.
        let same : w.identity ≡ e = let q : Some w.identity ≡ Some e = sym w.named ∙ named in cc in
        ((of_kind h s).1 w.of_kind, subst (λ i. AtOrBelow (completed c) s (result (completed c) f (s ∷ result (completed c) i [] ∷ [])) → ⊥) same w.bad),
  )

  pub bad_collapse : (d : Declarations) → d ≡ completed c → Contains (declared d f).ranks r → (e : OpId) → identity (axioms d f) ≡ Some e → (s : SortId) → DoesNotCollapse d f e (kind d r.result) s ↔ HasBadCollapse c f s
  bad_collapse d is = rw is bad_collapse_of

-- the first of some ranks is among them
pub first_listed : (ranks all : List Rank) (r : Rank) → false ≡ nat_eq (length ranks) 0 → ranks ≡ all → Contains all (get_or ranks 0 r)
first_listed ranks all r some e =
    let within = positive (length ranks) some in
    subst (λ (l : List Rank). Contains l (get_or ranks 0 r)) e (0, within, get_or_default ranks 0 (get_or ranks 0 r) r within)

pub first_kind_listed : (t : Draft) → (f : OpId) (ranks : List Rank) (r : Rank) → false ≡ nat_eq (length ranks) 0 → ranks ≡ (declared t.declarations f).ranks → (k : SortId) → k ≡ kind t.declarations (get_or ranks 0 r).result → k.0 < t.total
first_kind_listed t f ranks r some declares k is = subst (λ (q : SortId). q.0 < t.total) (sym is) (result_kind_listed t f (get_or ranks 0 r) (first_listed ranks _ r some declares))
