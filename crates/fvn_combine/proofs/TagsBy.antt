-- The tags that options stand for.
use Rattle.std.proofs.Common.{◌≡◌, ◌≢◌, ℕ, zero, suc, ◌<◌, ◌≤◌, List, [], ◌∷◌, length, get_or, refl, sym, ap, ◌∙◌, inl, inr, arith, All, AllPairs, Contains, Option, Some, None}
use Rattle.std.specs.Prelude.{◌⊎◌, if◌then◌else◌, slice_get}
use Rattle.std.proofs.lemmas.Bool.{eq-eqb, ne_eqb, cases_order}
use Rattle.std.proofs.lemmas.List.{get_or-map, length-map, get_or_past}
use Rattle.std.proofs.lemmas.List.Elements.{All-tail}
use Rattle.std.proofs.lemmas.Option.{slice_get_within, get_or_from_slice_get}
use Rattle.fvn_terms.specs.declared.plain.OpId.{OpId}
use Rattle.fvn_combine_drawing.specs.CombineCandidatesSharing.{classes_of}
use Rattle.fvn_combine_drawing.specs.CombineCandidatesTags.{AreTags, tag_by, user_at}
use Rattle.fvn_combine_drawing.specs.CombineCandidatesDeclared.sharing.SharedClass.{SharedClass}

-- the tag of a shared class is what its option stands for
pub tag_at : (shared : List SharedClass) (numbers : List ℕ) → AllPairs ◌≢◌ (classes_of shared) → length numbers ≡ length shared → (i : ℕ) (c : SharedClass) → slice_get shared i ≡ Some c → tag_by shared numbers c.class ≡ user_at c.users (get_or numbers i 0)
tag_at [] numbers distinct many i c at = let l = slice_get_within [] i c at in absurd (omega (arith, l))
tag_at (a ∷ shared) [] distinct many i c at = absurd (omega (arith, many))
tag_at (a ∷ shared) (n ∷ numbers) distinct many zero c at =
    let one : a ≡ c = cc in
    ap (λ b. if b then user_at a.users n else tag_by shared numbers c.class) (eq-eqb a.class c.class (ap (λ (x : SharedClass). x.class) one))
    ∙ ap (λ (x : SharedClass). user_at x.users n) one
tag_at (a ∷ shared) (n ∷ numbers) distinct many (suc i) c at =
    let l = slice_get_within shared i c at in
    let m = length-map shared (λ (x : SharedClass). x.class) in
    let class_is = get_or-map (λ (x : SharedClass). x.class) shared i c 0 l ∙ ap (λ (x : SharedClass). x.class) (get_or_from_slice_get shared i c c at) in
    let other : a.class ≢ c.class = λ e. distinct 0 (suc i) 0 (omega arith) (omega (arith, l, m)) (e ∙ sym class_is) in
    ap (λ b. if b then user_at a.users n else tag_by shared numbers c.class) (ne_eqb a.class c.class other)
    ∙ tag_at shared numbers (λ x y d p q. distinct (suc x) (suc y) d (omega (arith, p)) (omega (arith, q))) (omega (arith, many)) i c at

-- a tag is one of the users
pub some_user : (users : List OpId) (n : ℕ) → user_at users n ≢ None → (f : OpId) × Contains users f × (user_at users n ≡ Some f)
some_user users zero some = absurd (some refl)
some_user users (suc i) some = go (slice_get users i) refl
  where
    go : (o : Option OpId) → slice_get users i ≡ o → (f : OpId) × Contains users f × (slice_get users i ≡ Some f)
    go None e = absurd (some e)
    go (Some f) e = (f, (i, slice_get_within users i f e, get_or_from_slice_get users i f f e), e)

-- no class past the last one has a tag
none_past : (n : ℕ) (shared : List SharedClass) (numbers : List ℕ) → All (λ c. c.class < n) shared → (x : ℕ) → n ≤ x → tag_by shared numbers x ≡ None
none_past n [] numbers within x l = refl
none_past n (a ∷ shared) [] within x l = refl
none_past n (a ∷ shared) (m ∷ numbers) within x l =
    let here : a.class < n = within 0 a (omega arith) in
    let other : a.class ≢ x = omega (arith, here, l) in
    ap (λ b. if b then user_at a.users m else tag_by shared numbers x) (ne_eqb a.class x other)
    ∙ none_past n shared numbers (All-tail (λ (c : SharedClass). c.class < n) a shared within) x l

abbrev listed : (ℕ → Option OpId) → ℕ → List (Option OpId)
listed f zero = []
listed f (suc n) = f 0 ∷ listed (λ i. f (suc i)) n

length-listed : (f : ℕ → Option OpId) (n : ℕ) → length (listed f n) ≡ n
length-listed f zero = refl
length-listed f (suc n) = let m = length-listed (λ i. f (suc i)) n in omega (arith, m)

listed_at : (f : ℕ → Option OpId) (n i : ℕ) → i < n → get_or (listed f n) i None ≡ f i
listed_at f zero i l = absurd (omega (arith, l))
listed_at f (suc n) zero l = refl
listed_at f (suc n) (suc i) l = listed_at (λ j. f (suc j)) n i (omega (arith, l))

-- options stand for tags
pub some_tags : (n : ℕ) (shared : List SharedClass) (numbers : List ℕ) → All (λ c. c.class < n) shared → (tags : List (Option OpId)) × AreTags shared numbers tags
some_tags n shared numbers within = (listed f n, λ x. go x (cases_order x n))
  where
    f : ℕ → Option OpId
    f = tag_by shared numbers

    past : (x : ℕ) → n ≤ x → get_or (listed f n) x None ≡ f x
    past x l = let m = length-listed f n in get_or_past (listed f n) x None (omega (arith, m, l)) ∙ sym (none_past n shared numbers within x l)

    go : (x : ℕ) → (x ≡ n) ⊎ ((x < n) ⊎ (n < x)) → get_or (listed f n) x None ≡ f x
    go x (inl e) = past x (omega (arith, e))
    go x (inr (inl l)) = listed_at f n x l
    go x (inr (inr l)) = past x (omega (arith, l))
