-- Lists of a run, as its variants are copied.
use Rattle.std.proofs.Common.{◌≡◌, ℕ, List, [], ◌∷◌, ◌++◌, map, refl, sym, ap, ◌∙◌}
use Rattle.std.specs.Prelude.{All}
use Rattle.std.proofs.lemmas.List.{append_assoc, map-append}
use Rattle.std.proofs.lemmas.List.Elements.{All-contains, Contains-append_right}
use Rattle.fvn_terms.specs.declared.declarations.Declarations.{Declarations}
use Rattle.fvn_flat.specs.Bindings.{Bindings, chosen, is_free}
use Rattle.fvn_cover.specs.declared.variant.Variant.{Variant}
use Rattle.fvn_cover.specs.Covering.{IsFlatVariant}
use Rattle.fvn_exploring.specs.declared.ends.Deep.{Deep}
use Rattle.fvn_fold.specs.inner.Running.{at_depth, with_next, AreKept}
use Rattle.fvn_fold.proofs.Gathers.{all_members}

-- all pairs are of variables that have no pair among none
pub all_chosen : (s : Bindings) → chosen (is_free []) s ≡ s
all_chosen [] = refl
all_chosen (p ∷ s) = ap (λ (l : Bindings). p ∷ l) (all_chosen s)

-- the next level of what is kept is flat
pub next_flat : (d : Declarations) (kept next : List Variant) → AreKept d (kept ++ next) → All (IsFlatVariant d) next
next_flat d kept next h = all_members (IsFlatVariant d) next (λ v m. All-contains (IsFlatVariant d) (kept ++ next) v h.flat (Contains-append_right kept next v m))

-- one more of a level
pub depth_more : (done all : List Deep) (depth : ℕ) (seen : List Variant) (v : Variant) → all ≡ done ++ map (at_depth depth) seen → all ++ at_depth depth v ∷ [] ≡ done ++ map (at_depth depth) (seen ++ v ∷ [])
depth_more done all depth seen v h = ap (λ l. l ++ at_depth depth v ∷ []) h ∙ append_assoc done (map (at_depth depth) seen) (at_depth depth v ∷ []) ∙ ap (λ l. done ++ l) (sym (map-append (at_depth depth) seen (v ∷ [])))

pub last_more : (last seen : List Variant) (k v : Variant) → v ≡ k → last ≡ seen → last ++ v ∷ [] ≡ seen ++ k ∷ []
last_more last seen k v e h = ap (λ l. l ++ v ∷ []) h ∙ ap (λ z. seen ++ z ∷ []) e

pub all_more : (kept all seen : List Variant) (k v : Variant) → v ≡ k → all ≡ kept ++ seen → all ++ v ∷ [] ≡ kept ++ (seen ++ k ∷ [])
all_more kept all seen k v e h = ap (λ l. l ++ v ∷ []) h ∙ append_assoc kept seen (v ∷ []) ∙ ap (λ z. kept ++ (seen ++ z ∷ [])) e

-- the lists of a run with one more level
pub with_next_is : (done : List Deep) (members kept : List Variant) (depth : ℕ) (next : List Variant) (above : List Deep) (last all : List Variant) → above ≡ done ++ map (at_depth depth) members → last ≡ next → all ≡ kept ++ next →
    record { done = above; members = last; kept = all } ≡ with_next (record { done = done; members = members; kept = kept }) depth next
with_next_is done members kept depth next above last all a b e = cc
