-- A pruned list with one more member.
use Rattle.std.proofs.Common.{◌≡◌, ◌<◌, inl, inr, Bool, true, false, List, [], ◌∷◌, ◌++◌, length, get_or, map, refl, sym, ap, ◌∙◌, subst, arith}
use Rattle.std.specs.Prelude.{All, AllPairs}
use Rattle.std.specs.List.{AllZip}
use Rattle.std.proofs.lemmas.List.{get_or_default, map-append}
use Rattle.std.proofs.lemmas.List.Elements.{All-push, All-weaker, AllZip-get_or, length_all_zip}
use Rattle.std.proofs.lemmas.List.Quantifiers.{all_pairs_push}
use Rattle.fvn_base.proofs.MappedLists.{all_mapped_at}
use Rattle.fvn_terms.specs.declared.declarations.Declarations.{Declarations}
use Rattle.fvn_cover.specs.declared.variant.Variant.{Variant}
use Rattle.fvn_cover.specs.Covering.{CoversVariant, AreAlike}
use Rattle.fvn_cover.specs.Pruning.{Choices, all_of, chosen, IsCoveredBySome, IsPruned}
use Rattle.fvn_cover.specs.Laws.{CoveringIsAPreorder}
use Rattle.fvn_cover.specs.Adding.{IsLeft, IsAdded}
use Rattle.fvn_cover.proofs.Leftovers.{all_at, any_of, any_contains}
use Rattle.fvn_cover.proofs.Additions.{added_apart, added_new, added_still}

pub alike_sym : (a b : Variant) → AreAlike a b → AreAlike b a
alike_sym a b h = record { vars = sym h.vars; terms = sym h.terms }

alike_trans : (a b e : Variant) → AreAlike a b → AreAlike b e → AreAlike a e
alike_trans a b e h g = record { vars = h.vars ∙ g.vars; terms = h.terms ∙ g.terms }

-- of what is read of each
all_of_map : {A B : Type 0} (f : A → B) (Q : B → Type 0) (xs : List A) → All Q (map f xs) → All (λ x. Q (f x)) xs
all_of_map f Q xs h k d l = all_mapped_at f Q xs k (get_or xs k d) (f (get_or xs k d)) l (get_or_default xs k d (get_or xs k d) l) refl h

-- one more choice
chosen-kept : (cs : Choices) (v : Variant) → chosen (cs ++ (v, true) ∷ []) ≡ chosen cs ++ v ∷ []
chosen-kept [] v = refl
chosen-kept ((u, true) ∷ cs) v = ap (λ l. u ∷ l) (chosen-kept cs v)
chosen-kept ((u, false) ∷ cs) v = chosen-kept cs v

chosen-dropped : (cs : Choices) (v : Variant) → chosen (cs ++ (v, false) ∷ []) ≡ chosen cs
chosen-dropped [] v = refl
chosen-dropped ((u, true) ∷ cs) v = ap (λ l. u ∷ l) (chosen-dropped cs v)
chosen-dropped ((u, false) ∷ cs) v = chosen-dropped cs v

-- the same variant, kept only where it was
abbrev Narrows : Variant × Bool → Variant × Bool → Type 0
Narrows a b = (b.0 ≡ a.0) × (a.1 ≡ false → b.1 ≡ false)

narrowed : (P : Variant → Type 0) (cs : Choices) (left : List Variant) → IsLeft P (chosen cs) left → (after : Choices) × AllZip Narrows cs after × (chosen after ≡ left)
narrowed P [] left h = ([], tt, sym h)
narrowed P ((v, false) ∷ cs) left h = let r = narrowed P cs left h in ((v, false) ∷ r.0, ((refl, λ e. refl), r.1), r.2)
narrowed P ((v, true) ∷ cs) left (inl h) = let r = narrowed P cs left h.1 in ((v, false) ∷ r.0, ((refl, λ e. refl), r.1), r.2)
narrowed P ((v, true) ∷ cs) left (inr h) =
    let r = narrowed P cs h.1.0 h.1.2 in
    ((v, true) ∷ r.0, ((refl, λ e. e), r.1), ap (λ l. v ∷ l) r.2 ∙ sym h.1.1)

narrowed_from : (cs after : Choices) → AllZip Narrows cs after → all_of after ≡ all_of cs
narrowed_from [] [] h = refl
narrowed_from [] (b ∷ bs) h = absurd h
narrowed_from (a ∷ cs) [] h = absurd h
narrowed_from (a ∷ cs) (b ∷ bs) h = ap (λ v. v ∷ all_of bs) h.0.0 ∙ ap (λ l. a.0 ∷ l) (narrowed_from cs bs h.1)

module _ (d : Declarations) where
  -- of two that cover each other the later is left out
  abbrev Later : Variant × Bool → Variant × Bool → Type 0
  Later a b = CoversVariant d a.0 b.0 → CoversVariant d b.0 a.0 → b.1 ≡ false

  narrowed_later : (cs after : Choices) → AllZip Narrows cs after → AllPairs Later cs → AllPairs Later after
  narrowed_later cs after zip h i j e l m p q =
      let n : j < length cs = omega (arith, m, length_all_zip Narrows cs after zip) in
      let a = AllZip-get_or Narrows cs after i e e zip (omega (arith, l, n)) in
      let b = AllZip-get_or Narrows cs after j e e zip n in
      b.1
      (h i j e l n (subst (λ v. CoversVariant d v (get_or cs j e).0) a.0 (subst (CoversVariant d (get_or after i e).0) b.0 p)) (subst (λ v. CoversVariant d v (get_or cs i e).0) b.0 (subst (CoversVariant d (get_or after j e).0) a.0 q)))

  module _ (order : CoveringIsAPreorder d) (given kept : List Variant) (v : Variant) (pruned : IsPruned d given kept) where
    skipped : IsCoveredBySome d kept v → IsPruned d (given ++ v ∷ []) kept
    skipped covered = record {
      choices = pruned.choices ++ (v, false) ∷ [];
      whole = map-append (λ c. c.0) pruned.choices ((v, false) ∷ []) ∙ ap (λ l. l ++ v ∷ []) pruned.whole;
      sublist = chosen-dropped pruned.choices v ∙ pruned.sublist;
      apart = pruned.apart;
      dropped = All-push (IsCoveredBySome d kept) given v pruned.dropped covered;
      earlier = all_pairs_push Later pruned.choices (v, false) pruned.earlier (λ k e l p q. refl);
    }

    module _ (kept_alike : All (AreAlike v) kept) (given_alike : All (AreAlike v) given) where
      module _ (free : IsCoveredBySome d kept v → ⊥) (left : List Variant) (h : IsLeft (CoversVariant d v) kept left) where
        -- no earlier one covers it
        never_covered : (g : Variant) → IsCoveredBySome d kept g → AreAlike v g → CoversVariant d g v → ⊥
        never_covered g some alike p =
            let k = any_contains (λ k. CoversVariant d k g) kept some in
            let like : AreAlike k.0 g = alike_trans k.0 v g (alike_sym v k.0 (all_at (AreAlike v) kept k.1.0.0 k.0 kept_alike k.1.0.1 (sym k.1.0.2))) alike in
            free (any_of (λ z. CoversVariant d z v) kept k.0 k.1.0 (order.transitive k.0 g v like k.1.1 p))

        added : IsAdded d kept v (left ++ v ∷ [])
        added = inr (free, (left, h, refl))

        kept_more : IsPruned d (given ++ v ∷ []) (left ++ v ∷ [])
        kept_more =
            let r = narrowed (CoversVariant d v) pruned.choices left (subst (λ l. IsLeft (CoversVariant d v) l left) (sym pruned.sublist) h) in
            let from : all_of r.0 ≡ given = narrowed_from pruned.choices r.0 r.1 ∙ pruned.whole in
            let covered = all_of_map (λ c. c.0) (IsCoveredBySome d kept) r.0 (subst (All (IsCoveredBySome d kept)) (sym from) pruned.dropped) in
            let alike = all_of_map (λ c. c.0) (AreAlike v) r.0 (subst (All (AreAlike v)) (sym from) given_alike) in record {
              choices = r.0 ++ (v, true) ∷ [];
              whole = map-append (λ c. c.0) r.0 ((v, true) ∷ []) ∙ ap (λ l. l ++ v ∷ []) from;
              sublist = chosen-kept r.0 v ∙ ap (λ l. l ++ v ∷ []) r.2;
              apart = added_apart d kept v (left ++ v ∷ []) added pruned.apart;
              dropped = All-push (IsCoveredBySome d (left ++ v ∷ [])) given v (All-weaker (IsCoveredBySome d kept) (IsCoveredBySome d (left ++ v ∷ [])) (added_still d order kept v kept_alike (left ++ v ∷ []) added) given pruned.dropped) (added_new d order kept v (left ++ v ∷ []) added);
              earlier = all_pairs_push Later r.0 (v, true) (narrowed_later pruned.choices r.0 r.1 pruned.earlier) (λ k e l p q. absurd (never_covered (get_or r.0 k e).0 (covered k e l) (alike k e l) p));
            }

      pub pruned_more : (after : List Variant) → IsAdded d kept v after → IsPruned d (given ++ v ∷ []) after
      pruned_more after (inl h) = subst (IsPruned d (given ++ v ∷ [])) (sym h.1) (skipped h.0)
      pruned_more after (inr h) = subst (IsPruned d (given ++ v ∷ [])) (sym h.1.2) (kept_more h.0 h.1.0 h.1.1)
