-- The ways that are chosen among fit, and none that fits is left out.
use Rattle.std.proofs.Common.{◌≡◌, ◌≢◌, ℕ, ◌+◌, ◌<◌, Bool, true, false, not, List, [], ◌∷◌, ◌++◌, length, sym, ap, ◌∙◌, subst, inl, inr, arith, Some, None, slice_get, Contains}
use Rattle.std.specs.Prelude.{nat_eq}
use Rattle.std.proofs.lemmas.Option.{slice_get_within}
use Rattle.fvn_base.proofs.Membership.{contains_here, contains_later, contains_cases, contains_none}
use Rattle.fvn_terms.specs.declared.plain.OpId.{OpId}
use Rattle.fvn_terms.specs.declared.declarations.Declarations.{Declarations}
use Rattle.fvn_combine_nodes.specs.Table.{IsOver}
use Rattle.fvn_combine_nodes.specs.States.{Admits, IsClosed, class_of}
use Rattle.fvn_combine_nodes.specs.declared.state.State.{State}
use Rattle.fvn_combine_nodes.specs.declared.table.Node.TheVariants.{App}
use Rattle.fvn_combine_nodes.proofs.Lists.{all_from}
use Rattle.fvn_purify.specs.Parts.{Outline}
use Rattle.fvn_purify.specs.Splits.{IsWayOfPair, AreWaysOfPairs}
use Rattle.fvn_purify.specs.inner.Options.{AreFirst, IsForcedWay, IsWayOptions}
use Rattle.fvn_purify.specs.inner.Choices.{AreStepped, AreOptions, IsDecided}
use Rattle.fvn_purify.proofs.Elements.{contains_at, slice_get-middle, slice_get-push, all_pairs_one, all_pairs_two}
use Rattle.fvn_purify.proofs.Decided.{one_operator, admitted_same, decided_tests}

module _ (d : Declarations) (c : Outline) (class : ℕ → ℕ) where
  -- one more way that fits
  pub more_ways : (list : List (ℕ × ℕ)) (ways : List Bool) (p : ℕ × ℕ) (w : Bool) → AreWaysOfPairs d c class list ways → slice_get list (length ways) ≡ Some p → IsWayOfPair d c class p w → AreWaysOfPairs d c class list (ways ++ w ∷ [])
  more_ways list ways p w are at way k q v a = elim (slice_get-push ways w v k a.1) [
    | inl l ↦ are k q v (a.0, l)
    | inr r ↦
        let e : Some p ≡ Some q = sym at ∙ ap (slice_get list) (sym r.0) ∙ a.0 in
        let s : p ≡ q = cc in
        subst (IsWayOfPair d c class q) r.1 (subst (λ o. IsWayOfPair d c class o w) s way)
  ]

  -- the last of these ways
  pub last_way : (list : List (ℕ × ℕ)) (ways : List Bool) (p : ℕ × ℕ) (w : Bool) → AreWaysOfPairs d c class list (ways ++ w ∷ []) → slice_get list (length ways) ≡ Some p → IsWayOfPair d c class p w
  last_way list ways p w are at = are (length ways) p w (at, slice_get-middle ways [] w)

  -- no ways
  pub no_ways : (list : List (ℕ × ℕ)) → AreWaysOfPairs d c class list []
  no_ways list k p w a = absurd (let l = slice_get_within [] k w a.1 in omega arith)

module _ (d : Declarations) (c : Outline) (fit : AreStepped d c) (s : State) (closed : IsClosed d c.table s) (none : IsDecided c s) (ways : List Bool) (are : AreWaysOfPairs d c (class_of s) c.places.pairs ways) (p : ℕ × ℕ) (at : slice_get c.places.pairs (length ways) ≡ Some p) where
  -- the first arguments of the pair are one pair of nodes
  first_are : (x y a v : ℕ) (f g : OpId) (ks ls : List ℕ) → AreFirst c.table p x y → IsOver c.table.nodes p.0 f (a ∷ ks) → IsOver c.table.nodes p.1 g (v ∷ ls) → (x ≡ a) × (y ≡ v)
  first_are x y a v f g ks ls h l m =
      let e = (one_operator d c fit p.0 h.0 f (x ∷ h.2) (a ∷ ks) h.4 l).1 in
      let n = (one_operator d c fit p.1 h.1 g (y ∷ h.3) (v ∷ ls) h.5 m).1 in
      (cc, cc)

  forced_way : (w : Bool) → IsForcedWay c (class_of s) p (Some w) → IsWayOfPair d c (class_of s) p w
  forced_way w h f g a v ks ls l m same =
      let r = h.1 in
      let e = first_are r.0 r.1 a v f g ks ls r.2 l m in
      r.3 ∙ ap (λ n. not (nat_eq (class_of s n) (class_of s r.1))) e.0 ∙ ap (λ n. not (nat_eq (class_of s a) (class_of s n))) e.1

  free_way : IsForcedWay c (class_of s) p None → (w : Bool) → IsWayOfPair d c (class_of s) p w
  free_way (inl apart) w f g a v ks ls l m same = absurd (apart same)
  free_way (inr never) w f g a v ks ls l m same = absurd (never a v (f, g, ks, ls, l, m))

  forced_alone : (w : Bool) → IsForcedWay c (class_of s) p (Some w) → (class : ℕ → ℕ) → Admits s class → (v : Bool) → IsWayOfPair d c class p v → w ≡ v
  forced_alone w h class admits v way =
      let r = h.1 in
      let x = r.0 in
      let y = r.1 in
      let first = r.2 in
      let same : class p.0 ≡ class p.1 = admitted_same d c fit s closed class admits p.0 p.1 (slice_get_within c.table.nodes p.0 (App first.0 (x ∷ first.2)) first.4) (slice_get_within c.table.nodes p.1 (App first.1 (y ∷ first.3)) first.5) h.0 in
      let tests = decided_tests d c fit s closed none class admits x y (inr (inr (p, contains_at c.places.pairs (length ways) p at, h.0, first))) in
      r.3 ∙ ap not (sym tests) ∙ sym (way first.0 first.1 x y first.2 first.3 first.4 first.5 same)

  both : (v : Bool) → Contains (false ∷ true ∷ []) v
  both true = contains_later false (true ∷ []) true (contains_here true [])
  both false = contains_here false (true ∷ [])

  -- the options for one more way
  pub way_options : (options : List Bool) → IsWayOptions c (class_of s) p options → AreOptions d c (λ class w. AreWaysOfPairs d c class c.places.pairs (ways ++ w ∷ [])) s options
  way_options options (inl o) =
      let w = o.0 in
      let Fits = λ (v : Bool). AreWaysOfPairs d c (class_of s) c.places.pairs (ways ++ v ∷ []) in
      subst (AreOptions d c (λ class w. AreWaysOfPairs d c class c.places.pairs (ways ++ w ∷ [])) s) (sym o.2) (record {
        fit = all_from Fits (w ∷ []) (λ v k. elim (contains_cases w [] v k) [ inl e ↦ subst Fits e (more_ways d c (class_of s) c.places.pairs ways p w are at (forced_way w o.1)) | inr r ↦ absurd (contains_none v r) ]);
        once = all_pairs_one ◌≢◌ w;
        all = λ class partition admits v fits. subst (Contains (w ∷ [])) (forced_alone w o.1 class admits v (last_way d c class c.places.pairs ways p v fits at)) (contains_here w []);
      })
  way_options options (inr o) =
      let Fits = λ (v : Bool). AreWaysOfPairs d c (class_of s) c.places.pairs (ways ++ v ∷ []) in
      subst (AreOptions d c (λ class w. AreWaysOfPairs d c class c.places.pairs (ways ++ w ∷ [])) s) (sym o.1) (record {
        fit = all_from Fits (false ∷ true ∷ []) (λ v k. more_ways d c (class_of s) c.places.pairs ways p v are at (free_way o.0 v));
        once = all_pairs_two ◌≢◌ false true (λ e. cc);
        all = λ class partition admits v fits. both v;
      })

  -- there are no more than the weight allows
  pub few_ways : (options : List Bool) → IsWayOptions c (class_of s) p options → length options < 3 + length c.ops
  few_ways options (inl o) = let n = ap length o.2 in omega arith
  few_ways options (inr o) = let n = ap length o.1 in omega arith
