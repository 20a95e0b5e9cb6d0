-- What the marks of a list tell of one more variant.
use Rattle.std.proofs.Common.{◌≡◌, List, [], ◌∷◌, ◌++◌, sym, subst}
use Rattle.std.specs.Prelude.{All, Any, Contains}
use Rattle.std.proofs.lemmas.List.Elements.{All-push, All-weaker, Contains-append_left}
use Rattle.std.proofs.lemmas.List.Quantifiers.{Any-push}
use Rattle.fvn_terms.specs.declared.declarations.Declarations.{Declarations}
use Rattle.fvn_cover_counts.specs.declared.marks.Unkept.{Unkept}
use Rattle.fvn_cover_counts.specs.declared.marks.Marks.{Marks}
use Rattle.fvn_cover_counts.specs.Marks.{AreUnkept, RefuseEachOther}
use Rattle.fvn_cover.specs.declared.variant.Variant.{Variant}
use Rattle.fvn_cover.specs.Covering.{values_of, CoversVariant, AreAlike}
use Rattle.fvn_cover.specs.Pruning.{IsCoveredBySome}
use Rattle.fvn_cover.specs.Adding.{IsAdded}
use Rattle.fvn_cover.specs.inner.Profiled.{IsMarked}
use Rattle.fvn_cover.specs.inner.Sieved.{HaveMarksIn}
use Rattle.fvn_cover.proofs.Leftovers.{all_at, any_of, any_contains}
use Rattle.fvn_cover.proofs.Additions.{added_all}
use Rattle.fvn_cover.proofs.CoverFacts.{never_covers}
use Rattle.fvn_cover.proofs.Prunings.{alike_sym}

module _ (d : Declarations) (out : Unkept) (unkept : AreUnkept d out) (marks : List Marks) (v : Variant) (own : Marks) (are : IsMarked v own) (refused : All (RefuseEachOther out own) marks) where
  refused_as : (k : Variant) → AreAlike k v → (m : Marks) → Contains marks m → IsMarked k m → (CoversVariant d k v → ⊥) × (CoversVariant d v k → ⊥)
  refused_as k alike m in_marks has =
      let both = all_at (RefuseEachOther out own) marks in_marks.0 m refused in_marks.1 (sym in_marks.2) in (
        never_covers d k v alike (both.1 d (k.terms ++ values_of k) (v.terms ++ values_of v) unkept has are),
        never_covers d v k (alike_sym k v alike) (both.0 d (v.terms ++ values_of v) (k.terms ++ values_of k) unkept are has),
      )

  refused_beside : (k : Variant) → AreAlike k v → Any (IsMarked k) marks → (CoversVariant d k v → ⊥) × (CoversVariant d v k → ⊥)
  refused_beside k alike some = let m = any_contains (IsMarked k) marks some in refused_as k alike m.0 m.1.0 m.1.1

  module _ (list : List Variant) (known : HaveMarksIn marks list) (alike : All (λ k. AreAlike k v) list) where
    pub none_covers : IsCoveredBySome d list v → ⊥
    none_covers (i, k, within, is, covers) =
        (refused_beside k (all_at (λ x. AreAlike x v) list i k alike within (sym is)) (all_at (λ x. Any (IsMarked x) marks) list i k known within (sym is))).0 covers

    pub covers_none : Any (CoversVariant d v) list → ⊥
    covers_none (i, k, within, is, covers) =
        (refused_beside k (all_at (λ x. AreAlike x v) list i k alike within (sym is)) (all_at (λ x. Any (IsMarked x) marks) list i k known within (sym is))).1 covers

module _ (marks more : List Marks) (m : Marks) (is : more ≡ marks ++ m ∷ []) where
  still_has : (v : Variant) → Any (IsMarked v) marks → Any (IsMarked v) more
  still_has v some =
      let k = any_contains (IsMarked v) marks some in
      subst (Any (IsMarked v)) (sym is) (any_of (IsMarked v) (marks ++ m ∷ []) k.0 (Contains-append_left marks (m ∷ []) k.0 k.1.0) k.1.1)

  -- all that it had, and one more
  pub still_in : (list : List Variant) → HaveMarksIn marks list → HaveMarksIn more list
  still_in list known = All-weaker (λ v. Any (IsMarked v) marks) (λ v. Any (IsMarked v) more) still_has list known

  module _ (v : Variant) (are : IsMarked v m) where
    pub now_in : Any (IsMarked v) more
    now_in = subst (Any (IsMarked v)) (sym is) (Any-push (IsMarked v) marks m are)

    -- a list with one more
    pub longer_in : (list longer : List Variant) → longer ≡ list ++ v ∷ [] → HaveMarksIn marks list → HaveMarksIn more longer
    longer_in list longer e known = subst (HaveMarksIn more) (sym e) (All-push (λ w. Any (IsMarked w) more) list v (still_in list known) now_in)

    pub added_in : (d : Declarations) (list after : List Variant) → IsAdded d list v after → HaveMarksIn marks list → HaveMarksIn more after
    added_in d list after added known = added_all d (λ w. Any (IsMarked w) more) list v after added (still_in list known) now_in
