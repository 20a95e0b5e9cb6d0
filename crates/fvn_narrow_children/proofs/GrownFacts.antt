-- What the unifiers so far made of a variant.
use Rattle.std.proofs.Common.{◌≡◌, ◌≤◌, ◌<◌, ◌+◌, ℕ, List, [], ◌∷◌, ◌++◌, take, length, get_or, Option, None, Some, refl, sym, ◌∙◌, subst, inl, inr}
use Rattle.std.specs.Prelude.{All, Contains}
use Rattle.std.proofs.lemmas.List.{take_all}
use Rattle.std.proofs.lemmas.List.Elements.{All-nil, All-weaker, All-push, All-more, Contains-get_or, Contains-append_left, Contains-append_right}
use Rattle.fvn_base.proofs.Membership.{contains_here}
use Rattle.fvn_forms.specs.Flat.{FlatTerm}
use Rattle.fvn_flat.specs.Bindings.{Bindings}
use Rattle.fvn_rewrite.specs.Usable.{Rewriting}
use Rattle.fvn_cover.specs.declared.variant.Variant.{Variant}
use Rattle.fvn_exploring.specs.declared.ends.ExpandEnd.{ExpandEnd}
use Rattle.fvn_exploring.specs.declared.ends.ExpandEnd.TheVariants.{Whole}
use Rattle.fvn_narrow_children.specs.declared.growing.Outcome.{Outcome}
use Rattle.fvn_narrow_children.specs.declared.growing.Outcome.TheVariants.{Child, Lost, Stopped}
use Rattle.fvn_narrow_children.specs.inner.Outcomes.{OutcomeAs, IsTaken}
use Rattle.fvn_narrow_children.specs.Growing.{IsRaw, IsGrown, IsLost, IsDealtWith, StopsAt, AreGrown}

module _ (r : Rewriting) (v : Variant) (members : List FlatTerm) (unifiers : List Bindings) where
  -- a child of one of the unifiers
  abbrev IsMade : Variant → Type 0
  IsMade c = (s : Bindings) × Contains unifiers s × IsGrown r v members s c

  -- the children so far, where so many unifiers were dealt with
  pub record AreGrownSoFar (i : ℕ) (children : List Variant) : Type 0 where
    pub made : All IsMade children
    pub dealt_with : All (λ s. IsDealtWith r v members s children) (take i unifiers)

  more_children : (children more : List Variant) (s : Bindings) → IsDealtWith r v members s children → IsDealtWith r v members s (children ++ more)
  more_children children more s (inl g) = inl (g.0, Contains-append_left children more g.0 g.1, g.2)
  more_children children more s (inr l) = inr l

  pub grown_begin : AreGrownSoFar 0 []
  grown_begin = record { made = All-nil IsMade; dealt_with = All-nil (λ s. IsDealtWith r v members s []) }

  module _ (i : ℕ) (children : List Variant) (so_far : AreGrownSoFar i children) where
    -- one more unifier
    module _ (s : Bindings) (within : i < length unifiers) (is : s ≡ get_or unifiers i s) where
      listed : Contains unifiers s
      listed = subst (Contains unifiers) (sym is) (Contains-get_or unifiers i s within)

      one_more : (next : List Variant) → All (λ c. IsDealtWith r v members c next) (take i unifiers) → IsDealtWith r v members s next → All (λ c. IsDealtWith r v members c next) (take (i + 1) unifiers)
      one_more next before now = All-more (λ c. IsDealtWith r v members c next) unifiers i s within before (subst (λ c. IsDealtWith r v members c next) is now)

      pub grown_child : (c : Variant) (next : List Variant) → next ≡ children ++ c ∷ [] → IsGrown r v members s c → AreGrownSoFar (i + 1) next
      grown_child c next e g =
          let all = children ++ c ∷ [] in
          subst (AreGrownSoFar (i + 1)) (sym e) record {
            made = All-push IsMade children c so_far.made (s, listed, g);
            dealt_with = one_more all
                (All-weaker (λ s. IsDealtWith r v members s children) (λ s. IsDealtWith r v members s all) (more_children children (c ∷ [])) (take i unifiers) so_far.dealt_with)
                (inl (c, Contains-append_right children (c ∷ []) c (contains_here c []), g));
          }

      pub grown_lost : IsLost r v members s → AreGrownSoFar (i + 1) children
      grown_lost l = record { made = so_far.made; dealt_with = one_more children so_far.dealt_with (inr l) }

      -- an end
      pub grown_stopped : (end : ExpandEnd) → StopsAt r (IsRaw r v members s) end → (IsLost r v members s → ⊥) → (end ≡ Whole → ⊥) → AreGrown r v members unifiers record { children = children; end = end }
      grown_stopped end h kept other = record {
        children = so_far.made;
        whole = λ e. absurd (other e);
        cause = inr (s, listed, h);
        kept = inr (s, listed, (h, kept));
      }

    -- all unifiers
    pub grown_whole : length unifiers ≤ i → AreGrown r v members unifiers record { children = children; end = Whole }
    grown_whole end = record {
      children = so_far.made;
      whole = λ e. subst (All (λ s. IsDealtWith r v members s children)) (take_all i unifiers end) so_far.dealt_with;
      cause = inl refl;
      kept = inl refl;
    }

-- what stops is no whole end
pub stops_not_whole : (r : Rewriting) (Told : FlatTerm → Type 0) (end : ExpandEnd) → StopsAt r Told end → end ≡ Whole → ⊥
stops_not_whole r Told end h e = subst (StopsAt r Told) e h

module _ (r : Rewriting) (v : Variant) (members : List FlatTerm) (unifiers : List Bindings) (i : ℕ) (before : List Variant) (so_far : AreGrownSoFar r v members unifiers i before) (s : Bindings) (low : i < length unifiers) (is : s ≡ get_or unifiers i s) where
  -- where it did not stop
  pub taken_more : (next : Outcome) → OutcomeAs r v members s next → (after : List Variant) (stop : Option ExpandEnd) → stop ≡ None → IsTaken before next after stop → AreGrownSoFar r v members unifiers (i + 1) after
  taken_more (Child c) h after stop e t = grown_child r v members unifiers i before so_far s low is c after t.0 h
  taken_more Lost h after stop e t = subst (AreGrownSoFar r v members unifiers (i + 1)) (sym t.0) (grown_lost r v members unifiers i before so_far s low is h)
  taken_more (Stopped end) h after stop e t = let q : None ≡ Some end = sym e ∙ t.1 in cc

  -- where it did
  pub taken_stopped : (next : Outcome) → OutcomeAs r v members s next → (after : List Variant) (stop : Option ExpandEnd) (end : ExpandEnd) → stop ≡ Some end → IsTaken before next after stop → AreGrown r v members unifiers record { children = after; end = end }
  taken_stopped (Child c) h after stop end e t = let q : None ≡ Some end = sym t.1 ∙ e in cc
  taken_stopped Lost h after stop end e t = let q : None ≡ Some end = sym t.1 ∙ e in cc
  taken_stopped (Stopped other) h after stop end e t =
      let q : other ≡ end = same_end other end (sym t.1 ∙ e) in
      subst (λ l. AreGrown r v members unifiers record { children = l; end = end }) (sym t.0)
      (subst (λ o. AreGrown r v members unifiers record { children = before; end = o }) q (grown_stopped r v members unifiers i before so_far s low is other h.0 h.1 (stops_not_whole r (IsRaw r v members s) other h.0)))
    where
      same_end : (a b : ExpandEnd) → Some a ≡ Some b → a ≡ b
      same_end a b k = cc
