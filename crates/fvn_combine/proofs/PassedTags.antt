-- Tags that go against what is noted of classes, or are those of loose classes, or leave a class without a home, cover
-- nothing, whatever the tags of the later classes are: all these are passed over at once.
use Rattle.std.proofs.Common.{◌≡◌, ℕ, ◌+◌, ◌<◌, List, length, take, get_or, refl, sym, ◌∙◌, subst, ap, inl, inr, arith, zero-le, Option, Some, None, true, false, All, Any, Contains}
use Rattle.std.specs.Prelude.{◌⊎◌, slice_get}
use Rattle.std.proofs.lemmas.List.{length-map}
use Rattle.std.proofs.lemmas.List.Elements.{All-contains}
use Rattle.std.proofs.lemmas.Option.{slice_get_within, get_or_from_slice_get}
use Rattle.std.proofs.lemmas.Slice.Zip.{AllZip-long}
use Rattle.fvn_terms.specs.declared.plain.Var.{Var}
use Rattle.fvn_terms.specs.declared.plain.OpId.{OpId}
use Rattle.fvn_terms.specs.declared.declarations.Declarations.{Declarations}
use Rattle.fvn_terms.specs.Substitution.{Substitution}
use Rattle.fvn_forms.specs.Flat.{FlatTerm, fvar, fapp, fnone}
use Rattle.fvn_combine_nodes.specs.States.{class_of}
use Rattle.fvn_combine_nodes.specs.Unifiers.{value_at}
use Rattle.fvn_combine_nodes.specs.declared.state.State.{State}
use Rattle.fvn_acunify_product.specs.Tags.{Tagging, IsOption, AgreesUpTo, PendingTags, tags_left}
use Rattle.fvn_combine_leaves.specs.Users.{IsWhole}
use Rattle.fvn_combine_leaves.proofs.ReadOfState.{reading_whole}
use Rattle.fvn_combine_drawing.specs.CombineAdmissibleListed.{tag_in, choice_of}
use Rattle.fvn_combine_drawing.specs.CombineCandidatesSharing.{IsSharedClass}
use Rattle.fvn_combine_drawing.specs.CombineCandidatesTags.{AreTags, user_at}
use Rattle.fvn_combine_drawing.specs.CombineCandidatesDeclared.sharing.SharedClass.{SharedClass}
use Rattle.fvn_combine_drawing.specs.CombineCompleteObeying.{IsSumOrIdentityOf}
use Rattle.fvn_combine_loose.specs.Laws.{AreVariables}
use Rattle.fvn_combine.specs.Tasks.{Combining, IsCombining}
use Rattle.fvn_combine.specs.Leaves.{IsCoveredBy, IsCoveredLater, IsCoveredToCome, IsOpened}
use Rattle.fvn_combine.specs.declared.opened.Opened.{Opened}
use Rattle.fvn_combine.specs.Work.{most_numbers, numbers_left}
use Rattle.fvn_combine.specs.inner.Against.{IsAgainst, IsLooseAgainst, IsAgainstAt}
use Rattle.fvn_combine.specs.inner.Found.{IsTurned}
use Rattle.fvn_combine.proofs.Less.{falls-le}
use Rattle.fvn_combine.proofs.TagsBy.{tag_at, some_user, some_tags}
use Rattle.fvn_combine.proofs.Items.{taken_at}
use Rattle.fvn_combine.proofs.Homeless.{homeless_is_impossible}

-- a variable is no sum and no identity
no_sum : (d : Declarations) (f : OpId) (x : Var) (v : FlatTerm) → v ≡ fvar x → IsSumOrIdentityOf d f v → ⊥
no_sum d f x v is (inl sum) = let e : fvar x ≡ fapp f true sum.0 = sym is ∙ sum.1 in cc
no_sum d f x v is (inr unit) = let e : fvar x ≡ fapp unit.0 false fnone = sym is ∙ unit.2 in cc

module _ (k : Combining) (s : State) (o : Opened) (opened : IsOpened k s o) where
  -- the shared classes are nodes
  pub classes_within : (n : ℕ) → n ≡ length k.table.nodes → All (λ c. c.class < n) o.shared
  classes_within n e i c l = let w = (opened.shared.each i c l).within in omega (arith, w, e)

  -- what is read is whole
  pub whole_of : IsCombining k → IsWhole (length o.reading.heads) o.reading
  whole_of is =
      subst (λ n. IsWhole n o.reading) (sym opened.reading.heads.as_many)
      (reading_whole k.declarations k.table is.well_made s opened.ready.closed o.reading opened.reading)

  counts_each : length o.tags.counts ≡ length o.shared
  counts_each = ap length opened.counts ∙ length-map o.shared (λ (c : SharedClass). length c.users + 1)

  -- there is a count for each shared class, and an option
  pub place_within : (place : ℕ) → place < length o.shared → place < length o.tags.counts
  place_within place l = let m = counts_each in omega (arith, l, m)

  option_each : (options : List ℕ) → PendingTags o.tags options → length options ≡ length o.shared
  option_each options h = AllZip-long IsOption o.tags.counts options h.0 ∙ counts_each

  module _ (is : IsCombining k) (options : List ℕ) (pending : PendingTags o.tags options) (tags : List (Option OpId)) (are : AreTags o.shared options tags) (place : ℕ) (against : IsAgainstAt k.declarations o tags place) where
    abbrev decided : List SharedClass
    decided = take (place + 1) o.shared

    decided_at : (a : SharedClass) → Contains decided a → (q : ℕ) × (q < place + 1) × (slice_get o.shared q ≡ Some a)
    decided_at a c = taken_at o.shared (place + 1) a (let l = against.within in omega (arith, l)) c

    is_shared : (a : SharedClass) → Contains decided a → IsSharedClass k.declarations k.table (class_of s) k.sorted a
    is_shared a c =
        let q = decided_at a c in
        All-contains (IsSharedClass k.declarations k.table (class_of s) k.sorted) o.shared a opened.shared.each
        (q.0, slice_get_within o.shared q.0 a q.2, get_or_from_slice_get o.shared q.0 a a q.2)

    -- options that agree up to the place stand for the same tags there
    same_tag : (n : List ℕ) → PendingTags o.tags n → AgreesUpTo place (Some options) n → (others : List (Option OpId)) → AreTags o.shared n others → (a : SharedClass) → Contains decided a → tag_in others a.class ≡ tag_in tags a.class
    same_tag n p agrees others by a c =
        let q = decided_at a c in
        let l = q.1 in
        by a.class
        ∙ tag_at o.shared n opened.shared.distinct (option_each n p) q.0 a q.2
        ∙ ap (user_at a.users) (agrees q.0 (omega (arith, l)))
        ∙ sym (tag_at o.shared options opened.shared.distinct (option_each options pending) q.0 a q.2)
        ∙ sym (are a.class)

    -- the tag of a class is another one than what is noted of it
    against_head : (others : List (Option OpId)) → ((a : SharedClass) → Contains decided a → tag_in others a.class ≡ tag_in tags a.class) → Any (IsAgainst k.declarations o.labels tags) decided → (numbers : List ℕ) (u : Substitution) → IsCoveredBy k s o.reading o.bases o.labels others numbers u → ⊥
    against_head others same any numbers u h =
        let c = any.1 in
        let a = any.4 in
        let listed : Contains decided c = (any.0, any.2, any.3) in
        let each = is_shared c listed in
        let uses = ((each.exact a.head).0 a.user).0 in
        a.other (sym (same c listed) ∙ (h.follow c.class a.head each.shared uses).noted (record { noted = a.noted; some = a.some }))

    -- the value of a loose class is a variable, and no sum of its tag, and nothing is noted of it
    against_loose : (others : List (Option OpId)) → ((a : SharedClass) → Contains decided a → tag_in others a.class ≡ tag_in tags a.class) → Any (IsLooseAgainst o.loose o.labels tags) decided → (numbers : List ℕ) (u : Substitution) → AreVariables k.declarations k.table o.loose u → IsCoveredBy k s o.reading o.bases o.labels others numbers u → ⊥
    against_loose others same any numbers u variables h =
        let c = any.1 in
        let a = any.4 in
        let listed : Contains decided c = (any.0, any.2, any.3) in
        let each = is_shared c listed in
        let q = decided_at c listed in
        let tag : tag_in tags c.class ≡ user_at c.users (get_or options q.0 0) = are c.class ∙ tag_at o.shared options opened.shared.distinct (option_each options pending) q.0 c q.2 in
        let f = some_user c.users (get_or options q.0 0) (λ e. a.tagged (tag ∙ e)) in
        let x = All-contains (λ z. (x : Var) × (value_at k.declarations u k.table.nodes z ≡ fvar x)) o.loose c.class variables a.loose_class in
        elim ((h.follow c.class f.0 each.shared ((each.exact f.0).0 f.1).0).meant (same c listed ∙ tag ∙ f.2)) [
          | inl sum ↦ no_sum k.declarations f.0 x.0 (value_at k.declarations u k.table.nodes c.class) x.1 sum
          | inr noted ↦ let e : Some f.0 ≡ None = sym noted.noted ∙ a.not_noted in cc
        ]

    -- options that agree up to the place cover nothing
    none_covered : (u : Substitution) → AreVariables k.declarations k.table o.loose u → (h : IsCoveredLater k s o u) → AgreesUpTo place (Some options) h.options → ⊥
    none_covered u variables h agrees =
        let others = some_tags (length k.table.nodes) o.shared h.options (classes_within (length k.table.nodes) refl) in
        let covered = h.covered others.0 others.1 in
        let same = same_tag h.options h.pending agrees others.0 others.1 in
        elim against.against [
          | inl any ↦ against_head others.0 same any h.numbers u covered
          | inr rest ↦ elim rest [
            | inl any ↦ against_loose others.0 same any h.numbers u variables covered
            | inr leave ↦
                homeless_is_impossible k is s opened.ready.closed o.reading opened.reading (tag_in others.0) decided tags (λ a c. (is_shared a c).shared) same o.bases opened.bases leave
                (choice_of o.reading others.0 h.numbers).number covered.covering.possible
          ]
        ]

    module _ (after : Tagging) (counts : after.counts ≡ o.tags.counts) (now : o.tags.current ≡ Some options) (taken : (n : List ℕ) → PendingTags o.tags n → AgreesUpTo place o.tags.current n ⊎ PendingTags after n) (kept : (n : List ℕ) → PendingTags after n → PendingTags o.tags n) (falls : tags_left after < tags_left o.tags) where
      abbrev passed_leaf : Opened
      passed_leaf = record { reading = o.reading; labels = o.labels; bases = o.bases; shared = o.shared; tags = after; loose = o.loose; turning = None }

      still_opened : IsOpened k s passed_leaf
      still_opened = record {
        ready = opened.ready;
        leaf = opened.leaf;
        reading = opened.reading;
        labels = opened.labels;
        as_many = opened.as_many;
        bases = opened.bases;
        alive = opened.alive;
        shared = opened.shared;
        counts = counts ∙ opened.counts;
        turning = λ v e. cc;
        loose = opened.loose;
        none_loose = opened.none_loose;
      }

      to_come : (u : Substitution) → AreVariables k.declarations k.table o.loose u → IsCoveredLater k s o u → IsCoveredToCome k s passed_leaf u
      to_come u variables h = elim (taken h.options h.pending) [
        | inl agrees ↦ absurd (none_covered u variables h (subst (λ current. AgreesUpTo place current h.options) now agrees))
        | inr p ↦ (
          variables,
          inr (record {
            options = h.options;
            pending = p;
            numbers = h.numbers;
            as_many = h.as_many;
            covered = h.covered;
          }),
        )
      ]

      was_to_come : (u : Substitution) → IsCoveredToCome k s passed_leaf u → IsCoveredLater k s o u
      was_to_come u (_, inl h) = absurd h
      was_to_come u (_, inr h) = record {
        options = h.options;
        pending = kept h.options h.pending;
        numbers = h.numbers;
        as_many = h.as_many;
        covered = h.covered;
      }

      pub passed : IsTurned k s o passed_leaf true
      passed = (still_opened, falls, refl, to_come, was_to_come, falls-le (most_numbers k) (tags_left o.tags) (tags_left after) 0 (numbers_left o.turning) falls zero-le)
