-- The shared classes up to this place.
use Rattle.std.proofs.Common.{◌≡◌, ℕ, ◌+◌, ◌<◌, List, length, get_or, take, sym, ap, ◌∙◌, subst, inl, inr, Option, All}
use Rattle.std.proofs.lemmas.List.Elements.{All-take, All-get_or}
use Rattle.fvn_terms.specs.declared.plain.OpId.{OpId}
use Rattle.fvn_terms.specs.declared.declarations.Declarations.{Declarations}
use Rattle.fvn_combine_drawing.specs.CombineCandidatesDeclared.sharing.SharedClass.{SharedClass}
use Rattle.fvn_combine.specs.declared.opened.Opened.{Opened}
use Rattle.fvn_combine.specs.inner.Against.{IsAgainst, IsLooseAgainst, GoesAgainst, IsAgainstUpTo}
use Rattle.fvn_combine.specs.inner.Homes.{LeaveHomeless}
use Rattle.fvn_combine.proofs.Items.{any_taken}
use Rattle.fvn_combine.proofs.against.first_against.Goals as goal

-- what is so at a place is so up to it
against_at : (d : Declarations) (o : Opened) (tags : List (Option OpId)) (xs : List SharedClass) (i : ℕ) (x : SharedClass) → i < length xs → x ≡ get_or xs i x → GoesAgainst d o tags x → IsAgainstUpTo d o (take (i + 1) xs) tags
against_at d o tags xs i x l is (inl h) = inl (any_taken (IsAgainst d o.labels tags) xs i x l is h)
against_at d o tags xs i x l is (inr h) = inr (inl (any_taken (IsLooseAgainst o.loose o.labels tags) xs i x l is h))

pub goes_against-requires : goal.goes_against-requires
goes_against-requires c =
    let Labels : SharedClass → Type 0 = λ a. a.class < length c.args.opened.now.labels in
    let Tags : SharedClass → Type 0 = λ a. a.class < length c.args.tags.now in
    let labels = subst (All Labels) (sym c.as_slice-shared.ensures) c.requires.labels in
    let tags = subst (All Tags) (sym c.as_slice-shared.ensures) c.requires.tags in
    record {
      labels = subst Labels (sym c.index-shared-place.is) (All-get_or Labels c.as_slice-shared.result.now c.loop-place.place c.index-shared-place.result c.loop-place-test.true labels);
      tags = subst Tags (sym c.index-shared-place.is) (All-get_or Tags c.as_slice-shared.result.now c.loop-place.place c.index-shared-place.result c.loop-place-test.true tags);
    }

pub leave_homeless-requires : goal.leave_homeless-requires
leave_homeless-requires c =
    let Tags : SharedClass → Type 0 = λ a. a.class < length c.args.tags.now in
    record {
      tags = All-take Tags (c.loop-place.place + 1) c.as_slice-shared.result.now (subst (All Tags) (sym c.as_slice-shared.ensures) c.requires.tags);
      whole = c.requires.whole;
      bases = ap length c.as_slice.ensures ∙ c.requires.bases;
    }

pub returns-then-goes_against : goal.returns-then-goes_against
returns-then-goes_against c =
    let place = c.loop-place.place in
    record {
      within = subst (λ (l : List SharedClass). place < length l) c.as_slice-shared.ensures c.loop-place-test.true;
      against = subst (λ (l : List SharedClass). IsAgainstUpTo c.args.sig.now c.args.opened.now (take (place + 1) l) c.args.tags.now) c.as_slice-shared.ensures
          (against_at c.args.sig.now c.args.opened.now c.args.tags.now c.as_slice-shared.result.now place c.index-shared-place.result c.loop-place-test.true c.index-shared-place.is (c.goes_against.ensures c.if-goes_against.true));
    }

pub returns-then-leave_homeless : goal.returns-then-leave_homeless
returns-then-leave_homeless c =
    let o = c.args.opened.now in
    let place = c.loop-place.place in
    record {
      within = subst (λ (l : List SharedClass). place < length l) c.as_slice-shared.ensures c.loop-place-test.true;
      against = inr (inr (subst (λ (l : List SharedClass). LeaveHomeless (take (place + 1) l) c.args.tags.now o.reading o.bases) c.as_slice-shared.ensures
          (subst (LeaveHomeless (take (place + 1) c.as_slice-shared.result.now) c.args.tags.now o.reading) c.as_slice.ensures (c.leave_homeless.ensures c.if-leave_homeless.true))));
    }
