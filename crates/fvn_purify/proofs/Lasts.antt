-- The last one of a list, and what a step makes of a cursor.
use Rattle.std.proofs.Common.{◌≡◌, ◌+◌, ◌-◌, ◌<◌, List, [], ◌∷◌, ◌++◌, length, take, drop, sym, ap, ◌∙◌, subst, arith, Option, Some, None, slice_get, Result, Ok, Err}
use Rattle.std.specs.Prelude.{◌↔◌, IfSome, OnErr}
use Rattle.std.proofs.lemmas.Option.{slice_get_within, get_or_from_slice_get}
use Rattle.std.proofs.lemmas.List.{take-append-drop, drop_more, drop_all}
use Rattle.fvn_terms.specs.declared.declarations.Declarations.{Declarations}
use Rattle.fvn_purify.specs.Parts.{Outline}
use Rattle.fvn_purify.specs.Splits.{HasOneFree}
use Rattle.fvn_purify.specs.Cursor.{IsAheadOf, HasSamePending, IsGivenFrom}
use Rattle.fvn_purify.specs.inner.Choices.{IsExpansion, IsSound, IsKept}
use Rattle.fvn_purify.specs.inner.Founds.{cursor}
use Rattle.fvn_purify.specs.Weight.{cursor_weight}
use Rattle.fvn_purify.specs.declared.split.Split.{Split}
use Rattle.fvn_purify.specs.declared.choosing.Partial.{Partial}
use Rattle.fvn_purify.proofs.Cursors.{top_sound, more_kept, more_same, more_falls, given_kept, given_from, top_falls}
use Rattle.fvn_purify.proofs.Complete.{ahead_split, one_free}

-- a list with a last one
pub last_split : (xs : List Partial) (x : Partial) → Some x ≡ slice_get xs (length xs - 1) → xs ≡ take (length xs - 1) xs ++ x ∷ []
last_split xs x e =
    let n = length xs - 1 in
    let l : n < length xs = slice_get_within xs n x (sym e) in
    sym (take-append-drop n xs)
    ∙ ap (λ ys. take n xs ++ ys) (drop_more xs n x l)
    ∙ ap (λ y. take n xs ++ y ∷ drop (n + 1) xs) (get_or_from_slice_get xs n x x (sym e))
    ∙ ap (λ ys. take n xs ++ x ∷ ys) (drop_all (n + 1) xs (omega arith))

module _ (d : Declarations) (c : Outline) (before below : List Partial) (top : Partial) (is : before ≡ below ++ top ∷ []) (kept : IsKept (cursor d c before)) where
  kept_top : IsKept (cursor d c (below ++ top ∷ []))
  kept_top = subst (λ l. IsKept (cursor d c l)) is kept

  pub last_sound : IsSound d c top
  last_sound = top_sound d c below top kept_top

  module _ (parts : List Partial) (expansion : IsExpansion d c top parts) (after : List Partial) (now : after ≡ below ++ parts) where
    pub last_kept : IsKept (cursor d c after)
    last_kept = subst (λ l. IsKept (cursor d c l)) (sym now) (more_kept d c below top kept_top parts expansion)

    pub last_same : HasSamePending (cursor d c before) (cursor d c after)
    last_same =
        subst (λ l. HasSamePending (cursor d c before) (cursor d c l)) (sym now) (subst (λ l. HasSamePending (cursor d c l) (cursor d c (below ++ parts))) (sym is) (more_same d c below top kept_top parts expansion))

    pub last_falls : cursor_weight (cursor d c after) < cursor_weight (cursor d c before)
    last_falls =
        subst (λ l. cursor_weight (cursor d c l) < cursor_weight (cursor d c before)) (sym now)
        (subst (λ l. cursor_weight (cursor d c (below ++ parts)) < cursor_weight (cursor d c l)) (sym is) (more_falls d c below top kept_top parts expansion))

  module _ (given : Split) (only : (split : Split) → IsAheadOf d c top split ↔ (split ≡ given)) (after : List Partial) (now : after ≡ below) where
    pub whole_kept : IsKept (cursor d c after)
    whole_kept = subst (λ l. IsKept (cursor d c l)) (sym now) (given_kept d c below top kept_top given only)

    pub whole_given : IsGivenFrom (cursor d c before) (cursor d c after) (Some given)
    whole_given =
        subst (λ l. IsGivenFrom (cursor d c before) (cursor d c l) (Some given)) (sym now) (subst (λ l. IsGivenFrom (cursor d c l) (cursor d c below) (Some given)) (sym is) (given_from d c below top kept_top given only))

-- less is left to do without the last one
pub without_last_falls : (d : Declarations) (c : Outline) (before below : List Partial) (top : Partial) → before ≡ below ++ top ∷ [] → (after : List Partial) → after ≡ below → cursor_weight (cursor d c after) < cursor_weight (cursor d c before)
without_last_falls d c before below top is after now =
    subst (λ l. cursor_weight (cursor d c l) < cursor_weight (cursor d c before)) (sym now) (subst (λ l. cursor_weight (cursor d c below) < cursor_weight (cursor d c l)) (sym is) (top_falls d c below top))

-- what is given has one free operator in a class
pub given_free : (d : Declarations) (c : Outline) (before after : List Partial) (r : Option Split) → IsGivenFrom (cursor d c before) (cursor d c after) r → IfSome r (HasOneFree d c)
given_free d c before after None h = tt
given_free d c before after (Some split) h = one_free d c split (ahead_split d c before split h.was)

-- a fact that holds whatever the result
pub on_err : {T E P : Type 0} (r : Result T E) → P → OnErr r P
on_err (Ok x) p = tt
on_err (Err e) p = p
