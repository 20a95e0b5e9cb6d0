-- Marks in blocks, and what refuses all of a block.
use Rattle.std.proofs.Common.{◌≡◌, ℕ, ◌+◌, ◌<◌, List, [], ◌∷◌, ◌++◌, length, get_or, take, refl, sym, ap, ◌∙◌, subst}
use Rattle.std.specs.Prelude.{All}
use Rattle.std.proofs.lemmas.List.{append_assoc, append-nil, take_more}
use Rattle.std.proofs.lemmas.List.Elements.{All-nil, All-cons, All-head, All-tail, All-push, All-weaker, All-append}
use Rattle.fvn_cover_counts.specs.declared.blocks.Block.{Block}
use Rattle.fvn_cover_counts.specs.declared.marks.Unkept.{Unkept}
use Rattle.fvn_cover_counts.specs.declared.marks.Marks.{Marks}
use Rattle.fvn_cover_counts.specs.Marks.{IsBelow, NeverMatchMarked, RefuseEachOther}
use Rattle.fvn_cover_counts.specs.inner.Blocks.{IsBetween, HoldsIn, held}
use Rattle.fvn_cover_counts.proofs.MarkRefusals.{never_if, below_above}

-- one more of a list
pub more_at : {A : Type 0} (P : A → Type 0) (xs : List A) (i : ℕ) (e : A) → i < length xs → All P (take i xs) → P (get_or xs i e) → All P (take (i + 1) xs)
more_at P xs i e within h p = subst (All P) (sym (take_more xs i e within)) (All-push P (take i xs) (get_or xs i e) h p)

-- a block of no marks
pub none_between : (low high : Marks) (ms : List Marks) → ms ≡ [] → All (IsBetween low high) ms
none_between low high ms none = subst (All (IsBetween low high)) (sym none) (All-nil (IsBetween low high))

-- a block of one
pub one_between : (m : Marks) (ms : List Marks) → ms ≡ m ∷ [] → All (IsBetween m m) ms
one_between m ms one = subst (All (IsBetween m m)) (sym one) (All-cons (IsBetween m m) m [] between (All-nil (IsBetween m m)))
  where
    between : IsBetween m m m
    between = record { out = refl; above = (λ b h. h, λ b h. h); below = (λ b h. h, λ b h. h) }

module _ (low high m low2 high2 : Marks) (same : low2.out ≡ low.out) (fits : m.out ≡ low.out) (lower : IsBelow low2 low) (lower_one : IsBelow low2 m) (higher : IsBelow high high2) (higher_one : IsBelow m high2) where
  wider : (k : Marks) → IsBetween low high k → IsBetween low2 high2 k
  wider k h = record {
    out = h.out ∙ sym same;
    above = below_above low2 low k lower h.above;
    below = below_above k high high2 h.below higher;
  }

  -- a block with one more
  pub more_between : (ms more : List Marks) → more ≡ ms ++ m ∷ [] → All (IsBetween low high) ms → All (IsBetween low2 high2) more
  more_between ms more is all =
      subst (All (IsBetween low2 high2)) (sym is)
      (All-push (IsBetween low2 high2) ms m (All-weaker (IsBetween low high) (IsBetween low2 high2) wider ms all) (record { out = fits ∙ sym same; above = lower_one; below = higher_one }))

-- what is neither above the lowest nor below the highest is refused beside all between
module _ (out : Unkept) (low high m : Marks) (e : low.out ≡ out) (f : m.out ≡ out) (there : IsBelow low m → ⊥) (back : IsBelow m high → ⊥) where
  refused_between : (k : Marks) → IsBetween low high k → RefuseEachOther out m k
  refused_between k h = (
    never_if out m k f (h.out ∙ e) (λ under. back (below_above m k high under h.below)),
    never_if out k m (h.out ∙ e) f (λ under. there (below_above low k m h.above under)),
  )

  pub all_refused : (ms : List Marks) → All (IsBetween low high) ms → All (RefuseEachOther out m) ms
  all_refused ms h = All-weaker (IsBetween low high) (RefuseEachOther out m) refused_between ms h

-- what holds of all marks of each block
pub held_all : (P : Marks → Type 0) (bs : List Block) → All (HoldsIn P) bs → All P (held bs)
held_all P [] h = All-nil P
held_all P (b ∷ bs) h = All-append P b.marks.items (held bs) (All-head (HoldsIn P) b bs h) (held_all P bs (All-tail (HoldsIn P) b bs h))

-- and of the marks of the last one
pub held_whole : (P : Marks → Type 0) (full slice : List Block) (last : Block) (whole : List Marks) → slice ≡ full → held full ++ last.marks.items ≡ whole → All P (held slice) → All P last.marks.items → All P whole
held_whole P full slice last whole same is front back = subst (All P) is (All-append P (held full) last.marks.items (subst (λ bs. All P (held bs)) same front) back)

-- one more block
held_push : (bs : List Block) (b : Block) → held (bs ++ b ∷ []) ≡ held bs ++ b.marks.items
held_push [] b = append-nil b.marks.items
held_push (c ∷ bs) b = ap (λ ms. c.marks.items ++ ms) (held_push bs b) ∙ sym (append_assoc c.marks.items (held bs) b.marks.items)

module _ (full : List Block) (last : Block) (m : Marks) where
  -- one more in the last block, or behind it
  pub held_longer : (more : Block) → more.marks.items ≡ last.marks.items ++ m ∷ [] → held full ++ more.marks.items ≡ (held full ++ last.marks.items) ++ m ∷ []
  held_longer more is = ap (λ ms. held full ++ ms) is ∙ sym (append_assoc (held full) last.marks.items (m ∷ []))

  pub held_behind : (all : List Block) (one : Block) → all ≡ full ++ last ∷ [] → one.marks.items ≡ m ∷ [] → held all ++ one.marks.items ≡ (held full ++ last.marks.items) ++ m ∷ []
  held_behind all one is alone =
      ap (λ bs. held bs ++ one.marks.items) is
      ∙ ap (λ ms. ms ++ one.marks.items) (held_push full last)
      ∙ ap (λ ms. (held full ++ last.marks.items) ++ ms) alone

-- no block, and no marks in the last
pub held_none : (full : List Block) (ms : List Marks) → full ≡ [] → ms ≡ [] → held full ++ ms ≡ []
held_none full ms none empty = ap (λ bs. held bs ++ ms) none ∙ empty
