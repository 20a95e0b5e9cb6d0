-- Rows are cut where the numbers and entries with which they begin end.
use Rattle.std.proofs.Common.{◌≡◌, ◌≢◌, ℕ, zero, suc, ◌+◌, ◌<◌, ◌≤◌, Bool, true, false, List, [], ◌∷◌, ◌++◌, length, take, drop, get_or, refl, sym, ap, ◌∙◌, subst, arith, append_assoc, eqb-true}
use Rattle.std.specs.Prelude.{if◌then◌else◌, codes, nat_eq}
use Rattle.std.specs.List.{AllByRecursion}
use Rattle.std.proofs.lemmas.List.{append-nil, drop_more, drop_all}
use Rattle.fvn_lex.specs.Cut.{Piece}
use Rattle.fvn_syntax.specs.Pieces.{Text, word, comma, is_word, is_name}
use Rattle.fvn_syntax.proofs.PieceLemmas.{word-is, name-is, name-word}
use Rattle.fvn_syntax.proofs.SpelledOnce.{head, tail, head_text, apart}
use Rattle.fvn_weights_reading.specs.declared.entry.Entry.{Entry}
use Rattle.fvn_weights_reading.specs.Spelling.{is_number, colon, spell_entry, spell_further, spell_entries, IsEntry}
use Rattle.fvn_weights_reading.specs.inner.Split.{numbers_in, AreNumbersSplit, IsEntrySplit, BeginsWithNoEntry, IsEntriesRow, IsNoEntriesRow, IsFront, Decides}

-- each piece is a number
abbrev pub AreNumbers : List Piece → Type 0
AreNumbers = AllByRecursion (λ p. is_number p ≡ true)

-- a number stands first, or none does
pub numbers-first : (p : Piece) (ps : List Piece) → is_number p ≡ true → numbers_in (p ∷ ps) ≡ suc (numbers_in ps)
numbers-first p ps t = ap (λ b. if b then suc (numbers_in ps) else 0) t

pub numbers-end : (p : Piece) (ps : List Piece) → is_number p ≡ false → numbers_in (p ∷ ps) ≡ 0
numbers-end p ps f = ap (λ b. if b then suc (numbers_in ps) else 0) f

-- no more pieces are numbers than there are
pub numbers-within : (row : List Piece) → numbers_in row ≤ length row
numbers-within [] = omega arith
numbers-within (p ∷ ps) = go (is_number p) (numbers-within ps) where
  go : (b : Bool) → numbers_in ps ≤ length ps → (if b then suc (numbers_in ps) else 0) ≤ length (p ∷ ps)
  go true h = omega (arith, h)
  go false h = omega arith

no-number : (p : Piece) (ps r : List Piece) → is_number p ≡ true → numbers_in r ≡ 0 → r ≡ p ∷ ps → ⊥
no-number p ps r t e h = (let f : suc (numbers_in ps) ≡ 0 = sym (numbers-first p ps t) ∙ ap numbers_in (sym h) ∙ e in cc)

numbers-once : (xs ys r s : List Piece) → AreNumbers xs → AreNumbers ys → numbers_in r ≡ 0 → numbers_in s ≡ 0 → xs ++ r ≡ ys ++ s → (xs ≡ ys) × (r ≡ s)
numbers-once [] [] r s a b e f h = (refl, h)
numbers-once [] (y ∷ ys) r s a b e f h = absurd (no-number y (ys ++ s) r b.0 e h)
numbers-once (x ∷ xs) [] r s a b e f h = absurd (no-number x (xs ++ r) s a.0 f (sym h))
numbers-once (x ∷ xs) (y ∷ ys) r s a b e f h =
    let g = numbers-once xs ys r s a.1 b.1 e f (tail h) in
    (ap (λ z. z ∷ xs) (head h) ∙ ap (λ zs. y ∷ zs) g.0, g.1)

-- counting

-- so many pieces are numbers, and what is left decides
abbrev pub IsCounted : List Piece → ℕ → ℕ → Type 0
IsCounted row i n = (n ≡ i) × (numbers_in row ≡ n + numbers_in (drop i row))

module _ (row : List Piece) (i n : ℕ) (so : IsCounted row i n) where
  dropped : (p : Piece) → i < length row → p ≡ get_or row i p → numbers_in (drop i row) ≡ numbers_in (p ∷ drop (i + 1) row)
  dropped p l is = ap numbers_in (drop_more row i p l) ∙ ap (λ x. numbers_in (x ∷ drop (i + 1) row)) (sym is)

  pub one-counted : (p : Piece) → i < length row → p ≡ get_or row i p → is_number p ≡ true → IsCounted row (i + 1) (n + 1)
  one-counted p l is t = (let e = dropped p l is ∙ numbers-first p (drop (i + 1) row) t in (omega (arith, so.0), omega (arith, so.1, e)))

  pub last-counted : (p : Piece) → i < length row → p ≡ get_or row i p → is_number p ≡ false → n ≡ numbers_in row
  last-counted p l is f = (let e = dropped p l is ∙ numbers-end p (drop (i + 1) row) f in omega (arith, so.1, e))

  pub all-counted : length row ≤ i → n ≡ numbers_in row
  all-counted l = (let e : numbers_in (drop i row) ≡ 0 = ap numbers_in (drop_all i row l) in omega (arith, so.1, e))

-- so many pieces are taken off the front: all are numbers, and no further one follows
abbrev AreTaken : List Piece → ℕ → Type 0
AreTaken row n = AreNumbers (take n row) × (row ≡ take n row ++ drop n row) × (numbers_in (drop n row) ≡ 0)

taken : (row : List Piece) → AreTaken row (numbers_in row)
taken [] = (tt, refl, refl)
taken (p ∷ ps) = go (is_number p) refl (taken ps) where
  go : (b : Bool) → is_number p ≡ b → AreTaken ps (numbers_in ps) → AreTaken (p ∷ ps) (if b then suc (numbers_in ps) else 0)
  go true t r = ((t, r.0), ap (λ x. p ∷ x) r.1, r.2)
  go false f r = (tt, refl, numbers-end p ps f)

some-taken : (row : List Piece) → (numbers_in row ≡ 0 → ⊥) → take (numbers_in row) row ≢ []
some-taken [] n h = n refl
some-taken (p ∷ ps) n h = go (is_number p) refl where
  go : (b : Bool) → is_number p ≡ b → ⊥
  go true t =
      let e : take (suc (numbers_in ps)) (p ∷ ps) ≡ [] = ap (λ k. take k (p ∷ ps)) (sym (numbers-first p ps t)) ∙ h in
      let f : p ∷ take (numbers_in ps) ps ≡ [] = e in
      cc
  go false f = n (numbers-end p ps f)

pub numbers-split : (row : List Piece) (n : ℕ) → n ≡ numbers_in row → (n ≡ 0 → ⊥) → AreNumbersSplit row (take n row) (drop n row)
numbers-split row n is some =
    let t = taken row in
    subst (λ k. AreNumbersSplit row (take k row) (drop k row)) (sym is)
    (record { some = some-taken row (λ e. some (is ∙ e)); are = t.0; row_is = t.1; ends = t.2 })

-- entries

abbrev pub entry : Text → List Piece → Entry
entry n ps = record { name = n; numbers = ps }

numbers-there : (ps : List Piece) → ps ≢ [] → AreNumbers ps → (r : List Piece) → numbers_in (ps ++ r) ≡ 0 → ⊥
numbers-there [] some a r e = some refl
numbers-there (p ∷ ps) some a r e = no-number p (ps ++ r) ((p ∷ ps) ++ r) a.0 e refl

pub no-entry-nil : (row : List Piece) → row ≡ [] → BeginsWithNoEntry row
no-entry-nil row n e rest is h = (let f : [] ≡ word e.name ∷ (colon ∷ (e.numbers ++ rest)) = sym n ∙ h in cc)

module _ (row behind : List Piece) (first : Piece) (front : row ≡ first ∷ behind) where
  starts : (e : Entry) (rest : List Piece) → row ≡ spell_entry e ++ rest → first ∷ behind ≡ word e.name ∷ (colon ∷ (e.numbers ++ rest))
  starts e rest h = sym front ∙ h

  pub no-entry-word : is_word first ≡ false → BeginsWithNoEntry row
  no-entry-word f e rest is h =
      let g : is_word first ≡ is_word (word e.name) = ap is_word (head (starts e rest h)) in
      let k : false ≡ true = sym f ∙ g in
      cc

  goes-on : (e : Entry) (rest : List Piece) → row ≡ spell_entry e ++ rest → behind ≡ colon ∷ (e.numbers ++ rest)
  goes-on e rest h = tail (starts e rest h)

  pub no-entry-short : behind ≡ [] → BeginsWithNoEntry row
  no-entry-short n e rest is h = (let f : [] ≡ colon ∷ (e.numbers ++ rest) = sym n ∙ goes-on e rest h in cc)

  module _ (second : Piece) (after : List Piece) (more : behind ≡ second ∷ after) where
    pub no-entry-colon : is_name (codes ":") second ≡ false → BeginsWithNoEntry row
    no-entry-colon f e rest is h =
        let g : second ≡ colon = head (sym more ∙ goes-on e rest h) in
        let k : false ≡ true = sym f ∙ ap (is_name (codes ":")) g ∙ name-word (codes ":") in
        cc

    pub no-entry-numbers : numbers_in after ≡ 0 → BeginsWithNoEntry row
    no-entry-numbers z e rest is h =
        let g : after ≡ e.numbers ++ rest = tail (sym more ∙ goes-on e rest h) in
        numbers-there e.numbers is.some is.numbers rest (ap numbers_in (sym g) ∙ z)

    pub entry-split : is_word first ≡ true → is_name (codes ":") second ≡ true → (numbers rest : List Piece) → AreNumbersSplit after numbers rest →
        IsEntrySplit row (entry first.text numbers) rest
    entry-split w n numbers rest a = record {
      entry = record { some = a.some; numbers = a.are };
      spelled =
          front ∙ ap (λ p. p ∷ behind) (word-is first w)
          ∙ ap (λ x. word first.text ∷ x) (more ∙ ap (λ p. p ∷ after) (name-is (codes ":") second n) ∙ ap (λ x. colon ∷ x) a.row_is);
      ends = a.ends;
    }

entry-once : (a b : Entry) (r s : List Piece) → IsEntry a → IsEntry b → numbers_in r ≡ 0 → numbers_in s ≡ 0 → spell_entry a ++ r ≡ spell_entry b ++ s → (a ≡ b) × (r ≡ s)
entry-once a b r s i j e f h =
    let n : a.name ≡ b.name = head_text h in
    let g = numbers-once a.numbers b.numbers r s i.numbers j.numbers e f (tail (tail h)) in
    (ap (λ x. entry x a.numbers) n ∙ ap (entry b.name) g.0, g.1)

-- a comma ends numbers
further-ends : (es : List Entry) → numbers_in (spell_further es) ≡ 0
further-ends [] = refl
further-ends (e ∷ es) = refl

further-once : (es fs : List Entry) → AllByRecursion IsEntry es → AllByRecursion IsEntry fs → spell_further es ≡ spell_further fs → es ≡ fs
further-once [] [] a b h = refl
further-once [] (f ∷ fs) a b h = (let g : [] ≡ comma ∷ (spell_entry f ++ spell_further fs) = h in cc)
further-once (e ∷ es) [] a b h = (let g : comma ∷ (spell_entry e ++ spell_further es) ≡ [] = h in cc)
further-once (e ∷ es) (f ∷ fs) a b h =
    let g = entry-once e f (spell_further es) (spell_further fs) a.0 b.0 (further-ends es) (further-ends fs) (tail h) in
    let k = further-once es fs a.1 b.1 g.1 in
    ap (λ x. x ∷ es) g.0 ∙ ap (λ xs. f ∷ xs) k

pub entries-once : (es fs : List Entry) → AllByRecursion IsEntry es → AllByRecursion IsEntry fs → spell_entries es ≡ spell_entries fs → es ≡ fs
entries-once [] [] a b h = refl
entries-once [] (f ∷ fs) a b h = (let g : [] ≡ word f.name ∷ (colon ∷ (f.numbers ++ spell_further fs)) = h in cc)
entries-once (e ∷ es) [] a b h = (let g : word e.name ∷ (colon ∷ (e.numbers ++ spell_further es)) ≡ [] = h in cc)
entries-once (e ∷ es) (f ∷ fs) a b h = further-once (e ∷ es) (f ∷ fs) a b (ap (λ x. comma ∷ x) h)

-- rows without a piece
pub empty : (row : List Piece) → length row ≡ 0 → row ≡ []
empty [] h = refl
empty (p ∷ ps) h = absurd (omega (arith, h))

pub empty-by : (row : List Piece) (b : Bool) → b ≡ nat_eq (length row) 0 → b ≡ true → row ≡ []
empty-by [] b is t = refl
empty-by (p ∷ ps) b is t = (let f : nat_eq (length (p ∷ ps)) 0 ≡ true = sym is ∙ t in absurd (omega (arith, eqb-true (length (p ∷ ps)) 0 f)))

pub filled-by : (row : List Piece) (b : Bool) → b ≡ nat_eq (length row) 0 → b ≡ false → row ≡ [] → ⊥
filled-by row b is f e = (let g : false ≡ true = sym f ∙ is ∙ ap (λ x. nat_eq (length x) 0) e in cc)

all-more : (es : List Entry) (e : Entry) → AllByRecursion IsEntry es → IsEntry e → AllByRecursion IsEntry (es ++ (e ∷ []))
all-more [] e a b = (b, tt)
all-more (f ∷ es) e a b = (a.0, all-more es e a.1 b)

further-more : (es : List Entry) (e : Entry) (r : List Piece) → spell_further (es ++ (e ∷ [])) ++ r ≡ spell_further es ++ (comma ∷ (spell_entry e ++ r))
further-more [] e r = ap (λ x. comma ∷ x) (ap (λ x. x ++ r) (append-nil (spell_entry e)))
further-more (f ∷ es) e r =
    ap (λ x. comma ∷ x)
    (append_assoc (spell_entry f) (spell_further (es ++ (e ∷ []))) r
    ∙ ap (λ x. spell_entry f ++ x) (further-more es e r)
    ∙ sym (append_assoc (spell_entry f) (spell_further es) (comma ∷ (spell_entry e ++ r))))

pub nil-row : (row : List Piece) → row ≡ [] → IsEntriesRow row []
nil-row row n = record { entries = tt; spelled = n }

module _ (row : List Piece) (filled : row ≡ [] → ⊥) where
  -- the entries that a row is, where there is one, are behind commas
  behind-commas : (es : List Entry) → IsEntriesRow row es → comma ∷ row ≡ spell_further es
  behind-commas [] h = absurd (filled h.spelled)
  behind-commas (e ∷ es) h = ap (λ x. comma ∷ x) h.spelled

  pub no-first : BeginsWithNoEntry row → IsNoEntriesRow row
  no-first n [] h = filled h.spelled
  no-first n (e ∷ es) h = n e (spell_further es) h.entries.0 h.spelled

  pub front-first : (e : Entry) (rest : List Piece) → IsEntrySplit row e rest → IsFront row (e ∷ []) rest
  front-first e rest a = record {
    entries = (a.entry, tt);
    spelled = ap (λ x. comma ∷ x) (a.spelled ∙ ap (λ x. x ++ rest) (sym (append-nil (spell_entry e))));
  }

  pub decides-first : (e : Entry) (rest : List Piece) → IsEntrySplit row e rest → Decides row rest
  decides-first e rest a [] w h = (let g : comma ∷ row ≡ [] = h in cc)
  decides-first e rest a (f ∷ fs) w h =
      let g = entry-once e f rest (spell_further fs) a.entry w.0 a.ends (further-ends fs) (sym a.spelled ∙ tail h) in
      (fs, (w.1, g.1))

  pub front-next : (list : List Entry) (rest more : List Piece) (e : Entry) (after : List Piece) → IsFront row list rest → rest ≡ comma ∷ more → IsEntrySplit more e after →
      IsFront row (list ++ (e ∷ [])) after
  front-next list rest more e after f is a = record {
    entries = all-more list e f.entries a.entry;
    spelled = f.spelled ∙ ap (λ x. spell_further list ++ x) (is ∙ ap (λ x. comma ∷ x) a.spelled) ∙ sym (further-more list e after);
  }

  -- a further entry, where a comma follows
  one-more : (rest more : List Piece) → rest ≡ comma ∷ more → (es : List Entry) → AllByRecursion IsEntry es → rest ≡ spell_further es →
      (e : Entry) × (fs : List Entry) × IsEntry e × AllByRecursion IsEntry fs × (more ≡ spell_entry e ++ spell_further fs)
  one-more rest more is [] w h = (let g : comma ∷ more ≡ [] = sym is ∙ h in cc)
  one-more rest more is (e ∷ es) w h = (e, es, w.0, w.1, tail (sym is ∙ h))

  pub decides-next : (rest more : List Piece) (e : Entry) (after : List Piece) → Decides row rest → rest ≡ comma ∷ more → IsEntrySplit more e after → Decides row after
  decides-next rest more e after d is a es w h =
      let k = d es w h in
      let m = one-more rest more is k.0 k.1.0 k.1.1 in
      let g = entry-once e m.0 after (spell_further m.1) a.entry m.2 a.ends (further-ends m.1) (sym a.spelled ∙ m.4) in
      (m.1, (m.3, g.1))

  pub no-more : (rest more : List Piece) → Decides row rest → rest ≡ comma ∷ more → BeginsWithNoEntry more → IsNoEntriesRow row
  no-more rest more d is n es h =
      let k = d es h.entries (behind-commas es h) in
      let m = one-more rest more is k.0 k.1.0 k.1.1 in
      n m.0 (spell_further m.1) m.2 m.4

  pub whole : (list : List Entry) (rest : List Piece) → IsFront row list rest → rest ≡ [] → IsEntriesRow row list
  whole list rest f n = record { entries = f.entries; spelled = go list (f.spelled ∙ ap (λ x. spell_further list ++ x) n ∙ append-nil (spell_further list)) } where
    go : (es : List Entry) → comma ∷ row ≡ spell_further es → row ≡ spell_entries es
    go [] h = (let g : comma ∷ row ≡ [] = h in cc)
    go (e ∷ es) h = tail h

  pub not-whole : (rest : List Piece) → Decides row rest → ((more : List Piece) → rest ≡ comma ∷ more → ⊥) → (rest ≡ [] → ⊥) → IsNoEntriesRow row
  not-whole rest d n some es h = (let k = d es h.entries (behind-commas es h) in ended k.0 k.1.1) where
    ended : (more : List Entry) → rest ≡ spell_further more → ⊥
    ended [] e = some e
    ended (f ∷ fs) e = n (spell_entry f ++ spell_further fs) e
