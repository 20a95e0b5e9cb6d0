-- Every text is a row of parts, up to its end or to bytes at which no part can begin.
use Rattle.std.proofs.Common.{◌≡◌, ℕ, ◌==◌, Bool, true, false, ◌⊎◌, inl, inr, List, [], ◌∷◌, ◌++◌, refl, ap, sym, ◌∙◌, append_assoc, arith}
use Rattle.std.proofs.lemmas.Bool.Decides.{nat_tests}
use Rattle.fvn_lex.specs.declared.token.Class.TheVariants.{Special}
use Rattle.fvn_lex.specs.Bytes.{is_blank, is_special, is_printed, is_backquote, goes_on, begins_comment, begins_block}
use Rattle.fvn_lex.specs.Parts.{goes_through, is_quoted_after, stops, class_of, is_one_line, ends_line, Single, Longest, Part, White, Remark, Item, bytes_of, IsPart, row_bytes, AreParts, begins_bad}
use Rattle.fvn_lex.proofs.ByteLemmas.{printed-goes_on, begins_comment-line, begins_comment-append, begins_block-append, false_when, not_blank-not_feed}

-- where a row of parts ends: at the text's end, or where no part can begin
pub data IsEnd (left : List ℕ) : Type 0 where
  AtEnd : left ≡ [] → IsEnd left
  AtBad : begins_bad left ≡ true → IsEnd left
  AtBlock : begins_block left ≡ true → IsEnd left

pub record Row (bytes : List ℕ) : Type 0 where
  pub parts : List Part
  pub left : List ℕ
  pub row : bytes ≡ row_bytes parts ++ left
  pub fit : AreParts parts left
  pub ends : IsEnd left

-- the rest of a word, and then a row
record WordRow (quoted : Bool) (bytes : List ℕ) : Type 0 where
  pub text : List ℕ
  pub rest : List ℕ
  pub split : bytes ≡ text ++ rest
  pub through : goes_through quoted text ≡ true
  pub stop : stops (is_quoted_after quoted text) rest ≡ true
  pub row : Row rest

-- the rest of a comment, and then a row
record RemarkRow (bytes : List ℕ) : Type 0 where
  pub text : List ℕ
  pub rest : List ℕ
  pub split : bytes ≡ text ++ rest
  pub one_line : is_one_line text ≡ true
  pub longest : ends_line rest ≡ true
  pub row : Row rest

-- One part more.
row-cons : (bytes : List ℕ) (part : Part) (rest : List ℕ) → bytes ≡ bytes_of part ++ rest →
    (r : Row rest) → IsPart part rest → Row bytes
row-cons bytes part rest split r is = record {
  parts = part ∷ r.parts;
  left = r.left;
  row = split ∙ ap (λ u. bytes_of part ++ u) r.row ∙ sym (append_assoc (bytes_of part) (row_bytes r.parts) r.left);
  fit = (rw r.row at is, r.fit);
  ends = r.ends;
}

stuck : (bytes : List ℕ) → IsEnd bytes → Row bytes
stuck bytes ends = record { parts = []; left = bytes; row = refl; fit = tt; ends = ends }

row-blank : (b : ℕ) (rest : List ℕ) → is_blank b ≡ true → Row rest → Row (b ∷ rest)
row-blank b rest h r = row-cons (b ∷ rest) (White b) rest refl r h

row-special : (b : ℕ) (rest : List ℕ) → is_special b ≡ true → Row rest → Row (b ∷ rest)
row-special b rest h r =
    row-cons (b ∷ rest) (Item (record { class = Special; text = b ∷ [] })) rest refl r
    (Single (record { byte = b; text = refl; special = h; class = refl }))

row-remark : (b : ℕ) (rest : List ℕ) → (b == 10) ≡ false → begins_comment (b ∷ rest) ≡ true →
    begins_block (b ∷ rest) ≡ false → RemarkRow rest → Row (b ∷ rest)
row-remark b rest other begins plain r =
    row-cons (b ∷ rest) (Remark (b ∷ r.text)) r.rest (ap (λ u. b ∷ u) r.split) r.row
    (record {
      begins = begins_comment-line b r.text r.rest r.longest (rw r.split at begins);
      no_block = false_when _ (λ h.
          let k : begins_block (b ∷ rest) ≡ true = rw r.split (begins_block-append (b ∷ r.text) r.rest h) in cc);
      one_line = let h = r.one_line in grind (arith, nat_tests);
      longest = r.longest;
    })

row-word : (b : ℕ) (rest : List ℕ) → goes_on false b ≡ true → begins_comment (b ∷ rest) ≡ false →
    WordRow (is_backquote b) rest → Row (b ∷ rest)
row-word b rest on plain r =
    row-cons (b ∷ rest) (Item (record { class = class_of (b ∷ r.text); text = b ∷ r.text })) r.rest
    (ap (λ u. b ∷ u) r.split) r.row
    (Longest (record {
      some = λ e. cc;
      printed = let h = r.through in grind (arith, nat_tests);
      no_comment = false_when _ (λ h.
          let k : begins_comment (b ∷ rest) ≡ true = rw r.split (begins_comment-append (b ∷ r.text) r.rest h) in cc);
      class = refl;
    }) r.stop)

-- what a test answers, with the equation
told : (b : Bool) → (b ≡ true) ⊎ (b ≡ false)
told true = inl refl
told false = inr refl

row-bad : (b : ℕ) (rest : List ℕ) → is_blank b ≡ false → is_printed b ≡ false → Row (b ∷ rest)
row-bad b rest h k = stuck (b ∷ rest) (AtBad (grind (arith, nat_tests)))

row-printed : (b : ℕ) (rest : List ℕ) → is_blank b ≡ false → is_special b ≡ false →
    begins_comment (b ∷ rest) ≡ false → WordRow (is_backquote b) rest → Row (b ∷ rest)
row-printed b rest h k plain w =
    elim (told (is_printed b)) [
      | inl printed ↦ row-word b rest (printed-goes_on b printed k) plain w
      | inr other ↦ row-bad b rest h other
    ]

row-other : (b : ℕ) (rest : List ℕ) → is_blank b ≡ false → is_special b ≡ false →
    begins_block (b ∷ rest) ≡ false → WordRow (is_backquote b) rest → RemarkRow rest → Row (b ∷ rest)
row-other b rest h k plain w m =
    elim (told (begins_comment (b ∷ rest))) [
      | inl begins ↦ row-remark b rest (not_blank-not_feed b h) begins plain m
      | inr other ↦ row-printed b rest h k other w
    ]

row-plain : (b : ℕ) (rest : List ℕ) → is_blank b ≡ false → is_special b ≡ false →
    WordRow (is_backquote b) rest → RemarkRow rest → Row (b ∷ rest)
row-plain b rest h k w m =
    elim (told (begins_block (b ∷ rest))) [
      | inl block ↦ stuck (b ∷ rest) (AtBlock block)
      | inr other ↦ row-other b rest h k other w m
    ]

row-seen : (b : ℕ) (rest : List ℕ) → is_blank b ≡ false →
    Row rest → WordRow (is_backquote b) rest → RemarkRow rest → Row (b ∷ rest)
row-seen b rest h r w m =
    elim (told (is_special b)) [
      | inl special ↦ row-special b rest special r
      | inr other ↦ row-plain b rest h other w m
    ]

row-next : (b : ℕ) (rest : List ℕ) →
    Row rest → WordRow (is_backquote b) rest → RemarkRow rest → Row (b ∷ rest)
row-next b rest r w m =
    elim (told (is_blank b)) [
      | inl blank ↦ row-blank b rest blank r
      | inr other ↦ row-seen b rest other r w m
    ]

word-next : (quoted : Bool) (b : ℕ) (rest : List ℕ) → Row (b ∷ rest) → WordRow (is_backquote b) rest →
    WordRow quoted (b ∷ rest)
word-next quoted b rest r w =
    elim (told (goes_on quoted b)) [
      | inl on ↦ record {
        text = b ∷ w.text;
        rest = w.rest;
        split = ap (λ u. b ∷ u) w.split;
        through = let h = w.through in grind (arith, nat_tests);
        stop = w.stop;
        row = w.row;
      }
      | inr off ↦ record {
        text = [];
        rest = b ∷ rest;
        split = refl;
        through = refl;
        stop = grind (arith, nat_tests);
        row = r;
      }
    ]

remark-next : (b : ℕ) (rest : List ℕ) → Row (b ∷ rest) → RemarkRow rest → RemarkRow (b ∷ rest)
remark-next b rest r m =
    elim (told (b == 10)) [
      | inl feed ↦ record { text = []; rest = b ∷ rest; split = refl; one_line = refl; longest = feed; row = r }
      | inr other ↦ record {
        text = b ∷ m.text;
        rest = m.rest;
        split = ap (λ u. b ∷ u) m.split;
        one_line = let h = m.one_line in grind (arith, nat_tests);
        longest = m.longest;
        row = m.row;
      }
    ]

-- A text from each of the three places.
record Rows (bytes : List ℕ) : Type 0 where
  pub row : Row bytes
  pub word : (quoted : Bool) → WordRow quoted bytes
  pub remark : RemarkRow bytes

rows-cons : (b : ℕ) (rest : List ℕ) → Rows rest → Rows (b ∷ rest)
rows-cons b rest r =
    let row : Row (b ∷ rest) = row-next b rest r.row (r.word (is_backquote b)) r.remark in
    record {
      row = row;
      word = λ quoted. word-next quoted b rest row (r.word (is_backquote b));
      remark = remark-next b rest row r.remark;
    }

rows-of : (bytes : List ℕ) → Rows bytes
rows-of [] =
    let row : Row [] = stuck [] (AtEnd refl) in
    record {
      row = row;
      word = λ quoted. record { text = []; rest = []; split = refl; through = refl; stop = refl; row = row };
      remark = record { text = []; rest = []; split = refl; one_line = refl; longest = refl; row = row };
    }
rows-of (b ∷ bytes) = rows-cons b bytes (rows-of bytes)

pub row-of : (bytes : List ℕ) → Row bytes
row-of bytes = (rows-of bytes).row
