-- What the reader of forms has read when it ends: a spelled term.
use Rattle.std.proofs.Common.{◌≡◌, Bool, true, false, ◌&&◌, List, [], ◌∷◌, ◌++◌, Some, None, refl, sym, ap, ◌∙◌, subst, append_assoc}
use Rattle.std.specs.Prelude.{codes, if◌then◌else◌}
use Rattle.std.proofs.lemmas.List.{append-nil}
use Rattle.fvn_lex.specs.Cut.{Piece}
use Rattle.fvn_syntax.specs.declared.form.Mark.{Mark}
use Rattle.fvn_syntax.specs.declared.form.Mark.TheVariants.{Round, Call}
use Rattle.fvn_syntax.specs.declared.form.Spot.{Spot}
use Rattle.fvn_syntax.specs.declared.form.Spot.TheVariants.{Wanted, Named, SortWanted, SortNamed, Whole}
use Rattle.fvn_syntax.specs.Pieces.{Text, word, left_paren, left_bracket, right_bracket, comma, is_word, is_special, is_colon_name}
use Rattle.fvn_syntax.specs.Raw.{RawTerm, RawTerms, name, call, round, kind_variable, last, and, spell, spell_all, spell_others, IsWritten, AreWritten, EndsBefore, IsTermBefore}
use Rattle.fvn_syntax.specs.inner.Form.{Step, Goes, Ends, Stops, behind, step, follow, is_closed, is_whole, left_behind}
use Rattle.fvn_syntax.proofs.PieceLemmas.{special-is, word-is, and-left, and-right, and-other}
use Rattle.fvn_syntax.proofs.FormReading.{left_behind-nil, left_behind-cons}

-- the arguments so far, each with its comma: whatever follows them makes a list of arguments
abbrev Done : List Piece → Type 0
Done ps = (more : RawTerms) → AreWritten more → (all : RawTerms) × AreWritten all × (spell_all all ≡ ps ++ spell_all more)

-- these pieces are the sorts of a bracket, and the bracket's end
abbrev AreSorts : List Piece → Type 0
AreSorts ps = (s : Text) × (ss : List Text) × (word s ∷ spell_others ss ≡ ps)

-- whatever sorts follow make the sorts of a bracket
abbrev Before : List Piece → Type 0
Before ps = (s : Text) (ss : List Text) → AreSorts (ps ++ (word s ∷ spell_others ss))

abbrev Through : List Piece → Type 0
Through ps = (ss : List Text) → AreSorts (ps ++ spell_others ss)

-- the pieces that opened these parentheses
abbrev Opens : List Mark → List Piece → Type 0
Opens [] ps = ps ≡ []
Opens (Round ∷ ms) ps = (qs : List Piece) × (ps ≡ qs ++ (left_paren ∷ [])) × Opens ms qs
Opens (Call ∷ ms) ps =
    (qs : List Piece) × (pre : List Piece) × (w : Text) × (ps ≡ qs ++ (word w ∷ left_paren ∷ pre)) × Done pre × Opens ms qs

-- a name with a bracket that is open
abbrev Bracket : (List Piece → Type 0) → List Mark → List Piece → Type 0
Bracket So ms ps =
    (qs : List Piece) × (w : Text) × (front : List Piece) × (ps ≡ qs ++ (word w ∷ left_bracket ∷ front)) × (is_colon_name w ≡ true) × So front × Opens ms qs

-- what was read so far
abbrev Stands : List Mark → List Piece → Spot → Type 0
Stands ms ps Wanted = Opens ms ps
Stands ms ps (Named c) = (qs : List Piece) × (w : Text) × (ps ≡ qs ++ (word w ∷ [])) × (c ≡ is_colon_name w) × Opens ms qs
Stands ms ps SortWanted = Bracket Before ms ps
Stands ms ps SortNamed = Bracket Through ms ps
Stands ms ps Whole =
    (qs : List Piece) × (t : RawTerm) × (ps ≡ qs ++ spell t) × IsWritten t × ((rest : List Piece) → EndsBefore rest t) × Opens ms qs

-- what was read after one more piece
abbrev After : List Piece → Piece → Step → Type 0
After ps p (Goes ms at) = Stands ms (ps ++ (p ∷ [])) at
After ps p Ends = (rest : List Piece) → IsTermBefore (p ∷ rest) (ps ++ (p ∷ rest))
After ps p Stops = Unit {0}

Done-nil : Done []
Done-nil more h = (more, h, refl)

Done-more : (ps : List Piece) (t : RawTerm) → Done ps → IsWritten t → Done (ps ++ spell t ++ (comma ∷ []))
Done-more ps t d h more hs = go (d (and t more) (h, hs)) where
  go : ((all : RawTerms) × AreWritten all × (spell_all all ≡ ps ++ spell_all (and t more))) →
      (all : RawTerms) × AreWritten all × (spell_all all ≡ (ps ++ spell t ++ (comma ∷ [])) ++ spell_all more)
  go (all, w, e) = (all, w, e ∙ sym (append_assoc (ps ++ spell t) (comma ∷ []) (spell_all more) ∙ append_assoc ps (spell t) (comma ∷ spell_all more)))

-- a piece behind a whole term
behinds : (ms : List Mark) (ps : List Piece) (p : Piece) (qs : List Piece) (t : RawTerm) → ps ≡ qs ++ spell t → IsWritten t →
    ((rest : List Piece) → EndsBefore (p ∷ rest) t) → Opens ms qs → After ps p (behind p ms)
behinds [] ps p qs t is h e o =
    λ rest. record { term = t; written = h; ends = e rest; spelled = ap (λ x. x ++ (p ∷ rest)) (is ∙ ap (λ x. x ++ spell t) o) }
behinds (Round ∷ ms) ps p qs t is h e (front, opens, o) = go (is_special (codes ")") p) refl where
  go : (b : Bool) → is_special (codes ")") p ≡ b → After ps p (if b then Goes ms Whole else Stops)
  go false c = tt
  go true c =
      (front, round t, rw (is, opens, special-is (codes ")") p c) (simp append_assoc), h, λ rest. tt, o)
behinds (Call ∷ ms) ps p qs t is h e (front, pre, w, opens, d, o) = go (is_special (codes ",") p) refl where
  closed : (b : Bool) → is_special (codes ")") p ≡ b → After ps p (if b then Goes ms Whole else Stops)
  closed false c = tt
  closed true c = all (d (last t) h) where
    all : ((ts : RawTerms) × AreWritten ts × (spell_all ts ≡ pre ++ spell t)) → Stands ms (ps ++ (p ∷ [])) Whole
    all (ts, hs, f) =
        (front, call w ts, rw (is, opens, special-is (codes ")") p c, f) (simp append_assoc), hs, λ rest. tt, o)

  go : (b : Bool) → is_special (codes ",") p ≡ b →
      After ps p (if b then Goes (Call ∷ ms) Wanted else if is_special (codes ")") p then Goes ms Whole else Stops)
  go false c = closed (is_special (codes ")") p) refl
  go true c =
      (front, pre ++ spell t ++ (comma ∷ []), w, rw (is, opens, special-is (codes ",") p c) (simp append_assoc), Done-more pre t d h, o)

Before-word : (front : List Piece) (w : Text) → Before front → Through (front ++ (word w ∷ []))
Before-word front w b ss = subst AreSorts (sym (append_assoc front (word w ∷ []) (spell_others ss))) (b w ss)

Through-comma : (front : List Piece) → Through front → Before (front ++ (comma ∷ []))
Through-comma front b s ss = subst AreSorts (sym (append_assoc front (comma ∷ []) (word s ∷ spell_others ss))) (b (s ∷ ss))

Before-nil : Before []
Before-nil s ss = (s, ss, refl)

stepped : (ms : List Mark) (ps : List Piece) (p : Piece) (spot : Spot) → Stands ms ps spot → After ps p (step ms p spot)
stepped ms ps p Wanted o = go (is_special (codes "(") p) refl where
  named : (b : Bool) → is_word p ≡ b → After ps p (if b then Goes ms (Named (is_colon_name p.text)) else Stops)
  named false c = tt
  named true c = (ps, p.text, ap (λ q. ps ++ (q ∷ [])) (word-is p c), refl, o)

  go : (b : Bool) → is_special (codes "(") p ≡ b →
      After ps p (if b then Goes (Round ∷ ms) Wanted else if is_word p then Goes ms (Named (is_colon_name p.text)) else Stops)
  go false c = named (is_word p) refl
  go true c = (ps, ap (λ q. ps ++ (q ∷ [])) (special-is (codes "(") p c), o)
stepped ms ps p (Named colon) (qs, w, is, same, o) = go (is_special (codes "(") p) refl where
  bracket : (b : Bool) → is_special (codes "(") p ≡ false → colon && is_special (codes "[") p ≡ b →
      After ps p (if b then Goes ms SortWanted else behind p ms)
  bracket false n c =
      behinds ms ps p qs (name w) is tt (λ rest. (n, λ k. and-other colon (is_special (codes "[") p) c (same ∙ k))) o
  bracket true n c =
      let q = special-is (codes "[") p (and-right colon (is_special (codes "[") p) c) in
      (qs, w, [], rw (is, q) (simp append_assoc), sym same ∙ and-left colon (is_special (codes "[") p) c, Before-nil, o)

  go : (b : Bool) → is_special (codes "(") p ≡ b →
      After ps p (if b then Goes (Call ∷ ms) Wanted else if colon && is_special (codes "[") p then Goes ms SortWanted else behind p ms)
  go false c = bracket (colon && is_special (codes "[") p) c refl
  go true c = (qs, [], w, rw (is, special-is (codes "(") p c) (simp append_assoc), Done-nil, o)
stepped ms ps p SortWanted (qs, w, front, is, colon, b, o) = go (is_word p) refl where
  go : (t : Bool) → is_word p ≡ t → After ps p (if t then Goes ms SortNamed else Stops)
  go false c = tt
  go true c =
      (qs, w, front ++ (word p.text ∷ []), ap (λ q. ps ++ (q ∷ [])) (word-is p c) ∙ rw is (simp append_assoc), colon, Before-word front p.text b, o)
stepped ms ps p SortNamed (qs, w, front, is, colon, b, o) = go (is_special (codes ",") p) refl where
  closed : (t : Bool) → is_special (codes "]") p ≡ t → After ps p (if t then Goes ms Whole else Stops)
  closed false c = tt
  closed true c = all (b []) where
    all : AreSorts (front ++ (right_bracket ∷ [])) → Stands ms (ps ++ (p ∷ [])) Whole
    all (s, ss, f) =
        (qs, kind_variable w s ss, rw (is, special-is (codes "]") p c, f) (simp append_assoc), colon, λ rest. tt, o)

  go : (t : Bool) → is_special (codes ",") p ≡ t →
      After ps p (if t then Goes ms SortWanted else if is_special (codes "]") p then Goes ms Whole else Stops)
  go false c = closed (is_special (codes "]") p) refl
  go true c =
      (qs, w, front ++ (comma ∷ []), rw (is, special-is (codes ",") p c) (simp append_assoc), colon, Through-comma front b, o)
stepped ms ps p Whole (qs, t, is, h, e, o) = behinds ms ps p qs t is h (λ rest. e (p ∷ rest)) o

finished : (ms : List Mark) (spot : Spot) (ps rest : List Piece) → (if is_closed ms && is_whole spot then Some [] else None) ≡ Some rest →
    Stands ms ps spot → IsTermBefore rest ps
finished (m ∷ ms) spot ps rest h s = cc
finished [] Wanted ps rest h s = cc
finished [] SortWanted ps rest h s = cc
finished [] SortNamed ps rest h s = cc
finished [] (Named colon) ps rest h (qs, w, is, same, o) =
    let e : [] ≡ rest = (let g = h in cc) in
    subst (λ r. IsTermBefore r ps) e
    (record { term = name w; written = tt; ends = (tt, λ _. tt); spelled = is ∙ ap (λ x. x ++ (word w ∷ [])) o })
finished [] Whole ps rest h (qs, t, is, k, b, o) =
    let e : [] ≡ rest = (let g = h in cc) in
    subst (λ r. IsTermBefore r ps) e
    (record { term = t; written = k; ends = b []; spelled = is ∙ ap (λ x. x ++ spell t) o ∙ sym (append-nil (spell t)) })

read-stands : (ms : List Mark) (spot : Spot) (ps qs rest : List Piece) → left_behind ms spot qs ≡ Some rest → Stands ms ps spot → IsTermBefore rest (ps ++ qs)
read-stands ms spot ps [] rest h s =
    subst (IsTermBefore rest) (sym (append-nil ps)) (finished ms spot ps rest (sym (left_behind-nil ms spot) ∙ h) s)
read-stands ms spot ps (q ∷ qs) rest h s =
    go (step ms q spot) (sym (left_behind-cons ms spot q qs) ∙ h) (stepped ms ps q spot s)
    (λ next at. read-stands next at (ps ++ (q ∷ [])) qs rest) where
      go : (x : Step) → follow (q ∷ qs) x (λ next at. left_behind next at qs) ≡ Some rest → After ps q x →
          ((next : List Mark) (at : Spot) → left_behind next at qs ≡ Some rest → Stands next (ps ++ (q ∷ [])) at → IsTermBefore rest ((ps ++ (q ∷ [])) ++ qs)) →
          IsTermBefore rest (ps ++ (q ∷ qs))
      go (Goes next at) f a later = subst (IsTermBefore rest) (append_assoc ps (q ∷ []) qs) (later next at f a)
      go Ends f a later = let e : q ∷ qs ≡ rest = (let g = f in cc) in subst (λ r. IsTermBefore r (ps ++ (q ∷ qs))) e (a qs)
      go Stops f a later = cc

-- what is read is a term
pub read-is_term : (rest ps : List Piece) → left_behind [] Wanted ps ≡ Some rest → IsTermBefore rest ps
read-is_term rest ps h = read-stands [] Wanted [] ps rest h refl
