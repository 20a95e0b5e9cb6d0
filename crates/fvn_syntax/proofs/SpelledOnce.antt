-- Written terms that are spelled alike are one.
use Rattle.std.proofs.Common.{◌≡◌, Bool, true, false, List, [], ◌∷◌, ◌++◌, refl, sym, ap, ◌∙◌, subst, append_assoc}
use Rattle.std.specs.Prelude.{codes}
use Rattle.std.proofs.lemmas.List.{append-nil}
use Rattle.fvn_lex.specs.Cut.{Piece}
use Rattle.fvn_syntax.specs.Pieces.{Text, word, left_paren, right_paren, left_bracket, comma, is_special, is_colon_name}
use Rattle.fvn_syntax.specs.Raw.{RawTerm, RawTerms, name, call, round, kind_variable, last, and, spell, spell_all, spell_others, IsWritten, AreWritten, BeginsNot, EndsBefore}

pub head : {p q : Piece} {ps qs : List Piece} → p ∷ ps ≡ q ∷ qs → p ≡ q
head h = cc

pub tail : {p q : Piece} {ps qs : List Piece} → p ∷ ps ≡ q ∷ qs → ps ≡ qs
tail h = cc

pub head_text : {p q : Piece} {ps qs : List Piece} → p ∷ ps ≡ q ∷ qs → p.text ≡ q.text
head_text h = ap (λ x. x.text) (head h)

-- two lists do not begin alike where a test tells their first pieces apart
pub apart : (test : Piece → Bool) {p q : Piece} {ps qs : List Piece} → test p ≡ true → test q ≡ false → p ∷ ps ≡ q ∷ qs → ⊥
apart test {p} {q} a b h =
    let e : test p ≡ test q = ap test (head h) in
    let f : true ≡ false = sym a ∙ e ∙ b in
    cc

-- a term ends before a piece that opens neither a parenthesis nor a bracket
pub ends-before : (p : Piece) (ps : List Piece) → is_special (codes "(") p ≡ false → is_special (codes "[") p ≡ false → (t : RawTerm) → EndsBefore (p ∷ ps) t
ends-before p ps a b (name w) = (a, λ _. b)
ends-before p ps a b (call w ts) = tt
ends-before p ps a b (round t) = tt
ends-before p ps a b (kind_variable x s ss) = tt

pub ends-nil : (t : RawTerm) → EndsBefore [] t
ends-nil (name w) = (tt, λ _. tt)
ends-nil (call w ts) = tt
ends-nil (round t) = tt
ends-nil (kind_variable x s ss) = tt

begins : (byte : Text) (p : Piece) {r ps : List Piece} → BeginsNot byte r → is_special byte p ≡ true → r ≡ p ∷ ps → ⊥
begins byte p {r} {ps} not known e =
    let f : is_special byte p ≡ false = subst (BeginsNot byte) e not in
    let g : true ≡ false = sym known ∙ f in
    cc

others-once : (ps qs : List Text) (r s : List Piece) → spell_others ps ++ r ≡ spell_others qs ++ s → (ps ≡ qs) × (r ≡ s)
others-once [] [] r s h = (refl, tail h)
others-once [] (q ∷ qs) r s h = absurd (apart (is_special (codes "]")) refl refl h)
others-once (p ∷ ps) [] r s h = absurd (apart (is_special (codes "]")) refl refl (sym h))
others-once (p ∷ ps) (q ∷ qs) r s h =
    let e : word p ∷ spell_others ps ++ r ≡ word q ∷ spell_others qs ++ s = tail h in
    let f = others-once ps qs r s (tail e) in
    let g : p ≡ q = head_text e in
    (ap (λ x. x ∷ ps) g ∙ ap (λ xs. q ∷ xs) f.0, f.1)

-- what is in parentheses, and the piece that closes them
closing : (xs r : List Piece) → (xs ++ (right_paren ∷ [])) ++ r ≡ xs ++ (right_paren ∷ r)
closing xs r = append_assoc xs (right_paren ∷ []) r

parens : (xs ys r s : List Piece) → (xs ++ (right_paren ∷ [])) ++ r ≡ (ys ++ (right_paren ∷ [])) ++ s → xs ++ (right_paren ∷ r) ≡ ys ++ (right_paren ∷ s)
parens xs ys r s h = sym (closing xs r) ∙ h ∙ closing ys s

mutual
  pub once : (t u : RawTerm) (r s : List Piece) → IsWritten t → IsWritten u → EndsBefore r t → EndsBefore s u → spell t ++ r ≡ spell u ++ s → (t ≡ u) × (r ≡ s)
  once (name w) (name v) r s a b e f h = (ap name (head_text h), tail h)
  once (name w) (call v us) r s a b e f h = absurd (begins (codes "(") left_paren e.0 refl (tail h))
  once (name w) (round u) r s a b e f h = absurd (apart (is_special (codes "(")) refl refl (sym h))
  once (name w) (kind_variable y q qs) r s a b e f h =
      let named : w ≡ y = head_text h in
      let colon : is_colon_name w ≡ true = ap is_colon_name named ∙ b in
      absurd (begins (codes "[") left_bracket (e.1 colon) refl (tail h))
  once (call w ts) (name v) r s a b e f h = absurd (begins (codes "(") left_paren f.0 refl (sym (tail h)))
  once (call w ts) (call v us) r s a b e f h =
      let inner : left_paren ∷ (spell_all ts ++ (right_paren ∷ [])) ++ r ≡ left_paren ∷ (spell_all us ++ (right_paren ∷ [])) ++ s = tail h in
      let g = all-once ts us r s a b (parens (spell_all ts) (spell_all us) r s (tail inner)) in
      let named : w ≡ v = head_text h in
      (ap (λ x. call x ts) named ∙ ap (λ xs. call v xs) g.0, g.1)
  once (call w ts) (round u) r s a b e f h = absurd (apart (is_special (codes "(")) refl refl (sym h))
  once (call w ts) (kind_variable y q qs) r s a b e f h = absurd (apart (is_special (codes "(")) refl refl (tail h))
  once (round t) (name v) r s a b e f h = absurd (apart (is_special (codes "(")) refl refl h)
  once (round t) (call v us) r s a b e f h = absurd (apart (is_special (codes "(")) refl refl h)
  once (round t) (round u) r s a b e f h =
      let g = once t u (right_paren ∷ r) (right_paren ∷ s) a b (ends-before right_paren r refl refl t) (ends-before right_paren s refl refl u) (parens (spell t) (spell u) r s (tail h)) in
      (ap round g.0, tail g.1)
  once (round t) (kind_variable y q qs) r s a b e f h = absurd (apart (is_special (codes "(")) refl refl h)
  once (kind_variable x p ps) (name v) r s a b e f h =
      let named : v ≡ x = sym (head_text h) in
      let colon : is_colon_name v ≡ true = ap is_colon_name named ∙ a in
      absurd (begins (codes "[") left_bracket (f.1 colon) refl (sym (tail h)))
  once (kind_variable x p ps) (call v us) r s a b e f h = absurd (apart (is_special (codes "(")) refl refl (sym (tail h)))
  once (kind_variable x p ps) (round u) r s a b e f h = absurd (apart (is_special (codes "(")) refl refl (sym h))
  once (kind_variable x p ps) (kind_variable y q qs) r s a b e f h =
      let inner : left_bracket ∷ word p ∷ spell_others ps ++ r ≡ left_bracket ∷ word q ∷ spell_others qs ++ s = tail h in
      let sorts : word p ∷ spell_others ps ++ r ≡ word q ∷ spell_others qs ++ s = tail inner in
      let g = others-once ps qs r s (tail sorts) in
      let named : x ≡ y = head_text h in
      let first : p ≡ q = head_text sorts in
      (ap (λ v. kind_variable v p ps) named ∙ ap (λ v. kind_variable y v ps) first ∙ ap (kind_variable y q) g.0, g.1)

  all-once : (ts us : RawTerms) (r s : List Piece) → AreWritten ts → AreWritten us → spell_all ts ++ (right_paren ∷ r) ≡ spell_all us ++ (right_paren ∷ s) → (ts ≡ us) × (r ≡ s)
  all-once (last t) (last u) r s a b h =
      let g = once t u (right_paren ∷ r) (right_paren ∷ s) a b (ends-before right_paren r refl refl t) (ends-before right_paren s refl refl u) h in
      (ap last g.0, tail g.1)
  all-once (last t) (and u us) r s a b h =
      let g = once t u (right_paren ∷ r) (comma ∷ spell_all us ++ (right_paren ∷ s)) a b.0 (ends-before right_paren r refl refl t) (ends-before comma (spell_all us ++ (right_paren ∷ s)) refl refl u) (h ∙ append_assoc (spell u) (comma ∷ spell_all us) (right_paren ∷ s)) in
      absurd (apart (is_special (codes ")")) refl refl g.1)
  all-once (and t ts) (last u) r s a b h =
      let g = once t u (comma ∷ spell_all ts ++ (right_paren ∷ r)) (right_paren ∷ s) a.0 b (ends-before comma (spell_all ts ++ (right_paren ∷ r)) refl refl t) (ends-before right_paren s refl refl u) (sym (append_assoc (spell t) (comma ∷ spell_all ts) (right_paren ∷ r)) ∙ h) in
      absurd (apart (is_special (codes ")")) refl refl (sym g.1))
  all-once (and t ts) (and u us) r s a b h =
      let g = once t u (comma ∷ spell_all ts ++ (right_paren ∷ r)) (comma ∷ spell_all us ++ (right_paren ∷ s)) a.0 b.0 (ends-before comma (spell_all ts ++ (right_paren ∷ r)) refl refl t) (ends-before comma (spell_all us ++ (right_paren ∷ s)) refl refl u) (sym (append_assoc (spell t) (comma ∷ spell_all ts) (right_paren ∷ r)) ∙ h ∙ append_assoc (spell u) (comma ∷ spell_all us) (right_paren ∷ s)) in
      let k = all-once ts us r s a.1 b.1 (tail g.1) in
      (ap (λ x. and x ts) g.0 ∙ ap (and u) k.0, k.1)

-- the same of terms that nothing follows
pub alone-once : (t u : RawTerm) → IsWritten t → IsWritten u → spell t ≡ spell u → t ≡ u
alone-once t u a b h =
    (once t u [] [] a b (ends-nil t) (ends-nil u) (append-nil (spell t) ∙ h ∙ sym (append-nil (spell u)))).0
