-- The reader of attributes finds exactly the spelled attributes.
use Rattle.std.proofs.Common.{◌≡◌, ◌≤◌, Bool, true, false, ◌&&◌, List, [], ◌∷◌, ◌++◌, length, Option, Some, None, refl, sym, ap, ◌∙◌, subst, append_assoc, arith}
use Rattle.std.specs.Prelude.{codes}
use Rattle.std.specs.List.{AllByRecursion}
use Rattle.std.specs.Str.{bytes_eq}
use Rattle.fvn_lex.specs.Cut.{Piece}
use Rattle.fvn_syntax.specs.Pieces.{Text, word, left_paren, right_paren, left_bracket, right_bracket, is_word, is_special}
use Rattle.fvn_syntax.proofs.PieceLemmas.{bytes_eq-is, and-left, and-right, word-is, special-is}
use Rattle.fvn_module_syntax.specs.declared.statement.Attribute.{Attribute}
use Rattle.fvn_module_syntax.specs.declared.statement.Attribute.TheVariants.{Assoc, Comm, Identity, Constructor, Ditto, Precedence, Gather, Format}
use Rattle.fvn_module_syntax.specs.declared.statement.Feature.{Feature}
use Rattle.fvn_module_statements.specs.declared.outcome.Reading.TheVariants.{Read}
use Rattle.fvn_module_syntax.specs.Spelling.{each, spell_word, words, in_parens, spell_attribute, bracketed}
use Rattle.fvn_module_syntax.specs.Written.{NotEmpty, IsAttribute, AreAttributes}
use Rattle.fvn_module_statements.specs.inner.Gather.{gather}
use Rattle.fvn_module_statements.specs.inner.Attributes.{word_of, words_before, words_in_parens, identity_of, made, attribute_named, attribute_of, is_close, is_some, attributes_before, attributes_of}
use Rattle.fvn_module_syntax.specs.LeftOut.{is_next, left_out_in}
use Rattle.fvn_module_statements.specs.LeftOut.{GoesOn, IsAttributeBefore}
use Rattle.fvn_module_statements.proofs.GatherExact.{gather-sound, gather-spelled}
use Rattle.fvn_module_statements.proofs.SortExact.{Any, all_any}

-- the text, or another one
pub by_text : {X : Type 0} (w t : Text) → (bytes_eq w t ≡ true → X) → (bytes_eq w t ≡ false → X) → X
by_text {X} w t same other = go (bytes_eq w t) refl where
  go : (b : Bool) → bytes_eq w t ≡ b → X
  go true e = same e
  go false e = other e

-- words
pub word_of-sound : (ps : List Piece) (r : Text × List Piece) → word_of ps ≡ Some r → (ps ≡ spell_word r.0 ++ r.1) × Any r.0
word_of-sound [] r h = cc
word_of-sound (p ∷ ps) r h = go (is_word p) refl where
  go : (b : Bool) → is_word p ≡ b → (p ∷ ps ≡ spell_word r.0 ++ r.1) × Any r.0
  go false e = let g = rw e at h in cc
  go true e =
      let g : Some (p.text, ps) ≡ Some r = rw e at h in
      let i : (p.text, ps) ≡ r = cc in
      (ap (λ x. x ∷ ps) (word-is p e) ∙ ap (λ (x : Text × List Piece). word x.0 ∷ x.1) i, tt)

words-read : (ws : List Text) (rest : List Piece) →
    gather word_of (words ws ++ (right_paren ∷ rest)) [] (words ws ++ (right_paren ∷ rest)) ≡ (ws, right_paren ∷ rest)
words-read ws rest =
    gather-spelled word_of spell_word Any Any (λ w qs t u. (refl, tt)) (right_paren ∷ rest) tt refl (λ w. omega arith) ws (all_any ws)

words_before-sound : (ws : List Text) (ps : List Piece) (r : List Text × List Piece) → words_before ws ps ≡ Some r →
    (r.0 ≡ ws) × (ps ≡ right_paren ∷ r.1) × NotEmpty ws
words_before-sound [] ps r h = cc
words_before-sound (w ∷ ws) [] r h = cc
words_before-sound (w ∷ ws) (p ∷ ps) r h = go (is_special (codes ")") p) refl where
  go : (b : Bool) → is_special (codes ")") p ≡ b → (r.0 ≡ w ∷ ws) × (p ∷ ps ≡ right_paren ∷ r.1) × NotEmpty (w ∷ ws)
  go false e = let g = rw e at h in cc
  go true e =
      let g : Some (w ∷ ws, ps) ≡ Some r = rw e at h in
      let i : (w ∷ ws, ps) ≡ r = cc in (
        sym (ap (λ (x : List Text × List Piece). x.0) i),
        ap (λ x. x ∷ ps) (special-is (codes ")") p e) ∙ ap (λ (x : List Text × List Piece). right_paren ∷ x.1) i,
        tt,
      )

words_in_parens-sound : (ps : List Piece) (r : List Text × List Piece) → words_in_parens ps ≡ Some r →
    (ps ≡ in_parens (words r.0) ++ r.1) × NotEmpty r.0
words_in_parens-sound [] r h = cc
words_in_parens-sound (p ∷ ps) r h = go (is_special (codes "(") p) refl where
  go : (b : Bool) → is_special (codes "(") p ≡ b → (p ∷ ps ≡ in_parens (words r.0) ++ r.1) × NotEmpty r.0
  go false e = let g = rw e at h in cc
  go true e =
      let g = gather-sound word_of spell_word Any word_of-sound ps [] ps in
      let k = words_before-sound (gather word_of ps [] ps).0 (gather word_of ps [] ps).1 r (rw e at h) in
      let same : g.more ≡ r.0 = sym g.is ∙ sym k.0 in (
        ap (λ x. x ∷ ps) (special-is (codes "(") p e)
            ∙ ap (λ x. left_paren ∷ x)
            (g.left ∙ ap (λ x. words g.more ++ x) k.1 ∙ ap (λ ws. words ws ++ (right_paren ∷ r.1)) same
            ∙ sym (append_assoc (words r.0) (right_paren ∷ []) r.1)),
        subst NotEmpty (sym k.0) k.2,
      )

closing : (ws : List Text) (rest : List Piece) → NotEmpty ws → words_before ws (right_paren ∷ rest) ≡ Some (ws, rest)
closing [] rest h = absurd h
closing (w ∷ ws) rest h = refl

words_in_parens-complete : (ws : List Text) (rest : List Piece) → NotEmpty ws → words_in_parens (in_parens (words ws) ++ rest) ≡ Some (ws, rest)
words_in_parens-complete ws rest h = rw (append_assoc (words ws) (right_paren ∷ []) rest, words-read ws rest) (closing ws rest h)

-- one attribute
identity_of-sound : (ps : List Piece) (r : Attribute × List Piece) → identity_of ps ≡ Some r →
    (word (codes "id:") ∷ ps ≡ spell_attribute r.0 ++ r.1) × IsAttributeBefore r.1 r.0
identity_of-sound [] r h = cc
identity_of-sound (p ∷ []) r h = cc
identity_of-sound (p ∷ q ∷ ps) r h = go (is_word p && is_next q) refl where
  go : (b : Bool) → is_word p && is_next q ≡ b → (word (codes "id:") ∷ p ∷ q ∷ ps ≡ spell_attribute r.0 ++ r.1) × IsAttributeBefore r.1 r.0
  go false e = let g = rw e at h in cc
  go true e =
      let g : Some (Identity p.text, q ∷ ps) ≡ Some r = rw e at h in
      let i : (Identity p.text, q ∷ ps) ≡ r = cc in
      let P : Attribute × List Piece → Type 0 =
      λ x. (word (codes "id:") ∷ p ∷ q ∷ ps ≡ spell_attribute x.0 ++ x.1) × IsAttributeBefore x.1 x.0 in
      subst P i (ap (λ x. word (codes "id:") ∷ x ∷ q ∷ ps) (word-is p (and-left (is_word p) (is_next q) e)), and-right (is_word p) (is_next q) e)

record Made {A : Type 0} (make : A → Attribute) (o : Option (A × List Piece)) (r : Attribute × List Piece) : Type 0 where
  pub from : A × List Piece
  pub read : o ≡ Some from
  pub same : (make from.0, from.1) ≡ r

made-is : {A : Type 0} (make : A → Attribute) (o : Option (A × List Piece)) (r : Attribute × List Piece) → made make o ≡ Some r → Made make o r
made-is make None r h = cc
made-is make (Some x) r h = record { from = x; read = refl; same = cc }

attribute_named-sound : (w : Text) (ps : List Piece) (r : Attribute × List Piece) → attribute_named w ps ≡ Some r →
    (word w ∷ ps ≡ spell_attribute r.0 ++ r.1) × IsAttributeBefore r.1 r.0
attribute_named-sound w ps r h =
    by_text w (codes "assoc") (λ a. plain (codes "assoc") a Assoc refl tt (rw a at h))
    (λ a. by_text w (codes "comm") (λ b. plain (codes "comm") b Comm refl tt (rw (a, b) at h))
    (λ b. by_text w (codes "ctor") (λ c. plain (codes "ctor") c Constructor refl tt (rw (a, b, c) at h))
    (λ c. by_text w (codes "ditto") (λ d. plain (codes "ditto") d Ditto refl tt (rw (a, b, c, d) at h))
    (λ d. by_text w (codes "id:") (λ e. named (codes "id:") e (identity_of-sound ps r (rw (a, b, c, d, e) at h)))
    (λ e. by_text w (codes "prec") (λ f. named (codes "prec") f (precedence (made-is Precedence (word_of ps) r (rw (a, b, c, d, e, f) at h))))
    (λ f. by_text w (codes "gather") (λ g. named (codes "gather") g (gathered (made-is Gather (words_in_parens ps) r (rw (a, b, c, d, e, f, g) at h))))
    (λ g. by_text w (codes "format") (λ i. named (codes "format") i (formatted (made-is Format (words_in_parens ps) r (rw (a, b, c, d, e, f, g, i) at h))))
    (λ i. let k = rw (a, b, c, d, e, f, g, i) at h in cc))))))))
  where
    named : (t : Text) → bytes_eq w t ≡ true → (word t ∷ ps ≡ spell_attribute r.0 ++ r.1) × IsAttributeBefore r.1 r.0 →
        (word w ∷ ps ≡ spell_attribute r.0 ++ r.1) × IsAttributeBefore r.1 r.0
    named t e k = (ap (λ v. word v ∷ ps) (bytes_eq-is w t e) ∙ k.0, k.1)

    plain : (t : Text) → bytes_eq w t ≡ true → (x : Attribute) → spell_attribute x ≡ word t ∷ [] → IsAttributeBefore ps x → Some (x, ps) ≡ Some r →
        (word w ∷ ps ≡ spell_attribute r.0 ++ r.1) × IsAttributeBefore r.1 r.0
    plain t e x spelled fits k =
        let i : (x, ps) ≡ r = cc in
        let P : Attribute × List Piece → Type 0 = λ y. (word t ∷ ps ≡ spell_attribute y.0 ++ y.1) × IsAttributeBefore y.1 y.0 in
        named t e (subst P i (ap (λ qs. qs ++ ps) (sym spelled), fits))

    precedence : Made Precedence (word_of ps) r → (word (codes "prec") ∷ ps ≡ spell_attribute r.0 ++ r.1) × IsAttributeBefore r.1 r.0
    precedence m =
        let P : Attribute × List Piece → Type 0 = λ y. (word (codes "prec") ∷ ps ≡ spell_attribute y.0 ++ y.1) × IsAttributeBefore y.1 y.0 in
        subst P m.same (ap (λ qs. word (codes "prec") ∷ qs) ((word_of-sound ps m.from m.read).0), tt)

    gathered : Made Gather (words_in_parens ps) r → (word (codes "gather") ∷ ps ≡ spell_attribute r.0 ++ r.1) × IsAttributeBefore r.1 r.0
    gathered m =
        let P : Attribute × List Piece → Type 0 = λ y. (word (codes "gather") ∷ ps ≡ spell_attribute y.0 ++ y.1) × IsAttributeBefore y.1 y.0 in
        let s = words_in_parens-sound ps m.from m.read in
        subst P m.same (ap (λ qs. word (codes "gather") ∷ qs) s.0, s.1)

    formatted : Made Format (words_in_parens ps) r → (word (codes "format") ∷ ps ≡ spell_attribute r.0 ++ r.1) × IsAttributeBefore r.1 r.0
    formatted m =
        let P : Attribute × List Piece → Type 0 = λ y. (word (codes "format") ∷ ps ≡ spell_attribute y.0 ++ y.1) × IsAttributeBefore y.1 y.0 in
        let s = words_in_parens-sound ps m.from m.read in
        subst P m.same (ap (λ qs. word (codes "format") ∷ qs) s.0, s.1)

pub attribute-before : (ps : List Piece) (r : Attribute × List Piece) → attribute_of ps ≡ Some r → (ps ≡ spell_attribute r.0 ++ r.1) × IsAttributeBefore r.1 r.0
attribute-before [] r h = cc
attribute-before (p ∷ ps) r h = go (is_word p) refl where
  go : (b : Bool) → is_word p ≡ b → (p ∷ ps ≡ spell_attribute r.0 ++ r.1) × IsAttributeBefore r.1 r.0
  go false e = let g = rw e at h in cc
  go true e =
      let k = attribute_named-sound p.text ps r (rw e at h) in
      (ap (λ x. x ∷ ps) (word-is p e) ∙ k.0, k.1)

before-is : (a : Attribute) (rest : List Piece) → IsAttributeBefore rest a → IsAttribute a
before-is Assoc rest h = tt
before-is Comm rest h = tt
before-is Constructor rest h = tt
before-is Ditto rest h = tt
before-is (Identity e) rest h = tt
before-is (Precedence n) rest h = tt
before-is (Gather ws) rest h = h
before-is (Format ws) rest h = h

pub attribute-sound : (ps : List Piece) (r : Attribute × List Piece) → attribute_of ps ≡ Some r → (ps ≡ spell_attribute r.0 ++ r.1) × IsAttribute r.0
attribute-sound ps r h = let k = attribute-before ps r h in (k.0, before-is r.0 r.1 k.1)

pub attribute-reads : (a : Attribute) (qs : List Piece) → IsAttributeBefore qs a → attribute_of (spell_attribute a ++ qs) ≡ Some (a, qs)
attribute-reads Assoc qs h = refl
attribute-reads Comm qs h = refl
attribute-reads Constructor qs h = refl
attribute-reads Ditto qs h = refl
attribute-reads (Identity w) [] h = absurd h
attribute-reads (Identity w) (q ∷ qs) h = rw h refl
attribute-reads (Precedence w) qs h = refl
attribute-reads (Gather ws) qs h = rw (words_in_parens-complete ws qs h) refl
attribute-reads (Format ws) qs h = rw (words_in_parens-complete ws qs h) refl

pub attribute-complete : (a : Attribute) (qs : List Piece) → IsAttribute a → GoesOn qs →
    (attribute_of (spell_attribute a ++ qs) ≡ Some (a, qs)) × GoesOn (spell_attribute a ++ qs)
attribute-complete Assoc qs h e = (refl, refl)
attribute-complete Comm qs h e = (refl, refl)
attribute-complete Constructor qs h e = (refl, refl)
attribute-complete Ditto qs h e = (refl, refl)
attribute-complete (Identity w) qs h e = (attribute-reads (Identity w) qs e, refl)
attribute-complete (Precedence w) qs h e = (refl, refl)
attribute-complete (Gather ws) qs h e = (attribute-reads (Gather ws) qs h, refl)
attribute-complete (Format ws) qs h e = (attribute-reads (Format ws) qs h, refl)

pub attribute_some : (a : Attribute) → 1 ≤ length (spell_attribute a)
attribute_some Assoc = omega arith
attribute_some Comm = omega arith
attribute_some Constructor = omega arith
attribute_some Ditto = omega arith
attribute_some (Identity w) = omega arith
attribute_some (Precedence w) = omega arith
attribute_some (Gather ws) = omega arith
attribute_some (Format ws) = omega arith

-- attributes in brackets
pub close-is : (ps : List Piece) → is_close ps ≡ true → ps ≡ right_bracket ∷ []
close-is [] h = cc
close-is (p ∷ []) h = ap (λ x. x ∷ []) (special-is (codes "]") p h)
close-is (p ∷ q ∷ ps) h = cc

pub some-is : {A : Type 0} (xs : List A) → is_some xs ≡ true → NotEmpty xs
some-is [] h = cc
some-is (x ∷ xs) h = tt

pub bracketed-is : {A : Type 0} (spell : A → List Piece) (xs : List A) → NotEmpty xs → bracketed spell xs ≡ left_bracket ∷ each spell xs ++ (right_bracket ∷ [])
bracketed-is spell [] h = absurd h
bracketed-is spell (x ∷ xs) h = refl

attributes_before-sound : (xs : List Attribute) (ps : List Piece) (o : Option Feature) (ys : List Attribute) → attributes_before xs ps o ≡ Read ys →
    (o ≡ None) × (xs ≡ ys) × (ps ≡ right_bracket ∷ []) × NotEmpty xs
attributes_before-sound xs ps (Some f) ys h = cc
attributes_before-sound xs ps None ys h = let k = go (is_some xs && is_close ps) refl in (refl, k.0, k.1, k.2) where
  go : (b : Bool) → is_some xs && is_close ps ≡ b → (xs ≡ ys) × (ps ≡ right_bracket ∷ []) × NotEmpty xs
  go false e = let g = rw e at h in cc
  go true e =
      let g : Read xs ≡ Read ys = rw e at h in
      (cc, close-is ps (and-right (is_some xs) (is_close ps) e), some-is xs (and-left (is_some xs) (is_close ps) e))

pub attributes-sound : (ps : List Piece) (xs : List Attribute) → attributes_of ps ≡ Read xs → (ps ≡ bracketed spell_attribute xs) × AreAttributes xs
attributes-sound [] xs h = let g : Read [] ≡ Read xs = h in let e : [] ≡ xs = cc in let P : List Attribute → Type 0 = λ ys. ([] ≡ bracketed spell_attribute ys) × AreAttributes ys in subst P e (refl, (tt, refl))
attributes-sound (p ∷ ps) xs h = go (is_special (codes "[") p) refl where
  go : (b : Bool) → is_special (codes "[") p ≡ b → (p ∷ ps ≡ bracketed spell_attribute xs) × AreAttributes xs
  go false e = let g = rw e at h in cc
  go true e =
      let g = gather-sound attribute_of spell_attribute IsAttribute attribute-sound ps [] ps in
      let k = attributes_before-sound (gather attribute_of ps [] ps).0 (gather attribute_of ps [] ps).1
      (left_out_in (gather attribute_of ps [] ps).0 (gather attribute_of ps [] ps).1) xs (rw e at h) in
      let same : g.more ≡ xs = sym g.is ∙ k.1 in
      let fits : left_out_in xs (right_bracket ∷ []) ≡ None =
      ap (λ x. left_out_in xs x) (sym k.2) ∙ ap (λ x. left_out_in x (gather attribute_of ps [] ps).1) (sym k.1) ∙ k.0 in (
        ap (λ x. x ∷ ps) (special-is (codes "[") p e)
            ∙ ap (λ x. left_bracket ∷ x) (g.left ∙ ap (λ x. each spell_attribute g.more ++ x) k.2 ∙ ap (λ x. each spell_attribute x ++ (right_bracket ∷ [])) same)
            ∙ sym (bracketed-is spell_attribute xs (subst NotEmpty k.1 k.3)),
        (subst (AllByRecursion IsAttribute) same g.fit, fits),
      )

pub attributes-complete : (xs : List Attribute) → AreAttributes xs → attributes_of (bracketed spell_attribute xs) ≡ Read xs
attributes-complete [] h = refl
attributes-complete (x ∷ xs) h =
    let g = gather-spelled attribute_of spell_attribute IsAttribute GoesOn attribute-complete (right_bracket ∷ []) refl refl attribute_some (x ∷ xs) h.0 in
    rw (g, h.1) refl
