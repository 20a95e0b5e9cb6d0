-- The readers of variables and of operators' names find exactly what is spelled.
use Rattle.std.proofs.Common.{◌≡◌, ℕ, ◌≤◌, ◌==◌, Bool, true, false, not, ◌&&◌, List, [], ◌∷◌, ◌++◌, length, Option, Some, None, refl, sym, ap, ◌∙◌, subst, append_assoc, arith}
use Rattle.std.specs.Prelude.{codes}
use Rattle.std.specs.Str.{bytes_eq}
use Rattle.std.proofs.lemmas.List.{append-nil}
use Rattle.fvn_lex.specs.Cut.{Piece}
use Rattle.fvn_syntax.specs.Pieces.{Text, word, left_paren, right_paren, is_word, is_name, is_special}
use Rattle.fvn_syntax.specs.declared.sorts.RawSort.{RawSort}
use Rattle.fvn_syntax.specs.declared.sorts.RawSort.TheVariants.{Name, Kind}
use Rattle.fvn_syntax.specs.Raw.{spell_sort}
use Rattle.fvn_syntax.proofs.PieceLemmas.{bytes_eq-refl, and-left, and-right, word-is, name-is, special-is}
use Rattle.fvn_module_syntax.specs.declared.statement.OperatorName.{OperatorName}
use Rattle.fvn_module_syntax.specs.declared.statement.OperatorName.TheVariants.{Single, Round}
use Rattle.fvn_module_syntax.specs.Spelling.{spell_word, words, colon, spell_name}
use Rattle.fvn_module_syntax.specs.Written.{NotEmpty, NoColons, IsBalanced, IsName}
use Rattle.fvn_module_statements.specs.inner.Gather.{bind, gather}
use Rattle.fvn_module_statements.specs.inner.Sorts.{sort_of}
use Rattle.fvn_module_statements.specs.inner.Attributes.{is_some}
use Rattle.fvn_module_statements.specs.inner.Names.{is_empty, alone, whole_sort, declared_sort, is_none, variable_of, variables_of, split_colon, before_close, round_name, name_of}
use Rattle.fvn_module_syntax.specs.Words.{depth_behind}
use Rattle.fvn_module_statements.proofs.Unequal.{bytes_eq-not}
use Rattle.fvn_module_statements.proofs.GatherExact.{gather-sound, gather-spelled}
use Rattle.fvn_module_statements.proofs.SortExact.{Any, all_any, sort-sound, sort-complete}
use Rattle.fvn_module_statements.proofs.AttributeExact.{some-is}
use Rattle.fvn_module_statements.proofs.NamesExact.{not-true, word_some, is_some-of, empty-is}

-- variables
alone-sound : (o : Option (RawSort × List Piece)) (s : RawSort) → alone o ≡ Some s → o ≡ Some (s, [])
alone-sound None s h = cc
alone-sound (Some r) s h = go (is_empty r.1) refl where
  go : (b : Bool) → is_empty r.1 ≡ b → Some r ≡ Some (s, [])
  go false e = let g = rw e at h in cc
  go true e =
      let g : Some (r.0) ≡ Some s = rw e at h in
      let i : r.0 ≡ s = cc in
      let pair : RawSort → List Piece → RawSort × List Piece = λ x y. (x, y) in
      let j : r ≡ (s, []) = ap (λ x. pair x r.1) i ∙ ap (pair s) (empty-is r.1 e) in
      ap Some j

whole_sort-sound : (ps : List Piece) (s : RawSort) → whole_sort ps ≡ Some s → ps ≡ spell_sort s
whole_sort-sound ps s h = sort-sound ps (s, []) (alone-sound (sort_of ps) s h) ∙ append-nil (spell_sort s)

whole_sort-complete : (s : RawSort) → whole_sort (spell_sort s) ≡ Some s
whole_sort-complete s =
    let g : sort_of (spell_sort s) ≡ Some (s, []) = rw (append-nil (spell_sort s)) at (sort-complete s []) in
    rw g refl

declared_sort-sound : (ps : List Piece) (s : RawSort) → declared_sort ps ≡ Some s → ps ≡ colon ∷ spell_sort s
declared_sort-sound [] s h = cc
declared_sort-sound (p ∷ ps) s h = go (is_name (codes ":") p) refl where
  go : (b : Bool) → is_name (codes ":") p ≡ b → p ∷ ps ≡ colon ∷ spell_sort s
  go false e = let g = rw e at h in cc
  go true e = ap (λ x. x ∷ ps) (name-is (codes ":") p e) ∙ ap (λ x. colon ∷ x) (whole_sort-sound ps s (rw e at h))

variable-sound : (ps : List Piece) (r : Text × List Piece) → variable_of ps ≡ Some r → (ps ≡ spell_word r.0 ++ r.1) × Any r.0
variable-sound [] r h = cc
variable-sound (p ∷ ps) r h = go (is_word p && is_none (declared_sort (p ∷ ps))) refl where
  go : (b : Bool) → is_word p && is_none (declared_sort (p ∷ ps)) ≡ b → (p ∷ ps ≡ spell_word r.0 ++ r.1) × Any r.0
  go false e = let g = rw e at h in cc
  go true e =
      let g : Some (p.text, ps) ≡ Some r = rw e at h in
      let i : (p.text, ps) ≡ r = cc in
      (ap (λ x. x ∷ ps) (word-is p (and-left (is_word p) (is_none (declared_sort (p ∷ ps))) e)) ∙ ap (λ (x : Text × List Piece). word x.0 ∷ x.1) i, tt)

-- a word and something behind it, which is no sort alone
abbrev VariableEnds : List Piece → Type 0
VariableEnds [] = ⊥
VariableEnds (p ∷ []) = ⊥
VariableEnds (p ∷ q ∷ ps) = (w : Text) × (p ≡ word w)

no_sort : (qs : List Piece) → VariableEnds qs → whole_sort qs ≡ None
no_sort [] e = absurd e
no_sort (p ∷ []) e = absurd e
no_sort (p ∷ q ∷ ps) e = ap (λ x. whole_sort (x ∷ q ∷ ps)) e.1

variable-complete : (w : Text) (qs : List Piece) → Unit {0} → VariableEnds qs →
    (variable_of (spell_word w ++ qs) ≡ Some (w, qs)) × VariableEnds (spell_word w ++ qs)
variable-complete w [] u e = absurd e
variable-complete w (p ∷ []) u e = absurd e
variable-complete w (p ∷ q ∷ ps) u e = (go (bytes_eq w (codes ":")) refl, (w, refl)) where
  go : (b : Bool) → bytes_eq w (codes ":") ≡ b → variable_of (word w ∷ p ∷ q ∷ ps) ≡ Some (w, p ∷ q ∷ ps)
  go false f = rw f refl
  go true f = rw (f, no_sort (p ∷ q ∷ ps) e) refl

ends_before_sort : (s : RawSort) → VariableEnds (colon ∷ spell_sort s)
ends_before_sort (Name s) = (codes ":", refl)
ends_before_sort (Kind s ss) = (codes ":", refl)

pub variables-sound : (ps : List Piece) (r : List Text × RawSort) → variables_of ps ≡ Some r → (ps ≡ words r.0 ++ (colon ∷ spell_sort r.1)) × NotEmpty r.0
variables-sound ps r h = go (declared_sort (gather variable_of ps [] ps).1) refl where
  inner : (s : RawSort) → declared_sort (gather variable_of ps [] ps).1 ≡ Some s → (b : Bool) → is_some (gather variable_of ps [] ps).0 ≡ b →
      (ps ≡ words r.0 ++ (colon ∷ spell_sort r.1)) × NotEmpty r.0
  inner s e false f = let g = rw (e, f) at h in cc
  inner s e true f =
      let g : Some ((gather variable_of ps [] ps).0, s) ≡ Some r = rw (e, f) at h in
      let i : ((gather variable_of ps [] ps).0, s) ≡ r = cc in
      let a = gather-sound variable_of spell_word Any variable-sound ps [] ps in
      let P : List Text × RawSort → Type 0 = λ x. (ps ≡ words x.0 ++ (colon ∷ spell_sort x.1)) × NotEmpty x.0 in
      subst P i (
        a.left ∙ ap (λ x. words a.more ++ x) (declared_sort-sound (gather variable_of ps [] ps).1 s e)
            ∙ ap (λ x. words x ++ (colon ∷ spell_sort s)) (sym a.is),
        some-is (gather variable_of ps [] ps).0 f,
      )

  go : (o : Option RawSort) → declared_sort (gather variable_of ps [] ps).1 ≡ o → (ps ≡ words r.0 ++ (colon ∷ spell_sort r.1)) × NotEmpty r.0
  go None e = let g = rw e at h in cc
  go (Some s) e = inner s e (is_some (gather variable_of ps [] ps).0) refl

pub variables-complete : (names : List Text) (s : RawSort) → NotEmpty names → variables_of (words names ++ (colon ∷ spell_sort s)) ≡ Some (names, s)
variables-complete names s some =
    let stops : variable_of (colon ∷ spell_sort s) ≡ None = rw (whole_sort-complete s) refl in
    let g = gather-spelled variable_of spell_word Any VariableEnds variable-complete (colon ∷ spell_sort s) (ends_before_sort s) stops word_some names (all_any names) in
    rw (g, whole_sort-complete s, is_some-of names some) refl

-- what stands before a colon
pub split_colon-sound : (ps a b : List Piece) → split_colon ps ≡ Some (a, b) → (ps ≡ a ++ (colon ∷ b)) × NoColons a
split_colon-sound [] a b h = cc
split_colon-sound (p ∷ ps) a b h = go (is_name (codes ":") p) (split_colon ps) refl refl (split_colon-sound ps) where
  go : (c : Bool) (o : Option (List Piece × List Piece)) → is_name (codes ":") p ≡ c → split_colon ps ≡ o →
      ((x y : List Piece) → split_colon ps ≡ Some (x, y) → (ps ≡ x ++ (colon ∷ y)) × NoColons x) → (p ∷ ps ≡ a ++ (colon ∷ b)) × NoColons a
  go true o e f later =
      let g : Some ([], ps) ≡ Some (a, b) = rw e at h in
      let i : ([], ps) ≡ (a, b) = cc in
      let Q : List Piece × List Piece → Type 0 = λ x. (p ∷ ps ≡ x.0 ++ (colon ∷ x.1)) × NoColons x.0 in
      subst Q i (ap (λ x. x ∷ ps) (name-is (codes ":") p e), tt)
  go false None e f later = let g = rw (e, f) at h in cc
  go false (Some r) e f later =
      let g : Some (p ∷ r.0, r.1) ≡ Some (a, b) = rw (e, f) at h in
      let i : (p ∷ r.0, r.1) ≡ (a, b) = cc in
      let k = later r.0 r.1 f in
      let Q : List Piece × List Piece → Type 0 = λ x. (p ∷ ps ≡ x.0 ++ (colon ∷ x.1)) × NoColons x.0 in
      subst Q i (ap (λ x. p ∷ x) k.0, (e, k.1))

pub split_colon-complete : (a b : List Piece) → NoColons a → split_colon (a ++ (colon ∷ b)) ≡ Some (a, b)
split_colon-complete [] b h = refl
split_colon-complete (p ∷ a) b h = rw (h.0, split_colon-complete a b h.1) refl

-- names in parentheses
before_close-sound : (n : ℕ) (ps a b : List Piece) → before_close n ps ≡ Some (a, b) → (ps ≡ a ++ (right_paren ∷ b)) × IsBalanced n a
before_close-sound n [] a b h = cc
before_close-sound n (p ∷ ps) a b h =
    go (is_name (codes ":") p) (is_special (codes ")") p && (n == 0)) (before_close (depth_behind n p) ps) refl refl refl
    (before_close-sound (depth_behind n p) ps) where
      go : (c d : Bool) (o : Option (List Piece × List Piece)) → is_name (codes ":") p ≡ c → is_special (codes ")") p && (n == 0) ≡ d →
          before_close (depth_behind n p) ps ≡ o →
          ((x y : List Piece) → before_close (depth_behind n p) ps ≡ Some (x, y) → (ps ≡ x ++ (right_paren ∷ y)) × IsBalanced (depth_behind n p) x) →
          (p ∷ ps ≡ a ++ (right_paren ∷ b)) × IsBalanced n a
      go true d o e f g later = let k = rw e at h in cc
      go false true o e f g later =
          let k : Some ([], ps) ≡ Some (a, b) = rw (e, f) at h in
          let i : ([], ps) ≡ (a, b) = cc in
          let Q : List Piece × List Piece → Type 0 = λ x. (p ∷ ps ≡ x.0 ++ (right_paren ∷ x.1)) × IsBalanced n x.0 in
          subst Q i (ap (λ x. x ∷ ps) (special-is (codes ")") p (and-left (is_special (codes ")") p) (n == 0) f)), and-right (is_special (codes ")") p) (n == 0) f)
      go false false None e f g later = let k = rw (e, f, g) at h in cc
      go false false (Some r) e f g later =
          let k : Some (p ∷ r.0, r.1) ≡ Some (a, b) = rw (e, f, g) at h in
          let i : (p ∷ r.0, r.1) ≡ (a, b) = cc in
          let j = later r.0 r.1 g in
          let Q : List Piece × List Piece → Type 0 = λ x. (p ∷ ps ≡ x.0 ++ (right_paren ∷ x.1)) × IsBalanced n x.0 in
          subst Q i (ap (λ x. p ∷ x) j.0, (e, f, j.1))

before_close-complete : (n : ℕ) (a b : List Piece) → IsBalanced n a → before_close n (a ++ (right_paren ∷ b)) ≡ Some (a, b)
before_close-complete n [] b h = rw h refl
before_close-complete n (p ∷ a) b h = rw (h.0, h.1, before_close-complete (depth_behind n p) a b h.2) refl

round-complete : (qs ps : List Piece) → NotEmpty qs → round_name qs ps ≡ Some (Round qs, ps)
round-complete [] ps h = absurd h
round-complete (q ∷ qs) ps h = refl

round-sound : (qs ps : List Piece) (r : OperatorName × List Piece) → round_name qs ps ≡ Some r → ((Round qs, ps) ≡ r) × NotEmpty qs
round-sound [] ps r h = cc
round-sound (q ∷ qs) ps r h = (cc, tt)

pub name-sound : (ps : List Piece) (r : OperatorName × List Piece) → name_of ps ≡ Some r → (ps ≡ spell_name r.0 ++ r.1) × IsName r.0
name-sound [] r h = cc
name-sound (p ∷ ps) r h = go (is_special (codes "(") p) refl where
  closed : is_special (codes "(") p ≡ true → (o : Option (List Piece × List Piece)) → before_close 0 ps ≡ o → bind o (λ x. round_name x.0 x.1) ≡ Some r →
      (p ∷ ps ≡ spell_name r.0 ++ r.1) × IsName r.0
  closed e None f k = cc
  closed e (Some x) f k =
      let s = round-sound x.0 x.1 r k in
      let b = before_close-sound 0 ps x.0 x.1 f in
      let Q : OperatorName × List Piece → Type 0 = λ y. (p ∷ ps ≡ spell_name y.0 ++ y.1) × IsName y.0 in
      subst Q s.0 (
        ap (λ y. y ∷ ps) (special-is (codes "(") p e) ∙ ap (λ y. left_paren ∷ y) (b.0 ∙ sym (append_assoc x.0 (right_paren ∷ []) x.1)),
        (s.1, b.1),
      )

  plain : is_special (codes "(") p ≡ false → (c : Bool) → is_word p && not (is_name (codes ":") p) ≡ c → (p ∷ ps ≡ spell_name r.0 ++ r.1) × IsName r.0
  plain e false f = let g = rw (e, f) at h in cc
  plain e true f =
      let g : Some (Single p.text, ps) ≡ Some r = rw (e, f) at h in
      let i : (Single p.text, ps) ≡ r = cc in
      let is = word-is p (and-left (is_word p) (not (is_name (codes ":") p)) f) in
      let n = not-true (is_name (codes ":") p) (and-right (is_word p) (not (is_name (codes ":") p)) f) in
      let Q : OperatorName × List Piece → Type 0 = λ y. (p ∷ ps ≡ spell_name y.0 ++ y.1) × IsName y.0 in
      subst Q i
      (ap (λ x. x ∷ ps) is, λ same. let k : is_name (codes ":") p ≡ true = ap (is_name (codes ":")) (is ∙ ap word same) ∙ bytes_eq-refl (codes ":") in cc)

  go : (b : Bool) → is_special (codes "(") p ≡ b → (p ∷ ps ≡ spell_name r.0 ++ r.1) × IsName r.0
  go true e = closed e (before_close 0 ps) refl (rw e at h)
  go false e = plain e (is_word p && not (is_name (codes ":") p)) refl

pub name-complete : (x : OperatorName) (qs : List Piece) → IsName x → Unit {0} → (name_of (spell_name x ++ qs) ≡ Some (x, qs)) × Unit {0}
name-complete (Single w) qs h u = (rw (bytes_eq-not w (codes ":") h) refl, tt)
name-complete (Round ps) qs h u =
    (rw (append_assoc ps (right_paren ∷ []) qs, before_close-complete 0 ps qs h.1) (round-complete ps qs h.0), tt)

pub name_some : (x : OperatorName) → 1 ≤ length (spell_name x)
name_some (Single w) = omega arith
name_some (Round ps) = omega arith
