-- Places in lists of texts that grow.
use Rattle.std.proofs.Common.{◌≡◌, ℕ, ◌+◌, ◌≤◌, max, Bool, true, false, List, [], ◌∷◌, ◌++◌, length, Option, Some, None, refl, sym, ap, ◌∙◌, arith}
use Rattle.std.specs.List.{position_from}
use Rattle.std.specs.Str.{bytes_eq}
use Rattle.std.proofs.lemmas.List.{length_push, append-nil, append_assoc}
use Rattle.std.proofs.lemmas.Slice.Eq.{bytes_eq-Decides}
use Rattle.fvn_syntax.specs.Pieces.{Text}
use Rattle.fvn_syntax.specs.Texts.{place, or_end, place_or_end, unless_at, with_text}
use Rattle.fvn_syntax.proofs.TextLemmas.{place-below}
use Rattle.fvn_module_syntax.specs.declared.statement.Statement.{Statement}
use Rattle.fvn_module_names.specs.Names.{with_texts, with_names}

-- a text that is put in has a place among the others or comes next
pub length-with_text : (texts : List Text) (w : Text) → (place_or_end texts w ≤ length texts) × (length (with_text texts w) ≡ max (length texts) (place_or_end texts w + 1))
length-with_text texts w = go (place texts w) refl where
  go : (o : Option ℕ) → place texts w ≡ o → (or_end texts o ≤ length texts) × (length (unless_at texts w o) ≡ max (length texts) (or_end texts o + 1))
  go None e = (omega arith, length_push texts w ∙ omega arith)
  go (Some i) e = let l = place-below texts w i e in (omega arith, omega arith)

pub grown-text : (texts : List Text) (w : Text) → length texts ≤ length (with_text texts w)
grown-text texts w = let e = (length-with_text texts w).1 in omega arith

pub grown-texts : (texts ws : List Text) → length texts ≤ length (with_texts texts ws)
grown-texts texts [] = omega arith
grown-texts texts (w ∷ ws) = let a = grown-text texts w in let b = grown-texts (with_text texts w) ws in omega arith

pub grown-names : (names : Statement → List Text) (texts : List Text) (sts : List Statement) → length texts ≤ length (with_names names texts sts)
grown-names names texts [] = omega arith
grown-names names texts (st ∷ sts) = let a = grown-texts texts (names st) in let b = grown-names names (with_texts texts (names st)) sts in omega arith

-- What is put in stays in front.

pub begins-text : (texts : List Text) (w : Text) → (rest : List Text) × (with_text texts w ≡ texts ++ rest)
begins-text texts w = go (place texts w) where
  go : (o : Option ℕ) → (rest : List Text) × (unless_at texts w o ≡ texts ++ rest)
  go None = (w ∷ [], refl)
  go (Some i) = ([], sym (append-nil texts))

pub begins-texts : (texts ws : List Text) → (rest : List Text) × (with_texts texts ws ≡ texts ++ rest)
begins-texts texts [] = ([], sym (append-nil texts))
begins-texts texts (w ∷ ws) =
    let a = begins-text texts w in
    let b = begins-texts (with_text texts w) ws in
    (a.0 ++ b.0, b.1 ∙ ap (λ ts. ts ++ b.0) a.1 ∙ append_assoc texts a.0 b.0)

pub begins-names : (names : Statement → List Text) (texts : List Text) (sts : List Statement) → (rest : List Text) × (with_names names texts sts ≡ texts ++ rest)
begins-names names texts [] = ([], sym (append-nil texts))
begins-names names texts (st ∷ sts) =
    let a = begins-texts texts (names st) in
    let b = begins-names names (with_texts texts (names st)) sts in
    (a.0 ++ b.0, b.1 ∙ ap (λ ts. ts ++ b.0) a.1 ∙ append_assoc texts a.0 b.0)

-- A place in the front of a list is one in the list.

position-front : (p : Text → Bool) (i k : ℕ) (xs ys : List Text) → position_from p i xs ≡ Some k → position_from p i (xs ++ ys) ≡ Some k
position-front p i k [] ys e = cc
position-front p i k (x ∷ xs) ys e = go (p x) refl (position-front p (i + 1) k xs ys) where
  go : (b : Bool) → p x ≡ b → (position_from p (i + 1) xs ≡ Some k → position_from p (i + 1) (xs ++ ys) ≡ Some k) → position_from p i (x ∷ (xs ++ ys)) ≡ Some k
  go true h later = rw h (rw h at e)
  go false h later = rw h (later (rw h at e))

position-next : (p : Text → Bool) (i : ℕ) (xs ys : List Text) (w : Text) → p w ≡ true → position_from p i xs ≡ None → position_from p i (xs ++ w ∷ ys) ≡ Some (i + length xs)
position-next p i [] ys w h e = rw h (ap Some (omega arith))
position-next p i (x ∷ xs) ys w h e = go (p x) refl (position-next p (i + 1) xs ys w h) where
  go : (b : Bool) → p x ≡ b → (position_from p (i + 1) xs ≡ None → position_from p (i + 1) (xs ++ w ∷ ys) ≡ Some ((i + 1) + length xs)) → position_from p i (x ∷ (xs ++ w ∷ ys)) ≡ Some (i + length (x ∷ xs))
  go true k later = let none : Some i ≡ None = rw k at e in cc
  go false k later = rw k (later (rw k at e) ∙ ap Some (omega arith))

-- the place at which a text is put in is its place in all that begins so
pub placed : (texts all rest : List Text) (w : Text) → all ≡ with_text texts w ++ rest → place_or_end texts w ≡ place_or_end all w
placed texts all rest w e = go (place texts w) refl where
  at : (i : ℕ) → place (with_text texts w ++ rest) w ≡ Some i → i ≡ place_or_end all w
  at i p = sym (ap (or_end all) (ap (λ ts. place ts w) e ∙ p))

  go : (o : Option ℕ) → place texts w ≡ o → or_end texts o ≡ place_or_end all w
  go None p = at (length texts) (ap (λ ts. place (ts ++ rest) w) (ap (unless_at texts w) p) ∙ ap (λ ts. place ts w) (append_assoc texts (w ∷ []) rest)
      ∙ position-next (bytes_eq w) 0 texts rest w ((bytes_eq-Decides w w).1 refl) p ∙ ap Some (omega arith))
  go (Some i) p = at i (ap (λ ts. place (ts ++ rest) w) (ap (unless_at texts w) p) ∙ position-front (bytes_eq w) 0 i texts rest p)
