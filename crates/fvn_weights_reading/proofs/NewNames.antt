-- No name is written twice exactly where each is new.
use Rattle.std.proofs.Common.{◌≡◌, ◌≢◌, ℕ, ◌+◌, ◌<◌, ◌≤◌, ◌↔◌, Bool, true, false, cond, List, [], ◌∷◌, ◌++◌, length, drop, get_or, Option, Some, None, refl, sym, ap, ◌∙◌, subst}
use Rattle.std.specs.Prelude.{is_some, if◌then◌else◌}
use Rattle.std.specs.List.{AllByRecursion, position_from}
use Rattle.std.specs.Str.{bytes_eq}
use Rattle.std.proofs.lemmas.List.{drop_more, drop_all}
use Rattle.fvn_syntax.specs.Pieces.{Text}
use Rattle.fvn_syntax.specs.Texts.{place, with_text, unless_at}
use Rattle.fvn_syntax.proofs.PieceLemmas.{bytes_eq-refl, bytes_eq-is}
use Rattle.fvn_weights_reading.specs.declared.entry.Entry.{Entry}
use Rattle.fvn_weights_reading.specs.Spelling.{AreOnce}
use Rattle.fvn_weights_reading.specs.inner.Steps.{are_new}

some-text : (o : Option ℕ) → is_some o ≡ false → o ≡ None
some-text None h = refl
some-text (Some i) h = cc

module _ (u t : Text) where
  -- a text has no place where one more stands at the end
  longer-none : (i : ℕ) (ts : List Text) → position_from (λ v. bytes_eq u v) i (ts ++ (t ∷ [])) ≡ None →
      (position_from (λ v. bytes_eq u v) i ts ≡ None) × (bytes_eq u t ≡ false)
  longer-none i [] h = go (bytes_eq u t) refl h where
    go : (b : Bool) → bytes_eq u t ≡ b → cond b (Some i) None ≡ None → (position_from (λ v. bytes_eq u v) i [] ≡ None) × (bytes_eq u t ≡ false)
    go true e f = (let g : Some i ≡ None = f in cc)
    go false e f = (refl, e)
  longer-none i (v ∷ ts) h = go (bytes_eq u v) refl (longer-none (i + 1) ts) h where
    go : (b : Bool) → bytes_eq u v ≡ b →
        (position_from (λ v. bytes_eq u v) (i + 1) (ts ++ (t ∷ [])) ≡ None → (position_from (λ v. bytes_eq u v) (i + 1) ts ≡ None) × (bytes_eq u t ≡ false)) →
        cond b (Some i) (position_from (λ v. bytes_eq u v) (i + 1) (ts ++ (t ∷ []))) ≡ None →
        (cond b (Some i) (position_from (λ v. bytes_eq u v) (i + 1) ts) ≡ None) × (bytes_eq u t ≡ false)
    go true e later f = (let g : Some i ≡ None = f in cc)
    go false e later f = later f

  none-longer : (i : ℕ) (ts : List Text) → position_from (λ v. bytes_eq u v) i ts ≡ None → bytes_eq u t ≡ false →
      position_from (λ v. bytes_eq u v) i (ts ++ (t ∷ [])) ≡ None
  none-longer i [] h e = ap (λ b. cond b (Some i) None) e
  none-longer i (v ∷ ts) h e = go (bytes_eq u v) (none-longer (i + 1) ts) h where
    go : (b : Bool) → (position_from (λ v. bytes_eq u v) (i + 1) ts ≡ None → bytes_eq u t ≡ false → position_from (λ v. bytes_eq u v) (i + 1) (ts ++ (t ∷ [])) ≡ None) →
        cond b (Some i) (position_from (λ v. bytes_eq u v) (i + 1) ts) ≡ None → cond b (Some i) (position_from (λ v. bytes_eq u v) (i + 1) (ts ++ (t ∷ []))) ≡ None
    go true later f = f
    go false later f = later f e

differ : (u t : Text) → bytes_eq u t ≡ false → u ≢ t
differ u t h e = (let g : true ≡ false = sym (bytes_eq-refl t) ∙ ap (λ v. bytes_eq v t) (sym e) ∙ h in cc)

other-text : (u t : Text) → u ≢ t → bytes_eq u t ≡ false
other-text u t n = go (bytes_eq u t) refl where
  go : (b : Bool) → bytes_eq u t ≡ b → b ≡ false
  go true e = absurd (n (bytes_eq-is u t e))
  go false e = refl

-- no name of these is among the texts
abbrev AreApart : List Text → List Entry → Type 0
AreApart ts es = AllByRecursion (λ e. place ts e.name ≡ None) es

apart-from : (ts : List Text) (t : Text) (es : List Entry) → AreApart (ts ++ (t ∷ [])) es → AreApart ts es × AllByRecursion (λ f. f.name ≢ t) es
apart-from ts t [] a = (tt, tt)
apart-from ts t (e ∷ es) a =
    let g = longer-none e.name t 0 ts a.0 in
    let k = apart-from ts t es a.1 in
    ((g.0, k.0), (differ e.name t g.1, k.1))

apart-more : (ts : List Text) (t : Text) (es : List Entry) → AreApart ts es → AllByRecursion (λ f. f.name ≢ t) es → AreApart (ts ++ (t ∷ [])) es
apart-more ts t [] a b = tt
apart-more ts t (e ∷ es) a b = (none-longer e.name t 0 ts a.0 (other-text e.name t b.0), apart-more ts t es a.1 b.1)

-- a new name, and then the others
new-step : (ts : List Text) (e : Entry) (es : List Entry) → place ts e.name ≡ None → are_new ts (e ∷ es) ≡ are_new (ts ++ (e.name ∷ [])) es
new-step ts e es n =
    ap (λ o. if is_some o then false else are_new (with_text ts e.name) es) n
    ∙ ap (λ o. are_new (unless_at ts e.name o) es) n

old-step : (ts : List Text) (e : Entry) (es : List Entry) (i : ℕ) → place ts e.name ≡ Some i → are_new ts (e ∷ es) ≡ false
old-step ts e es i s = ap (λ o. if is_some o then false else are_new (with_text ts e.name) es) s

new-once : (ts : List Text) (es : List Entry) → are_new ts es ≡ true → AreApart ts es × AreOnce es
new-once ts [] h = (tt, tt)
new-once ts (e ∷ es) h = go (place ts e.name) refl (new-once (ts ++ (e.name ∷ [])) es) where
  go : (o : Option ℕ) → place ts e.name ≡ o → (are_new (ts ++ (e.name ∷ [])) es ≡ true → AreApart (ts ++ (e.name ∷ [])) es × AreOnce es) → AreApart ts (e ∷ es) × AreOnce (e ∷ es)
  go None n later =
      let r = later (sym (new-step ts e es n) ∙ h) in
      let a = apart-from ts e.name es r.0 in
      ((n, a.0), (a.1, r.1))
  go (Some i) s later = (let g : false ≡ true = sym (old-step ts e es i s) ∙ h in cc)

once-new : (ts : List Text) (es : List Entry) → AreApart ts es → AreOnce es → are_new ts es ≡ true
once-new ts [] a o = refl
once-new ts (e ∷ es) a o = new-step ts e es a.0 ∙ once-new (ts ++ (e.name ∷ [])) es (apart-more ts e.name es a.1 o.0) o.1

apart-nil : (es : List Entry) → AreApart [] es
apart-nil [] = tt
apart-nil (e ∷ es) = (refl, apart-nil es)

pub new-is-once : (es : List Entry) → are_new [] es ≡ true → AreOnce es
new-is-once es h = (new-once [] es h).1

pub not-once : (es : List Entry) → are_new [] es ≡ false → AreOnce es → ⊥
not-once es h o = (let g : true ≡ false = sym (once-new [] es (apart-nil es) o) ∙ h in cc)

-- the entries from a place on

module _ (list : List Entry) (i : ℕ) (e : Entry) (within : i < length list) (is : get_or list i e ≡ e) (texts : List Text) where
  at : are_new texts (drop i list) ≡ are_new texts (e ∷ drop (i + 1) list)
  at = ap (are_new texts) (drop_more list i e within ∙ ap (λ x. x ∷ drop (i + 1) list) is)

  pub one-new : is_some (place texts e.name) ≡ false → (after : List Text) → after ≡ with_text texts e.name → are_new texts (drop i list) ≡ are_new after (drop (i + 1) list)
  one-new n after a =
      let none = some-text (place texts e.name) n in
      at ∙ new-step texts e (drop (i + 1) list) none ∙ ap (λ ts. are_new ts (drop (i + 1) list)) (sym (a ∙ ap (unless_at texts e.name) none))

  pub one-old : is_some (place texts e.name) ≡ true → are_new texts (drop i list) ≡ false
  one-old s = at ∙ ap (λ b. if b then false else are_new (with_text texts e.name) (drop (i + 1) list)) s

pub all-new : (list : List Entry) (i : ℕ) (texts : List Text) → length list ≤ i → are_new texts (drop i list) ≡ true
all-new list i texts l = ap (are_new texts) (drop_all i list l)
