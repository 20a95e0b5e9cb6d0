-- Which equations are left out.
use Rattle.std.proofs.Common.{◌≡◌, ◌≢◌, ◌⊎◌, inl, inr, Bool, true, false, ◌&&◌, not, List, [], ◌∷◌, ◌++◌, None, refl, sym, ap, ◌∙◌, subst, arith}
use Rattle.std.proofs.Math.Bool.{and-false}
use Rattle.std.specs.Prelude.{codes}
use Rattle.std.specs.List.{AllByRecursion, list_any, Contains}
use Rattle.fvn_base.proofs.Membership.{contains_none, contains_cases}
use Rattle.fvn_lex.specs.Cut.{Piece}
use Rattle.fvn_syntax.specs.Pieces.{Text, word, left_bracket, right_bracket, is_word, is_name, is_special}
use Rattle.fvn_syntax.proofs.PieceLemmas.{and-left, and-right, word-is, special-is, name-word}
use Rattle.fvn_module_syntax.specs.declared.statement.Mark.{Mark}
use Rattle.fvn_module_syntax.specs.declared.statement.Mark.TheVariants.{Variant, Label}
use Rattle.fvn_module_syntax.specs.declared.statement.Feature.{Feature}
use Rattle.fvn_module_syntax.specs.declared.statement.Feature.TheVariants as feature
use Rattle.fvn_module_syntax.specs.declared.statement.Statement.{Statement}
use Rattle.fvn_module_syntax.specs.declared.statement.Statement.TheVariants as statement
use Rattle.fvn_module_statements.specs.declared.outcome.Reading.{Reading}
use Rattle.fvn_module_statements.specs.declared.outcome.Reading.TheVariants.{Read, LeftOut, NoForm}
use Rattle.fvn_module_syntax.specs.Spelling.{each, spell_mark, bracketed, equals, spell_label}
use Rattle.fvn_module_syntax.specs.Words.{HasNo}
use Rattle.fvn_module_syntax.specs.Written.{NotEmpty}
use Rattle.fvn_module_statements.specs.LeftOut.{BeginsNone, mark_words, StandsBehind, HasSidesBefore, NamesNoVariant, IsLeftOutEquation}
use Rattle.fvn_module_statements.specs.inner.Gather.{map_reading, gather}
use Rattle.fvn_module_statements.specs.inner.Attributes.{is_some, is_close}
use Rattle.fvn_module_statements.specs.inner.Equations.{mark_of, is_variant, left_out_at_mark, left_out_or_none, marks_before, marks_of, equation_of, unless_unnamed}
use Rattle.fvn_module_statements.proofs.Unequal.{bytes_eq-not}
use Rattle.fvn_module_statements.proofs.GatherExact.{gather-sound, gather-stops, gather-spelled}
use Rattle.fvn_module_statements.proofs.SortExact.{Any, all_any}
use Rattle.fvn_module_statements.proofs.AttributeExact.{close-is, some-is, bracketed-is}
use Rattle.fvn_module_statements.proofs.EquationExact.{mark-sound, mark-complete, mark_some, marks-sound, in-variant, variant-in, Sided, sides-read, sided}

-- where an attribute is read, one is
not_stopped : (w : Text) (ps : List Piece) → mark_of (word w ∷ ps) ≡ None → w ≢ codes "variant"
not_stopped w ps h e =
    let g : mark_of (word (codes "variant") ∷ ps) ≡ None = ap (λ x. mark_of (word x ∷ ps)) (sym e) ∙ h in cc

not_label : (w : Text) → is_name (codes "label") (word w) ≡ false → w ≢ codes "label"
not_label w h e = let g : true ≡ false = sym (name-word (codes "label")) ∙ ap (λ x. is_name (codes "label") (word x)) (sym e) ∙ h in cc

begins_none : (ps : List Piece) (f : Feature) → mark_of ps ≡ None → left_out_or_none (left_out_at_mark ps) ≡ LeftOut f → (f ≡ feature.Attribute) × BeginsNone mark_words ps
begins_none [] f stops h = cc
begins_none (p ∷ ps) f stops h = go (is_word p && not (is_name (codes "label") p)) refl where
  go : (b : Bool) → is_word p && not (is_name (codes "label") p) ≡ b → (f ≡ feature.Attribute) × BeginsNone mark_words (p ∷ ps)
  go false e = let g = rw e at h in cc
  go true e =
      let g : LeftOut feature.Attribute ≡ LeftOut f = rw e at h in
      let w = word-is p (and-left (is_word p) (not (is_name (codes "label") p)) e) in
      let other : is_name (codes "label") p ≡ false = unlike (is_name (codes "label") p) (and-right (is_word p) (not (is_name (codes "label") p)) e) in
      let variant = not_stopped p.text ps (ap (λ x. mark_of (x ∷ ps)) (sym w) ∙ stops) in
      let label = not_label p.text (ap (is_name (codes "label")) (sym w) ∙ other) in
      (cc, record { first = p.text; tail = ps; is = ap (λ x. x ∷ ps) w; other = (variant, (label, tt)) })
    where
      unlike : (b : Bool) → not b ≡ true → b ≡ false
      unlike true k = cc
      unlike false k = refl

-- the two ways in which attributes are left out
abbrev IsOut : Feature → List Mark → List Piece → Type 0
IsOut f xs ps =
    ((f ≡ feature.Equation) × (ps ≡ right_bracket ∷ []) × NotEmpty xs × (list_any is_variant xs ≡ false))
    ⊎ ((f ≡ feature.Attribute) × BeginsNone mark_words ps)

marks_before-out : (xs : List Mark) (ps : List Piece) (f : Feature) → mark_of ps ≡ None → marks_before xs ps ≡ LeftOut f → IsOut f xs ps
marks_before-out xs ps f stops h = go (is_some xs && is_close ps) (list_any is_variant xs) refl refl where
  go : (b c : Bool) → is_some xs && is_close ps ≡ b → list_any is_variant xs ≡ c → IsOut f xs ps
  go false c e k = inr (begins_none ps f stops (rw e at h))
  go true true e k = let g = rw (e, k) at h in cc
  go true false e k =
      let g : LeftOut feature.Equation ≡ LeftOut f = rw (e, k) at h in
      inl (cc, close-is ps (and-right (is_some xs) (is_close ps) e), some-is xs (and-left (is_some xs) (is_close ps) e), k)

lacks : (xs : List Mark) → list_any is_variant xs ≡ false → Contains xs Variant → ⊥
lacks xs h i = let g : true ≡ false = sym (in-variant xs i) ∙ h in cc

marks-out : (ps : List Piece) (f : Feature) → marks_of ps ≡ LeftOut f → StandsBehind f ps
marks-out [] f h =
    let g : LeftOut feature.Equation ≡ LeftOut f = h in
    let i : feature.Equation ≡ f = cc in
    subst (λ x. StandsBehind x []) i ([], refl, contains_none Variant)
marks-out (p ∷ ps) f h = go (is_special (codes "[") p) refl where
  out : is_special (codes "[") p ≡ true → (xs : List Mark) → ps ≡ each spell_mark xs ++ (gather mark_of ps [] ps).1 →
      IsOut f xs (gather mark_of ps [] ps).1 → StandsBehind f (p ∷ ps)
  out e xs is (inl o) =
      let spelled : p ∷ ps ≡ bracketed spell_mark xs =
      ap (λ x. x ∷ ps) (special-is (codes "[") p e) ∙ ap (λ x. left_bracket ∷ x) (is ∙ ap (λ x. each spell_mark xs ++ x) o.1)
      ∙ sym (bracketed-is spell_mark xs o.2) in
      subst (λ x. StandsBehind x (p ∷ ps)) (sym o.0) (xs, spelled, lacks xs o.3)
  out e xs is (inr o) =
      let spelled = ap (λ x. x ∷ ps) (special-is (codes "[") p e) ∙ ap (λ x. left_bracket ∷ x) is in
      subst (λ x. StandsBehind x (p ∷ ps)) (sym o.0) (xs, (gather mark_of ps [] ps).1, spelled, o.1)

  go : (b : Bool) → is_special (codes "[") p ≡ b → StandsBehind f (p ∷ ps)
  go false e = let g = rw e at h in cc
  go true e =
      let g = gather-sound mark_of spell_mark Any mark-sound ps [] ps in
      let stops = gather-stops mark_of spell_mark Any mark-sound mark_some refl ps [] ps (omega arith) in
      let o = marks_before-out (gather mark_of ps [] ps).0 (gather mark_of ps [] ps).1 f stops (rw e at h) in
      out e g.more g.left (subst (λ x. IsOut f x (gather mark_of ps [] ps).1) g.is o)

-- what is left behind attributes that lack `variant`
unmarked : (xs : List Mark) → (Contains xs Variant → ⊥) → list_any is_variant xs ≡ false
unmarked xs without = go (list_any is_variant xs) refl where
  go : (b : Bool) → list_any is_variant xs ≡ b → list_any is_variant xs ≡ false
  go true e = absurd (without (variant-in xs e))
  go false e = e

lacking : (xs : List Mark) → (Contains xs Variant → ⊥) → marks_of (bracketed spell_mark xs) ≡ LeftOut feature.Equation
lacking [] without = refl
lacking (x ∷ xs) without =
    let g = gather-spelled mark_of spell_mark Any Any mark-complete (right_bracket ∷ []) tt refl mark_some (x ∷ xs) (all_any (x ∷ xs)) in
    rw (g, unmarked (x ∷ xs) without) refl

not_close : (w : Text) (ps : List Piece) → is_close (word w ∷ ps) ≡ false
not_close w [] = refl
not_close w (q ∷ ps) = refl

unknown : (xs : List Mark) (w : Text) (ps : List Piece) → w ≢ codes "variant" → w ≢ codes "label" →
    marks_of (left_bracket ∷ each spell_mark xs ++ (word w ∷ ps)) ≡ LeftOut feature.Attribute
unknown xs w ps variant label =
    let v = bytes_eq-not w (codes "variant") variant in
    let l = bytes_eq-not w (codes "label") label in
    let stops : mark_of (word w ∷ ps) ≡ None = rw (v, l) refl in
    let g = gather-spelled mark_of spell_mark Any Any mark-complete (word w ∷ ps) tt stops mark_some xs (all_any xs) in
    rw (g, not_close w ps, and-false (is_some xs), l) refl

out-marks : (ps : List Piece) (f : Feature) → StandsBehind f ps → marks_of ps ≡ LeftOut f
out-marks ps feature.Equation (xs, is, without) = ap marks_of is ∙ lacking xs without
out-marks ps feature.Attribute (xs, rest, is, none) =
    ap marks_of (is ∙ ap (λ x. left_bracket ∷ each spell_mark xs ++ x) none.is) ∙ unknown xs none.first none.tail none.other.0 none.other.1.0
out-marks ps f h = absurd h

equation-out : (ps : List Piece) (f : Feature) → equation_of ps ≡ LeftOut f → HasSidesBefore f (word (codes "eq") ∷ ps)
equation-out ps f h = go (sided ps) where
  marked : (s : Sided ps) → (o : Reading (List Mark)) → marks_of s.behind ≡ o → HasSidesBefore f (word (codes "eq") ∷ ps)
  marked s NoForm e = let g = rw (s.read, e) at h in cc
  marked s (Read xs) e = let g = rw (s.read, e) at h in cc
  marked s (LeftOut x) e =
      let g : LeftOut x ≡ LeftOut f = rw (s.read, e) at h in
      let i : x ≡ f = cc in
      record {
        label = s.label;
        left = s.left;
        right = s.right;
        behind = s.behind;
        spelled = s.spelled;
        is_left = s.is_left;
        is_right = s.is_right;
        stands = subst (λ x. StandsBehind x s.behind) i (marks-out s.behind x e);
      }

  go : (equation_of ps ≡ NoForm) ⊎ Sided ps → HasSidesBefore f (word (codes "eq") ∷ ps)
  go (inl e) = let g = rw e at h in cc
  go (inr s) = marked s (marks_of s.behind) refl

tails : (p q : Piece) (ps qs : List Piece) → p ∷ ps ≡ q ∷ qs → ps ≡ qs
tails p q ps qs e = cc

out-equation : (ps : List Piece) (f : Feature) → HasSidesBefore f (word (codes "eq") ∷ ps) → equation_of ps ≡ LeftOut f
out-equation ps f h =
    ap equation_of (tails (word (codes "eq")) (word (codes "eq")) ps (spell_label h.label ++ (h.left ++ (equals ∷ h.right ++ h.behind))) h.spelled)
    ∙ sides-read h.label h.left h.right h.behind h.is_left h.is_right
    ∙ ap (map_reading (statement.Equation h.label h.left h.right)) (out-marks h.behind f h.stands)

-- Where `variant` is not named.

none-any : {A : Type 0} (test : A → Bool) (xs : List A) → list_any test xs ≡ false → AllByRecursion (λ x. test x ≡ false) xs
none-any test [] h = tt
none-any test (x ∷ xs) h = go (test x) refl (none-any test xs) where
  go : (b : Bool) → test x ≡ b → (list_any test xs ≡ false → AllByRecursion (λ y. test y ≡ false) xs) → AllByRecursion (λ y. test y ≡ false) (x ∷ xs)
  go true e later = let g = rw e at h in cc
  go false e later = (e, later (rw e at h))

any-none : {A : Type 0} (test : A → Bool) (xs : List A) → AllByRecursion (λ x. test x ≡ false) xs → list_any test xs ≡ false
any-none test [] h = refl
any-none test (x ∷ xs) h = rw h.0 (any-none test xs h.1)

all-behind : {A : Type 0} (P : A → Type 0) (xs ys : List A) → AllByRecursion P (xs ++ ys) → AllByRecursion P ys
all-behind P [] ys h = h
all-behind P (x ∷ xs) ys h = all-behind P xs ys h.1

abbrev Unnamed : List Piece → Type 0
Unnamed ps = HasNo (is_name (codes "variant")) ps

marks-name : (xs : List Mark) (rest : List Piece) → Unnamed (each spell_mark xs ++ rest) → Contains xs Variant → ⊥
marks-name [] rest h i = contains_none Variant i
marks-name (Variant ∷ xs) rest h i = let g : true ≡ false = h.0 in cc
marks-name (Label w ∷ xs) rest h i = go (contains_cases (Label w) xs Variant i) (λ k. marks-name xs rest h.1.1 k) where
  go : (Label w ≡ Variant) ⊎ Contains xs Variant → (Contains xs Variant → ⊥) → ⊥
  go (inl e) later = cc
  go (inr k) later = later k

-- an equation of the form names `variant`
form-names : (ps : List Piece) → Unnamed ps → (s : Sided ps) → (xs : List Mark) → (s.behind ≡ bracketed spell_mark xs) × Contains xs Variant → ⊥
form-names ps h s [] m = contains_none Variant m.1
form-names ps h s (x ∷ xs) m =
    let whole : ps ≡ spell_label s.label ++ (s.left ++ (equals ∷ s.right ++ s.behind)) =
    tails (word (codes "eq")) (word (codes "eq")) ps (spell_label s.label ++ (s.left ++ (equals ∷ s.right ++ s.behind))) s.spelled in
    let P : Piece → Type 0 = λ p. is_name (codes "variant") p ≡ false in
    let sides = all-behind P (spell_label s.label) (s.left ++ (equals ∷ s.right ++ s.behind)) (subst Unnamed whole h) in
    let right = (all-behind P s.left (equals ∷ s.right ++ s.behind) sides).1 in
    let behind = subst Unnamed m.0 (all-behind P s.right s.behind right) in
    marks-name (x ∷ xs) (right_bracket ∷ []) behind.1 m.1

-- an equation is left out
pub asked-out : (ps : List Piece) (f : Feature) → unless_unnamed ps (equation_of ps) ≡ LeftOut f → IsLeftOutEquation f (word (codes "eq") ∷ ps)
asked-out ps f h = go (equation_of ps) refl where
  unnamed : equation_of ps ≡ NoForm → (b : Bool) → list_any (is_name (codes "variant")) ps ≡ b → IsLeftOutEquation f (word (codes "eq") ∷ ps)
  unnamed e true i = let g = rw (e, i) at h in cc
  unnamed e false i =
      let g : LeftOut feature.Equation ≡ LeftOut f = rw (e, i) at h in
      let k : feature.Equation ≡ f = cc in
      inr (
        sym k,
        record {
          rest = ps;
          spelled = refl;
          unnamed = none-any (is_name (codes "variant")) ps i;
          known = λ u. let j = out-equation ps feature.Attribute u in differs (equation_of ps) feature.Attribute e j;
        },
      )
    where
      differs : (o : Reading Statement) (x : Feature) → o ≡ NoForm → o ≡ LeftOut x → ⊥
      differs o x a b = cc

  go : (o : Reading Statement) → equation_of ps ≡ o → IsLeftOutEquation f (word (codes "eq") ∷ ps)
  go (Read st) e = let g = rw e at h in cc
  go (LeftOut x) e =
      let g : LeftOut x ≡ LeftOut f = rw e at h in
      let i : x ≡ f = cc in
      inl (subst (λ y. HasSidesBefore y (word (codes "eq") ∷ ps)) i (equation-out ps x e))
  go NoForm e = unnamed e (list_any (is_name (codes "variant")) ps) refl

asked-unnamed : (ps : List Piece) → Unnamed ps → (HasSidesBefore feature.Attribute (word (codes "eq") ∷ ps) → ⊥) →
    unless_unnamed ps (equation_of ps) ≡ LeftOut feature.Equation
asked-unnamed ps h known = go (sided ps) where
  formless : equation_of ps ≡ NoForm → unless_unnamed ps (equation_of ps) ≡ LeftOut feature.Equation
  formless e = rw (e, any-none (is_name (codes "variant")) ps h) refl

  left_out : (f : Feature) → equation_of ps ≡ LeftOut f → HasSidesBefore f (word (codes "eq") ∷ ps) → unless_unnamed ps (equation_of ps) ≡ LeftOut feature.Equation
  left_out feature.Equation e s = rw e refl
  left_out feature.Attribute e s = absurd (known s)
  left_out f e s = absurd s.stands

  marked : (s : Sided ps) → (o : Reading (List Mark)) → marks_of s.behind ≡ o → unless_unnamed ps (equation_of ps) ≡ LeftOut feature.Equation
  marked s NoForm e = formless (rw (s.read, e) refl)
  marked s (Read xs) e = absurd (form-names ps h s xs (marks-sound s.behind xs e))
  marked s (LeftOut f) e = let g : equation_of ps ≡ LeftOut f = rw (s.read, e) refl in left_out f g (equation-out ps f g)

  go : (equation_of ps ≡ NoForm) ⊎ Sided ps → unless_unnamed ps (equation_of ps) ≡ LeftOut feature.Equation
  go (inl e) = formless e
  go (inr s) = marked s (marks_of s.behind) refl

pub out-asked : (ps : List Piece) (f : Feature) → IsLeftOutEquation f (word (codes "eq") ∷ ps) → unless_unnamed ps (equation_of ps) ≡ LeftOut f
out-asked ps f (inl h) = ap (unless_unnamed ps) (out-equation ps f h)
out-asked ps f (inr (e, n)) =
    let is : n.rest ≡ ps = sym (tails (word (codes "eq")) (word (codes "eq")) ps n.rest n.spelled) in
    asked-unnamed ps (subst Unnamed is n.unnamed) n.known ∙ ap (λ x. LeftOut x) (sym e)
