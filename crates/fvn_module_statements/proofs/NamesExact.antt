-- The readers of names find exactly the spelled names.
use Rattle.std.proofs.Common.{◌≡◌, ◌≤◌, Bool, true, false, not, ◌&&◌, List, [], ◌∷◌, ◌++◌, length, Option, Some, None, refl, sym, ap, ◌∙◌, subst, arith}
use Rattle.std.specs.Prelude.{codes}
use Rattle.std.specs.List.{AllByRecursion}
use Rattle.std.proofs.lemmas.List.{append-nil}
use Rattle.fvn_lex.specs.Cut.{Piece}
use Rattle.fvn_syntax.specs.Pieces.{Text, word, is_word, is_name}
use Rattle.fvn_syntax.proofs.PieceLemmas.{bytes_eq-refl, and-left, and-right, word-is, name-is}
use Rattle.fvn_module_syntax.specs.Spelling.{each, spell_word, words, spell_above, spell_groups}
use Rattle.fvn_module_syntax.specs.Written.{NotEmpty, IsSortName, IsMember, IsGroup}
use Rattle.fvn_module_statements.specs.inner.Gather.{gather}
use Rattle.fvn_module_statements.specs.inner.Attributes.{is_some}
use Rattle.fvn_module_statements.specs.inner.Names.{sort_name_of, member_of, if_some, group_of, group_above, is_empty, sort_names_of, groups_of}
use Rattle.fvn_module_syntax.specs.Words.{has_colon}
use Rattle.fvn_module_statements.proofs.Unequal.{bytes_eq-not}
use Rattle.fvn_module_statements.proofs.GatherExact.{gather-sound, gather-spelled, gather-whole}
use Rattle.fvn_module_statements.proofs.SortExact.{Any}
use Rattle.fvn_module_statements.proofs.AttributeExact.{some-is}

pub not-true : (b : Bool) → not b ≡ true → b ≡ false
not-true true h = cc
not-true false h = refl

pub word_some : (w : Text) → 1 ≤ length (spell_word w)
word_some w = omega arith

pub is_some-of : {A : Type 0} (xs : List A) → NotEmpty xs → is_some xs ≡ true
is_some-of [] h = absurd h
is_some-of (x ∷ xs) h = refl

pub empty-is : (ps : List Piece) → is_empty ps ≡ true → ps ≡ []
empty-is [] h = refl
empty-is (p ∷ ps) h = cc

-- names of sorts
sort_name-sound : (ps : List Piece) (r : Text × List Piece) → sort_name_of ps ≡ Some r → (ps ≡ spell_word r.0 ++ r.1) × IsSortName r.0
sort_name-sound [] r h = cc
sort_name-sound (p ∷ ps) r h = go (is_word p && not (has_colon p.text)) refl where
  go : (b : Bool) → is_word p && not (has_colon p.text) ≡ b → (p ∷ ps ≡ spell_word r.0 ++ r.1) × IsSortName r.0
  go false e = let g = rw e at h in cc
  go true e =
      let g : Some (p.text, ps) ≡ Some r = rw e at h in
      let i : (p.text, ps) ≡ r = cc in
      let P : Text × List Piece → Type 0 = λ x. (p ∷ ps ≡ spell_word x.0 ++ x.1) × IsSortName x.0 in
      subst P i (
        ap (λ x. x ∷ ps) (word-is p (and-left (is_word p) (not (has_colon p.text)) e)),
        not-true (has_colon p.text) (and-right (is_word p) (not (has_colon p.text)) e),
      )

sort_name-complete : (w : Text) (qs : List Piece) → IsSortName w → Unit {0} → (sort_name_of (spell_word w ++ qs) ≡ Some (w, qs)) × Unit {0}
sort_name-complete w qs h u = (rw h refl, tt)

pub sort_names-sound : (ps : List Piece) (ws : List Text) → sort_names_of ps ≡ Some ws → (ps ≡ words ws) × NotEmpty ws × AllByRecursion IsSortName ws
sort_names-sound ps ws h = go (is_some (gather sort_name_of ps [] ps).0 && is_empty (gather sort_name_of ps [] ps).1) refl where
  go : (b : Bool) → is_some (gather sort_name_of ps [] ps).0 && is_empty (gather sort_name_of ps [] ps).1 ≡ b →
      (ps ≡ words ws) × NotEmpty ws × AllByRecursion IsSortName ws
  go false e = let k = rw e at h in cc
  go true e =
      let g = gather-sound sort_name_of spell_word IsSortName sort_name-sound ps [] ps in
      let k : Some ((gather sort_name_of ps [] ps).0) ≡ Some ws = rw e at h in
      let i : (gather sort_name_of ps [] ps).0 ≡ ws = cc in
      let same : g.more ≡ ws = sym g.is ∙ i in
      let nil = empty-is (gather sort_name_of ps [] ps).1 (and-right (is_some (gather sort_name_of ps [] ps).0) (is_empty (gather sort_name_of ps [] ps).1) e) in (
        g.left ∙ ap (λ x. words g.more ++ x) nil ∙ append-nil (words g.more) ∙ ap words same,
        subst NotEmpty i (some-is (gather sort_name_of ps [] ps).0 (and-left (is_some (gather sort_name_of ps [] ps).0) (is_empty (gather sort_name_of ps [] ps).1) e)),
        subst (AllByRecursion IsSortName) same g.fit,
      )

pub sort_names-complete : (ws : List Text) → NotEmpty ws → AllByRecursion IsSortName ws → sort_names_of (words ws) ≡ Some ws
sort_names-complete ws some h =
    let g = gather-whole sort_name_of spell_word IsSortName Any sort_name-complete tt refl word_some ws h in
    rw (g, is_some-of ws some) refl

-- groups
member-sound : (ps : List Piece) (r : Text × List Piece) → member_of ps ≡ Some r → (ps ≡ spell_word r.0 ++ r.1) × IsMember r.0
member-sound [] r h = cc
member-sound (p ∷ ps) r h = go (is_word p && not (is_name (codes "<") p)) refl where
  go : (b : Bool) → is_word p && not (is_name (codes "<") p) ≡ b → (p ∷ ps ≡ spell_word r.0 ++ r.1) × IsMember r.0
  go false e = let g = rw e at h in cc
  go true e =
      let g : Some (p.text, ps) ≡ Some r = rw e at h in
      let i : (p.text, ps) ≡ r = cc in
      let is = word-is p (and-left (is_word p) (not (is_name (codes "<") p)) e) in
      let n = not-true (is_name (codes "<") p) (and-right (is_word p) (not (is_name (codes "<") p)) e) in
      let P : Text × List Piece → Type 0 = λ x. (p ∷ ps ≡ spell_word x.0 ++ x.1) × IsMember x.0 in
      subst P i
      (ap (λ x. x ∷ ps) is, λ same. let k : is_name (codes "<") p ≡ true = ap (is_name (codes "<")) (is ∙ ap word same) ∙ bytes_eq-refl (codes "<") in cc)

member-complete : (w : Text) (qs : List Piece) → IsMember w → Unit {0} → (member_of (spell_word w ++ qs) ≡ Some (w, qs)) × Unit {0}
member-complete w qs h u = (rw (bytes_eq-not w (codes "<") h) refl, tt)

-- no word, or <
abbrev GroupEnds : List Piece → Type 0
GroupEnds ps = member_of ps ≡ None

if_some-sound : {A : Type 0} (xs : List A) (ps : List Piece) (r : List A × List Piece) → if_some xs ps ≡ Some r → (r.0 ≡ xs) × (r.1 ≡ ps) × NotEmpty xs
if_some-sound [] ps r h = cc
if_some-sound (x ∷ xs) ps r h =
    let i : (x ∷ xs, ps) ≡ r = cc in
    (sym (ap (λ z. z.0) i), sym (ap (λ z. z.1) i), tt)

if_some-complete : {A : Type 0} (xs : List A) (ps : List Piece) → NotEmpty xs → if_some xs ps ≡ Some (xs, ps)
if_some-complete [] ps h = absurd h
if_some-complete (x ∷ xs) ps h = refl

group-sound : (ps : List Piece) (r : List Text × List Piece) → group_of ps ≡ Some r → (ps ≡ words r.0 ++ r.1) × IsGroup r.0
group-sound ps r h =
    let g = gather-sound member_of spell_word IsMember member-sound ps [] ps in
    let k = if_some-sound (gather member_of ps [] ps).0 (gather member_of ps [] ps).1 r h in
    let same : g.more ≡ r.0 = sym g.is ∙ sym k.0 in (
      g.left ∙ ap (λ x. words g.more ++ x) (sym k.1) ∙ ap (λ x. words x ++ r.1) same,
      (subst NotEmpty (sym k.0) k.2, subst (AllByRecursion IsMember) same g.fit),
    )

group-complete : (ws : List Text) (rest : List Piece) → IsGroup ws → GroupEnds rest → group_of (words ws ++ rest) ≡ Some (ws, rest)
group-complete ws rest h e =
    let g = gather-spelled member_of spell_word IsMember Any member-complete rest tt e word_some ws h.1 in
    rw g (if_some-complete ws rest h.0)

above-sound : (ps : List Piece) (r : List Text × List Piece) → group_above ps ≡ Some r → (ps ≡ spell_above r.0 ++ r.1) × IsGroup r.0
above-sound [] r h = cc
above-sound (p ∷ ps) r h = go (is_name (codes "<") p) refl where
  go : (b : Bool) → is_name (codes "<") p ≡ b → (p ∷ ps ≡ spell_above r.0 ++ r.1) × IsGroup r.0
  go false e = let g = rw e at h in cc
  go true e =
      let k = group-sound ps r (rw e at h) in
      (ap (λ x. x ∷ ps) (name-is (codes "<") p e) ∙ ap (λ x. word (codes "<") ∷ x) k.0, k.1)

above-complete : (ws : List Text) (qs : List Piece) → IsGroup ws → GroupEnds qs → (group_above (spell_above ws ++ qs) ≡ Some (ws, qs)) × GroupEnds (spell_above ws ++ qs)
above-complete ws qs h e = (group-complete ws qs h e, refl)

above_some : (ws : List Text) → 1 ≤ length (spell_above ws)
above_some ws = omega arith

pub groups-sound : (ps : List Piece) (gs : List (List Text)) → groups_of ps ≡ Some gs →
    (ps ≡ spell_groups gs) × (2 ≤ length gs) × AllByRecursion IsGroup gs
groups-sound ps gs h = go (group_of ps) refl where
  inner : (g : List Text × List Piece) → group_of ps ≡ Some g →
      (b : Bool) → is_some (gather group_above g.1 [] g.1).0 && is_empty (gather group_above g.1 [] g.1).1 ≡ b →
      (ps ≡ spell_groups gs) × (2 ≤ length gs) × AllByRecursion IsGroup gs
  inner g e false f = let k = rw (e, f) at h in cc
  inner g e true f =
      let k : Some (g.0 ∷ (gather group_above g.1 [] g.1).0) ≡ Some gs = rw (e, f) at h in
      let i : g.0 ∷ (gather group_above g.1 [] g.1).0 ≡ gs = cc in
      let s = group-sound ps g e in
      let a = gather-sound group_above spell_above IsGroup above-sound g.1 [] g.1 in
      let nil = empty-is (gather group_above g.1 [] g.1).1 (and-right (is_some (gather group_above g.1 [] g.1).0) (is_empty (gather group_above g.1 [] g.1).1) f) in
      let some = some-is (gather group_above g.1 [] g.1).0 (and-left (is_some (gather group_above g.1 [] g.1).0) (is_empty (gather group_above g.1 [] g.1).1) f) in
      let P : List (List Text) → Type 0 = λ x. (ps ≡ spell_groups x) × (2 ≤ length x) × AllByRecursion IsGroup x in
      subst P (ap (λ x. g.0 ∷ x) (sym a.is) ∙ i) (
        s.0 ∙ ap (λ x. words g.0 ++ x) (a.left ∙ ap (λ x. each spell_above a.more ++ x) nil ∙ append-nil (each spell_above a.more)),
        two (g.0) a.more (subst NotEmpty a.is some),
        (s.1, a.fit),
      )
    where
      two : (x : List Text) (xs : List (List Text)) → NotEmpty xs → 2 ≤ length (x ∷ xs)
      two x [] n = absurd n
      two x (y ∷ xs) n = omega arith

  go : (o : Option (List Text × List Piece)) → group_of ps ≡ o → (ps ≡ spell_groups gs) × (2 ≤ length gs) × AllByRecursion IsGroup gs
  go None e = let k = rw e at h in cc
  go (Some g) e = inner g e (is_some (gather group_above g.1 [] g.1).0 && is_empty (gather group_above g.1 [] g.1).1) refl

ends_above : (gs : List (List Text)) → GroupEnds (each spell_above gs)
ends_above [] = refl
ends_above (g ∷ gs) = refl

groups_read : (g : List Text) (gs : List (List Text)) → NotEmpty gs → IsGroup g → AllByRecursion IsGroup gs →
    groups_of (words g ++ each spell_above gs) ≡ Some (g ∷ gs)
groups_read g gs some h k =
    let a = gather-whole group_above spell_above IsGroup GroupEnds above-complete refl refl above_some gs k in
    let s = group-complete g (each spell_above gs) h (ends_above gs) in
    rw (s, a, is_some-of gs some) refl

pub groups-complete : (gs : List (List Text)) → 2 ≤ length gs → AllByRecursion IsGroup gs → groups_of (spell_groups gs) ≡ Some gs
groups-complete [] n h = absurd (omega arith)
groups-complete (g ∷ []) n h = absurd (omega arith)
groups-complete (g ∷ k ∷ gs) n h = groups_read g (k ∷ gs) tt h.0 h.1
