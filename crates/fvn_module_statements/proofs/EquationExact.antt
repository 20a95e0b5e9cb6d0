-- The reader of equations finds exactly the spelled equations, and what they lack.
use Rattle.std.proofs.Common.{◌≡◌, ℕ, ◌-◌, ◌≤◌, ◌⊎◌, inl, inr, Bool, true, false, ◌&&◌, List, [], ◌∷◌, ◌++◌, length, length-drop, take, drop, Option, Some, None, refl, sym, ap, ◌∙◌, subst, length-append, arith}
use Rattle.std.proofs.Math.Seq.{take-append_seam}
use Rattle.std.specs.Prelude.{codes}
use Rattle.std.specs.List.{list_any, Contains}
use Rattle.std.specs.Str.{bytes_eq}
use Rattle.fvn_base.proofs.Membership.{contains_here, contains_later, contains_cases, contains_none}
use Rattle.fvn_lex.specs.Cut.{Piece}
use Rattle.fvn_syntax.specs.Pieces.{Text, word, left_bracket, right_bracket, is_word, is_name, is_special}
use Rattle.fvn_syntax.specs.Raw.{RawTerm, name, call, round, kind_variable, spell, IsTermBefore}
use Rattle.fvn_syntax.specs.Behind.{behind_term}
use Rattle.fvn_syntax.proofs.PieceLemmas.{bytes_eq-is, and-left, and-right, word-is, name-is, special-is}
use Rattle.fvn_syntax.proofs.FormExact.{behind_term-sound, behind_term-complete}
use Rattle.fvn_module_syntax.specs.declared.statement.Mark.{Mark}
use Rattle.fvn_module_syntax.specs.declared.statement.Mark.TheVariants.{Variant, Label}
use Rattle.fvn_module_syntax.specs.declared.statement.Feature.{Feature}
use Rattle.fvn_module_syntax.specs.declared.statement.Statement.{Statement}
use Rattle.fvn_module_syntax.specs.declared.statement.Statement.TheVariants as statement
use Rattle.fvn_module_statements.specs.declared.outcome.Reading.{Reading}
use Rattle.fvn_module_statements.specs.declared.outcome.Reading.TheVariants.{Read, LeftOut, NoForm}
use Rattle.fvn_module_syntax.specs.Spelling.{each, spell_mark, bracketed, equals, spell_label, spell_equation, spell_statement}
use Rattle.fvn_module_syntax.specs.Written.{NotEmpty, IsSide, IsWritten}
use Rattle.fvn_module_statements.specs.inner.Gather.{map_reading, gather}
use Rattle.fvn_module_statements.specs.inner.Attributes.{word_of, is_some, is_close}
use Rattle.fvn_module_statements.specs.inner.Equations.{before, term_of, labelled, mark_named, mark_of, is_variant, left_out_at_mark, left_out_or_none, marks_before, marks_of, label_behind, label_of, behind_equals, equation_of, unless_unnamed}
use Rattle.fvn_module_statements.proofs.GatherExact.{gather-sound, gather-spelled}
use Rattle.fvn_module_statements.proofs.SortExact.{Any, all_any}
use Rattle.fvn_module_statements.proofs.AttributeExact.{by_text, word_of-sound, close-is, some-is, bracketed-is}
use Rattle.fvn_module_statements.proofs.Sides.{side-before, ends-equals, left-side}

-- Sides.

before-append : (x rest : List Piece) → before (x ++ rest) rest ≡ x
before-append x rest =
    let h = length-append x rest in
    let k : length (x ++ rest) - length rest ≡ length x = omega arith in
    rw k (take-append_seam x rest)

term-sound : (ps : List Piece) (r : List Piece × List Piece) → term_of ps ≡ Some r → (ps ≡ r.0 ++ r.1) × IsSide r.1 r.0
term-sound ps r h = go (behind_term ps) refl where
  go : (o : Option (List Piece)) → behind_term ps ≡ o → (ps ≡ r.0 ++ r.1) × IsSide r.1 r.0
  go None e = let g = rw e at h in cc
  go (Some rest) e =
      let g : Some (before ps rest, rest) ≡ Some r = rw e at h in
      let i : (before ps rest, rest) ≡ r = cc in
      let t = behind_term-sound ps rest e in
      let b : before ps rest ≡ spell t.term = ap (λ x. before x rest) t.spelled ∙ before-append (spell t.term) rest in
      let Q : List Piece × List Piece → Type 0 = λ x. (ps ≡ x.0 ++ x.1) × IsSide x.1 x.0 in
      subst Q i
      (t.spelled ∙ ap (λ x. x ++ rest) (sym b), record { term = t.term; written = t.written; ends = t.ends; spelled = b })

term-complete : (rest side : List Piece) → IsSide rest side → term_of (side ++ rest) ≡ Some (side, rest)
term-complete rest side h = rw (behind_term-complete (side ++ rest) rest (side-before rest side h), before-append side rest) refl

pub no_term : (ps : List Piece) → ((rest : List Piece) → IsTermBefore rest ps → ⊥) → term_of ps ≡ None
no_term ps h = go (behind_term ps) refl where
  go : (o : Option (List Piece)) → behind_term ps ≡ o → term_of ps ≡ None
  go None e = rw e refl
  go (Some rest) e = absurd (h rest (behind_term-sound ps rest e))

pub some_term : (ps : List Piece) (n : ℕ) → n ≤ length ps → IsTermBefore (drop n ps) ps → term_of ps ≡ Some (take n ps, drop n ps)
some_term ps n few h =
    let k : length ps - length (drop n ps) ≡ n = omega (arith, length-drop n ps) in
    rw (behind_term-complete ps (drop n ps) h, k) refl

-- Attributes.

mark_named-sound : (w : Text) (ps : List Piece) (r : Mark × List Piece) → mark_named w ps ≡ Some r → word w ∷ ps ≡ spell_mark r.0 ++ r.1
mark_named-sound w ps r h =
    by_text w (codes "variant") (λ a. variant a (rw a at h))
    (λ a. by_text w (codes "label") (λ b. label b (word_of ps) refl (rw (a, b) at h)) (λ b. let k = rw (a, b) at h in cc))
  where
    variant : bytes_eq w (codes "variant") ≡ true → Some (Variant, ps) ≡ Some r → word w ∷ ps ≡ spell_mark r.0 ++ r.1
    variant e k =
        let i : (Variant, ps) ≡ r = cc in
        ap (λ v. word v ∷ ps) (bytes_eq-is w (codes "variant") e) ∙ ap (λ (x : Mark × List Piece). spell_mark x.0 ++ x.1) i

    label : bytes_eq w (codes "label") ≡ true → (o : Option (Text × List Piece)) → word_of ps ≡ o → labelled o ≡ Some r → word w ∷ ps ≡ spell_mark r.0 ++ r.1
    label e None f k = cc
    label e (Some x) f k =
        let i : (Label x.0, x.1) ≡ r = cc in
        ap (λ v. word v ∷ ps) (bytes_eq-is w (codes "label") e) ∙ ap (λ y. word (codes "label") ∷ y) ((word_of-sound ps x f).0)
        ∙ ap (λ (y : Mark × List Piece). spell_mark y.0 ++ y.1) i

pub mark-sound : (ps : List Piece) (r : Mark × List Piece) → mark_of ps ≡ Some r → (ps ≡ spell_mark r.0 ++ r.1) × Any r.0
mark-sound [] r h = cc
mark-sound (p ∷ ps) r h = go (is_word p) refl where
  go : (b : Bool) → is_word p ≡ b → (p ∷ ps ≡ spell_mark r.0 ++ r.1) × Any r.0
  go false e = let g = rw e at h in cc
  go true e = (ap (λ x. x ∷ ps) (word-is p e) ∙ mark_named-sound p.text ps r (rw e at h), tt)

pub mark-complete : (m : Mark) (qs : List Piece) → Unit {0} → Unit {0} → (mark_of (spell_mark m ++ qs) ≡ Some (m, qs)) × Unit {0}
mark-complete Variant qs t u = (refl, tt)
mark-complete (Label w) qs t u = (refl, tt)

pub mark_some : (m : Mark) → 1 ≤ length (spell_mark m)
mark_some Variant = omega arith
mark_some (Label w) = omega arith

pub variant-in : (xs : List Mark) → list_any is_variant xs ≡ true → Contains xs Variant
variant-in [] h = cc
variant-in (Variant ∷ xs) h = contains_here Variant xs
variant-in (Label w ∷ xs) h = contains_later (Label w) xs Variant (variant-in xs h)

pub in-variant : (xs : List Mark) → Contains xs Variant → list_any is_variant xs ≡ true
in-variant [] h = absurd (contains_none Variant h)
in-variant (Variant ∷ xs) h = refl
in-variant (Label w ∷ xs) h = go (contains_cases (Label w) xs Variant h) (λ i. in-variant xs i) where
  go : (Label w ≡ Variant) ⊎ Contains xs Variant → (Contains xs Variant → list_any is_variant xs ≡ true) → list_any is_variant xs ≡ true
  go (inl e) later = cc
  go (inr i) later = later i

not_read : (o : Option Feature) (xs : List Mark) → left_out_or_none o ≡ Read xs → ⊥
not_read None xs h = cc
not_read (Some f) xs h = cc

marks_before-sound : (xs : List Mark) (ps : List Piece) (ys : List Mark) → marks_before xs ps ≡ Read ys →
    (xs ≡ ys) × (ps ≡ right_bracket ∷ []) × NotEmpty xs × (list_any is_variant xs ≡ true)
marks_before-sound xs ps ys h = go (is_some xs && is_close ps) (list_any is_variant xs) refl refl where
  go : (b c : Bool) → is_some xs && is_close ps ≡ b → list_any is_variant xs ≡ c →
      (xs ≡ ys) × (ps ≡ right_bracket ∷ []) × NotEmpty xs × (list_any is_variant xs ≡ true)
  go false c e f = absurd (not_read (left_out_at_mark ps) ys (rw e at h))
  go true false e f = let g = rw (e, f) at h in cc
  go true true e f =
      let g : Read xs ≡ Read ys = rw (e, f) at h in
      (cc, close-is ps (and-right (is_some xs) (is_close ps) e), some-is xs (and-left (is_some xs) (is_close ps) e), f)

pub marks-sound : (ps : List Piece) (xs : List Mark) → marks_of ps ≡ Read xs → (ps ≡ bracketed spell_mark xs) × Contains xs Variant
marks-sound [] xs h = cc
marks-sound (p ∷ ps) xs h = go (is_special (codes "[") p) refl where
  go : (b : Bool) → is_special (codes "[") p ≡ b → (p ∷ ps ≡ bracketed spell_mark xs) × Contains xs Variant
  go false e = let g = rw e at h in cc
  go true e =
      let g = gather-sound mark_of spell_mark Any mark-sound ps [] ps in
      let k = marks_before-sound (gather mark_of ps [] ps).0 (gather mark_of ps [] ps).1 xs (rw e at h) in
      let same : g.more ≡ xs = sym g.is ∙ k.0 in (
        ap (λ x. x ∷ ps) (special-is (codes "[") p e)
            ∙ ap (λ x. left_bracket ∷ x) (g.left ∙ ap (λ x. each spell_mark g.more ++ x) k.1 ∙ ap (λ x. each spell_mark x ++ (right_bracket ∷ [])) same)
            ∙ sym (bracketed-is spell_mark xs (subst NotEmpty k.0 k.2)),
        variant-in xs (ap (list_any is_variant) (sym k.0) ∙ k.3),
      )

marks-complete : (xs : List Mark) → Contains xs Variant → marks_of (bracketed spell_mark xs) ≡ Read xs
marks-complete [] h = absurd (contains_none Variant h)
marks-complete (x ∷ xs) h =
    let g = gather-spelled mark_of spell_mark Any Any mark-complete (right_bracket ∷ []) tt refl mark_some (x ∷ xs) (all_any (x ∷ xs)) in
    rw (g, in-variant (x ∷ xs) h) refl

-- Labels.

label_behind-sound : (ps : List Piece) (r : Option Text × List Piece) → label_behind ps ≡ Some r → left_bracket ∷ ps ≡ spell_label r.0 ++ r.1
label_behind-sound [] r h = cc
label_behind-sound (a ∷ []) r h = cc
label_behind-sound (a ∷ b ∷ []) r h = cc
label_behind-sound (a ∷ b ∷ c ∷ ps) r h = go (is_word a && is_special (codes "]") b && is_name (codes ":") c) refl where
  go : (t : Bool) → is_word a && is_special (codes "]") b && is_name (codes ":") c ≡ t → left_bracket ∷ a ∷ b ∷ c ∷ ps ≡ spell_label r.0 ++ r.1
  go false e = let g = rw e at h in cc
  go true e =
      let g : Some (Some a.text, ps) ≡ Some r = rw e at h in
      let i : (Some a.text, ps) ≡ r = cc in
      let ab = and-left (is_word a && is_special (codes "]") b) (is_name (codes ":") c) e in
      let x = word-is a (and-left (is_word a) (is_special (codes "]") b) ab) in
      let y = special-is (codes "]") b (and-right (is_word a) (is_special (codes "]") b) ab) in
      let z = name-is (codes ":") c (and-right (is_word a && is_special (codes "]") b) (is_name (codes ":") c) e) in
      ap (λ v. left_bracket ∷ v ∷ b ∷ c ∷ ps) x ∙ ap (λ v. left_bracket ∷ word a.text ∷ v ∷ c ∷ ps) y
      ∙ ap (λ v. left_bracket ∷ word a.text ∷ right_bracket ∷ v ∷ ps) z ∙ ap (λ (v : Option Text × List Piece). spell_label v.0 ++ v.1) i

label-sound : (ps : List Piece) (r : Option Text × List Piece) → label_of ps ≡ Some r → ps ≡ spell_label r.0 ++ r.1
label-sound [] r h =
    let nothing : Option Text × List Piece = (None, []) in
    let g : Some nothing ≡ Some r = h in
    let i : nothing ≡ r = cc in ap (λ (v : Option Text × List Piece). spell_label v.0 ++ v.1) i
label-sound (p ∷ ps) r h = go (is_special (codes "[") p) refl where
  go : (b : Bool) → is_special (codes "[") p ≡ b → p ∷ ps ≡ spell_label r.0 ++ r.1
  go true e = ap (λ x. x ∷ ps) (special-is (codes "[") p e) ∙ label_behind-sound ps r (rw e at h)
  go false e =
      let plain : Option Text × List Piece = (None, p ∷ ps) in
      let g : Some plain ≡ Some r = rw e at h in
      let i : plain ≡ r = cc in
      ap (λ (v : Option Text × List Piece). spell_label v.0 ++ v.1) i

no_label : (t : RawTerm) (rest : List Piece) → label_of (spell t ++ rest) ≡ Some (None, spell t ++ rest)
no_label (name w) rest = refl
no_label (call w ts) rest = refl
no_label (round t) rest = refl
no_label (kind_variable x s ss) rest = refl

label-complete : (label : Option Text) (side rest : List Piece) → IsSide rest side →
    label_of (spell_label label ++ (side ++ rest)) ≡ Some (label, side ++ rest)
label-complete (Some w) side rest h = refl
label-complete None side rest h =
    let P : List Piece → Type 0 = λ x. label_of (x ++ rest) ≡ Some (None, x ++ rest) in
    subst P (sym h.spelled) (no_label h.term rest)

-- Equations.

equals-sound : (ps rest : List Piece) → behind_equals ps ≡ Some rest → ps ≡ equals ∷ rest
equals-sound [] rest h = cc
equals-sound (p ∷ ps) rest h = go (is_name (codes "=") p) refl where
  go : (b : Bool) → is_name (codes "=") p ≡ b → p ∷ ps ≡ equals ∷ rest
  go false e = let g = rw e at h in cc
  go true e =
      let g : Some ps ≡ Some rest = rw e at h in
      let i : ps ≡ rest = cc in
      ap (λ x. x ∷ ps) (name-is (codes "=") p e) ∙ ap (λ x. equals ∷ x) i

-- a label and sides, and what is read behind them
pub record Sided (ps : List Piece) : Type 0 where
  pub label : Option Text
  pub left : List Piece
  pub right : List Piece
  pub behind : List Piece
  pub spelled : word (codes "eq") ∷ ps ≡ spell_equation label left right behind
  pub is_left : IsSide (equals ∷ []) left
  pub is_right : IsSide behind right
  pub read : equation_of ps ≡ map_reading (statement.Equation label left right) (marks_of behind)

pub sides-read : (label : Option Text) (left right behind : List Piece) → IsSide (equals ∷ []) left → IsSide behind right →
    equation_of (spell_label label ++ (left ++ (equals ∷ right ++ behind))) ≡ map_reading (statement.Equation label left right) (marks_of behind)
sides-read label left right behind l r =
    let side = left-side (right ++ behind) left l in
    rw (label-complete label left (equals ∷ right ++ behind) side, term-complete (equals ∷ right ++ behind) left side, term-complete behind right r) refl

pub sided : (ps : List Piece) → (equation_of ps ≡ NoForm) ⊎ Sided ps
sided ps = go (label_of ps) refl where
  whole : (l : Option Text × List Piece) → label_of ps ≡ Some l → (r : List Piece × List Piece) → term_of l.1 ≡ Some r →
      (rest : List Piece) → behind_equals r.1 ≡ Some rest → (q : List Piece × List Piece) → term_of rest ≡ Some q → Sided ps
  whole l e r f rest g q i =
      let left = term-sound l.1 r f in
      let right = term-sound rest q i in
      let behind : r.1 ≡ equals ∷ (q.0 ++ q.1) = equals-sound r.1 rest g ∙ ap (λ x. equals ∷ x) right.0 in
      let side : IsSide (equals ∷ (q.0 ++ q.1)) r.0 = subst (λ x. IsSide x r.0) behind left.1 in
      record {
        label = l.0;
        left = r.0;
        right = q.0;
        behind = q.1;
        spelled = ap (λ x. word (codes "eq") ∷ x) (label-sound ps l e ∙ ap (λ x. spell_label l.0 ++ x) (left.0 ∙ ap (λ x. r.0 ++ x) behind));
        is_left = record { term = side.term; written = side.written; ends = (ends-equals side.term []); spelled = side.spelled };
        is_right = right.1;
        read = rw (e, f, g, i) refl;
      }

  right : (l : Option Text × List Piece) → label_of ps ≡ Some l → (r : List Piece × List Piece) → term_of l.1 ≡ Some r →
      (rest : List Piece) → behind_equals r.1 ≡ Some rest → (o : Option (List Piece × List Piece)) → term_of rest ≡ o → (equation_of ps ≡ NoForm) ⊎ Sided ps
  right l e r f rest g None i = inl (rw (e, f, g, i) refl)
  right l e r f rest g (Some q) i = inr (whole l e r f rest g q i)

  equal : (l : Option Text × List Piece) → label_of ps ≡ Some l → (r : List Piece × List Piece) → term_of l.1 ≡ Some r →
      (o : Option (List Piece)) → behind_equals r.1 ≡ o → (equation_of ps ≡ NoForm) ⊎ Sided ps
  equal l e r f None g = inl (rw (e, f, g) refl)
  equal l e r f (Some rest) g = right l e r f rest g (term_of rest) refl

  left : (l : Option Text × List Piece) → label_of ps ≡ Some l → (o : Option (List Piece × List Piece)) → term_of l.1 ≡ o → (equation_of ps ≡ NoForm) ⊎ Sided ps
  left l e None f = inl (rw (e, f) refl)
  left l e (Some r) f = equal l e r f (behind_equals r.1) refl

  go : (o : Option (Option Text × List Piece)) → label_of ps ≡ o → (equation_of ps ≡ NoForm) ⊎ Sided ps
  go None e = inl (rw e refl)
  go (Some l) e = left l e (term_of l.1) refl

pub equation-sound : (ps : List Piece) (st : Statement) → equation_of ps ≡ Read st → (word (codes "eq") ∷ ps ≡ spell_statement st) × IsWritten st
equation-sound ps st h = go (sided ps) where
  marked : (s : Sided ps) → (o : Reading (List Mark)) → marks_of s.behind ≡ o → (word (codes "eq") ∷ ps ≡ spell_statement st) × IsWritten st
  marked s NoForm e = let g = rw (s.read, e) at h in cc
  marked s (LeftOut f) e = let g = rw (s.read, e) at h in cc
  marked s (Read xs) e =
      let g : Read (statement.Equation s.label s.left s.right xs) ≡ Read st = rw (s.read, e) at h in
      let i : statement.Equation s.label s.left s.right xs ≡ st = cc in
      let m = marks-sound s.behind xs e in
      let Q : Statement → Type 0 = λ x. (word (codes "eq") ∷ ps ≡ spell_statement x) × IsWritten x in
      subst Q i
      (s.spelled ∙ ap (spell_equation s.label s.left s.right) m.0, (s.is_left, subst (λ x. IsSide x s.right) m.0 s.is_right, m.1))

  go : (equation_of ps ≡ NoForm) ⊎ Sided ps → (word (codes "eq") ∷ ps ≡ spell_statement st) × IsWritten st
  go (inl e) = let g = rw e at h in cc
  go (inr s) = marked s (marks_of s.behind) refl

pub equation-complete : (label : Option Text) (left right : List Piece) (marks : List Mark) → IsWritten (statement.Equation label left right marks) →
    equation_of (spell_label label ++ (left ++ (equals ∷ right ++ bracketed spell_mark marks))) ≡ Read (statement.Equation label left right marks)
equation-complete label left right marks h =
    sides-read label left right (bracketed spell_mark marks) h.0 h.1
    ∙ ap (map_reading (statement.Equation label left right)) (marks-complete marks h.2)

-- what is read behind `eq` is an equation of its form
pub asked-read : (ps : List Piece) (o : Reading Statement) (st : Statement) → unless_unnamed ps o ≡ Read st → o ≡ Read st
asked-read ps (Read x) st h = h
asked-read ps (LeftOut f) st h = cc
asked-read ps NoForm st h = go (list_any (is_name (codes "variant")) ps) refl where
  none : Reading Statement
  none = NoForm

  go : (b : Bool) → list_any (is_name (codes "variant")) ps ≡ b → none ≡ Read st
  go true e = let g = rw e at h in cc
  go false e = let g = rw e at h in cc
