-- The reader of modules finds exactly the spelled modules, and else the first fault.
use Rattle.std.proofs.Common.{◌≡◌, ℕ, ◌+◌, ◌≤◌, ◌⊎◌, inl, inr, Bool, true, false, List, [], ◌∷◌, ◌++◌, length, Option, Some, None, Result, Ok, Err, refl, sym, ap, ◌∙◌, subst, append_assoc, length-append, arith}
use Rattle.std.specs.Prelude.{codes}
use Rattle.std.specs.List.{AllByRecursion}
use Rattle.std.specs.Str.{bytes_eq}
use Rattle.std.proofs.lemmas.List.{append-nil}
use Rattle.std.proofs.Math.Nat.{le_refl}
use Rattle.fvn_lex.specs.declared.token.Class.{Class}
use Rattle.fvn_lex.specs.declared.token.Class.TheVariants.{Word, Special, Dot}
use Rattle.fvn_lex.specs.Cut.{Piece}
use Rattle.fvn_syntax.specs.Pieces.{Text, word, dot, is_dot_class, is_name}
use Rattle.fvn_syntax.proofs.PieceLemmas.{and-left, and-right, bytes_eq-is, name-is}
use Rattle.fvn_module_syntax.specs.declared.statement.Statement.{Statement}
use Rattle.fvn_module_statements.specs.declared.outcome.Reading.{Reading}
use Rattle.fvn_module_statements.specs.declared.outcome.Reading.TheVariants.{Read, LeftOut, NoForm}
use Rattle.fvn_module_syntax.specs.declared.form.Form.{Form}
use Rattle.fvn_module_statements.specs.declared.form.FormFault.{FormFault}
use Rattle.fvn_module_statements.specs.declared.form.FormFault.TheVariants as fault
use Rattle.fvn_module_syntax.specs.Spelling.{each, spell_statement}
use Rattle.fvn_module_syntax.specs.Words.{HasNo, is_stop}
use Rattle.fvn_module_statements.specs.Forms.{dotted, end, IsFrame, IsStatement, IsFormOf, HasNoStatement, HasLeftOut, IsFirstFault, HasNoForm}
use Rattle.fvn_module_statements.specs.inner.Attributes.{word_of}
use Rattle.fvn_module_statements.specs.inner.Names.{is_empty}
use Rattle.fvn_module_statements.specs.inner.Statements.{statement_of}
use Rattle.fvn_module_statements.specs.inner.Forms.{behind, before_end, frame_of, split_dot, end_at, on_reading, on_dot, statements_from, body_of, form_with, form_in, form_of}
use Rattle.fvn_module_statements.proofs.NamesExact.{empty-is}
use Rattle.fvn_module_statements.proofs.AttributeExact.{word_of-sound}
use Rattle.fvn_module_statements.proofs.StatementExact.{statement-sound, statement-complete}
use Rattle.fvn_module_statements.proofs.LeftOutExact.{left_out-sound, formless}

-- Dots.

abbrev piece : Class → Text → Piece
piece c u = record { class = c; text = u }

dot-class : (c : Class) (u : Text) → is_dot_class c ≡ true → piece c u ≡ piece Dot u
dot-class Word u h = cc
dot-class Special u h = cc
dot-class Dot u h = refl

stop-is : (p : Piece) → is_stop p ≡ true → p ≡ dot
stop-is p h =
    dot-class p.class p.text (and-left (is_dot_class p.class) (bytes_eq p.text (codes ".")) h)
    ∙ ap (piece Dot) (bytes_eq-is p.text (codes ".") (and-right (is_dot_class p.class) (bytes_eq p.text (codes ".")) h))

split_dot-sound : (ps a b : List Piece) → split_dot ps ≡ Some (a, b) → (ps ≡ a ++ (dot ∷ b)) × HasNo is_stop a
split_dot-sound [] a b h = cc
split_dot-sound (p ∷ ps) a b h = go (is_stop p) (split_dot ps) refl refl (split_dot-sound ps) where
  go : (c : Bool) (o : Option (List Piece × List Piece)) → is_stop p ≡ c → split_dot ps ≡ o →
      ((x y : List Piece) → split_dot ps ≡ Some (x, y) → (ps ≡ x ++ (dot ∷ y)) × HasNo is_stop x) →
      (p ∷ ps ≡ a ++ (dot ∷ b)) × HasNo is_stop a
  go true o e f later =
      let g : Some ([], ps) ≡ Some (a, b) = rw e at h in
      let i : ([], ps) ≡ (a, b) = cc in
      let Q : List Piece × List Piece → Type 0 = λ x. (p ∷ ps ≡ x.0 ++ (dot ∷ x.1)) × HasNo is_stop x.0 in
      subst Q i (ap (λ x. x ∷ ps) (stop-is p e), tt)
  go false None e f later = let g = rw (e, f) at h in cc
  go false (Some r) e f later =
      let g : Some (p ∷ r.0, r.1) ≡ Some (a, b) = rw (e, f) at h in
      let i : (p ∷ r.0, r.1) ≡ (a, b) = cc in
      let k = later r.0 r.1 f in
      let Q : List Piece × List Piece → Type 0 = λ x. (p ∷ ps ≡ x.0 ++ (dot ∷ x.1)) × HasNo is_stop x.0 in
      subst Q i (ap (λ x. p ∷ x) k.0, (e, k.1))

split_dot-complete : (a b : List Piece) → HasNo is_stop a → split_dot (a ++ (dot ∷ b)) ≡ Some (a, b)
split_dot-complete [] b h = refl
split_dot-complete (p ∷ a) b h = rw (h.0, split_dot-complete a b h.1) refl

no_dot : (ps : List Piece) → split_dot ps ≡ None → HasNo is_stop ps
no_dot [] h = tt
no_dot (p ∷ ps) h = go (is_stop p) (split_dot ps) refl refl (no_dot ps) where
  go : (c : Bool) (o : Option (List Piece × List Piece)) → is_stop p ≡ c → split_dot ps ≡ o → (split_dot ps ≡ None → HasNo is_stop ps) → HasNo is_stop (p ∷ ps)
  go true o e f later = let g = rw e at h in cc
  go false (Some r) e f later = let g = rw (e, f) at h in cc
  go false None e f later = (e, later f)

-- Statements.

-- what the reading of the rest of a module comes to, after these statements and n - 1 in all
abbrev StopsAt : ℕ → List Piece → FormFault → Type 0
StopsAt n ps fault.Header = ⊥
StopsAt n ps fault.NoMemory = ⊥
StopsAt n ps (fault.Statement m) = (m ≡ n) × HasNoStatement ps
StopsAt n ps (fault.LeftOut m f) = (m ≡ n) × HasLeftOut f ps

abbrev Outcome : ℕ → List Statement → List Piece → Result (List Statement) FormFault → Type 0
Outcome n sts ps (Ok out) = (more : List Statement) × ((out ≡ sts ++ more) × (ps ≡ each dotted more) × AllByRecursion IsStatement more)
Outcome n sts ps (Err f) =
    (more : List Statement) × ((left : List Piece) × ((ps ≡ each dotted more ++ left) × AllByRecursion IsStatement more × StopsAt (n + length more) left f))

dotted-assoc : (st : Statement) (ps : List Piece) → dotted st ++ ps ≡ spell_statement st ++ (dot ∷ ps)
dotted-assoc st ps = append_assoc (spell_statement st) (dot ∷ []) ps

one_more : (n : ℕ) (sts : List Statement) (st : Statement) (ps rest : List Piece) → ps ≡ spell_statement st ++ (dot ∷ rest) → IsStatement st →
    (x : Result (List Statement) FormFault) → Outcome (n + 1) (sts ++ (st ∷ [])) rest x → Outcome n sts ps x
one_more n sts st ps rest e s (Ok out) o = (
  st ∷ o.0,
  (
    o.1.0 ∙ append_assoc sts (st ∷ []) o.0,
    e ∙ ap (λ x. spell_statement st ++ (dot ∷ x)) o.1.1 ∙ sym (dotted-assoc st (each dotted o.0)),
    (s, o.1.2),
  ),
)
one_more n sts st ps rest e s (Err f) o =
    let P : ℕ → Type 0 = λ i. StopsAt i o.1.0 f in
    let q : n + 1 + length o.0 ≡ n + length (st ∷ o.0) = omega arith in (
      st ∷ o.0,
      (
        o.1.0,
        (
          e ∙ ap (λ x. spell_statement st ++ (dot ∷ x)) o.1.1.0 ∙ sym (dotted-assoc st (each dotted o.0 ++ o.1.0)) ∙ sym (append_assoc (dotted st) (each dotted o.0) o.1.0),
          (s, o.1.1.1),
          subst P q o.1.1.2,
        ),
      ),
    )

shorter : (ps a b : List Piece) (p : Piece) → ps ≡ a ++ (p ∷ b) → length b + 1 ≤ length ps
shorter ps a b p e = let k : length ps ≡ length (a ++ (p ∷ b)) = ap length e in let j = length-append a (p ∷ b) in omega arith

body-outcome : (fs : List Piece) (n : ℕ) (sts : List Statement) (ps : List Piece) → length ps ≤ length fs → Outcome n sts ps (statements_from fs n sts ps)
body-outcome [] n sts [] few = ([], (sym (append-nil sts), refl, tt))
body-outcome [] n sts (p ∷ ps) few = absurd (omega arith)
body-outcome (f ∷ fs) n sts ps few = go (split_dot ps) refl (λ m more rest. body-outcome fs m more rest) where
  ended : (qs : List Piece) → split_dot qs ≡ None → Outcome n sts qs (end_at n sts qs)
  ended [] e = ([], (sym (append-nil sts), refl, tt))
  ended (q ∷ qs) e = ([], (q ∷ qs, (refl, tt, (omega arith, inl (tt, no_dot (q ∷ qs) e)))))

  read : (r : List Piece × List Piece) → split_dot ps ≡ Some r → (o : Reading Statement) → statement_of r.0 ≡ o →
      ((m : ℕ) (more : List Statement) (rest : List Piece) → length rest ≤ length fs → Outcome m more rest (statements_from fs m more rest)) →
      Outcome n sts ps (on_reading n sts r.1 o (λ m more rest. statements_from fs m more rest))
  read r e (Read st) g later =
      let s = split_dot-sound ps r.0 r.1 e in
      let k = statement-sound r.0 st g in
      let l = shorter ps r.0 r.1 dot s.0 in
      one_more n sts st ps r.1 (s.0 ∙ ap (λ x. x ++ (dot ∷ r.1)) k.0)
      (record { written = k.1; undotted = subst (HasNo is_stop) k.0 s.1 })
      (statements_from fs (n + 1) (sts ++ (st ∷ [])) r.1) (later (n + 1) (sts ++ (st ∷ [])) r.1 (omega arith))
  read r e (LeftOut x) g later =
      let s = split_dot-sound ps r.0 r.1 e in
      ([], (ps, (refl, tt, (omega arith, (r.0, (record { rest = r.1; split = s.0; undotted = s.1 }, left_out-sound r.0 x g))))))
  read r e NoForm g later =
      let s = split_dot-sound ps r.0 r.1 e in
      ([], (ps, (refl, tt, (omega arith, inr (r.0, (record { rest = r.1; split = s.0; undotted = s.1 }, formless r.0 g))))))

  go : (o : Option (List Piece × List Piece)) → split_dot ps ≡ o →
      ((m : ℕ) (more : List Statement) (rest : List Piece) → length rest ≤ length fs → Outcome m more rest (statements_from fs m more rest)) →
      Outcome n sts ps (on_dot n sts ps o (λ m more rest. statements_from fs m more rest))
  go None e later = ended ps e
  go (Some r) e later = read r e (statement_of r.0) refl later

dotted_some : (st : Statement) (ps : List Piece) → length ps + 1 ≤ length (dotted st ++ ps)
dotted_some st ps = shorter (dotted st ++ ps) (spell_statement st) ps dot (dotted-assoc st ps)

body-complete : (fs : List Piece) (n : ℕ) (sts more : List Statement) → AllByRecursion IsStatement more → length (each dotted more) ≤ length fs →
    statements_from fs n sts (each dotted more) ≡ Ok (sts ++ more)
body-complete [] n sts [] h few = ap Ok (sym (append-nil sts))
body-complete (f ∷ fs) n sts [] h few = ap Ok (sym (append-nil sts))
body-complete [] n sts (st ∷ more) h few = let k = dotted_some st (each dotted more) in absurd (omega arith)
body-complete (f ∷ fs) n sts (st ∷ more) h few =
    let k = dotted_some st (each dotted more) in
    let fewer : length (each dotted more) ≤ length fs = omega arith in
    rw (dotted-assoc st (each dotted more), split_dot-complete (spell_statement st) (each dotted more) h.0.undotted, statement-complete st h.0.written)
    (body-complete fs (n + 1) (sts ++ (st ∷ [])) more h.1 fewer ∙ ap Ok (append_assoc sts (st ∷ []) more))

-- Frames.

before_end-sound : (ps body : List Piece) → before_end ps ≡ Some body → (ps ≡ body ++ (end ∷ [])) × HasNo (is_name (codes "endfm")) body
before_end-sound [] body h = cc
before_end-sound (p ∷ ps) body h = go (is_name (codes "endfm") p) (is_empty ps) (before_end ps) refl refl refl (before_end-sound ps) where
  go : (b c : Bool) (o : Option (List Piece)) → is_name (codes "endfm") p ≡ b → is_empty ps ≡ c → before_end ps ≡ o →
      ((x : List Piece) → before_end ps ≡ Some x → (ps ≡ x ++ (end ∷ [])) × HasNo (is_name (codes "endfm")) x) →
      (p ∷ ps ≡ body ++ (end ∷ [])) × HasNo (is_name (codes "endfm")) body
  go true false o e f g later = let k = rw (e, f) at h in cc
  go true true o e f g later =
      let k : Some [] ≡ Some body = rw (e, f) at h in
      let i : [] ≡ body = cc in
      let Q : List Piece → Type 0 = λ x. (p ∷ ps ≡ x ++ (end ∷ [])) × HasNo (is_name (codes "endfm")) x in
      subst Q i (ap (λ x. x ∷ ps) (name-is (codes "endfm") p e) ∙ ap (λ x. end ∷ x) (empty-is ps f), tt)
  go false c None e f g later = let k = rw (e, g) at h in cc
  go false c (Some x) e f g later =
      let k : Some (p ∷ x) ≡ Some body = rw (e, g) at h in
      let i : p ∷ x ≡ body = cc in
      let j = later x g in
      let Q : List Piece → Type 0 = λ y. (p ∷ ps ≡ y ++ (end ∷ [])) × HasNo (is_name (codes "endfm")) y in
      subst Q i (ap (λ y. p ∷ y) j.0, (e, j.1))

before_end-complete : (body : List Piece) → HasNo (is_name (codes "endfm")) body → before_end (body ++ (end ∷ [])) ≡ Some body
before_end-complete [] h = refl
before_end-complete (p ∷ body) h = rw (h.0, before_end-complete body h.1) refl

behind-sound : (text : Text) (ps rest : List Piece) → behind text ps ≡ Some rest → ps ≡ word text ∷ rest
behind-sound text [] rest h = cc
behind-sound text (p ∷ ps) rest h = go (is_name text p) refl where
  go : (b : Bool) → is_name text p ≡ b → p ∷ ps ≡ word text ∷ rest
  go false e = let g = rw e at h in cc
  go true e =
      let g : Some ps ≡ Some rest = rw e at h in
      let i : ps ≡ rest = cc in
      ap (λ x. x ∷ ps) (name-is text p e) ∙ ap (λ x. word text ∷ x) i

frame-sound : (ps : List Piece) (r : Text × List Piece) → frame_of ps ≡ Some r → IsFrame ps r.0 r.1
frame-sound ps r h = go (behind (codes "fmod") ps) refl where
  last : (a : List Piece) → behind (codes "fmod") ps ≡ Some a → (n : Text × List Piece) → word_of a ≡ Some n → (b : List Piece) → behind (codes "is") n.1 ≡ Some b →
      (o : Option (List Piece)) → before_end b ≡ o → (c : Bool) → bytes_eq n.0 (codes "endfm") ≡ c → IsFrame ps r.0 r.1
  last a e n f b g None i c j = let k = rw (e, f, g, i) at h in cc
  last a e n f b g (Some body) i true j = let k = rw (e, f, g, i, j) at h in cc
  last a e n f b g (Some body) i false j =
      let k : Some (n.0, body) ≡ Some r = rw (e, f, g, i, j) at h in
      let same : (n.0, body) ≡ r = cc in
      let s = before_end-sound b body i in
      let Q : Text × List Piece → Type 0 = λ x. IsFrame ps x.0 x.1 in
      subst Q same (record {
        spelled = behind-sound (codes "fmod") ps a e ∙ ap (λ x. word (codes "fmod") ∷ x) ((word_of-sound a n f).0)
            ∙ ap (λ x. word (codes "fmod") ∷ word n.0 ∷ x) (behind-sound (codes "is") n.1 b g ∙ ap (λ x. word (codes "is") ∷ x) s.0);
        unended = (j, s.1);
      })

  body : (a : List Piece) → behind (codes "fmod") ps ≡ Some a → (n : Text × List Piece) → word_of a ≡ Some n → (o : Option (List Piece)) → behind (codes "is") n.1 ≡ o → IsFrame ps r.0 r.1
  body a e n f None g = let k = rw (e, f, g) at h in cc
  body a e n f (Some b) g = last a e n f b g (before_end b) refl (bytes_eq n.0 (codes "endfm")) refl

  name : (a : List Piece) → behind (codes "fmod") ps ≡ Some a → (o : Option (Text × List Piece)) → word_of a ≡ o → IsFrame ps r.0 r.1
  name a e None f = let k = rw (e, f) at h in cc
  name a e (Some n) f = body a e n f (behind (codes "is") n.1) refl

  go : (o : Option (List Piece)) → behind (codes "fmod") ps ≡ o → IsFrame ps r.0 r.1
  go None e = let k = rw e at h in cc
  go (Some a) e = name a e (word_of a) refl

frame-complete : (ps : List Piece) (name : Text) (body : List Piece) → IsFrame ps name body → frame_of ps ≡ Some (name, body)
frame-complete ps name body h = rw (h.spelled, before_end-complete body h.unended.1, h.unended.0) refl

-- Modules.

not_both : {A : Type 0} (o : Option A) (x : A) → o ≡ None → o ≡ Some x → ⊥
not_both None x e h = cc
not_both (Some y) x e h = cc

pub form-complete : (ps : List Piece) (m : Form) → IsFormOf ps m → form_of ps ≡ Ok m
form-complete ps m h =
    rw (
      frame-complete ps m.name (each dotted m.statements) h.frame,
      body-complete (each dotted m.statements) 1 [] m.statements h.statements (le_refl (length (each dotted m.statements))),
    ) refl

-- the reading of a module: it is the module, or its fault is the first
abbrev pub Answers : List Piece → Result Form FormFault → Type 0
Answers ps (Ok m) = IsFormOf ps m
Answers ps (Err f) = IsFirstFault ps f

refused-is : (ps : List Piece) (r : Text × List Piece) → frame_of ps ≡ Some r → (f : FormFault) → Outcome 1 [] r.1 (Err f) → IsFirstFault ps f
refused-is ps r e fault.Header o = absurd o.1.1.2
refused-is ps r e fault.NoMemory o = absurd o.1.1.2
refused-is ps r e (fault.Statement n) o = record {
  name = r.0;
  body = r.1;
  frame = frame-sound ps r e;
  left = o.1.0;
  leads = record { before = o.0; is = o.1.1.0; number = omega (arith, o.1.1.2.0); statements = o.1.1.1 };
  wrong = o.1.1.2.1;
}
refused-is ps r e (fault.LeftOut n f) o = record {
  name = r.0;
  body = r.1;
  frame = frame-sound ps r e;
  left = o.1.0;
  leads = record { before = o.0; is = o.1.1.0; number = omega (arith, o.1.1.2.0); statements = o.1.1.1 };
  wrong = o.1.1.2.1;
}

pub form-answers : (ps : List Piece) → Answers ps (form_of ps)
form-answers ps = go (frame_of ps) refl where
  body : (r : Text × List Piece) → frame_of ps ≡ Some r → (o : Result (List Statement) FormFault) → Outcome 1 [] r.1 o → Answers ps (form_with r.0 o)
  body r e (Err f) o = refused-is ps r e f o
  body r e (Ok sts) o =
      let P : List Statement → Type 0 = λ x. IsFormOf ps (record { name = r.0; statements = x }) in
      let s = frame-sound ps r e in
      subst P (sym o.1.0) (record {
        frame = subst (IsFrame ps r.0) o.1.1 s;
        statements = o.1.2;
      })

  go : (o : Option (Text × List Piece)) → frame_of ps ≡ o → Answers ps (form_in o)
  go None e = λ name rest h. not_both (frame_of ps) (name, rest) e (frame-complete ps name rest h)
  go (Some r) e = body r e (body_of r.1) (body-outcome r.1 1 [] r.1 (le_refl (length r.1)))

pub only-form : (ps : List Piece) (m other : Form) → form_of ps ≡ Ok m → IsFormOf ps other → other ≡ m
only-form ps m other e h = let k : Ok other ≡ Ok m = sym (form-complete ps other h) ∙ e in cc

pub no_form : (ps : List Piece) (f : FormFault) (m : Form) → form_of ps ≡ Err f → IsFormOf ps m → ⊥
no_form ps f m e h = let k : Ok m ≡ Err f = sym (form-complete ps m h) ∙ e in cc

pub ok_form : (ps : List Piece) (m : Form) → form_of ps ≡ Ok m → IsFormOf ps m
ok_form ps m e = subst (Answers ps) e (form-answers ps)

pub first_fault : (ps : List Piece) (f : FormFault) → (f ≡ fault.NoMemory) ⊎ (form_of ps ≡ Err f) → (f ≡ fault.NoMemory) ⊎ IsFirstFault ps f
first_fault ps f (inl e) = inl e
first_fault ps f (inr e) = inr (subst (Answers ps) e (form-answers ps))

pub none_fits : (ps : List Piece) (f : FormFault) → (f ≡ fault.NoMemory) ⊎ (form_of ps ≡ Err f) → (f ≡ fault.NoMemory) ⊎ HasNoForm ps
none_fits ps f (inl e) = inl e
none_fits ps f (inr e) = inr (λ m. no_form ps f m e)
