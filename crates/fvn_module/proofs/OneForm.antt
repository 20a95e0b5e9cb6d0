-- Tokens are one written module at most, and have one first fault at most.
use Rattle.std.proofs.Common.{◌≡◌, ℕ, ◌+◌, true, false, List, [], ◌∷◌, ◌++◌, length, inl, inr, refl, sym, ap, ◌∙◌, subst, append_assoc}
use Rattle.std.specs.Prelude.{codes}
use Rattle.std.specs.List.{AllByRecursion}
use Rattle.std.proofs.lemmas.List.{append-nil, append_cancel_right}
use Rattle.fvn_lex.specs.Cut.{Piece}
use Rattle.fvn_syntax.specs.Pieces.{Text, word, dot}
use Rattle.fvn_module_syntax.specs.Words.{is_stop}
use Rattle.fvn_module_syntax.specs.declared.statement.Feature.{Feature}
use Rattle.fvn_module_syntax.specs.declared.statement.Statement.{Statement}
use Rattle.fvn_module_syntax.specs.declared.form.Form.{Form}
use Rattle.fvn_module_statements.specs.declared.form.FormFault.{FormFault}
use Rattle.fvn_module_statements.specs.declared.form.FormFault.TheVariants as fault
use Rattle.fvn_module_syntax.specs.Spelling.{each, spell_statement}
use Rattle.fvn_module_statements.specs.Laws.{StatementsAreDetermined}
use Rattle.fvn_module_statements.specs.LeftOut.{IsLeftOut}
use Rattle.fvn_module_statements.specs.Forms.{dotted, end, spell_frame, IsFrame, IsStatement, IsFormOf, IsFront, HasNoStatement, HasLeftOut, LeadsTo, IsRefused, IsFirstFault}

-- Dots.

abbrev Undotted : List Piece → Type 0
Undotted ps = AllByRecursion (λ p. is_stop p ≡ false) ps

heads : {p q : Piece} {ps qs : List Piece} → p ∷ ps ≡ q ∷ qs → p ≡ q
heads h = cc

tails : {p q : Piece} {ps qs : List Piece} → p ∷ ps ≡ q ∷ qs → ps ≡ qs
tails h = cc

no-stop : (p : Piece) → is_stop p ≡ false → dot ≡ p → ⊥
no-stop p h e = let f : true ≡ false = ap is_stop e ∙ h in cc

front-once : (f g r s : List Piece) → Undotted f → Undotted g → f ++ (dot ∷ r) ≡ g ++ (dot ∷ s) → (f ≡ g) × (r ≡ s)
front-once [] [] r s a b e = (refl, tails e)
front-once [] (q ∷ g) r s a b e = absurd (no-stop q b.0 (heads e))
front-once (p ∷ f) [] r s a b e = absurd (no-stop p a.0 (heads (sym e)))
front-once (p ∷ f) (q ∷ g) r s a b e =
    let k = front-once f g r s a.1 b.1 (tails e) in
    (ap (λ x. x ∷ f) (heads e) ∙ ap (λ x. q ∷ x) k.0, k.1)

has-dot : (f r : List Piece) → Undotted (f ++ (dot ∷ r)) → ⊥
has-dot [] r h = no-stop dot h.0 refl
has-dot (p ∷ f) r h = has-dot f r h.1

-- Frames.

abbrev frame-rest : List Piece → List Piece
frame-rest body = word (codes "is") ∷ body ++ (end ∷ [])

pub frame-once : (ps : List Piece) (n m : Text) (b c : List Piece) → IsFrame ps n b → IsFrame ps m c → (n ≡ m) × (b ≡ c)
frame-once ps n m b c h k =
    let e : spell_frame n b ≡ spell_frame m c = sym h.spelled ∙ k.spelled in
    let f : word n ∷ frame-rest b ≡ word m ∷ frame-rest c = tails e in
    let g : b ++ (end ∷ []) ≡ c ++ (end ∷ []) = tails (tails f) in
    (ap (λ p. p.text) (heads f), append_cancel_right b c (end ∷ []) g)

-- Statements with their dots.

module _ (law : StatementsAreDetermined) where
  -- these tokens do not begin with a statement and its dot
  abbrev Stuck : List Piece → Type 0
  Stuck left = (st : Statement) (rest : List Piece) → IsStatement st → left ≡ dotted st ++ rest → ⊥

  opened : (st : Statement) (rest : List Piece) → dotted st ++ rest ≡ spell_statement st ++ (dot ∷ rest)
  opened st rest = append_assoc (spell_statement st) (dot ∷ []) rest

  front-is : (left front : List Piece) → IsFront left front → (st : Statement) (rest : List Piece) → IsStatement st → left ≡ dotted st ++ rest → front ≡ spell_statement st
  front-is left front h st rest s e =
      (front-once front (spell_statement st) h.rest rest h.undotted s.undotted (sym h.split ∙ e ∙ opened st rest)).0

  stuck-none : (left : List Piece) → HasNoStatement left → Stuck left
  stuck-none left (inl h) st rest s e =
      has-dot (spell_statement st) rest (subst Undotted (e ∙ opened st rest) h.1)
  stuck-none left (inr h) st rest s e = h.1.1.no_statement st s.written (front-is left h.0 h.1.0 st rest s e)

  stuck-left_out : (f : Feature) (left : List Piece) → HasLeftOut f left → Stuck left
  stuck-left_out f left h st rest s e = law.apart f st s.written (subst (IsLeftOut f) (front-is left h.0 h.1.0 st rest s e) h.1.1)

  stuck-end : Stuck []
  stuck-end st rest s e = go (spell_statement st) (e ∙ opened st rest) where
    go : (ps : List Piece) → [] ≡ ps ++ (dot ∷ rest) → ⊥
    go [] h = cc
    go (p ∷ ps) h = cc

  all-but-first : (st : Statement) (b : List Statement) (l : List Piece) → each dotted (st ∷ b) ++ l ≡ dotted st ++ (each dotted b ++ l)
  all-but-first st b l = append_assoc (dotted st) (each dotted b) l

  befores-once : (b c : List Statement) (l k : List Piece) → AllByRecursion IsStatement b → AllByRecursion IsStatement c → Stuck l → Stuck k →
      each dotted b ++ l ≡ each dotted c ++ k → (b ≡ c) × (l ≡ k)
  befores-once [] [] l k g h s t e = (refl, e)
  befores-once [] (u ∷ c) l k g h s t e = absurd (s u (each dotted c ++ k) h.0 (e ∙ all-but-first u c k))
  befores-once (u ∷ b) [] l k g h s t e = absurd (t u (each dotted b ++ l) g.0 (sym e ∙ all-but-first u b l))
  befores-once (u ∷ b) (v ∷ c) l k g h s t e =
      let x : spell_statement u ++ (dot ∷ (each dotted b ++ l)) ≡ spell_statement v ++ (dot ∷ (each dotted c ++ k)) =
      sym (opened u (each dotted b ++ l)) ∙ sym (all-but-first u b l) ∙ e ∙ all-but-first v c k ∙ opened v (each dotted c ++ k) in
      let y = front-once (spell_statement u) (spell_statement v) (each dotted b ++ l) (each dotted c ++ k) g.0.undotted h.0.undotted x in
      let same : u ≡ v = law.one_statement u v g.0.written h.0.written y.0 in
      let z = befores-once b c l k g.1 h.1 s t y.1 in
      (ap (λ w. w ∷ b) same ∙ ap (λ ws. v ∷ ws) z.0, z.1)

  -- Forms.

  form-of : (n : Text) (sts : List Statement) → Form
  form-of n sts = record { name = n; statements = sts }

  form-once : (ps : List Piece) (f g : Form) → IsFormOf ps f → IsFormOf ps g → f ≡ g
  form-once ps f g h k =
      let e = frame-once ps f.name g.name (each dotted f.statements) (each dotted g.statements) h.frame k.frame in
      let x : each dotted f.statements ++ [] ≡ each dotted g.statements ++ [] = ap (λ b. b ++ []) e.1 in
      let y = befores-once f.statements g.statements [] [] h.statements k.statements stuck-end stuck-end x in
      ap (λ n. record { name = n; statements = f.statements }) e.0 ∙ ap (λ sts. record { name = g.name; statements = sts }) y.0

  -- Faults.

  leads-once : (b c : List Piece) (n m : ℕ) (l k : List Piece) → b ≡ c → LeadsTo b n l → LeadsTo c m k → Stuck l → Stuck k → (n ≡ m) × (l ≡ k)
  leads-once b c n m l k e g h s t =
      let x = befores-once g.before h.before l k g.statements h.statements s t (sym g.is ∙ e ∙ h.is) in
      (g.number ∙ ap (λ sts. length sts + 1) x.0 ∙ sym h.number, x.1)

  module _ (ps : List Piece) where
    abbrev At : ℕ → (List Piece → Type 0) → Type 0
    At n W = IsRefused ps n W

    same-place : {V W : List Piece → Type 0} (n m : ℕ) → ((left : List Piece) → V left → Stuck left) → ((left : List Piece) → W left → Stuck left) →
        (g : At n V) (h : At m W) → (n ≡ m) × (g.left ≡ h.left)
    same-place n m sv sw g h =
        let e = frame-once ps g.name h.name g.body h.body g.frame h.frame in
        leads-once g.body h.body n m g.left h.left e.1 g.leads h.leads (sv g.left g.wrong) (sw h.left h.wrong)

    front-same : (left f g : List Piece) → IsFront left f → IsFront left g → f ≡ g
    front-same left f g h k = (front-once f g h.rest k.rest h.undotted k.undotted (sym h.split ∙ k.split)).0

    none-or-left_out : (f : Feature) (left : List Piece) → HasNoStatement left → HasLeftOut f left → ⊥
    none-or-left_out f left (inl h) k = has-dot k.0 k.1.0.rest (subst Undotted k.1.0.split h.1)
    none-or-left_out f left (inr h) k =
        let e = front-same left h.0 k.0 h.1.0 k.1.0 in
        h.1.1.none_left_out f (subst (IsLeftOut f) (sym e) k.1.1)

    left_out-once : (f g : Feature) (left : List Piece) → HasLeftOut f left → HasLeftOut g left → f ≡ g
    left_out-once f g left h k =
        let e = front-same left h.0 k.0 h.1.0 k.1.0 in
        law.one_form f g k.0 (subst (IsLeftOut f) e h.1.1) k.1.1

    statement-left_out : (n m : ℕ) (f : Feature) → At n HasNoStatement → At m (HasLeftOut f) → ⊥
    statement-left_out n m f g h =
        let x = same-place n m stuck-none (stuck-left_out f) g h in
        none-or-left_out f h.left (subst HasNoStatement x.1 g.wrong) h.wrong

    form-fault-once : (f g : FormFault) → IsFirstFault ps f → IsFirstFault ps g → f ≡ g
    form-fault-once fault.Header fault.Header h k = refl
    form-fault-once fault.Header (fault.Statement m) h k = absurd (h k.name k.body k.frame)
    form-fault-once fault.Header (fault.LeftOut m g) h k = absurd (h k.name k.body k.frame)
    form-fault-once (fault.Statement n) fault.Header h k = absurd (k h.name h.body h.frame)
    form-fault-once (fault.Statement n) (fault.Statement m) h k = ap fault.Statement (same-place n m stuck-none stuck-none h k).0
    form-fault-once (fault.Statement n) (fault.LeftOut m g) h k = absurd (statement-left_out n m g h k)
    form-fault-once (fault.LeftOut n f) fault.Header h k = absurd (k h.name h.body h.frame)
    form-fault-once (fault.LeftOut n f) (fault.Statement m) h k = absurd (statement-left_out m n f k h)
    form-fault-once (fault.LeftOut n f) (fault.LeftOut m g) h k =
        let x = same-place n m (stuck-left_out f) (stuck-left_out g) h k in
        ap (λ i. fault.LeftOut i f) x.0 ∙ ap (λ i. fault.LeftOut m i) (left_out-once f g k.left (subst (HasLeftOut f) x.1 h.wrong) k.wrong)
    form-fault-once fault.NoMemory g h k = absurd h
    form-fault-once f fault.NoMemory h k = absurd k

    not-refused : {W : List Piece → Type 0} (n : ℕ) → ((left : List Piece) → W left → Stuck left) → (W [] → ⊥) → (f : Form) → IsFormOf ps f → At n W → ⊥
    not-refused {W} n sw none f h k =
        let e = frame-once ps f.name k.name (each dotted f.statements) k.body h.frame k.frame in
        let x : each dotted f.statements ++ [] ≡ each dotted k.leads.before ++ k.left = append-nil (each dotted f.statements) ∙ e.1 ∙ k.leads.is in
        let y = befores-once f.statements k.leads.before [] k.left h.statements k.leads.statements stuck-end (sw k.left k.wrong) x in
        none (subst W (sym y.1) k.wrong)

    no-front : (f : List Piece) → IsFront [] f → ⊥
    no-front [] h = let e = h.split in cc
    no-front (p ∷ f) h = let e = h.split in cc

    form-no-fault : (f : Form) → IsFormOf ps f → (g : FormFault) → IsFirstFault ps g → ⊥
    form-no-fault f h fault.Header k = k f.name (each dotted f.statements) h.frame
    form-no-fault f h (fault.Statement n) k = not-refused n stuck-none none f h k where
      none : HasNoStatement [] → ⊥
      none (inl x) = x.0
      none (inr x) = no-front x.0 x.1.0
    form-no-fault f h (fault.LeftOut n g) k = not-refused n (stuck-left_out g) (λ x. no-front x.0 x.1.0) f h k
    form-no-fault f h fault.NoMemory k = k

-- The same for callers.

pub one-form : StatementsAreDetermined → (ps : List Piece) (f g : Form) → IsFormOf ps f → IsFormOf ps g → f ≡ g
one-form law ps f g h k = form-once law ps f g h k

pub one-form-fault : StatementsAreDetermined → (ps : List Piece) (f g : FormFault) → IsFirstFault ps f → IsFirstFault ps g → f ≡ g
one-form-fault law ps f g h k = form-fault-once law ps f g h k

pub form-or-fault : StatementsAreDetermined → (ps : List Piece) (f : Form) → IsFormOf ps f → (g : FormFault) → IsFirstFault ps g → ⊥
form-or-fault law ps f h g k = form-no-fault law ps f h g k
