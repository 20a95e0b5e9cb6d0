-- What a binding text binds is determined.
use Rattle.std.proofs.Common.{◌≡◌, ◌≢◌, ℕ, zero, suc, ◌<◌, ◌⊎◌, inl, inr, Bool, true, false, List, [], ◌∷◌, length, get_or, Some, Result, refl, sym, ap, ◌∙◌, subst, arith}
use Rattle.std.specs.Prelude.{IfOk, IfErr, All, AllPairs, Contains, slice_get, if◌then◌else◌}
use Rattle.std.specs.List.{AllByRecursion}
use Rattle.fvn_lex.specs.Cut.{Piece}
use Rattle.fvn_lex.specs.Parts.{HasPieces}
use Rattle.fvn_lex.proofs.RowPieces.{pieces-once}
use Rattle.fvn_terms.specs.declared.plain.Var.{Var}
use Rattle.fvn_terms.specs.declared.plain.Plain.{Plain}
use Rattle.fvn_terms.specs.declared.declarations.Declarations.{Declarations}
use Rattle.fvn_terms.specs.Term.{nodes, var}
use Rattle.fvn_terms.specs.Places.{stop}
use Rattle.fvn_terms.specs.Plain.{term}
use Rattle.fvn_terms.specs.Signature.{kind, IsSort, HasKind, same}
use Rattle.fvn_terms.specs.Sorts.{HasSort, IsWellSorted}
use Rattle.fvn_terms.specs.Substitution.{Occurs, same_var, bound, term_or, value}
use Rattle.fvn_syntax.specs.declared.names.Names.{Names}
use Rattle.fvn_syntax.specs.Laws.{IsFitting, TermsAreWellKinded}
use Rattle.fvn_syntax.specs.Pieces.{Text}
use Rattle.fvn_syntax.specs.Scope.{Scope}
use Rattle.fvn_problems.specs.declared.fault.ProblemFault.{ProblemFault}
use Rattle.fvn_problems.specs.declared.fault.ProblemFault.TheVariants.{Text as NoText, NoMemory}
use Rattle.fvn_problems.specs.declared.problem.Problem.{Problem}
use Rattle.fvn_problems.specs.declared.bindings.Bindings.{Bindings}
use Rattle.fvn_problems.specs.declared.split.Halves.{Halves}
use Rattle.fvn_problems.specs.Bindings.{BindsOnce, AreOneVariable, IsVariableOf, IsBindingFault, no_variable, in_term, other_kind, other_sort, AreBindingsOf, IsBindingsFault, AreBindings, IsFault, in_bindings, too_large, IsText, IsBindings, IsOnlyBindings, RefusesBindings, HasNoBindings, AreOfProblem, AreDistinct, AreNotFresh}
use Rattle.fvn_problems.specs.Scopes.{unguarded, AreNamesOf}
use Rattle.fvn_problems.specs.Spelling.{RawPair, spell_bindings, IsBindingText}
use Rattle.fvn_problems.specs.inner.Split.{AreTerms, IsBindingRow, IsBindingSplit}
use Rattle.fvn_problems.specs.inner.Bound.{AreBound, TellsOnce, Binds, BindsNothing}
use Rattle.fvn_problems.proofs.Answering.{on-ok, on-err, first-written, refuted, IsOfText, fault_of-text}
use Rattle.fvn_problems.proofs.Binding.{bindings-same, bindings-faultless}
use Rattle.fvn_problems.proofs.Named.{grown-ok}
use Rattle.fvn_terms.proofs.Variables.{same_var_is}
use Rattle.fvn_problems.proofs.ProblemTexts.{all-at, are-terms}
use Rattle.fvn_problems.proofs.Spelled.{bindings-once, pairs-written}

-- names fit also where names of variables are not guarded
pub unguarded-fit : (d : Declarations) (names : Names) → AreNamesOf d names → IsFitting (unguarded d names)
unguarded-fit d names fit =
    let f = fit.fitting in
    record { sorts = f.sorts; kinds = f.kinds; variables = f.variables; ops = f.ops; sums = f.sums }

abbrev pub make : List (Var × Plain) → Bindings
make ps = record { subst = record { pairs = ps } }

module _ (c : Scope) (p : Problem) where
  binding-text : (before : List Text) (raw : RawPair) (f : ProblemFault) → IsBindingFault c p before raw f → IsOfText f
  binding-text before raw f (no_variable n is) = subst IsOfText (sym is) tt
  binding-text before raw f (in_term x v first h is) = subst IsOfText (sym is) (fault_of-text first)
  binding-text before raw f (other_kind x v r h ne is) = subst IsOfText (sym is) tt
  binding-text before raw f (other_sort x v r h k n is) = subst IsOfText (sym is) tt

  bindings-text : (before : List Text) (rs : List RawPair) (f : ProblemFault) → IsBindingsFault c p before rs f → IsOfText f
  bindings-text before [] f h = absurd h
  bindings-text before (r ∷ rs) f (inl h) = binding-text before r f h
  bindings-text before (r ∷ rs) f (inr h) = bindings-text h.1 rs f h.2.1

  of-text : (raws : List RawPair) (f : ProblemFault) → IsFault c p raws f → IsOfText f
  of-text raws f (in_bindings h) = bindings-text p.names.texts raws f h
  of-text raws f (too_large bs after h l is) = subst IsOfText (sym is) tt

  module _ (distinct : AllPairs (λ x y. x ≢ y) p.names.texts) (raws : List RawPair) where
    bound-once : (b e : Bindings) → AreBindings c p raws b → AreBindings c p raws e → b ≡ e
    bound-once b e u v = ap make (bindings-same c p distinct p.names.texts raws b.subst.pairs e.subst.pairs u.names v.names u.pairs v.pairs).0

    bound-faultless : (b : Bindings) (f : ProblemFault) → AreBindings c p raws b → IsFault c p raws f → ⊥
    bound-faultless b f u (in_bindings h) = bindings-faultless c p p.names.texts raws b.subst.pairs u.names f u.pairs h
    bound-faultless b f u (too_large bs after h l is) =
        let e = (bindings-same c p distinct p.names.texts raws b.subst.pairs bs u.names after u.pairs h).0 in
        let c : Contains b.subst.pairs l.0 = subst (λ ps. Contains ps l.0) (sym e) l.1.0 in
        let small = u.small c.0 l.0 c.1 in
        let n : nodes (term (get_or b.subst.pairs c.0 l.0).1) ≡ nodes (term l.0.1) = ap (λ s. nodes (term s.1)) c.2 in
        let large = l.1.1 in
        absurd (omega arith)

  -- the variable of the binding at a place
  bound-at : (before : List Text) (rs : List RawPair) (bs : List (Var × Plain)) (after : List Text) → AreBindingsOf c p before rs bs after →
      (k : ℕ) (b : Var × Plain) (r : RawPair) → k < length bs → (k < length rs) × IsVariableOf c p (get_or rs k r).left (get_or bs k b).0
  bound-at before [] [] after h k b r l = absurd (omega arith)
  bound-at before [] (e ∷ es) after h k b r l = absurd h
  bound-at before (q ∷ qs) [] after h k b r l = absurd h
  bound-at before (q ∷ qs) (e ∷ es) after h zero b r l = (omega arith, h.1.0.variable)
  bound-at before (q ∷ qs) (e ∷ es) after h (suc k) b r l = let g = bound-at h.0 qs es after h.1.1 k b r (omega arith) in (omega (arith, g.0), g.1)

  bound-known : (before : List Text) (rs : List RawPair) (bs : List (Var × Plain)) (after : List Text) → AreBindingsOf c p before rs bs after → AllByRecursion (λ s. Contains p.vars s.0) bs
  bound-known before [] [] after h = tt
  bound-known before [] (e ∷ es) after h = absurd h
  bound-known before (q ∷ qs) [] after h = absurd h
  bound-known before (q ∷ qs) (e ∷ es) after h = (h.1.0.variable.listed, bound-known h.0 qs es after h.1.1)

  bound-old : (before : List Text) (rs : List RawPair) (bs : List (Var × Plain)) (after : List Text) → AreBindingsOf c p before rs bs after →
      AllByRecursion (λ s. (x : Var) → Occurs x (term s.1) → x.fresh ≡ false) bs
  bound-old before [] [] after h = tt
  bound-old before [] (e ∷ es) after h = absurd h
  bound-old before (q ∷ qs) [] after h = absurd h
  bound-old before (q ∷ qs) (e ∷ es) after h =
      let b = h.1.0 in
      let g = grown-ok c before q.right b.resolved b.stands in
      (λ x o. (g.old x (subst (λ t. Occurs x (term t)) b.term_is o)).0, bound-old h.0 qs es after h.1.1)

  -- one variable is written where one is bound
  one-variable : (v w : RawPair) (x y : Var) → IsVariableOf c p v.left x → IsVariableOf c p w.left y → x ≡ y → AreOneVariable c v.left w.left
  one-variable v w x y a b e =
      let t : a.text ≡ b.text = (let f : Some a.text ≡ Some b.text = sym a.named ∙ ap (λ z. slice_get p.names.texts z.name) e ∙ b.named in cc) in
      record {
        variable = (b.text, y.sort);
        first = a.stands ∙ (λ i. Some (t i, (e i).sort));
        second = b.stands;
      }

  bound-distinct : (rs : List RawPair) (bs : List (Var × Plain)) (after : List Text) → AreBindingsOf c p p.names.texts rs bs after → BindsOnce c rs → AllPairs (λ s t. s.0 ≢ t.0) bs
  bound-distinct rs bs after h once i j b l m e =
      let r : RawPair = some-raw rs bs after h j m in
      let u = bound-at p.names.texts rs bs after h i b r (omega arith) in
      let v = bound-at p.names.texts rs bs after h j b r m in
      once i j r l v.0 (one-variable (get_or rs i r) (get_or rs j r) (get_or bs i b).0 (get_or bs j b).0 u.1 v.1 e)
    where
      some-raw : (rs : List RawPair) (bs : List (Var × Plain)) (after : List Text) → AreBindingsOf c p p.names.texts rs bs after → (j : ℕ) → j < length bs → RawPair
      some-raw [] [] after h j m = absurd (omega arith)
      some-raw [] (b ∷ bs) after h j m = absurd h
      some-raw (r ∷ rs) bs after h j m = r

module _ (d : Declarations) (names : Names) (p : Problem) (fit : AreNamesOf d names) (law : TermsAreWellKinded) where
  abbrev Fits : Var × Plain → Type 0
  Fits s = HasKind d (term s.1) (kind d s.0.sort) × HasSort d (term s.1) s.0.sort

  bound-fit : (before : List Text) (rs : List RawPair) (bs : List (Var × Plain)) (after : List Text) → AreBindingsOf (unguarded d names) p before rs bs after → AllByRecursion Fits bs
  bound-fit before [] [] after h = tt
  bound-fit before [] (e ∷ es) after h = absurd h
  bound-fit before (q ∷ qs) [] after h = absurd h
  bound-fit before (q ∷ qs) (e ∷ es) after h =
      let b = h.1.0 in
      let k : HasKind d (term b.resolved.term) (kind d e.0.sort) =
      subst (HasKind d (term b.resolved.term)) b.one_kind (law (unguarded d names) (unguarded-fit d names fit) before q.right b.resolved b.stands) in
      ((subst (λ t. HasKind d (term t) (kind d e.0.sort)) (sym b.term_is) k, subst (λ t. HasSort d (term t) e.0.sort) (sym b.term_is) b.sorted), bound-fit h.0 qs es after h.1.1)

  -- what the pairs give a variable is of its kind and of its sort
  value-fits : (bs : List (Var × Plain)) → AllByRecursion Fits bs → (x : Var) → (IsSort d x.sort → HasKind d (value bs x) (kind d x.sort)) × HasSort d (value bs x) x.sort
  value-fits [] h x = (λ s. (s, refl), record { form = var x; equal = stop; gets = record { sort = x.sort; gets = refl; below = same } })
  value-fits (b ∷ bs) h x = go (same_var b.0 x) refl (value-fits bs h.1 x) where
    go : (t : Bool) → same_var b.0 x ≡ t → (IsSort d x.sort → HasKind d (value bs x) (kind d x.sort)) × HasSort d (value bs x) x.sort →
        (IsSort d x.sort → HasKind d (term_or x (if t then Some b.1 else bound bs x)) (kind d x.sort)) × HasSort d (term_or x (if t then Some b.1 else bound bs x)) x.sort
    go true e later =
        let f = same_var_is b.0 x e in
        (λ s. subst (λ v. HasKind d (term b.1) (kind d v.sort)) f h.0.0, subst (λ v. HasSort d (term b.1) v.sort) f h.0.1)
    go false e later = later

module _ (d : Declarations) (names : Names) (p : Problem) (bytes : Text) where
  pub text-once : (q r : List RawPair) → IsText d names p bytes q → IsText d names p bytes r → q ≡ r
  text-once q r a b =
      let e = pieces-once bytes (spell_bindings q) (spell_bindings r) (a.0).spelled (b.0).spelled in
      bindings-once q r (a.0).written (b.0).written e

  module _ (distinct : AllPairs (λ x y. x ≢ y) p.names.texts) where
    pub bindings-only : (b : Bindings) → IsBindings d names p bytes b → IsOnlyBindings d names p bytes b
    bindings-only b a other e =
        let same : e.raw ≡ a.raw = text-once e.raw a.raw e.text a.text in
        bound-once (unguarded d names) p distinct a.raw other b (subst (λ r. AreBindings (unguarded d names) p r other) same e.bound) a.bound

    never : (raw : List RawPair) → IsText d names p bytes raw → (f : ProblemFault) → IsFault (unguarded d names) p raw f → (b : Bindings) → IsBindings d names p bytes b → ⊥
    never raw t f h b a =
        let same : a.raw ≡ raw = text-once a.raw raw a.text t in
        bound-faultless (unguarded d names) p distinct raw b f (subst (λ r. AreBindings (unguarded d names) p r b) same a.bound) h

    pub bindings-none : (f : ProblemFault) → RefusesBindings d names p bytes f → HasNoBindings d names p bytes f
    bindings-none =
        refuted (IsText d names p bytes) (IsFault (unguarded d names) p) bytes (IsBindings d names p bytes)
        (λ raw t. (spell_bindings raw, (t.0).spelled)) (λ b a. (a.raw, a.text)) never

  pub bindings-known : (b : Bindings) → IsBindings d names p bytes b → AreOfProblem p b
  bindings-known b a = all-at (λ s. Contains p.vars s.0) b.subst.pairs (bound-known (unguarded d names) p p.names.texts a.raw b.subst.pairs a.bound.names a.bound.pairs)

  pub bindings-distinct : (b : Bindings) → IsBindings d names p bytes b → AreDistinct b
  bindings-distinct b a = bound-distinct (unguarded d names) p a.raw b.subst.pairs a.bound.names a.bound.pairs (a.text).1

  pub bindings-old : (b : Bindings) → IsBindings d names p bytes b → AreNotFresh b
  bindings-old b a =
      all-at (λ s. (x : Var) → Occurs x (term s.1) → x.fresh ≡ false) b.subst.pairs
      (bound-old (unguarded d names) p p.names.texts a.raw b.subst.pairs a.bound.names a.bound.pairs)

  pub bindings-sorted : TermsAreWellKinded → AreNamesOf d names → (b : Bindings) → IsBindings d names p bytes b → IsWellSorted d (value b.subst.pairs)
  bindings-sorted law fit b a =
      let h = bound-fit d names p fit law p.names.texts a.raw b.subst.pairs a.bound.names a.bound.pairs in
      (λ x s. (value-fits d names p fit law b.subst.pairs h x).0 s, λ x. (value-fits d names p fit law b.subst.pairs h x).1)

  module _ (row : List Piece) (cut : HasPieces bytes row) where
    -- a row that is none makes the text none
    pub bindings-formless : ((raw : List RawPair) → IsBindingRow row raw → ⊥) → RefusesBindings d names p bytes NoText
    bindings-formless none =
        ((row, cut), λ raw t. none raw (record { written = (t.0).written; spelled = pieces-once bytes row (spell_bindings raw) cut (t.0).spelled }))

    module _ (list : List Halves) (split : IsBindingSplit row list) where
      in-text : IsBindingText bytes split.raw
      in-text = record { written = split.is.written; spelled = subst (HasPieces bytes) split.is.spelled cut }

      in-list : AreBound list split.raw
      in-list = record { written = split.is.written; are = split.halves }

      pub bindings-terms : All AreTerms list
      bindings-terms = are-terms list split.raw (record { written = pairs-written split.raw split.is.written; are = split.halves })

      pub bindings-twice : TellsOnce (unguarded d names) list false → RefusesBindings d names p bytes NoText
      bindings-twice tells = (
        (row, cut),
        λ raw t.
            let e : raw ≡ split.raw = bindings-once raw split.raw (t.0).written split.is.written (pieces-once bytes (spell_bindings raw) (spell_bindings split.raw) (t.0).spelled in-text.spelled) in
            let h : false ≡ true = (tells split.raw in-list).1 (subst (BindsOnce (unguarded d names)) e t.1) in
            cc,
      )

      module _ (tells : TellsOnce (unguarded d names) list true) where
        is-text : IsText d names p bytes split.raw
        is-text = (in-text, (tells split.raw in-list).0 refl)

        pub bindings-ok : (r : Result Bindings ProblemFault) → IfOk r (Binds (unguarded d names) p list) → IfOk r (IsBindings d names p bytes)
        bindings-ok = on-ok (Binds (unguarded d names) p list) (IsBindings d names p bytes) (λ b a. record { raw = split.raw; text = is-text; bound = a split.raw in-list })

        fault-of : (f : ProblemFault) → (f ≡ NoMemory) ⊎ IsFault (unguarded d names) p split.raw f → RefusesBindings d names p bytes f
        fault-of f (inl e) = subst (RefusesBindings d names p bytes) (sym e) tt
        fault-of f (inr h) =
            first-written (IsText d names p bytes) (IsFault (unguarded d names) p) bytes f (of-text (unguarded d names) p split.raw f h) split.raw is-text h

        pub bindings-err : (r : Result Bindings ProblemFault) → IfErr r (BindsNothing (unguarded d names) p list) → IfErr r (RefusesBindings d names p bytes)
        bindings-err = on-err (BindsNothing (unguarded d names) p list) (RefusesBindings d names p bytes) (λ f a. fault-of f (a split.raw in-list))
