-- The reader of terms reads each spelled term as what it stands for.
use Rattle.std.proofs.Common.{◌≡◌, Bool, true, false, ◌&&◌, List, [], ◌∷◌, ◌++◌, Option, Some, None, Result, Ok, Err, refl, sym, ap, ◌∙◌, append_assoc}
use Rattle.std.specs.Prelude.{ℕ, codes, if◌then◌else◌}
use Rattle.std.proofs.lemmas.List.{append-nil}
use Rattle.fvn_lex.specs.Cut.{Piece}
use Rattle.fvn_terms.specs.declared.plain.OpId.{OpId}
use Rattle.fvn_terms.specs.declared.plain.SortId.{SortId}
use Rattle.fvn_terms.specs.declared.plain.Plain.{Plain}
use Rattle.fvn_syntax.specs.declared.fault.TermFault.{TermFault}
use Rattle.fvn_syntax.specs.declared.fault.TermFault.TheVariants.{UnknownName, ReservedName}
use Rattle.fvn_syntax.specs.declared.seen.Seen.{Seen}
use Rattle.fvn_syntax.specs.declared.seen.Kinded.{Kinded}
use Rattle.fvn_syntax.specs.declared.reading.Frame.{Frame}
use Rattle.fvn_syntax.specs.declared.reading.Frame.TheVariants.{Round, Call}
use Rattle.fvn_syntax.specs.declared.reading.Spot.TheVariants.{Wanted, Named, Sorts, Whole}
use Rattle.fvn_syntax.specs.Pieces.{Text, word, left_paren, right_paren, left_bracket, right_bracket, comma, is_special, is_colon_name, is_reserved, without_last}
use Rattle.fvn_syntax.specs.Raw.{RawTerm, RawTerms, name, call, round, kind_variable, last, and, spell, spell_all, spell_others, IsWritten, AreWritten, EndsBefore}
use Rattle.fvn_syntax.specs.Names.{op_named, sort_named, kind_of, if_of_kind, kind_of_all, bracket}
use Rattle.fvn_syntax.specs.Scope.{Scope}
use Rattle.fvn_syntax.specs.Resolve.{bind, or_fault, checked}
use Rattle.fvn_syntax.specs.inner.Reading.{State, state, start, leaf, sorted_leaf, closed, whole, behind, step, step_at, finish_at, read_sort, open_call, run}
use Rattle.fvn_syntax.proofs.FormReading.{ends-close, ends-comma, ends-nil}

-- arguments that were read: what was seen, their kinds and their terms
pub record Arguments : Type 0 where
  pub seen : Seen
  pub kinds : List SortId
  pub terms : List Plain

abbrev pub arguments : Seen → List SortId → List Plain → Arguments
arguments s ks us = record { seen = s; kinds = ks; terms = us }

bind-bind : {A B C : Type 0} (r : Result A TermFault) (f : A → Result B TermFault) (g : B → Result C TermFault) →
    bind (bind r f) g ≡ bind r (λ x. bind (f x) g)
bind-bind (Ok a) f g = refl
bind-bind (Err e) f g = refl

bind-same : {A B : Type 0} (r : Result A TermFault) (f g : A → Result B TermFault) → ((a : A) → f a ≡ g a) → bind r f ≡ bind r g
bind-same (Ok a) f g h = h a
bind-same (Err e) f g h = refl

bind-pair : (r : Result (Kinded × Seen) TermFault) → r ≡ bind r (λ v. Ok (v.0, v.1))
bind-pair (Ok v) = refl
bind-pair (Err e) = refl

module _ (limit : ℕ) (c : Scope) where
  -- the reading from here, behind a whole term
  abbrev pub goes_on : List Frame → List Piece → Kinded × Seen → Result (Kinded × Seen) TermFault
  goes_on fs rest v = run limit c (state fs (Whole v.0) v.1) rest

  pub run-nil : (st : State) → run limit c st [] ≡ finish_at limit c st.seen st.spot
  unfolding run
  run-nil st = refl

  pub run-cons : (st : State) (p : Piece) (ps : List Piece) → run limit c st (p ∷ ps) ≡ bind (step limit c st p) (λ next. run limit c next ps)
  unfolding run
  run-cons st p ps = refl

  abbrev pub kind_value : Seen → Text → Option SortId → Result (Kinded × Seen) TermFault
  kind_value s x None = Err UnknownName
  kind_value s x (Some k) = Ok (sorted_leaf limit c s x k)

  -- what a written term is read as
  abbrev mutual
    pub value : Seen → RawTerm → Result (Kinded × Seen) TermFault
    value s (name w) = leaf limit c s w
    value s (round t) = value s t
    value s (kind_variable x q qs) =
        checked c.guarded (without_last x) (kind_value s (without_last x) (bracket c.names.sorts c.declarations.kinds q qs))
    value s (call w ts) =
        bind (or_fault UnknownName (op_named c.names w)) (λ f. bind (values s [] [] ts) (λ a. closed limit c a.seen f a.kinds a.terms))

    -- what further arguments are read as
    pub values : Seen → List SortId → List Plain → RawTerms → Result Arguments TermFault
    values s ks us (last t) = bind (value s t) (λ v. Ok (arguments v.1 (ks ++ (v.0.kind ∷ [])) (us ++ (v.0.term ∷ []))))
    values s ks us (and t ts) = bind (value s t) (λ v. values v.1 (ks ++ (v.0.kind ∷ [])) (us ++ (v.0.term ∷ [])) ts)

  -- a piece behind a name alone
  step-named : (fs : List Frame) (s : Seen) (w : Text) (p : Piece) → is_special (codes "(") p ≡ false →
      (is_colon_name w ≡ true → is_special (codes "[") p ≡ false) →
      step_at limit c fs s p (Named w) ≡ bind (leaf limit c s w) (λ x. behind limit c x p fs)
  step-named fs s w p n k = go (is_colon_name w) refl where
    go : (b : Bool) → is_colon_name w ≡ b → step_at limit c fs s p (Named w) ≡ bind (leaf limit c s w) (λ x. behind limit c x p fs)
    go true e = let m : is_special (codes "[") p ≡ false = k e in rw (n, e, m) refl
    go false e = rw (n, e) refl

  named : (w : Text) (fs : List Frame) (s : Seen) (rest : List Piece) → EndsBefore rest (name w) →
      run limit c (state fs (Named w) s) rest ≡ bind (leaf limit c s w) (goes_on fs rest)
  named w fs s [] e =
      run-nil (state fs (Named w) s)
      ∙ bind-pair (leaf limit c s w)
      ∙ bind-same (leaf limit c s w) (λ v. Ok (v.0, v.1)) (goes_on fs []) (λ v. sym (run-nil (state fs (Whole v.0) v.1)))
  named w fs s (p ∷ ps) e =
      run-cons (state fs (Named w) s) p ps
      ∙ ap (λ r. bind r (λ next. run limit c next ps)) (step-named fs s w p e.0 e.1)
      ∙ bind-bind (leaf limit c s w) (λ x. behind limit c x p fs) (λ next. run limit c next ps)
      ∙ bind-same (leaf limit c s w) (λ x. bind (behind limit c x p fs) (λ next. run limit c next ps)) (goes_on fs (p ∷ ps))
      (λ v. sym (run-cons (state fs (Whole v.0) v.1) p ps))

  -- the sorts of a bracket that follow
  more-sorts : (qs : List Text) (k : SortId) (x : Text) (fs : List Frame) (s : Seen) (rest : List Piece) →
      run limit c (state fs (Sorts x (Some k)) s) (spell_others qs ++ rest)
      ≡ bind (kind_value s x (kind_of_all c.names.sorts c.declarations.kinds (Some k) qs)) (goes_on fs rest)
  more-sorts [] k x fs s rest = run-cons (state fs (Sorts x (Some k)) s) right_bracket rest
  more-sorts (q ∷ qs) k x fs s rest =
      run-cons (state fs (Sorts x (Some k)) s) comma (word q ∷ (spell_others qs ++ rest))
      ∙ run-cons (state fs (Sorts x (Some k)) s) (word q) (spell_others qs ++ rest)
      ∙ go (if_of_kind c.declarations.kinds k (sort_named c.names.sorts q)) (λ n. more-sorts qs n x fs s rest)
    where
      go : (o : Option SortId) →
          ((n : SortId) → run limit c (state fs (Sorts x (Some n)) s) (spell_others qs ++ rest)
          ≡ bind (kind_value s x (kind_of_all c.names.sorts c.declarations.kinds (Some n) qs)) (goes_on fs rest)) →
          bind (read_sort fs s x o) (λ next. run limit c next (spell_others qs ++ rest))
          ≡ bind (kind_value s x (kind_of_all c.names.sorts c.declarations.kinds o qs)) (goes_on fs rest)
      go None later = refl
      go (Some n) later = later n

  first-sort : (q : Text) (qs : List Text) (x : Text) (fs : List Frame) (s : Seen) (rest : List Piece) →
      run limit c (state fs (Sorts x None) s) (word q ∷ (spell_others qs ++ rest))
      ≡ bind (kind_value s x (bracket c.names.sorts c.declarations.kinds q qs)) (goes_on fs rest)
  first-sort q qs x fs s rest =
      run-cons (state fs (Sorts x None) s) (word q) (spell_others qs ++ rest)
      ∙ go (kind_of c.declarations.kinds (sort_named c.names.sorts q))
    where
      go : (o : Option SortId) →
          bind (read_sort fs s x o) (λ next. run limit c next (spell_others qs ++ rest))
          ≡ bind (kind_value s x (kind_of_all c.names.sorts c.declarations.kinds o qs)) (goes_on fs rest)
      go None = refl
      go (Some n) = more-sorts qs n x fs s rest

  bracketed : (x q : Text) (qs : List Text) → is_colon_name x ≡ true → (fs : List Frame) (s : Seen) (rest : List Piece) →
      run limit c (state fs (Named x) s) (left_bracket ∷ (word q ∷ (spell_others qs ++ rest)))
      ≡ bind (value s (kind_variable x q qs)) (goes_on fs rest)
  bracketed x q qs h fs s rest =
      run-cons (state fs (Named x) s) left_bracket (word q ∷ (spell_others qs ++ rest))
      ∙ rw h (go (c.guarded && is_reserved (without_last x)))
    where
      go : (b : Bool) →
          bind (if b then Err ReservedName else Ok (state fs (Sorts (without_last x) None) s)) (λ next. run limit c next (word q ∷ (spell_others qs ++ rest)))
          ≡ bind (if b then Err ReservedName else kind_value s (without_last x) (bracket c.names.sorts c.declarations.kinds q qs)) (goes_on fs rest)
      go true = refl
      go false = first-sort q qs (without_last x) fs s rest

  opened : (o : Option OpId) (ts : RawTerms) (fs : List Frame) (s : Seen) (rest : List Piece) →
      ((f : OpId) → run limit c (state (Call f [] [] ∷ fs) Wanted s) (spell_all ts ++ (right_paren ∷ rest))
      ≡ bind (values s [] [] ts) (λ a. bind (closed limit c a.seen f a.kinds a.terms) (goes_on fs rest))) →
      bind (open_call fs s o) (λ next. run limit c next ((spell_all ts ++ (right_paren ∷ [])) ++ rest))
      ≡ bind (bind (or_fault UnknownName o) (λ f. bind (values s [] [] ts) (λ a. closed limit c a.seen f a.kinds a.terms))) (goes_on fs rest)
  opened None ts fs s rest later = refl
  opened (Some f) ts fs s rest later =
      ap (run limit c (state (Call f [] [] ∷ fs) Wanted s)) (append_assoc (spell_all ts) (right_paren ∷ []) rest)
      ∙ later f
      ∙ sym (bind-bind (values s [] [] ts) (λ a. closed limit c a.seen f a.kinds a.terms) (goes_on fs rest))

  mutual
    pub read-term : (t : RawTerm) → IsWritten t → (fs : List Frame) (s : Seen) (rest : List Piece) → EndsBefore rest t →
        run limit c (state fs Wanted s) (spell t ++ rest) ≡ bind (value s t) (goes_on fs rest)
    read-term (name w) h fs s rest e = run-cons (state fs Wanted s) (word w) rest ∙ named w fs s rest e
    read-term (round t) h fs s rest e =
        run-cons (state fs Wanted s) left_paren ((spell t ++ (right_paren ∷ [])) ++ rest)
        ∙ ap (run limit c (state (Round ∷ fs) Wanted s)) (append_assoc (spell t) (right_paren ∷ []) rest)
        ∙ read-term t h (Round ∷ fs) s (right_paren ∷ rest) (ends-close t rest)
        ∙ bind-same (value s t) (goes_on (Round ∷ fs) (right_paren ∷ rest)) (goes_on fs rest)
        (λ v. run-cons (state (Round ∷ fs) (Whole v.0) v.1) right_paren rest)
    read-term (kind_variable x q qs) h fs s rest e =
        run-cons (state fs Wanted s) (word x) (left_bracket ∷ word q ∷ (spell_others qs ++ rest))
        ∙ bracketed x q qs h fs s rest
    read-term (call w ts) h fs s rest e =
        run-cons (state fs Wanted s) (word w) (left_paren ∷ ((spell_all ts ++ (right_paren ∷ [])) ++ rest))
        ∙ run-cons (state fs (Named w) s) left_paren ((spell_all ts ++ (right_paren ∷ [])) ++ rest)
        ∙ opened (op_named c.names w) ts fs s rest (λ f. read-all ts h f fs s [] [] rest)

    pub read-all : (ts : RawTerms) → AreWritten ts → (f : OpId) (fs : List Frame) (s : Seen) (ks : List SortId) (us : List Plain) (rest : List Piece) →
        run limit c (state (Call f ks us ∷ fs) Wanted s) (spell_all ts ++ (right_paren ∷ rest))
        ≡ bind (values s ks us ts) (λ a. bind (closed limit c a.seen f a.kinds a.terms) (goes_on fs rest))
    read-all (last t) h f fs s ks us rest =
        read-term t h (Call f ks us ∷ fs) s (right_paren ∷ rest) (ends-close t rest)
        ∙ bind-same (value s t) (goes_on (Call f ks us ∷ fs) (right_paren ∷ rest))
        (λ v. bind (closed limit c v.1 f (ks ++ (v.0.kind ∷ [])) (us ++ (v.0.term ∷ []))) (goes_on fs rest))
        (λ v. run-cons (state (Call f ks us ∷ fs) (Whole v.0) v.1) right_paren rest
        ∙ bind-bind (closed limit c v.1 f (ks ++ (v.0.kind ∷ [])) (us ++ (v.0.term ∷ []))) (whole fs) (λ next. run limit c next rest))
        ∙ sym (bind-bind (value s t) (λ v. Ok (arguments v.1 (ks ++ (v.0.kind ∷ [])) (us ++ (v.0.term ∷ []))))
        (λ a. bind (closed limit c a.seen f a.kinds a.terms) (goes_on fs rest)))
    read-all (and t ts) h f fs s ks us rest =
        ap (run limit c (state (Call f ks us ∷ fs) Wanted s)) (append_assoc (spell t) (comma ∷ spell_all ts) (right_paren ∷ rest))
        ∙ read-term t h.0 (Call f ks us ∷ fs) s (comma ∷ (spell_all ts ++ (right_paren ∷ rest))) (ends-comma t (spell_all ts ++ (right_paren ∷ rest)))
        ∙ bind-same (value s t) (goes_on (Call f ks us ∷ fs) (comma ∷ (spell_all ts ++ (right_paren ∷ rest))))
        (λ v. bind (values v.1 (ks ++ (v.0.kind ∷ [])) (us ++ (v.0.term ∷ [])) ts) (λ a. bind (closed limit c a.seen f a.kinds a.terms) (goes_on fs rest)))
        (λ v. run-cons (state (Call f ks us ∷ fs) (Whole v.0) v.1) comma (spell_all ts ++ (right_paren ∷ rest))
        ∙ read-all ts h.1 f fs v.1 (ks ++ (v.0.kind ∷ [])) (us ++ (v.0.term ∷ [])) rest)
        ∙ sym (bind-bind (value s t) (λ v. values v.1 (ks ++ (v.0.kind ∷ [])) (us ++ (v.0.term ∷ [])) ts)
        (λ a. bind (closed limit c a.seen f a.kinds a.terms) (goes_on fs rest)))

  -- a whole term is read as its value
  pub read-whole : (t : RawTerm) → IsWritten t → (s : Seen) → run limit c (start s) (spell t) ≡ value s t
  read-whole t h s =
      ap (run limit c (start s)) (sym (append-nil (spell t)))
      ∙ read-term t h [] s [] (ends-nil t)
      ∙ bind-same (value s t) (goes_on [] []) (λ v. Ok (v.0, v.1)) (λ v. run-nil (state [] (Whole v.0) v.1))
      ∙ sym (bind-pair (value s t))
