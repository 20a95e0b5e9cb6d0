-- The walk over the pieces of a term gives its least sort.
use Rattle.std.proofs.Common.{◌≡◌, ◌≤◌, Bool, true, false, List, [], ◌∷◌, ◌++◌, map, length, Option, Some, None, Result, Ok, Err, refl, sym, ap, ◌∙◌, subst, append_assoc, arith}
use Rattle.std.specs.Prelude.{◌&&◌, if◌then◌else◌, codes}
use Rattle.std.proofs.lemmas.List.{append-nil}
use Rattle.fvn_lex.specs.Cut.{Piece}
use Rattle.fvn_terms.specs.declared.plain.OpId.{OpId}
use Rattle.fvn_terms.specs.declared.plain.SortId.{SortId}
use Rattle.fvn_terms.specs.declared.plain.Plain.{Plain}
use Rattle.fvn_terms.specs.declared.declarations.Declarations.{Declarations}
use Rattle.fvn_terms.specs.Plain.{term}
use Rattle.fvn_terms.specs.Signature.{kind, axioms, HasKind, IsTerm}
use Rattle.fvn_terms.specs.Sorts.{IsLeastSort}
use Rattle.fvn_forms.specs.Good.{IsGood}
use Rattle.fvn_forms.proofs.LeastSort.{least_sort_is_least}
use Rattle.fvn_syntax.specs.declared.fault.TermFault.{TermFault}
use Rattle.fvn_syntax.specs.declared.fault.TermFault.TheVariants.{UnknownName, ReservedName}
use Rattle.fvn_syntax.specs.declared.names.Names.{Names}
use Rattle.fvn_syntax.specs.Laws.{IsFitting, TermsAreWellKinded}
use Rattle.fvn_terms.specs.Equality.{is_sum}
use Rattle.fvn_syntax.specs.Names.{constant_or, constant_named, variable_of, variable_named, op_named, sort_named, same_sort, kind_in, kind_of, if_of_kind, kind_of_all, bracket, result_of}
use Rattle.fvn_syntax.specs.Pieces.{Text, word, left_paren, right_paren, left_bracket, right_bracket, comma, is_special, is_colon_name, without_last, is_reserved}
use Rattle.fvn_syntax.specs.Raw.{RawTerm, RawTerms, name, call, round, kind_variable, last, and, spell, spell_all, spell_others, IsWritten, AreWritten, EndsBefore}
use Rattle.fvn_syntax.specs.Resolve.{Resolved, AllResolved, bind, or_fault, unless, application_fault, applied, apply, the_variable, resolve_meaning, resolve_kind, resolve, resolve_all}
use Rattle.fvn_syntax.specs.Scope.{Scope}
use Rattle.fvn_syntax.proofs.SpelledOnce.{ends-before, ends-nil}
use Rattle.fvn_problems.specs.declared.sorting.Sorted.{Sorted}
use Rattle.fvn_problems.specs.declared.sorting.Frame.{Frame}
use Rattle.fvn_problems.specs.declared.sorting.Frame.TheVariants.{Round, Call}
use Rattle.fvn_problems.specs.declared.sorting.Spot.TheVariants.{Wanted, Named, Bracket, Whole}
use Rattle.fvn_problems.specs.inner.Sorting.{sorted_of, of_sort, or_first_sort, or_first_op, sort_of_variable, State, state, over, leaf_of, leaf, kind_named, behind, step_at, step, finish, run, HasLeastSort}
use Rattle.fvn_problems.proofs.Pairs.{ok, err}
use Rattle.fvn_problems.proofs.Sorts.{over_sorted}

module _ (d : Declarations) (names : Names) where
  -- the walk from here, behind a whole term
  abbrev goes_on : List Frame → List Piece → Sorted → Sorted
  goes_on fs rest v = run d names (state fs (Whole v)) rest

  run-nil : (st : State) → run d names st [] ≡ finish d names st.spot
  unfolding run
  run-nil st = refl

  run-cons : (st : State) (p : Piece) (ps : List Piece) → run d names st (p ∷ ps) ≡ run d names (step d names st p) ps
  unfolding run
  run-cons st p ps = refl

  -- what a written term is sorted as
  abbrev mutual
    pub value : RawTerm → Sorted
    value (name w) = leaf d names w
    value (round t) = value t
    value (kind_variable x q qs) = of_sort (kind_named d names q)
    value (call w ts) = over d (or_first_op (op_named names w)) (values ts)

    pub values : RawTerms → List Sorted
    values (last t) = value t ∷ []
    values (and t ts) = value t ∷ values ts

  -- a piece behind a name alone
  step-named : (fs : List Frame) (w : Text) (p : Piece) → is_special (codes "(") p ≡ false →
      (is_colon_name w ≡ true → is_special (codes "[") p ≡ false) → step_at d names fs p (Named w) ≡ behind d (leaf d names w) p fs
  step-named fs w p n k = go (is_colon_name w) refl where
    go : (b : Bool) → is_colon_name w ≡ b → step_at d names fs p (Named w) ≡ behind d (leaf d names w) p fs
    go true e = let m : is_special (codes "[") p ≡ false = k e in rw (n, e, m) refl
    go false e = rw (n, e) refl

  named : (w : Text) (fs : List Frame) (rest : List Piece) → EndsBefore rest (name w) → run d names (state fs (Named w)) rest ≡ goes_on fs rest (leaf d names w)
  named w fs [] e = run-nil (state fs (Named w)) ∙ sym (run-nil (state fs (Whole (leaf d names w))))
  named w fs (p ∷ ps) e =
      run-cons (state fs (Named w)) p ps
      ∙ ap (λ st. run d names st ps) (step-named fs w p e.0 e.1)
      ∙ sym (run-cons (state fs (Whole (leaf d names w))) p ps)

  -- the sorts of a bracket that follow
  more-sorts : (qs : List Text) (k : SortId) (fs : List Frame) (rest : List Piece) → run d names (state fs (Bracket (Some k))) (spell_others qs ++ rest) ≡ goes_on fs rest (of_sort k)
  more-sorts [] k fs rest = run-cons (state fs (Bracket (Some k))) right_bracket rest
  more-sorts (q ∷ qs) k fs rest =
      run-cons (state fs (Bracket (Some k))) comma (word q ∷ (spell_others qs ++ rest))
      ∙ run-cons (state fs (Bracket (Some k))) (word q) (spell_others qs ++ rest)
      ∙ more-sorts qs k fs rest

  bracketed : (x q : Text) (qs : List Text) → is_colon_name x ≡ true → (fs : List Frame) (rest : List Piece) →
      run d names (state fs (Named x)) (left_bracket ∷ (word q ∷ (spell_others qs ++ rest))) ≡ goes_on fs rest (of_sort (kind_named d names q))
  bracketed x q qs h fs rest =
      run-cons (state fs (Named x)) left_bracket (word q ∷ (spell_others qs ++ rest))
      ∙ rw h
      (run-cons (state fs (Bracket None)) (word q) (spell_others qs ++ rest)
      ∙ more-sorts qs (kind_named d names q) fs rest)

  mutual
    read-term : (t : RawTerm) → IsWritten t → (fs : List Frame) (rest : List Piece) → EndsBefore rest t →
        run d names (state fs Wanted) (spell t ++ rest) ≡ goes_on fs rest (value t)
    read-term (name w) h fs rest e = run-cons (state fs Wanted) (word w) rest ∙ named w fs rest e
    read-term (round t) h fs rest e =
        run-cons (state fs Wanted) left_paren ((spell t ++ (right_paren ∷ [])) ++ rest)
        ∙ ap (run d names (state (Round ∷ fs) Wanted)) (append_assoc (spell t) (right_paren ∷ []) rest)
        ∙ read-term t h (Round ∷ fs) (right_paren ∷ rest) (ends-before right_paren rest refl refl t)
        ∙ run-cons (state (Round ∷ fs) (Whole (value t))) right_paren rest
    read-term (kind_variable x q qs) h fs rest e =
        run-cons (state fs Wanted) (word x) (left_bracket ∷ word q ∷ (spell_others qs ++ rest)) ∙ bracketed x q qs h fs rest
    read-term (call w ts) h fs rest e =
        run-cons (state fs Wanted) (word w) (left_paren ∷ ((spell_all ts ++ (right_paren ∷ [])) ++ rest))
        ∙ run-cons (state fs (Named w)) left_paren ((spell_all ts ++ (right_paren ∷ [])) ++ rest)
        ∙ ap (run d names (state (Call (or_first_op (op_named names w)) [] ∷ fs) Wanted)) (append_assoc (spell_all ts) (right_paren ∷ []) rest)
        ∙ read-all ts h (or_first_op (op_named names w)) fs [] rest

    read-all : (ts : RawTerms) → AreWritten ts → (f : OpId) (fs : List Frame) (vs : List Sorted) (rest : List Piece) →
        run d names (state (Call f vs ∷ fs) Wanted) (spell_all ts ++ (right_paren ∷ rest)) ≡ goes_on fs rest (over d f (vs ++ values ts))
    read-all (last t) h f fs vs rest =
        read-term t h (Call f vs ∷ fs) (right_paren ∷ rest) (ends-before right_paren rest refl refl t)
        ∙ run-cons (state (Call f vs ∷ fs) (Whole (value t))) right_paren rest
    read-all (and t ts) h f fs vs rest =
        ap (run d names (state (Call f vs ∷ fs) Wanted)) (append_assoc (spell t) (comma ∷ spell_all ts) (right_paren ∷ rest))
        ∙ read-term t h.0 (Call f vs ∷ fs) (comma ∷ (spell_all ts ++ (right_paren ∷ rest))) (ends-before comma (spell_all ts ++ (right_paren ∷ rest)) refl refl t)
        ∙ run-cons (state (Call f vs ∷ fs) (Whole (value t))) comma (spell_all ts ++ (right_paren ∷ rest))
        ∙ read-all ts h.1 f fs (vs ++ (value t ∷ [])) rest
        ∙ ap (λ l. goes_on fs rest (over d f l)) (append_assoc vs (value t ∷ []) (values ts))

  read-whole : (t : RawTerm) → IsWritten t → run d names (state [] Wanted) (spell t) ≡ value t
  read-whole t h =
      ap (run d names (state [] Wanted)) (sym (append-nil (spell t))) ∙ read-term t h [] [] (ends-nil t) ∙ run-nil (state [] (Whole (value t)))

module _ (c : Scope) (fit : IsFitting c) (good : IsGood c.declarations) (law : TermsAreWellKinded) where
  abbrev IsSorted : Sorted → Result Resolved TermFault → Type 0
  IsSorted v (Ok r) = v ≡ sorted_of c.declarations (term r.term)
  IsSorted v (Err fault) = Unit {0}

  abbrev AreSorted : List Sorted → Result AllResolved TermFault → Type 0
  AreSorted vs (Ok r) = (vs ≡ map (λ (t : Plain). sorted_of c.declarations (term t)) r.terms) × (1 ≤ length r.terms)
  AreSorted vs (Err fault) = Unit {0}

  told : (v : Sorted) (x : Result Resolved TermFault) → ((r : Resolved) → x ≡ Ok r → v ≡ sorted_of c.declarations (term r.term)) → IsSorted v x
  told v (Ok r) h = h r refl
  told v (Err fault) h = tt

  variable-sorted : (before : List Text) (b : Bool) (x : Text) (s : SortId) →
      IsSorted (of_sort s) (if b then Err ReservedName else Ok (the_variable before x s (kind c.declarations s)))
  variable-sorted before true x s = tt
  variable-sorted before false x s = refl

  name-sorted : (before : List Text) (w : Text) → IsSorted (leaf c.declarations c.names w) (resolve c before (name w))
  name-sorted before w = go (constant_named c.declarations c.names w) where
    variable : (m : Option (Text × SortId)) → IsSorted (of_sort (or_first_sort (sort_of_variable m))) (resolve_meaning c before (variable_of m))
    variable None = tt
    variable (Some x) = variable-sorted before (c.guarded && is_reserved x.0) x.0 x.1

    go : (o : Option OpId) → IsSorted (leaf_of c.declarations c.names w o) (resolve_meaning c before (constant_or c.names w o))
    go None = variable (variable_named c.names w)
    go (Some f) = refl

  -- the kind of a bracket is that of its first sort
  same-kind : (k : SortId) (qs : List Text) (j : SortId) → kind_of_all c.names.sorts c.declarations.kinds (Some k) qs ≡ Some j → k ≡ j
  same-kind k [] j h = cc
  same-kind k (q ∷ qs) j h = go (sort_named c.names.sorts q) (same-kind k qs j) h where
    go : (o : Option SortId) → (kind_of_all c.names.sorts c.declarations.kinds (Some k) qs ≡ Some j → k ≡ j) →
        kind_of_all c.names.sorts c.declarations.kinds (if_of_kind c.declarations.kinds k o) qs ≡ Some j → k ≡ j
    go None later e = (let f : None ≡ Some j = e in cc)
    go (Some s) later e = test (same_sort (kind_in c.declarations.kinds s) k) e where
      test : (b : Bool) → kind_of_all c.names.sorts c.declarations.kinds (if b then Some k else None) qs ≡ Some j → k ≡ j
      test true f = later f
      test false f = (let g : None ≡ Some j = f in cc)

  bracket-kind : (o : Option SortId) (qs : List Text) (j : SortId) → kind_of_all c.names.sorts c.declarations.kinds (kind_of c.declarations.kinds o) qs ≡ Some j →
      kind c.declarations (or_first_sort o) ≡ j
  bracket-kind None qs j h = (let f : None ≡ Some j = h in cc)
  bracket-kind (Some s) qs j h = same-kind (kind_in c.declarations.kinds s) qs j h

  kind-sorted : (before : List Text) (x q : Text) (qs : List Text) → IsSorted (of_sort (kind_named c.declarations c.names q)) (resolve c before (kind_variable x q qs))
  kind-sorted before x q qs = go (bracket c.names.sorts c.declarations.kinds q qs) refl where
    go : (o : Option SortId) → bracket c.names.sorts c.declarations.kinds q qs ≡ o →
        IsSorted (of_sort (kind_named c.declarations c.names q)) (if c.guarded && is_reserved (without_last x) then Err ReservedName else resolve_kind c before (without_last x) o)
    go None e = fault (c.guarded && is_reserved (without_last x)) where
      fault : (b : Bool) → IsSorted (of_sort (kind_named c.declarations c.names q)) (if b then Err ReservedName else Err UnknownName)
      fault true = tt
      fault false = tt
    go (Some k) e =
        subst (λ s. IsSorted (of_sort s) (if c.guarded && is_reserved (without_last x) then Err ReservedName else Ok (the_variable before (without_last x) k (kind c.declarations k))))
        (sym (bracket-kind (sort_named c.names.sorts q) qs k e))
        (variable-sorted before (c.guarded && is_reserved (without_last x)) (without_last x) k)

  abbrev whole : OpId → AllResolved → Resolved
  whole f x = record { term = applied (is_sum (axioms c.declarations f)) f x.terms; kind = result_of c.declarations f; texts = x.texts }

  applied-is : (f : OpId) (x : AllResolved) (r : Resolved) → apply c.declarations f x ≡ Ok r → applied (is_sum (axioms c.declarations f)) f x.terms ≡ r.term
  applied-is f x r = go (application_fault c.declarations (is_sum (axioms c.declarations f)) f x.kinds) where
    go : (o : Option TermFault) → unless c.declarations o (whole f x) ≡ Ok r → applied (is_sum (axioms c.declarations f)) f x.terms ≡ r.term
    go None e = ap (λ (y : Resolved). y.term) (let g : ok (whole f x) ≡ ok r = e in let h : whole f x ≡ r = cc in h)
    go (Some fault) e = (let g : err fault ≡ ok r = e in cc)

  over-sorted : (f : OpId) (vs : List Sorted) (x : Result AllResolved TermFault) → AreSorted vs x → (r : Resolved) → bind x (apply c.declarations f) ≡ Ok r →
      HasKind c.declarations (term r.term) r.kind → over c.declarations f vs ≡ sorted_of c.declarations (term r.term)
  over-sorted f vs (Ok x) h r e k =
      let is = applied-is f x r e in
      ap (over c.declarations f) h.0
      ∙ over_sorted c.declarations good f x.terms h.1 (subst (λ t. IsTerm c.declarations (term t)) (sym is) (r.kind, k))
      ∙ ap (λ t. sorted_of c.declarations (term t)) is
  over-sorted f vs (Err fault) h r e k = (let g : err fault ≡ ok r = e in cc)

  call-sorted : (before : List Text) (w : Text) (ts : RawTerms) (vs : List Sorted) → AreSorted vs (resolve_all c before ts) →
      IsSorted (over c.declarations (or_first_op (op_named c.names w)) vs) (resolve c before (call w ts))
  call-sorted before w ts vs h =
      told (over c.declarations (or_first_op (op_named c.names w)) vs) (resolve c before (call w ts))
      (λ r e. go (op_named c.names w) r e (law c fit before (call w ts) r e))
    where
      go : (o : Option OpId) (r : Resolved) → bind (or_fault UnknownName o) (λ f. bind (resolve_all c before ts) (apply c.declarations f)) ≡ Ok r →
          HasKind c.declarations (term r.term) r.kind → over c.declarations (or_first_op o) vs ≡ sorted_of c.declarations (term r.term)
      go None r e k = (let g : err UnknownName ≡ ok r = e in cc)
      go (Some f) r e k = over-sorted f vs (resolve_all c before ts) h r e k

  last-sorted : (v : Sorted) (x : Result Resolved TermFault) → IsSorted v x → AreSorted (v ∷ []) (bind x (λ r. Ok (record { terms = r.term ∷ []; kinds = r.kind ∷ []; texts = r.texts })))
  last-sorted v (Ok r) h = (ap (λ y. y ∷ []) h, omega arith)
  last-sorted v (Err fault) h = tt

  joined : (v : Sorted) (vs : List Sorted) (r : Resolved) (xs : Result AllResolved TermFault) → IsSorted v (Ok r) → AreSorted vs xs →
      AreSorted (v ∷ vs) (bind xs (λ rs. Ok (record { terms = r.term ∷ rs.terms; kinds = r.kind ∷ rs.kinds; texts = rs.texts })))
  joined v vs r (Ok rs) h k = (ap (λ y. y ∷ vs) h ∙ ap (λ ys. sorted_of c.declarations (term r.term) ∷ ys) k.0, omega arith)
  joined v vs r (Err fault) h k = tt

  and-sorted : (v : Sorted) (vs : List Sorted) (ts : RawTerms) (x : Result Resolved TermFault) → IsSorted v x → ((mid : List Text) → AreSorted vs (resolve_all c mid ts)) →
      AreSorted (v ∷ vs) (bind x (λ r. bind (resolve_all c r.texts ts) (λ rs. Ok (record { terms = r.term ∷ rs.terms; kinds = r.kind ∷ rs.kinds; texts = rs.texts }))))
  and-sorted v vs ts (Ok r) h later = joined v vs r (resolve_all c r.texts ts) h (later r.texts)
  and-sorted v vs ts (Err fault) h later = tt

  mutual
    sorted : (t : RawTerm) (before : List Text) → IsSorted (value c.declarations c.names t) (resolve c before t)
    sorted (name w) before = name-sorted before w
    sorted (round t) before = sorted t before
    sorted (kind_variable x q qs) before = kind-sorted before x q qs
    sorted (call w ts) before = call-sorted before w ts (values c.declarations c.names ts) (all-sorted ts before)

    all-sorted : (ts : RawTerms) (before : List Text) → AreSorted (values c.declarations c.names ts) (resolve_all c before ts)
    all-sorted (last t) before = last-sorted (value c.declarations c.names t) (resolve c before t) (sorted t before)
    all-sorted (and t ts) before =
        and-sorted (value c.declarations c.names t) (values c.declarations c.names ts) ts (resolve c before t) (sorted t before) (λ mid. all-sorted ts mid)

  -- what is walked is the least sort
  pub walked : (row : List Piece) (v : Sorted) → v ≡ run c.declarations c.names (state [] Wanted) row → HasLeastSort c row v.sort
  walked row v is t before r w e h =
      let s : IsSorted (value c.declarations c.names t) (Ok r) = subst (IsSorted (value c.declarations c.names t)) h (sorted t before) in
      let same : v ≡ sorted_of c.declarations (term r.term) = is ∙ ap (run c.declarations c.names (state [] Wanted)) e ∙ read-whole c.declarations c.names t w ∙ s in
      subst (IsLeastSort c.declarations (term r.term)) (ap (λ y. y.sort) (sym same))
      (least_sort_is_least c.declarations good (term r.term) (r.kind, law c fit before t r h))
