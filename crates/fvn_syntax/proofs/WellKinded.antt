-- What written terms stand for is well-kinded.
use Rattle.std.proofs.Common.{◌≡◌, ℕ, ◌+◌, ◌<◌, ◌≤◌, Bool, true, false, ◌&&◌, ◌==◌, List, [], ◌∷◌, length, map, take, drop, Option, Some, None, Result, Ok, Err, Contains, suc, refl, sym, ap, ◌∙◌, subst, arith}
use Rattle.std.specs.Prelude.{slice_index_or, if◌then◌else◌}
use Rattle.std.proofs.lemmas.Bool.{eqb-true}
use Rattle.fvn_terms.specs.declared.plain.OpId.{OpId}
use Rattle.fvn_terms.specs.declared.plain.SortId.{SortId}
use Rattle.fvn_terms.specs.declared.plain.Plain.{Plain}
use Rattle.fvn_terms.specs.declared.plain.Plain.TheVariants.{App}
use Rattle.fvn_terms.specs.declared.declarations.Rank.{Rank}
use Rattle.fvn_terms.specs.Equality.{is_sum}
use Rattle.fvn_terms.specs.Signature.{kind, declared, axioms, IsSort, HasKind, HaveKinds}
use Rattle.fvn_terms.specs.Plain.{term, terms}
use Rattle.fvn_syntax.specs.declared.fault.TermFault.{TermFault}
use Rattle.fvn_syntax.specs.declared.fault.TermFault.TheVariants.{UnknownName, ReservedName}
use Rattle.fvn_terms.proofs.AxiomWords.{sums_associate}
use Rattle.fvn_syntax.specs.Pieces.{Text, is_reserved, without_last}
use Rattle.fvn_syntax.specs.Texts.{place}
use Rattle.fvn_syntax.specs.Raw.{RawTerm, RawTerms, name, call, round, kind_variable, last, and}
use Rattle.fvn_syntax.specs.Names.{of_sort, kind_in, same_sort, sort_named, split_at, last_colon, if_of_kind, kind_of_all, bracket, variable_of, declared_sort, first_args, first_result, args_of, arity_of, result_of, op_named, variable_named, constant_named}
use Rattle.fvn_syntax.specs.Scope.{Scope}
use Rattle.fvn_syntax.specs.Resolve.{Resolved, AllResolved, bind, or_fault, nested, nested_all, applied, wanted, fit_from, fits_number, apply, the_constant, the_variable, resolve_meaning, resolve_kind, resolve, resolve_all}
use Rattle.fvn_syntax.specs.Laws.{IsFitting}
use Rattle.fvn_syntax.proofs.PieceLemmas.{and-left, and-right}
use Rattle.fvn_syntax.proofs.TextLemmas.{place-below}

-- an operator with a rank has a first one
record First (rs : List Rank) : Type 0 where
  rank : Rank
  listed : Contains rs rank
  args : first_args rs ≡ rank.args
  result : first_result rs ≡ rank.result

first-of : (rs : List Rank) (r : Rank) → Contains rs r → First rs
first-of [] r h = absurd (let k = h.1 in omega (arith, k))
first-of (q ∷ rs) r h = record { rank = q; listed = (0, omega arith, refl); args = refl; result = refl }

same-sort : (s q : SortId) → same_sort s q ≡ true → s ≡ q
same-sort s q h = let e : s.0 ≡ q.0 = eqb-true s.0 q.0 h in ap (λ n. record { 0 = n }) e

abbrev answer : Resolved → Result Resolved TermFault
answer r = Ok r

abbrev refusal : TermFault → Result Resolved TermFault
refusal fault = Err fault

module _ (c : Scope) (fit : IsFitting c) where
  -- the term has the kind, and each of these terms has its kind
  abbrev Kinded : Plain → SortId → Type 0
  Kinded t k = HasKind c.declarations (term t) k

  abbrev AllKinded : List Plain → List SortId → Type 0
  AllKinded ts ks = HaveKinds c.declarations (terms ts) ks

  sort-is : (w : Text) (s : SortId) → sort_named c.names.sorts w ≡ Some s → IsSort c.declarations s
  sort-is w s h = go (place c.names.sorts w) refl where
    go : (o : Option ℕ) → place c.names.sorts w ≡ o → IsSort c.declarations s
    go None e = let g = rw e at h in cc
    go (Some i) e =
        let g : Some (record { 0 = i }) ≡ Some s = rw e at h in
        let is : record { 0 = i } ≡ s = cc in
        subst (IsSort c.declarations) is (fit.sorts i (place-below c.names.sorts w i e))

  abbrev pair : Text → SortId → Text × SortId
  pair x s = (x, s)

  of-sort-is : (x y : Text) (s : SortId) (o : Option SortId) → ((q : SortId) → o ≡ Some q → IsSort c.declarations q) →
      of_sort x o ≡ Some (y, s) → IsSort c.declarations s
  of-sort-is x y s None k h = cc
  of-sort-is x y s (Some q) k h =
      let p : pair x q ≡ pair y s = (let g = h in cc) in
      subst (IsSort c.declarations) (ap (λ (r : Text × SortId). r.1) p) (k q refl)

  split-is : (w y : Text) (s : SortId) (o : Option ℕ) → split_at c.names.sorts w o ≡ Some (y, s) → IsSort c.declarations s
  split-is w y s None h = cc
  split-is w y s (Some i) h = go (i == 0) refl where
    go : (b : Bool) → (i == 0) ≡ b → IsSort c.declarations s
    go true e = let g = rw e at h in cc
    go false e =
        of-sort-is (take i w) y s (sort_named c.names.sorts (drop (i + 1) w)) (λ q k. sort-is (drop (i + 1) w) q k) (rw e at h)

  declared-is : (o : Option ℕ) (s : SortId) → declared_sort c.names.variables.sorts o ≡ Some s → IsSort c.declarations s
  declared-is None s h = cc
  declared-is (Some i) s h = fit.variables i s h

  variable-is : (w y : Text) (s : SortId) → variable_named c.names w ≡ Some (y, s) → IsSort c.declarations s
  variable-is w y s h = go (declared_sort c.names.variables.sorts (place c.names.variables.texts w)) refl where
    go : (o : Option SortId) → declared_sort c.names.variables.sorts (place c.names.variables.texts w) ≡ o → IsSort c.declarations s
    go None e = split-is w y s (last_colon w) (rw e at h)
    go (Some q) e =
        let g = rw e at h in
        let p : pair w q ≡ pair y s = cc in
        subst (IsSort c.declarations) (ap (λ (r : Text × SortId). r.1) p) (declared-is (place c.names.variables.texts w) q e)

  op-first : (w : Text) (f : OpId) → op_named c.names w ≡ Some f → First (declared c.declarations f).ranks
  op-first w f h = go (place c.names.ops w) refl where
    go : (o : Option ℕ) → place c.names.ops w ≡ o → First (declared c.declarations f).ranks
    go None e = let g = rw e at h in cc
    go (Some i) e =
        let g : Some (record { 0 = i }) ≡ Some f = rw e at h in
        let is : record { 0 = i } ≡ f = cc in
        let r = fit.ops i (place-below c.names.ops w i e) in
        subst (λ x. First (declared c.declarations x).ranks) is (first-of (declared c.declarations (record { 0 = i })).ranks r.0 r.1)

  no-args : (qs : List SortId) → (length qs == 0) ≡ true → qs ≡ []
  no-args [] h = refl
  no-args (a ∷ qs) h = let k = eqb-true (length (a ∷ qs)) 0 h in absurd (omega (arith, k))

  constant-kinded : (w : Text) (f : OpId) → constant_named c.declarations c.names w ≡ Some f → Kinded (App f (terms [])) (result_of c.declarations f)
  constant-kinded w f h = go (op_named c.names w) refl where
    has : (g : OpId) → op_named c.names w ≡ Some g → (arity_of c.declarations g == 0) ≡ true → Kinded (App g (terms [])) (result_of c.declarations g)
    has g e a =
        let r = op-first w g e in
        let n : r.rank.args ≡ [] = sym r.args ∙ no-args (args_of c.declarations g) a in
        record {
          rank = r.rank;
          listed = r.listed;
          args = subst (λ xs. HaveKinds c.declarations (terms []) (map (kind c.declarations) xs)) (sym n) tt;
          result = ap (kind c.declarations) (sym r.result);
        }

    arity : (g : OpId) → op_named c.names w ≡ Some g → (b : Bool) → (arity_of c.declarations g == 0) ≡ b → Kinded (App f (terms [])) (result_of c.declarations f)
    arity g e false a = let k = rw (e, a) at h in cc
    arity g e true a =
        let k = rw (e, a) at h in
        let is : g ≡ f = cc in
        subst (λ x. Kinded (App x (terms [])) (result_of c.declarations x)) is (has g e a)

    go : (o : Option OpId) → op_named c.names w ≡ o → Kinded (App f (terms [])) (result_of c.declarations f)
    go None e = let k = rw e at h in cc
    go (Some g) e = arity g e (arity_of c.declarations g == 0) refl

  variable-kinded : (texts : List Text) (x : Text) (q : SortId) → IsSort c.declarations q →
      Kinded (the_variable texts x q (kind c.declarations q)).term (kind c.declarations q)
  variable-kinded texts x q h = (h, refl)

  meaning-kinded : (texts : List Text) (w : Text) (r : Resolved) → resolve c texts (name w) ≡ Ok r → Kinded r.term r.kind
  meaning-kinded texts w r h = constant (constant_named c.declarations c.names w) refl where
    ok : (x : Resolved) → answer x ≡ answer r → Kinded x.term x.kind → Kinded r.term r.kind
    ok x e k = let is : x ≡ r = (let g = e in cc) in subst (λ (y : Resolved). Kinded y.term y.kind) is k

    guarded : (x : Text) (q : SortId) → variable_named c.names w ≡ Some (x, q) → (b : Bool) →
        (if b then refusal ReservedName else answer (the_variable texts x q (kind c.declarations q))) ≡ answer r → Kinded r.term r.kind
    guarded x q e true g = cc
    guarded x q e false g = ok (the_variable texts x q (kind c.declarations q)) g (variable-kinded texts x q (variable-is w x q e))

    variable : (o : Option (Text × SortId)) → variable_named c.names w ≡ o → resolve_meaning c texts (variable_of o) ≡ answer r → Kinded r.term r.kind
    variable None e g = cc
    variable (Some (x, q)) e g = guarded x q e (c.guarded && is_reserved x) g

    constant : (o : Option OpId) → constant_named c.declarations c.names w ≡ o → Kinded r.term r.kind
    constant None e = variable (variable_named c.names w) refl (rw e at h)
    constant (Some f) e = ok (the_constant c texts f) (rw e at h) (constant-kinded w f e)

  -- the kind of a bracket is a sort
  of-all-is : (ss : List Text) (k q : SortId) → IsSort c.declarations k → kind_of_all c.names.sorts c.declarations.kinds (Some k) ss ≡ Some q → IsSort c.declarations q
  of-all-is [] k q h e = let is : k ≡ q = (let g = e in cc) in subst (IsSort c.declarations) is h
  of-all-is (s ∷ ss) k q h e = go (sort_named c.names.sorts s) e (λ f. of-all-is ss k q h f) where
    same : (b : Bool) → kind_of_all c.names.sorts c.declarations.kinds (if b then Some k else None) ss ≡ Some q →
        (kind_of_all c.names.sorts c.declarations.kinds (Some k) ss ≡ Some q → IsSort c.declarations q) → IsSort c.declarations q
    same true f later = later f
    same false f later = cc

    go : (o : Option SortId) → kind_of_all c.names.sorts c.declarations.kinds (if_of_kind c.declarations.kinds k o) ss ≡ Some q →
        (kind_of_all c.names.sorts c.declarations.kinds (Some k) ss ≡ Some q → IsSort c.declarations q) → IsSort c.declarations q
    go None f later = cc
    go (Some n) f later = same (same_sort (kind_in c.declarations.kinds n) k) f later

  bracket-is : (s : Text) (ss : List Text) (q : SortId) → bracket c.names.sorts c.declarations.kinds s ss ≡ Some q → IsSort c.declarations q
  bracket-is s ss q h = go (sort_named c.names.sorts s) refl where
    go : (o : Option SortId) → sort_named c.names.sorts s ≡ o → IsSort c.declarations q
    go None e = let g = rw e at h in cc
    go (Some n) e = of-all-is ss (kind c.declarations n) q (fit.kinds n (sort-is s n e)) (rw e at h)

  bracket-kinded : (texts : List Text) (x s : Text) (ss : List Text) (r : Resolved) → resolve c texts (kind_variable x s ss) ≡ Ok r → Kinded r.term r.kind
  bracket-kinded texts x s ss r h = guard (c.guarded && is_reserved (without_last x)) h where
    go : (o : Option SortId) → bracket c.names.sorts c.declarations.kinds s ss ≡ o → resolve_kind c texts (without_last x) o ≡ answer r → Kinded r.term r.kind
    go None e g = cc
    go (Some k) e g =
        let is : the_variable texts (without_last x) k (kind c.declarations k) ≡ r = cc in
        subst (λ (y : Resolved). Kinded y.term y.kind) is (variable-kinded texts (without_last x) k (bracket-is s ss k e))

    guard : (b : Bool) → (if b then refusal ReservedName else resolve_kind c texts (without_last x) (bracket c.names.sorts c.declarations.kinds s ss)) ≡ answer r → Kinded r.term r.kind
    guard true g = cc
    guard false g = go (bracket c.names.sorts c.declarations.kinds s ss) refl g

  -- sums
  nested-kinded : (f : OpId) (r : Rank) → Contains (declared c.declarations f).ranks r → (k : SortId) →
      map (kind c.declarations) r.args ≡ k ∷ k ∷ [] → kind c.declarations r.result ≡ k →
      (t : Plain) (ts : List Plain) → Kinded t k → AllKinded ts (map (λ _. k) ts) → Kinded (nested f t ts) k
  nested-kinded f r l k a e t [] h hs = h
  nested-kinded f r l k a e t (u ∷ us) h hs =
      record {
        rank = r;
        listed = l;
        args = subst (HaveKinds c.declarations (terms (t ∷ nested f u us ∷ []))) (sym a) (h, (nested-kinded f r l k a e u us hs.0 hs.1, tt));
        result = e;
      }

  -- each of the kinds that fit a sum is the sum's
  all-same : (f : OpId) (k : SortId) (i : ℕ) (ts : List Plain) (ks : List SortId) → wanted c.declarations true f 0 ≡ k →
      fit_from c.declarations true f i ks ≡ true → AllKinded ts ks → AllKinded ts (map (λ _. k) ts)
  all-same f k i [] [] w h a = tt
  all-same f k i [] (q ∷ ks) w h a = absurd a
  all-same f k i (t ∷ ts) [] w h a = absurd a
  all-same f k i (t ∷ ts) (q ∷ ks) w h a =
      let e = same-sort q (wanted c.declarations true f i) (and-left (same_sort q (wanted c.declarations true f i)) (fit_from c.declarations true f (i + 1) ks) h) in (
        subst (Kinded t) (e ∙ w) a.0,
        all-same f k (i + 1) ts ks w (and-right (same_sort q (wanted c.declarations true f i)) (fit_from c.declarations true f (i + 1) ks) h) a.1,
      )

  -- kinds that fit the others' places
  kinds-same : (f : OpId) (i : ℕ) (ks qs : List SortId) → length ks ≡ length qs →
      ((n : ℕ) → n < length qs → wanted c.declarations false f (i + n) ≡ kind c.declarations (slice_index_or qs n (record { 0 = 0 }))) →
      fit_from c.declarations false f i ks ≡ true → ks ≡ map (kind c.declarations) qs
  kinds-same f i [] [] n w h = refl
  kinds-same f i [] (q ∷ qs) n w h = absurd (omega (arith, n))
  kinds-same f i (k ∷ ks) [] n w h = absurd (omega (arith, n))
  kinds-same f i (k ∷ ks) (q ∷ qs) n w h =
      let e = same-sort k (wanted c.declarations false f i) (and-left (same_sort k (wanted c.declarations false f i)) (fit_from c.declarations false f (i + 1) ks) h) in
      let z : i + 0 ≡ i = omega arith in
      let first : wanted c.declarations false f i ≡ kind c.declarations q = ap (wanted c.declarations false f) (sym z) ∙ w 0 (omega arith) in
      let rest = kinds-same f (i + 1) ks qs (let m = n in omega (arith, m))
      (λ m l. ap (wanted c.declarations false f) (let y : i + 1 + m ≡ i + (m + 1) = omega arith in y) ∙ w (m + 1) (omega (arith, l))
      ∙ ap (λ j. kind c.declarations (slice_index_or (q ∷ qs) j (record { 0 = 0 }))) (let y : m + 1 ≡ suc m = omega arith in y))
      (and-right (same_sort k (wanted c.declarations false f i)) (fit_from c.declarations false f (i + 1) ks) h) in
      ap (λ x. x ∷ ks) (e ∙ first) ∙ ap (λ x. kind c.declarations q ∷ x) rest

  head-kind : (qs : List SortId) (k : SortId) → map (kind c.declarations) qs ≡ k ∷ k ∷ [] → kind c.declarations (slice_index_or qs 0 (record { 0 = 0 })) ≡ k
  head-kind [] k h = cc
  head-kind (q ∷ qs) k h = cc

  sum-kinded : (f : OpId) → First (declared c.declarations f).ranks → (ts : List Plain) (ks : List SortId) → AllKinded ts ks → 1 ≤ length ts →
      is_sum (axioms c.declarations f) ≡ true → fit_from c.declarations true f 0 ks ≡ true → Kinded (nested_all f ts) (result_of c.declarations f)
  sum-kinded f first [] ks a n s g = absurd (omega (arith, n))
  sum-kinded f first (t ∷ ts) ks a n s g =
      let two = fit.sums f first.rank (sums_associate (axioms c.declarations f) s) first.listed in
      let e : result_of c.declarations f ≡ kind c.declarations first.rank.result = ap (kind c.declarations) first.result in
      let w : wanted c.declarations true f 0 ≡ kind c.declarations first.rank.result =
      ap (λ xs. kind c.declarations (slice_index_or xs 0 (record { 0 = 0 }))) first.args ∙ head-kind first.rank.args (kind c.declarations first.rank.result) two in
      let all = all-same f (kind c.declarations first.rank.result) 0 (t ∷ ts) ks w g a in
      subst (Kinded (nested f t ts)) (sym e)
      (nested-kinded f first.rank first.listed (kind c.declarations first.rank.result) two refl t ts all.0 all.1)

  free-kinded : (f : OpId) → First (declared c.declarations f).ranks → (ts : List Plain) (ks : List SortId) → AllKinded ts ks →
      (arity_of c.declarations f == length ks) ≡ true → fit_from c.declarations false f 0 ks ≡ true → Kinded (App f (terms ts)) (result_of c.declarations f)
  free-kinded f first ts ks a n g =
      let m : arity_of c.declarations f ≡ length ks = eqb-true (arity_of c.declarations f) (length ks) n in
      let number : length ks ≡ length first.rank.args = sym m ∙ ap length first.args in
      let same = kinds-same f 0 ks first.rank.args number
      (λ i l. ap (wanted c.declarations false f) (let z : 0 + i ≡ i = omega arith in z)
      ∙ ap (λ xs. kind c.declarations (slice_index_or xs i (record { 0 = 0 }))) first.args) g in
      record {
        rank = first.rank;
        listed = first.listed;
        args = subst (AllKinded ts) same a;
        result = ap (kind c.declarations) (sym first.result);
      }

  applied-kinded : (b : Bool) (f : OpId) → First (declared c.declarations f).ranks → (ts : List Plain) (ks : List SortId) → AllKinded ts ks → 1 ≤ length ts →
      is_sum (axioms c.declarations f) ≡ b → fits_number b (arity_of c.declarations f) (length ks) ≡ true → fit_from c.declarations b f 0 ks ≡ true →
      Kinded (applied b f ts) (result_of c.declarations f)
  applied-kinded true f first ts ks a some s n g = sum-kinded f first ts ks a some s g
  applied-kinded false f first ts ks a some s n g = free-kinded f first ts ks a n g

  apply-kinded : (f : OpId) → First (declared c.declarations f).ranks → (x : AllResolved) (r : Resolved) → AllKinded x.terms x.kinds →
      1 ≤ length x.terms → apply c.declarations f x ≡ Ok r → Kinded r.term r.kind
  apply-kinded f first x r h some e =
      go (fits_number (is_sum (axioms c.declarations f)) (arity_of c.declarations f) (length x.kinds)) (fit_from c.declarations (is_sum (axioms c.declarations f)) f 0 x.kinds) refl refl
    where
      go : (m n : Bool) → fits_number (is_sum (axioms c.declarations f)) (arity_of c.declarations f) (length x.kinds) ≡ m →
          fit_from c.declarations (is_sum (axioms c.declarations f)) f 0 x.kinds ≡ n → Kinded r.term r.kind
      go false n a b = let g = rw a at e in cc
      go true false a b = let g = rw (a, b) at e in cc
      go true true a b =
          let g : answer (record { term = applied (is_sum (axioms c.declarations f)) f x.terms; kind = result_of c.declarations f; texts = x.texts }) ≡ answer r = rw (a, b) at e in
          let is : record { term = applied (is_sum (axioms c.declarations f)) f x.terms; kind = result_of c.declarations f; texts = x.texts } ≡ r = cc in
          subst (λ (y : Resolved). Kinded y.term y.kind) is
          (applied-kinded (is_sum (axioms c.declarations f)) f first x.terms x.kinds h some refl a b)

  -- one or more terms, each of its kind
  abbrev Kindeds : Result AllResolved TermFault → Type 0
  Kindeds (Ok x) = AllKinded x.terms x.kinds × (1 ≤ length x.terms)
  Kindeds (Err fault) = Unit {0}

  abbrev IsKinded : Result Resolved TermFault → Type 0
  IsKinded (Ok r) = Kinded r.term r.kind
  IsKinded (Err fault) = Unit {0}

  told : (x : Result Resolved TermFault) → ((r : Resolved) → x ≡ Ok r → Kinded r.term r.kind) → IsKinded x
  told (Ok r) h = h r refl
  told (Err fault) h = tt

  last-kinded : (x : Result Resolved TermFault) → IsKinded x → Kindeds (bind x (λ r. Ok (record { terms = r.term ∷ []; kinds = r.kind ∷ []; texts = r.texts })))
  last-kinded (Ok r) h = ((h, tt), omega arith)
  last-kinded (Err fault) h = tt

  joined : (r : Resolved) (xs : Result AllResolved TermFault) → Kinded r.term r.kind → Kindeds xs →
      Kindeds (bind xs (λ rs. Ok (record { terms = r.term ∷ rs.terms; kinds = r.kind ∷ rs.kinds; texts = rs.texts })))
  joined r (Ok x) h hs = ((h, hs.0), omega arith)
  joined r (Err fault) h hs = tt

  and-kinded : (ts : RawTerms) (x : Result Resolved TermFault) → IsKinded x → ((texts : List Text) → Kindeds (resolve_all c texts ts)) →
      Kindeds (bind x (λ r. bind (resolve_all c r.texts ts) (λ rs. Ok (record { terms = r.term ∷ rs.terms; kinds = r.kind ∷ rs.kinds; texts = rs.texts }))))
  and-kinded ts (Ok r) h later = joined r (resolve_all c r.texts ts) h (later r.texts)
  and-kinded ts (Err fault) h later = tt

  over-kinded : (f : OpId) → First (declared c.declarations f).ranks → (xs : Result AllResolved TermFault) → Kindeds xs → IsKinded (bind xs (apply c.declarations f))
  over-kinded f first (Ok x) h = told (apply c.declarations f x) (λ r e. apply-kinded f first x r h.0 h.1 e)
  over-kinded f first (Err fault) h = tt

  call-kinded : (texts : List Text) (w : Text) (ts : RawTerms) → Kindeds (resolve_all c texts ts) → IsKinded (resolve c texts (call w ts))
  call-kinded texts w ts h = go (op_named c.names w) refl where
    go : (o : Option OpId) → op_named c.names w ≡ o → IsKinded (bind (or_fault UnknownName o) (λ f. bind (resolve_all c texts ts) (apply c.declarations f)))
    go None e = tt
    go (Some f) e = over-kinded f (op-first w f e) (resolve_all c texts ts) h

  mutual
    pub kinded : (t : RawTerm) (texts : List Text) → IsKinded (resolve c texts t)
    kinded (name w) texts = told (resolve c texts (name w)) (λ r e. meaning-kinded texts w r e)
    kinded (round t) texts = kinded t texts
    kinded (kind_variable x s ss) texts = told (resolve c texts (kind_variable x s ss)) (λ r e. bracket-kinded texts x s ss r e)
    kinded (call w ts) texts = call-kinded texts w ts (all-kinded ts texts)

    all-kinded : (ts : RawTerms) (texts : List Text) → Kindeds (resolve_all c texts ts)
    all-kinded (last t) texts = last-kinded (resolve c texts t) (kinded t texts)
    all-kinded (and t ts) texts = and-kinded ts (resolve c texts t) (kinded t texts) (λ us. all-kinded ts us)

  pub well-kinded : (texts : List Text) (t : RawTerm) (r : Resolved) → resolve c texts t ≡ Ok r → HasKind c.declarations (term r.term) r.kind
  well-kinded texts t r e = subst IsKinded e (kinded t texts)
