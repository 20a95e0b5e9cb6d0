-- Written values are read as they are, modulo the axioms, with their variables numbered by their names.
use Rattle.std.proofs.Common.{◌≡◌, ◌<◌, ◌≤◌, ◌⊎◌, inl, inr, Bool, true, false, List, [], ◌∷◌, ◌++◌, length, Some, None, Ok, refl, sym, ap, ◌∙◌, subst, append_assoc, map, arith}
use Rattle.std.specs.Prelude.{if◌then◌else◌, Contains}
use Rattle.std.specs.List.{AllByRecursion}
use Rattle.std.proofs.lemmas.List.Elements.{Contains-append_left}
use Rattle.std.proofs.lemmas.List.{append-nil, length-map}
use Rattle.fvn_terms.specs.declared.plain.Var.{Var}
use Rattle.fvn_terms.specs.declared.plain.OpId.{OpId}
use Rattle.fvn_terms.specs.declared.plain.SortId.{SortId}
use Rattle.fvn_terms.specs.declared.plain.Plain.{Plain}
use Rattle.fvn_terms.specs.declared.plain.Plain.TheVariants.{App}
use Rattle.fvn_terms.specs.declared.declarations.Rank.{Rank}
use Rattle.fvn_terms.specs.declared.declarations.Axioms.{Axioms}
use Rattle.fvn_terms.specs.declared.declarations.Axioms.TheVariants.{Free, Comm, AssocComm, AssocCommId}
use Rattle.fvn_terms.specs.declared.declarations.Declarations.{Declarations}
use Rattle.fvn_terms.specs.Signature.{kind, declared, axioms, IsSort, HasKind, HaveKinds}
use Rattle.fvn_terms.specs.Term.{Term, Terms, var, app, none, more}
use Rattle.fvn_terms.specs.Plain.{term, terms}
use Rattle.fvn_terms.specs.Substitution.{Substitution, apply, apply_all, Occurs, OccursAmong}
use Rattle.fvn_terms.specs.Places.{stop}
use Rattle.fvn_terms.specs.Equality.{IsCommutative, IsAssociative, IsAxiomEitherWay, BEqual, is_sum}
use Rattle.fvn_terms.proofs.Equal.{BEqual-trans, BEqual-inside}
use Rattle.fvn_terms.proofs.Steps.{EachLeads, each_none, each_more}
use Rattle.fvn_forms.specs.Flat.{FlatTerm, FlatTerms, fvar, fapp, fnone, fmore, fpack, funpack, nest, nest_all, plain, plain_all}
use Rattle.fvn_forms.specs.FitsKinds.{FitsKinds}
use Rattle.fvn_forms.specs.Settled.{FitsUnjoined, Settled, SettledAll}
use Rattle.fvn_forms.proofs.Sums.{fpack-funpack}
use Rattle.fvn_forms.proofs.KindsOfSums.{nest_parts_of_kind}
use Rattle.fvn_flat.specs.Drawn.{Renaming, renamed}
use Rattle.fvn_signature.specs.Queries.{IsKind, IsMaximalOf}
use Rattle.fvn_syntax.specs.declared.names.Names.{Names}
use Rattle.fvn_syntax.specs.Pieces.{Text}
use Rattle.fvn_syntax.specs.Raw.{RawTerm, RawTerms, name}
use Rattle.fvn_syntax.specs.Names.{arity_of, result_of, op_named}
use Rattle.fvn_syntax.specs.Texts.{place_or_end, with_text}
use Rattle.fvn_syntax.specs.declared.fault.TermFault.TheVariants.{UnknownName}
use Rattle.fvn_syntax.specs.Resolve.{Resolved, AllResolved, bind, or_fault, unless, resolve, resolve_all, the_variable, applied, nested_all, application_fault}
use Rattle.fvn_syntax.specs.Resolve.{apply as apply_op}
use Rattle.fvn_answer.specs.Numberings.{new_name}
use Rattle.fvn_answer.specs.Writing.{is_after, arguments, over, top, op_text}
use Rattle.fvn_answer.specs.inner.Readable.{AreReadable}
use Rattle.fvn_terms.proofs.AxiomWords.{associative_sums, associative_commutes, commutes_commutative}
use Rattle.fvn_answer.proofs.Applying.{result-of, arity-of, takes-its-own, AllAre, takes-sum}
use Rattle.fvn_answer.proofs.Arranged.{shown_as, key, sorted_forms, arranged_forms, written-arranged, length-sorted, each-sorted, Among, among-sorted, values, value_of, sum-sorted}
use Rattle.fvn_answer.proofs.Printable.{ranked}
use Rattle.fvn_answer.proofs.Sums.{apply-nest, term-nested, nest-each, exchanged}
use Rattle.fvn_answer.proofs.NewNames.{new_name-some}
use Rattle.fvn_answer.proofs.TextPlaces.{place-distinct, placed, with_text-more, with_text-contains}
use Rattle.fvn_answer.proofs.Variables.{read_in_names, variable-stands}

occurs-nest : (x : Var) (f : OpId) (t : Term) (ts : Terms) → Occurs x (nest f t ts) → Occurs x t ⊎ OccursAmong x ts
occurs-nest x f t none o = inl o
occurs-nest x f t (more u us) (inl o) = inl o
occurs-nest x f t (more u us) (inr (inl o)) = inr (occurs-nest x f u us o)
occurs-nest x f t (more u us) (inr (inr n)) = absurd n

occurs-sum : (x : Var) (f : OpId) (l : List FlatTerm) → Occurs x (nest_all f (plain_all (fpack l))) → OccursAmong x (plain_all (fpack l))
occurs-sum x f [] o = o
occurs-sum x f (t ∷ ts) o = occurs-nest x f (plain t) (plain_all (fpack ts)) o

apply-nest_all : (s : Substitution) (f : OpId) (ts : Terms) → apply s (nest_all f ts) ≡ nest_all f (apply_all s ts)
apply-nest_all s f none = refl
apply-nest_all s f (more t ts) = apply-nest s f t ts

module _ (d : Declarations) (names : Names) (readable : AreReadable d names) (fits : FitsKinds d) (tops : (k : SortId) → IsKind d k → IsMaximalOf d k (top d k)) (order : List Var) where
  abbrev w_of : FlatTerm → RawTerm
  w_of = shown_as d names order

  -- the variable that is read for x, where these are all names
  abbrev pub read_as : List Text → Renaming
  read_as texts x = record { name = place_or_end texts (new_name order x); sort = x.sort; fresh = false }

  abbrev as_read : List Text → Substitution
  as_read texts x = var (read_as texts x)

  -- What is written stands for a term of this kind, which is t with its variables renamed, modulo the axioms;
  -- names go on.
  pub record IsRead (before : List Text) (raw : RawTerm) (t : Term) (k : SortId) : Type 0 where
    pub resolved : Resolved
    pub stands : resolve (read_in_names d names readable tops) before raw ≡ Ok resolved
    pub of_kind : resolved.kind ≡ k
    pub news : List Text
    pub goes_on : resolved.texts ≡ before ++ news
    pub named : (x : Var) → Occurs x t → Contains resolved.texts (new_name order x)
    pub equal : (later : List Text) → BEqual d (term resolved.term) (renamed (read_as (resolved.texts ++ later)) t)

  -- the same of several terms
  record AreRead (before : List Text) (raw : RawTerms) (ts : List FlatTerm) (ks : List SortId) : Type 0 where
    resolved : AllResolved
    stands : resolve_all (read_in_names d names readable tops) before raw ≡ Ok resolved
    of_kinds : resolved.kinds ≡ ks
    news : List Text
    goes_on : resolved.texts ≡ before ++ news
    named : (x : Var) → OccursAmong x (plain_all (fpack ts)) → Contains resolved.texts (new_name order x)
    equal : (later : List Text) →
        EachLeads (IsAxiomEitherWay d) (terms resolved.terms) (apply_all (as_read (resolved.texts ++ later)) (plain_all (fpack ts)))

  -- the form is read, whatever names come before
  abbrev pub CanRead : FlatTerm → SortId → Type 0
  CanRead t k = (before : List Text) → IsRead before (w_of t) (plain t) k

  -- each form is read, and is of the kind in its place
  abbrev AllCanRead : List FlatTerm → List SortId → Type 0
  AllCanRead [] [] = Unit {0}
  AllCanRead [] (k ∷ ks) = ⊥
  AllCanRead (t ∷ ts) [] = ⊥
  AllCanRead (t ∷ ts) (k ∷ ks) = CanRead t k × AllCanRead ts ks

  -- Variables.

  pub variable-can_read : (x : Var) → IsSort d x.sort → CanRead (fvar x) (kind d x.sort)
  variable-can_read x is before =
      let n = new_name order x in
      let more = with_text-more before n in
      record {
        resolved = the_variable before n x.sort (kind d x.sort);
        stands = variable-stands d names readable tops n x.sort (new_name-some order x) is before;
        of_kind = refl;
        news = more.0;
        goes_on = more.1;
        named = λ y o. subst (λ z. Contains (with_text before n) (new_name order z)) (sym o) (with_text-contains before n);
        equal = λ later. subst (λ i. BEqual d (var (record { name = place_or_end before n; sort = x.sort; fresh = false })) (var (record { name = i; sort = x.sort; fresh = false })))
            (sym (placed before n later)) stop;
      }

  -- Arguments.

  all-read : (t : FlatTerm) (ts : List FlatTerm) (k : SortId) (ks : List SortId) → CanRead t k → AllCanRead ts ks → (before : List Text) →
      AreRead before (arguments (w_of t) (map w_of ts)) (t ∷ ts) (k ∷ ks)
  all-read t [] k [] h hs before =
      let r = h before in
      record {
        resolved = record { terms = r.resolved.term ∷ []; kinds = r.resolved.kind ∷ []; texts = r.resolved.texts };
        stands = rw r.stands refl;
        of_kinds = ap (λ q. q ∷ []) r.of_kind;
        news = r.news;
        goes_on = r.goes_on;
        named = λ x o. elim o [ inl a ↦ r.named x a | inr n ↦ absurd n ];
        equal = λ later. each_more (r.equal later) each_none;
      }
  all-read t [] k (q ∷ ks) h hs before = absurd hs
  all-read t (u ∷ us) k [] h hs before = absurd hs
  all-read t (u ∷ us) k (q ∷ ks) h hs before =
      let r = h before in
      let rs = all-read u us q ks hs.0 hs.1 r.resolved.texts in
      record {
        resolved = record { terms = r.resolved.term ∷ rs.resolved.terms; kinds = r.resolved.kind ∷ rs.resolved.kinds; texts = rs.resolved.texts };
        stands = rw (r.stands, rs.stands) refl;
        of_kinds = ap (λ p. p ∷ rs.resolved.kinds) r.of_kind ∙ ap (λ ps. k ∷ ps) rs.of_kinds;
        news = r.news ++ rs.news;
        goes_on = rs.goes_on ∙ ap (λ texts. texts ++ rs.news) r.goes_on ∙ append_assoc before r.news rs.news;
        named = λ x o. elim o [
          | inl a ↦ subst (λ texts. Contains texts (new_name order x)) (sym rs.goes_on) (Contains-append_left r.resolved.texts rs.news (new_name order x) (r.named x a))
          | inr b ↦ rs.named x b
        ];
        equal = λ later. each_more
            (subst (λ texts. BEqual d (term r.resolved.term) (renamed (read_as texts) (plain t)))
            (sym (append_assoc r.resolved.texts rs.news later) ∙ ap (λ texts. texts ++ later) (sym rs.goes_on))
            (r.equal (rs.news ++ later)))
            (rs.equal later);
      }

  -- Applications.

  -- the operator of a name
  op-named : (f : OpId) → f.0 < length d.ops → op_named names (op_text d names f) ≡ Some f
  op-named f low = rw (place-distinct names.ops f.0 readable.distinct_ops (omega (arith, readable.op_names))) refl

  -- a constant
  constant-read : (f : OpId) → f.0 < length d.ops → arity_of d f ≡ 0 → (before : List Text) → IsRead before (name (op_text d names f)) (app f none) (result_of d f)
  constant-read f low nullary before = record {
    resolved = record { term = App f none; kind = result_of d f; texts = before };
    stands = rw (op-named f low, nullary) refl;
    of_kind = refl;
    news = [];
    goes_on = sym (append-nil before);
    named = λ x o. absurd o;
    equal = λ later. stop;
  }

  -- an operator over arguments, which stands for a term that is equal modulo the axioms to that over what was read
  module _ (f : OpId) (low : f.0 < length d.ops) (t : FlatTerm) (ts : List FlatTerm) (k : SortId) (ks : List SortId) (h : CanRead t k) (hs : AllCanRead ts ks)
      (none : application_fault d (is_sum (axioms d f)) f (k ∷ ks) ≡ None) (whole : Term) (among : (x : Var) → Occurs x whole → Among d names order x (t ∷ ts))
      (same : (texts : List Text) (rs : List Plain) → EachLeads (IsAxiomEitherWay d) (terms rs) (values d names order (as_read texts) (t ∷ ts)) →
      BEqual d (term (applied (is_sum (axioms d f)) f rs)) (renamed (read_as texts) whole)) where
    call-read : (before : List Text) → IsRead before (over (op_text d names f) (map w_of (t ∷ ts))) whole (result_of d f)
    call-read before =
        let r = all-read t ts k ks h hs before in
        let c = read_in_names d names readable tops in
        let made : Resolved = record { term = applied (is_sum (axioms d f)) f r.resolved.terms; kind = result_of d f; texts = r.resolved.texts } in
        record {
          resolved = made;
          stands =
              ap (λ o. bind (or_fault UnknownName o) (λ g. bind (resolve_all c before (arguments (w_of t) (map w_of ts))) (apply_op d g))) (op-named f low)
              ∙ ap (λ q. bind q (apply_op d f)) r.stands
              ∙ ap (λ o. unless d o made) (ap (application_fault d (is_sum (axioms d f)) f) r.of_kinds ∙ none);
          of_kind = refl;
          news = r.news;
          goes_on = r.goes_on;
          named = λ x o. r.named x (among x o);
          equal = λ later. same (r.resolved.texts ++ later) r.resolved.terms (r.equal later);
        }

  -- the arguments in the order in which they are printed
  from-arranged : (f : OpId) (joined : Bool) (l : List FlatTerm) (k : SortId) →
      ((before : List Text) → IsRead before (over (op_text d names f) (map w_of (arranged_forms d names order (axioms d f) l))) (plain (fapp f joined (fpack l))) k) → CanRead (fapp f joined (fpack l)) k
  from-arranged f joined l k h before =
      subst (λ us. IsRead before (over (op_text d names f) us) (plain (fapp f joined (fpack l))) k) (sym (written-arranged d names order (axioms d f) l)) (h before)

  -- Operators that are no sums.

  applied-free : (f : OpId) → is_sum (axioms d f) ≡ false → (texts : List Text) (rs : List Plain) (us : List FlatTerm) → EachLeads (IsAxiomEitherWay d) (terms rs) (values d names order (as_read texts) us) →
      BEqual d (term (applied (is_sum (axioms d f)) f rs)) (app f (values d names order (as_read texts) us))
  applied-free f free texts rs us e = rw free (BEqual-inside d f e)

  free-can : (f : OpId) (l : List FlatTerm) (r : Rank) → Contains (declared d f).ranks r → f.0 < length d.ops → axioms d f ≡ Free → AllCanRead l (map (kind d) r.args) → CanRead (fapp f false (fpack l)) (kind d r.result)
  free-can f [] r listed low free hs = go (map (kind d) r.args) refl hs
    where
      go : (ks : List SortId) → map (kind d) r.args ≡ ks → AllCanRead [] ks → CanRead (fapp f false (fpack [])) (kind d r.result)
      go (k ∷ ks) e hs = absurd hs
      go [] e hs = from-arranged f false [] (kind d r.result) (λ before.
          subst (λ a. IsRead before (over (op_text d names f) (map w_of (arranged_forms d names order a []))) (app f none) (kind d r.result)) (sym free)
          (subst (IsRead before (name (op_text d names f)) (app f none)) (result-of d fits f r listed)
          (constant-read f low (arity-of d fits f r listed ∙ ap length e) before)))
  free-can f (t ∷ ts) r listed low free hs = go (map (kind d) r.args) refl hs
    where
      not_sum : is_sum (axioms d f) ≡ false
      not_sum = ap is_sum free

      go : (ks : List SortId) → map (kind d) r.args ≡ ks → AllCanRead (t ∷ ts) ks → CanRead (fapp f false (fpack (t ∷ ts))) (kind d r.result)
      go [] e hs = absurd hs
      go (k ∷ ks) e hs = from-arranged f false (t ∷ ts) (kind d r.result) (λ before.
          subst (λ a. IsRead before (over (op_text d names f) (map w_of (arranged_forms d names order a (t ∷ ts)))) (plain (fapp f false (fpack (t ∷ ts)))) (kind d r.result)) (sym free)
          (subst (IsRead before (over (op_text d names f) (map w_of (t ∷ ts))) (plain (fapp f false (fpack (t ∷ ts))))) (result-of d fits f r listed)
          (call-read f low t ts k ks hs.0 hs.1 (subst (λ qs. application_fault d (is_sum (axioms d f)) f qs ≡ None) e (takes-its-own d fits f r listed not_sum))
          (plain (fapp f false (fpack (t ∷ ts)))) (λ x o. o) (λ texts rs l. applied-free f not_sum texts rs (t ∷ ts) l) before)))

  comm-can : (f : OpId) (t u : FlatTerm) (k : SortId) (r : Rank) → Contains (declared d f).ranks r → f.0 < length d.ops → axioms d f ≡ Comm → map (kind d) r.args ≡ k ∷ k ∷ [] →
      CanRead t k → CanRead u k → CanRead (fapp f false (fpack (t ∷ u ∷ []))) (kind d r.result)
  comm-can f t u k r listed low comm e h i = from-arranged f false (t ∷ u ∷ []) (kind d r.result) (λ before.
      subst (λ a. IsRead before (over (op_text d names f) (map w_of (arranged_forms d names order a (t ∷ u ∷ [])))) whole (kind d r.result)) (sym comm)
      (go (is_after (key d names order t) (key d names order u)) before))
    where
      not_sum : is_sum (axioms d f) ≡ false
      not_sum = ap is_sum comm

      whole : Term
      whole = plain (fapp f false (fpack (t ∷ u ∷ [])))

      none : application_fault d (is_sum (axioms d f)) f (k ∷ k ∷ []) ≡ None
      none = subst (λ qs. application_fault d (is_sum (axioms d f)) f qs ≡ None) e (takes-its-own d fits f r listed not_sum)

      may : IsCommutative (axioms d f)
      may = subst IsCommutative (sym comm) tt

      go : (b : Bool) (before : List Text) → IsRead before (over (op_text d names f) (map w_of (if b then u ∷ t ∷ [] else t ∷ u ∷ []))) whole (kind d r.result)
      go true before =
          subst (IsRead before (over (op_text d names f) (map w_of (u ∷ t ∷ []))) whole) (result-of d fits f r listed)
          (call-read f low u (t ∷ []) k (k ∷ []) i (h, tt) none whole
          (λ x o. elim o [ inl a ↦ inr (inl a) | inr q ↦ elim q [ inl b ↦ inl b | inr n ↦ absurd n ] ])
          (λ texts rs l. BEqual-trans d (applied-free f not_sum texts rs (u ∷ t ∷ []) l) (exchanged d f may (value_of d names order (as_read texts) u) (value_of d names order (as_read texts) t)))
          before)
      go false before =
          subst (IsRead before (over (op_text d names f) (map w_of (t ∷ u ∷ []))) whole) (result-of d fits f r listed)
          (call-read f low t (u ∷ []) k (k ∷ []) h (i, tt) none whole (λ x o. o) (λ texts rs l. applied-free f not_sum texts rs (t ∷ u ∷ []) l) before)

  -- Sums.

  nest-read : (f : OpId) (rs : List Plain) (t : Term) (ts : Terms) → EachLeads (IsAxiomEitherWay d) (terms rs) (more t ts) → BEqual d (term (nested_all f rs)) (nest f t ts)
  nest-read f [] t ts e = elim e [ ]
  nest-read f (p ∷ ps) t ts (each_more e es) = subst (λ w. BEqual d w (nest f t ts)) (sym (term-nested f p ps)) (nest-each d f e es)

  in-order : (k : SortId) (ts : List FlatTerm) → AllByRecursion (λ t. CanRead t k) ts → AllCanRead ts (map (λ _. k) ts)
  in-order k [] hs = tt
  in-order k (t ∷ ts) hs = (hs.0, in-order k ts hs.1)

  all-are : (f : OpId) (k : SortId) (ts : List FlatTerm) → AllAre d fits f k (map (λ _. k) ts)
  all-are f k [] = tt
  all-are f k (t ∷ ts) = (refl, all-are f k ts)

  sum-can : (f : OpId) (l : List FlatTerm) (r : Rank) → Contains (declared d f).ranks r → f.0 < length d.ops → IsAssociative (axioms d f) → 2 ≤ length l →
      AllByRecursion (λ t. CanRead t (kind d r.result)) l → CanRead (fapp f true (fpack l)) (kind d r.result)
  sum-can f l r listed low assoc long hs = from-arranged f true l (kind d r.result) (λ before.
      go (arranged_forms d names order (axioms d f) l) (ap (λ b. if b then sorted_forms d names order l else l) (commutes_commutative (axioms d f) (associative_commutes (axioms d f) assoc))) before)
    where
      whole : Term
      whole = plain (fapp f true (fpack l))

      go : (us : List FlatTerm) → us ≡ sorted_forms d names order l → (before : List Text) → IsRead before (over (op_text d names f) (map w_of us)) whole (kind d r.result)
      go [] e before = absurd (omega (arith, ap length e, length-sorted d names order l, long))
      go (u ∷ us) e before =
          let each = subst (AllByRecursion (λ t. CanRead t (kind d r.result))) (sym e) (each-sorted d names order (λ t. CanRead t (kind d r.result)) l hs) in
          let count : length (u ∷ us) ≡ length l = ap length e ∙ length-sorted d names order l in
          let ks = map (λ (t : FlatTerm). kind d r.result) us in
          let number : length ks ≡ length us = length-map us (λ (t : FlatTerm). kind d r.result) in
          subst (IsRead before (over (op_text d names f) (map w_of (u ∷ us))) whole) (result-of d fits f r listed)
          (call-read f low u us (kind d r.result) ks each.0 (in-order (kind d r.result) us each.1)
          (takes-sum d fits f r listed assoc (kind d r.result ∷ ks) (omega (arith, number, count, long)) (refl, all-are f (kind d r.result) us))
          whole
          (λ x o. subst (Among d names order x) (sym e) (among-sorted d names order x l (occurs-sum x f l o)))
          (λ texts rs lead. rw (associative_sums (axioms d f) assoc) (
          BEqual-trans d (nest-read f rs (value_of d names order (as_read texts) u) (values d names order (as_read texts) us) lead)
          (subst (λ ts. BEqual d (nest_all f (values d names order (as_read texts) ts)) (renamed (read_as texts) whole)) (sym e)
          (subst (BEqual d (nest_all f (values d names order (as_read texts) (sorted_forms d names order l)))) (sym (apply-nest_all (as_read texts) f (plain_all (fpack l))))
          (sum-sorted d names order (as_read texts) f (associative_commutes (axioms d f) assoc) assoc l)))
          ))
          before)

  -- a sum takes two
  sum-of-none : (f : OpId) (l : List FlatTerm) (r : Rank) → Contains (declared d f).ranks r → IsAssociative (axioms d f) → l ≡ [] → AllCanRead l (map (kind d) r.args) → ⊥
  sum-of-none f l r listed assoc e hs = subst (AllCanRead []) (fits.associative f r assoc listed) (subst (λ m. AllCanRead m (map (kind d) r.args)) e hs)

  unjoined-can : (f : OpId) (l : List FlatTerm) (r : Rank) → Contains (declared d f).ranks r → FitsUnjoined d (axioms d f) l → (a : Axioms) → axioms d f ≡ a →
      AllCanRead l (map (kind d) r.args) → CanRead (fapp f false (fpack l)) (kind d r.result)
  unjoined-can f l r listed over Free e hs = free-can f l r listed (ranked d f r listed) e hs
  unjoined-can f l r listed over Comm e hs = go l (subst (AllCanRead l) two.1 hs)
    where
      two : (k : SortId) × (map (kind d) r.args ≡ k ∷ k ∷ [])
      two = fits.commutative f r (subst IsCommutative (sym e) tt) listed

      go : (m : List FlatTerm) → AllCanRead m (two.0 ∷ two.0 ∷ []) → CanRead (fapp f false (fpack m)) (kind d r.result)
      go [] hs = absurd hs
      go (t ∷ []) hs = absurd hs.1
      go (t ∷ u ∷ []) hs = comm-can f t u two.0 r listed (ranked d f r listed) e two.1 hs.0 hs.1.0
      go (t ∷ u ∷ v ∷ m) hs = absurd hs.1.1
  unjoined-can f l r listed over AssocComm e hs = absurd (sum-of-none f l r listed (subst IsAssociative (sym e) tt) (subst (λ a. FitsUnjoined d a l) e over) hs)
  unjoined-can f l r listed over (AssocCommId o) e hs = absurd (sum-of-none f l r listed (subst IsAssociative (sym e) tt) (subst (λ a. FitsUnjoined d a l) e over) hs)

  joined-can : (f : OpId) (ts : FlatTerms) → Settled d (fapp f true ts) → (k : SortId) → HasKind d (plain (fapp f true ts)) k →
      (AllByRecursion (λ p. HasKind d (plain p) k) (funpack ts) → AllByRecursion (λ t. CanRead t k) (funpack ts)) → CanRead (fapp f true ts) k
  joined-can f fnone s k h each = absurd (let l = s.0.two_or_more in omega arith)
  joined-can f (fmore t fnone) s k h each = absurd (let l = s.0.two_or_more in omega arith)
  joined-can f (fmore t (fmore u us)) s k h each =
      let parts = each (nest_parts_of_kind d fits f s.0.associative k t (fmore u us) h) in
      subst (λ ts. CanRead (fapp f true ts) k) (fpack-funpack (fmore t (fmore u us)))
      (subst (CanRead (fapp f true (fpack (t ∷ u ∷ funpack us)))) h.result
      (sum-can f (t ∷ u ∷ funpack us) h.rank h.listed (ranked d f h.rank h.listed) s.0.associative s.0.two_or_more
      (subst (λ q. AllByRecursion (λ t. CanRead t q) (t ∷ u ∷ funpack us)) (sym h.result) parts)))

  -- All forms that are flat and well-kinded.

  mutual
    pub can-read : (t : FlatTerm) → Settled d t → (k : SortId) → HasKind d (plain t) k → CanRead t k
    can-read (fvar x) s k h = subst (CanRead (fvar x)) h.1 (variable-can_read x h.0)
    can-read (fapp f true ts) s k h = joined-can f ts s k h (all-sum ts s.1 k)
    can-read (fapp f false ts) s k h =
        subst (λ us. CanRead (fapp f false us) k) (fpack-funpack ts)
        (subst (CanRead (fapp f false (fpack (funpack ts)))) h.result
        (unjoined-can f (funpack ts) h.rank h.listed s.0 (axioms d f) refl (all-kinds ts s.1 (map (kind d) h.rank.args) h.args)))

    all-kinds : (ts : FlatTerms) → SettledAll d ts → (ks : List SortId) → HaveKinds d (plain_all ts) ks → AllCanRead (funpack ts) ks
    all-kinds fnone s [] h = tt
    all-kinds fnone s (k ∷ ks) h = absurd h
    all-kinds (fmore t ts) s [] h = absurd h
    all-kinds (fmore t ts) s (k ∷ ks) h = (can-read t s.0 k h.0, all-kinds ts s.1 ks h.1)

    all-sum : (ts : FlatTerms) → SettledAll d ts → (k : SortId) → AllByRecursion (λ p. HasKind d (plain p) k) (funpack ts) → AllByRecursion (λ t. CanRead t k) (funpack ts)
    all-sum fnone s k h = tt
    all-sum (fmore t ts) s k h = (can-read t s.0 k h.0, all-sum ts s.1 k h.1)
