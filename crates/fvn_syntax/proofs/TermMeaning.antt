-- What a written term is read as is what it stands for.
use Rattle.std.proofs.Common.{◌≡◌, ℕ, ◌+◌, ◌-◌, ◌^◌, ◌≤◌, Bool, true, false, ◌&&◌, List, [], ◌∷◌, ◌++◌, length, Option, Some, None, Result, Ok, Err, refl, sym, ap, ◌∙◌, subst, append_assoc, suc, arith, ◌⊎◌, inl, inr}
use Rattle.std.specs.Prelude.{nat_le, if◌then◌else◌, IfOk, IfErr}
use Rattle.std.proofs.lemmas.Bool.{le-leb}
use Rattle.fvn_lex.specs.Cut.{Piece}
use Rattle.fvn_terms.specs.declared.plain.OpId.{OpId}
use Rattle.fvn_terms.specs.declared.plain.SortId.{SortId}
use Rattle.fvn_terms.specs.declared.plain.Plain.{Plain}
use Rattle.fvn_terms.specs.Signature.{kind, axioms}
use Rattle.fvn_terms.specs.Term.{nodes, nodes_all}
use Rattle.fvn_terms.specs.Plain.{term, terms}
use Rattle.fvn_syntax.specs.declared.fault.TermFault.{TermFault}
use Rattle.fvn_syntax.specs.declared.fault.TermFault.TheVariants.{UnknownName, ReservedName, NoMemory}
use Rattle.fvn_syntax.specs.declared.naming.Meaning.{Meaning}
use Rattle.fvn_syntax.specs.declared.naming.Meaning.TheVariants.{Constant, Variable}
use Rattle.fvn_syntax.specs.declared.seen.Seen.{Seen}
use Rattle.fvn_syntax.specs.declared.seen.Kinded.{Kinded}
use Rattle.fvn_syntax.specs.Pieces.{Text, is_reserved, without_last}
use Rattle.fvn_syntax.specs.Raw.{RawTerm, RawTerms, name, call, round, kind_variable, last, and}
use Rattle.fvn_terms.specs.Equality.{is_sum}
use Rattle.fvn_syntax.specs.Names.{resolve_name, op_named, bracket, result_of}
use Rattle.fvn_syntax.specs.Scope.{Scope}
use Rattle.fvn_syntax.specs.Resolve.{Resolved, AllResolved, bind, or_fault, checked, nested, applied, application_fault, unless, apply, the_constant, the_variable, resolve_meaning, resolve_kind, resolve, resolve_all}
use Rattle.fvn_syntax.specs.Readings.{sum_or_most, IsReadAs, Reads, Refuses}
use Rattle.fvn_syntax.specs.inner.Reading.{Gives, own_symbols, kept, grown, closed, start, run}
use Rattle.fvn_syntax.proofs.TermReading.{Arguments, arguments, kind_value, value, values, read-whole}

pub sum-sum : (a b n : ℕ) → sum_or_most (sum_or_most a b) n ≡ sum_or_most a (b + n)
sum-sum a b n = omega arith

pub sum-most : (a b : ℕ) → sum_or_most a b ≤ 2 ^ 64 - 1
sum-most a b = omega arith

sum-below : (a b limit : ℕ) → a ≤ 2 ^ 64 - 1 → sum_or_most a b ≤ limit → a ≤ limit
sum-below a b limit m h = omega arith

nodes-nested : (f : OpId) (t : Plain) (ts : List Plain) → nodes (term (nested f t ts)) ≡ nodes (term t) + nodes_all (terms ts) + length ts
nodes-nested f t [] = omega arith
nodes-nested f t (u ∷ us) = let h = nodes-nested f u us in omega (arith, h)

nodes-applied : (sum : Bool) (f : OpId) (ts : List Plain) → 1 ≤ length ts →
    nodes (term (applied sum f ts)) ≡ nodes_all (terms ts) + own_symbols sum (length ts)
nodes-applied false f ts h = refl
nodes-applied true f [] h = omega arith
nodes-applied true f (t ∷ ts) h = let e = nodes-nested f t ts in omega (arith, e)

module _ (limit : ℕ) where
  -- what was read is what stands there
  pub record Same (s : Seen) (v : Kinded × Seen) (r : Resolved) : Type 0 where
    pub kind : v.0.kind ≡ r.kind
    pub texts : v.1.texts ≡ r.texts
    pub count : v.1.count ≡ sum_or_most s.count (nodes (term r.term))
    pub built : v.1.count ≤ limit → v.0.term ≡ r.term

  abbrev pub Agree : Seen → Result (Kinded × Seen) TermFault → Result Resolved TermFault → Type 0
  Agree s (Ok v) (Ok r) = Same s v r
  Agree s (Ok v) (Err e) = ⊥
  Agree s (Err e) (Ok r) = ⊥
  Agree s (Err e) (Err f) = e ≡ f

  record SameAll (s : Seen) (ks : List SortId) (us : List Plain) (a : Arguments) (r : AllResolved) : Type 0 where
    kinds : a.kinds ≡ ks ++ r.kinds
    texts : a.seen.texts ≡ r.texts
    count : a.seen.count ≡ sum_or_most s.count (nodes_all (terms r.terms))
    built : a.seen.count ≤ limit → a.terms ≡ us ++ r.terms
    lengths : length r.kinds ≡ length r.terms
    some : 1 ≤ length r.terms

  abbrev AgreeAll : Seen → List SortId → List Plain → Result Arguments TermFault → Result AllResolved TermFault → Type 0
  AgreeAll s ks us (Ok a) (Ok r) = SameAll s ks us a r
  AgreeAll s ks us (Ok a) (Err e) = ⊥
  AgreeAll s ks us (Err e) (Ok r) = ⊥
  AgreeAll s ks us (Err e) (Err f) = e ≡ f

  kept-within : (n : ℕ) (t : Plain) → n ≤ limit → kept limit n t ≡ t
  kept-within n t h = let e : nat_le n limit ≡ true = le-leb n limit h in rw e refl

  grown-same : (n : ℕ) (s : Seen) (r : Resolved) → nodes (term r.term) ≡ n → Same s (grown limit n s r) r
  grown-same n s r e =
      record {
        kind = refl;
        texts = refl;
        count = ap (sum_or_most s.count) (sym e);
        built = kept-within (sum_or_most s.count n) r.term;
      }

  module _ (c : Scope) where
    agree-meaning : (s : Seen) (m : Option Meaning) → Agree s (bind (resolve_meaning c s.texts m) (λ r. Ok (grown limit 1 s r))) (resolve_meaning c s.texts m)
    agree-meaning s None = refl
    agree-meaning s (Some (Constant f)) = grown-same 1 s (the_constant c s.texts f) refl
    agree-meaning s (Some (Variable x q)) = go (c.guarded && is_reserved x) where
      go : (b : Bool) → Agree s (bind (if b then Err ReservedName else Ok (the_variable s.texts x q (kind c.declarations q))) (λ r. Ok (grown limit 1 s r)))
          (if b then Err ReservedName else Ok (the_variable s.texts x q (kind c.declarations q)))
      go true = refl
      go false = grown-same 1 s (the_variable s.texts x q (kind c.declarations q)) refl

    agree-kind : (s : Seen) (x : Text) (o : Option SortId) → Agree s (kind_value limit c s x o) (resolve_kind c s.texts x o)
    agree-kind s x None = refl
    agree-kind s x (Some k) = grown-same 1 s (the_variable s.texts x k (kind c.declarations k)) refl

    agree-checked : (s : Seen) (x : Text) (v : Result (Kinded × Seen) TermFault) (r : Result Resolved TermFault) → Agree s v r →
        Agree s (checked c.guarded x v) (checked c.guarded x r)
    agree-checked s x v r h = go (c.guarded && is_reserved x) where
      go : (b : Bool) → Agree s (if b then Err ReservedName else v) (if b then Err ReservedName else r)
      go true = refl
      go false = h

    closed-same : (s seen : Seen) (us : List Plain) (r : AllResolved) (f : OpId) → seen.texts ≡ r.texts →
        seen.count ≡ sum_or_most s.count (nodes_all (terms r.terms)) → (seen.count ≤ limit → us ≡ r.terms) →
        length r.kinds ≡ length r.terms → 1 ≤ length r.terms →
        Agree s (closed limit c seen f r.kinds us) (apply c.declarations f r)
    closed-same s seen us r f t n b l some = go (application_fault c.declarations (is_sum (axioms c.declarations f)) f r.kinds) where
      number : nodes_all (terms r.terms) + own_symbols (is_sum (axioms c.declarations f)) (length r.kinds)
          ≡ nodes (term (applied (is_sum (axioms c.declarations f)) f r.terms))
      number =
          ap (λ k. nodes_all (terms r.terms) + own_symbols (is_sum (axioms c.declarations f)) k) l
          ∙ sym (nodes-applied (is_sum (axioms c.declarations f)) f r.terms some)

      most : seen.count ≤ 2 ^ 64 - 1
      most = rw n (sum-most s.count (nodes_all (terms r.terms)))

      within : (k : ℕ) → sum_or_most seen.count k ≤ limit → (us' : Plain) → kept limit (sum_or_most seen.count k) us' ≡ us'
      within k h u = kept-within (sum_or_most seen.count k) u h

      go : (o : Option TermFault) →
          Agree s
          (bind (unless c.declarations o (record { term = applied (is_sum (axioms c.declarations f)) f us; kind = result_of c.declarations f; texts = seen.texts }))
          (λ x. Ok (grown limit (own_symbols (is_sum (axioms c.declarations f)) (length r.kinds)) seen x)))
          (unless c.declarations o (record { term = applied (is_sum (axioms c.declarations f)) f r.terms; kind = result_of c.declarations f; texts = r.texts }))
      go (Some fault) = refl
      go None =
          record {
            kind = refl;
            texts = t;
            count =
                ap (λ m. sum_or_most m (own_symbols (is_sum (axioms c.declarations f)) (length r.kinds))) n
                ∙ sum-sum s.count (nodes_all (terms r.terms)) (own_symbols (is_sum (axioms c.declarations f)) (length r.kinds))
                ∙ ap (sum_or_most s.count) number;
            built = λ h.
                within (own_symbols (is_sum (axioms c.declarations f)) (length r.kinds)) h (applied (is_sum (axioms c.declarations f)) f us)
                ∙ ap (applied (is_sum (axioms c.declarations f)) f)
                (b (sum-below seen.count (own_symbols (is_sum (axioms c.declarations f)) (length r.kinds)) limit most h));
          }

    agree-call : (s : Seen) (f : OpId) (args : Result Arguments TermFault) (rs : Result AllResolved TermFault) → AgreeAll s [] [] args rs →
        Agree s (bind args (λ a. closed limit c a.seen f a.kinds a.terms)) (bind rs (apply c.declarations f))
    agree-call s f (Ok a) (Ok r) h =
        subst (λ ks. Agree s (closed limit c a.seen f ks a.terms) (apply c.declarations f r)) (sym h.kinds)
        (closed-same s a.seen a.terms r f h.texts h.count h.built h.lengths h.some)
    agree-call s f (Ok a) (Err e) h = absurd h
    agree-call s f (Err e) (Ok r) h = absurd h
    agree-call s f (Err e) (Err g) h = h

    agree-last : (s : Seen) (ks : List SortId) (us : List Plain) (v : Result (Kinded × Seen) TermFault) (r : Result Resolved TermFault) → Agree s v r →
        AgreeAll s ks us (bind v (λ x. Ok (arguments x.1 (ks ++ (x.0.kind ∷ [])) (us ++ (x.0.term ∷ [])))))
        (bind r (λ x. Ok (record { terms = x.term ∷ []; kinds = x.kind ∷ []; texts = x.texts })))
    agree-last s ks us (Ok v) (Ok r) h =
        record {
          kinds = ap (λ k. ks ++ (k ∷ [])) h.kind;
          texts = h.texts;
          count = h.count ∙ ap (sum_or_most s.count) (let z : nodes (term r.term) ≡ nodes (term r.term) + 0 = omega arith in z);
          built = λ b. ap (λ t. us ++ (t ∷ [])) (h.built b);
          lengths = refl;
          some = omega arith;
        }
    agree-last s ks us (Ok v) (Err e) h = absurd h
    agree-last s ks us (Err e) (Ok r) h = absurd h
    agree-last s ks us (Err e) (Err f) h = h

    joined : (s : Seen) (ks : List SortId) (us : List Plain) (v : Kinded × Seen) (r : Resolved) → Same s v r →
        (args : Result Arguments TermFault) (rs : Result AllResolved TermFault) →
        AgreeAll v.1 (ks ++ (v.0.kind ∷ [])) (us ++ (v.0.term ∷ [])) args rs →
        AgreeAll s ks us args (bind rs (λ x. Ok (record { terms = r.term ∷ x.terms; kinds = r.kind ∷ x.kinds; texts = x.texts })))
    joined s ks us v r h (Ok a) (Ok x) g =
        record {
          kinds = g.kinds ∙ append_assoc ks (v.0.kind ∷ []) x.kinds ∙ ap (λ k. ks ++ (k ∷ x.kinds)) h.kind;
          texts = g.texts;
          count =
              g.count ∙ ap (λ n. sum_or_most n (nodes_all (terms x.terms))) h.count
              ∙ sum-sum s.count (nodes (term r.term)) (nodes_all (terms x.terms));
          built = λ b.
              g.built b ∙ append_assoc us (v.0.term ∷ []) x.terms
              ∙ ap (λ t. us ++ (t ∷ x.terms)) (h.built (sum-below v.1.count (nodes_all (terms x.terms)) limit most (subst (λ n. n ≤ limit) g.count b)));
          lengths = ap suc g.lengths;
          some = omega arith;
        }
      where
        most : v.1.count ≤ 2 ^ 64 - 1
        most = rw h.count (sum-most s.count (nodes (term r.term)))
    joined s ks us v r h (Ok a) (Err e) g = absurd g
    joined s ks us v r h (Err e) (Ok x) g = absurd g
    joined s ks us v r h (Err e) (Err f) g = g

    agree-and : (s : Seen) (ks : List SortId) (us : List Plain) (ts : RawTerms) (v : Result (Kinded × Seen) TermFault) (r : Result Resolved TermFault) → Agree s v r →
        ((x : Kinded × Seen) → AgreeAll x.1 (ks ++ (x.0.kind ∷ [])) (us ++ (x.0.term ∷ []))
        (values limit c x.1 (ks ++ (x.0.kind ∷ [])) (us ++ (x.0.term ∷ [])) ts) (resolve_all c x.1.texts ts)) →
        AgreeAll s ks us (bind v (λ x. values limit c x.1 (ks ++ (x.0.kind ∷ [])) (us ++ (x.0.term ∷ [])) ts))
        (bind r (λ y. bind (resolve_all c y.texts ts) (λ x. Ok (record { terms = y.term ∷ x.terms; kinds = y.kind ∷ x.kinds; texts = x.texts }))))
    agree-and s ks us ts (Ok v) (Ok r) h later =
        joined s ks us v r h (values limit c v.1 (ks ++ (v.0.kind ∷ [])) (us ++ (v.0.term ∷ [])) ts) (resolve_all c r.texts ts)
        (subst (λ texts. AgreeAll v.1 (ks ++ (v.0.kind ∷ [])) (us ++ (v.0.term ∷ []))
        (values limit c v.1 (ks ++ (v.0.kind ∷ [])) (us ++ (v.0.term ∷ [])) ts) (resolve_all c texts ts)) h.texts (later v))
    agree-and s ks us ts (Ok v) (Err e) h later = absurd h
    agree-and s ks us ts (Err e) (Ok r) h later = absurd h
    agree-and s ks us ts (Err e) (Err f) h later = h

    agree-op : (s : Seen) (ts : RawTerms) (o : Option OpId) → AgreeAll s [] [] (values limit c s [] [] ts) (resolve_all c s.texts ts) →
        Agree s (bind (or_fault UnknownName o) (λ f. bind (values limit c s [] [] ts) (λ a. closed limit c a.seen f a.kinds a.terms)))
        (bind (or_fault UnknownName o) (λ f. bind (resolve_all c s.texts ts) (apply c.declarations f)))
    agree-op s ts None h = refl
    agree-op s ts (Some f) h = agree-call s f (values limit c s [] [] ts) (resolve_all c s.texts ts) h

    mutual
      pub agree : (t : RawTerm) (s : Seen) → Agree s (value limit c s t) (resolve c s.texts t)
      agree (name w) s = agree-meaning s (resolve_name c.declarations c.names w)
      agree (round t) s = agree t s
      agree (kind_variable x q qs) s =
          agree-checked s (without_last x) (kind_value limit c s (without_last x) (bracket c.names.sorts c.declarations.kinds q qs))
          (resolve_kind c s.texts (without_last x) (bracket c.names.sorts c.declarations.kinds q qs))
          (agree-kind s (without_last x) (bracket c.names.sorts c.declarations.kinds q qs))
      agree (call w ts) s = agree-op s ts (op_named c.names w) (agree-all ts s [] [])

      agree-all : (ts : RawTerms) (s : Seen) (ks : List SortId) (us : List Plain) → AgreeAll s ks us (values limit c s ks us ts) (resolve_all c s.texts ts)
      agree-all (last t) s ks us = agree-last s ks us (value limit c s t) (resolve c s.texts t) (agree t s)
      agree-all (and t ts) s ks us =
          agree-and s ks us ts (value limit c s t) (resolve c s.texts t) (agree t s)
          (λ x. agree-all ts x.1 (ks ++ (x.0.kind ∷ [])) (us ++ (x.0.term ∷ [])))

    -- what is read of a written term
    pub read-as : (s : Seen) (t : RawTerm) (v : Kinded × Seen) → value limit c s t ≡ Ok v → IsReadAs c limit s t v
    read-as s t v h = go (resolve c s.texts t) refl (subst (λ x. Agree s x (resolve c s.texts t)) h (agree t s)) where
      go : (x : Result Resolved TermFault) → resolve c s.texts t ≡ x → Agree s (Ok v) x → IsReadAs c limit s t v
      go (Ok r) e a = record { resolved = r; stands = e; kind = a.kind; texts = a.texts; count = a.count; built = a.built }
      go (Err e) f a = absurd a

    -- what is refused of a written term
    pub refused-as : (s : Seen) (t : RawTerm) (fault : TermFault) → value limit c s t ≡ Err fault → resolve c s.texts t ≡ Err fault
    refused-as s t fault h = go (resolve c s.texts t) refl (subst (λ x. Agree s x (resolve c s.texts t)) h (agree t s)) where
      go : (x : Result Resolved TermFault) → resolve c s.texts t ≡ x → Agree s (Err fault) x → resolve c s.texts t ≡ Err fault
      go (Ok r) e a = absurd a
      go (Err g) e a = e ∙ ap Err (sym a)

    -- what the reader answers for the pieces of a written term
    pub reads : (s : Seen) (row : List Piece) (v : Kinded × Seen) → run limit c (start s) row ≡ Ok v → Reads c limit s row v
    reads s row v h t w is = read-as s t v (sym (read-whole limit c t w s) ∙ ap (run limit c (start s)) (sym is) ∙ h)

    -- what it refuses
    pub refuses : (s : Seen) (row : List Piece) (fault : TermFault) → run limit c (start s) row ≡ Err fault → Refuses c s.texts row fault
    refuses s row fault h t w is = refused-as s t fault (sym (read-whole limit c t w s) ∙ ap (run limit c (start s)) (sym is) ∙ h)

    pub reads-ok : (s : Seen) (row : List Piece) (r : Result (Kinded × Seen) TermFault) → Gives (run limit c (start s) row) r →
        IfOk r (Reads c limit s row)
    reads-ok s row (Ok v) h = reads s row v h
    reads-ok s row (Err fault) h = tt

    pub refuses-err : (s : Seen) (row : List Piece) (r : Result (Kinded × Seen) TermFault) → Gives (run limit c (start s) row) r →
        IfErr r (λ fault. (fault ≡ NoMemory) ⊎ Refuses c s.texts row fault)
    refuses-err s row (Ok v) h = tt
    refuses-err s row (Err fault) (inl e) = inl e
    refuses-err s row (Err fault) (inr e) = inr (refuses s row fault e)
