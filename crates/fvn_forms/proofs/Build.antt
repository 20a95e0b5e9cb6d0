-- What an operator builds over settled flat forms.
use Rattle.std.proofs.Common.{◌≡◌, ◌+◌, ◌≤◌, Bool, true, false, List, [], ◌∷◌, ◌++◌, length, Option, Some, None, refl, sym, ap, ◌∙◌, subst, arith}
use Rattle.std.specs.Prelude.{if◌then◌else◌, ◌↔◌}
use Rattle.std.specs.List.{AllByRecursion}
use Rattle.std.proofs.lemmas.List.{append-nil, length-append}
use Rattle.fvn_terms.specs.declared.plain.OpId.{OpId}
use Rattle.fvn_terms.specs.declared.declarations.Axioms.{Axioms}
use Rattle.fvn_terms.specs.declared.declarations.Axioms.TheVariants.{Free, Comm, AssocComm, AssocCommId}
use Rattle.fvn_terms.specs.declared.declarations.Declarations.{Declarations}
use Rattle.fvn_terms.specs.Signature.{axioms}
use Rattle.fvn_terms.specs.Equality.{IsCommutative, IsAssociative, identity}
use Rattle.fvn_terms.proofs.AxiomWords.{identity_associates}
use Rattle.fvn_forms.specs.Flat.{FlatTerm, FlatTerms, fvar, fapp, fnone, fmore, fpack, funpack, fconstant}
use Rattle.fvn_forms.specs.InOrder.{InOrder, sort, count}
use Rattle.fvn_forms.specs.Canon.{as_constant, same_op, is_identity, parts, all_parts, empty_sum, joined, sum, built, build}
use Rattle.fvn_forms.specs.Settled.{IsPiece, IsJoined, Settled}
use Rattle.fvn_forms.proofs.InOrder.{InOrder-sort, sort_same_counts, count_sort, count_append, each_sort, length_sort}
use Rattle.fvn_forms.proofs.Sums.{funpack-fpack, same_op_itself, same_op_is, SettledAll-fpack, constant_settled, parts_sum, sum_parts, sum_same_counts, all_parts_are_pieces, all_parts_are_settled}

left_is_nil : (l m : List FlatTerm) → l ++ m ≡ [] → l ≡ []
left_is_nil [] m e = refl
left_is_nil (t ∷ l) m e = cc

pub sort_is_nil : (l : List FlatTerm) → sort l ≡ [] → l ≡ []
sort_is_nil [] e = refl
sort_is_nil (t ∷ l) e = let n : length (sort (t ∷ l)) ≡ 0 = ap length e in let k = length_sort (t ∷ l) in absurd (omega arith)

pub is_constant : (t : FlatTerm) (e : OpId) → as_constant t ≡ Some e → t ≡ fconstant e
is_constant (fvar x) e p = cc
is_constant (fapp g true ts) e p = cc
is_constant (fapp g false fnone) e p = let q : g ≡ e = cc in ap fconstant q
is_constant (fapp g false (fmore t ts)) e p = cc

module _ (d : Declarations) where
  -- f has an identity
  abbrev pub HasIdentity : OpId → Type 0
  HasIdentity f = (e : OpId) × (identity (axioms d f) ≡ Some e)

  -- only the identity has no summands
  pub parts_none : (f : OpId) (t : FlatTerm) → Settled d t → parts d f t ≡ [] → (e : OpId) × (identity (axioms d f) ≡ Some e) × (t ≡ fconstant e)
  parts_none f (fvar x) h e = cc
  parts_none f (fapp g true ts) h e = go (same_op f g) refl
    where
      few : (us : FlatTerms) → IsJoined d g (funpack us) → funpack us ≡ [] → ⊥
      few fnone j p = let two : 2 ≤ 0 = j.two_or_more in omega arith
      few (fmore u us) j p = cc

      go : (b : Bool) → same_op f g ≡ b → (e : OpId) × (identity (axioms d f) ≡ Some e) × (fapp g true ts ≡ fconstant e)
      go true p = absurd (few ts h.0 (rw p at e))
      go false p = let q : fapp g true ts ∷ [] ≡ [] = rw p at e in cc
  parts_none f (fapp g false fnone) h e = go (identity (axioms d f)) refl e
    where
      go : (i : Option OpId) → identity (axioms d f) ≡ i → (if is_identity i g then [] else fconstant g ∷ []) ≡ [] → (e : OpId) × (identity (axioms d f) ≡ Some e) × (fconstant g ≡ fconstant e)
      go None q n = cc
      go (Some o) q n = at (same_op o g) refl n
        where
          at : (b : Bool) → same_op o g ≡ b → (if b then [] else fconstant g ∷ []) ≡ [] → (e : OpId) × (identity (axioms d f) ≡ Some e) × (fconstant g ≡ fconstant e)
          at true p n2 = (o, q, ap fconstant (sym (same_op_is o g p)))
          at false p n2 = cc
  parts_none f (fapp g false (fmore t ts)) h e = cc

  joined_settled : (f : OpId) → IsAssociative (axioms d f) → (l : List FlatTerm) → AllByRecursion (IsPiece d f) l → AllByRecursion (Settled d) l → InOrder l → (l ≡ [] → HasIdentity f) → Settled d (joined d f l)
  joined_settled f a [] p s o i = subst (λ j. Settled d (empty_sum d f j)) (sym (i refl).1) (constant_settled d f (i refl).0)
  joined_settled f a (t ∷ []) p s o i = s.0
  joined_settled f a (t ∷ u ∷ us) p s o i =
      let same = funpack-fpack us in (
        record { associative = a; pieces = rw same p; two_or_more = rw same (omega arith); in_order = rw same o },
        SettledAll-fpack d (t ∷ u ∷ us) s,
      )

  pub sum_settled : (f : OpId) → IsAssociative (axioms d f) → (l : List FlatTerm) → AllByRecursion (IsPiece d f) l → AllByRecursion (Settled d) l → (l ≡ [] → HasIdentity f) → Settled d (sum d f l)
  sum_settled f a l p s i = joined_settled f a (sort l) (each_sort (IsPiece d f) l p) (each_sort (Settled d) l s) (InOrder-sort l) (λ e. i (sort_is_nil l e))

  pub all_parts_nonempty : (f : OpId) (t : FlatTerm) (ts : List FlatTerm) → Settled d t → all_parts d f (t ∷ ts) ≡ [] → HasIdentity f
  all_parts_nonempty f t ts h e = let n = parts_none f t h (left_is_nil (parts d f t) (all_parts d f ts) e) in (n.0, n.1)

  sum_parts_settled : (f : OpId) → IsAssociative (axioms d f) → (t : FlatTerm) (ts : List FlatTerm) → AllByRecursion (Settled d) (t ∷ ts) → Settled d (sum d f (all_parts d f (t ∷ ts)))
  sum_parts_settled f a t ts h = sum_settled f a (all_parts d f (t ∷ ts)) (all_parts_are_pieces d f (t ∷ ts) h) (all_parts_are_settled d f (t ∷ ts) h) (all_parts_nonempty f t ts h.0)

  pub build_settled : (f : OpId) (l : List FlatTerm) → AllByRecursion (Settled d) l → Settled d (build d f l)
  build_settled f [] h = constant_settled d f f
  build_settled f (t ∷ ts) h = go (axioms d f) refl
    where
      go : (a : Axioms) → axioms d f ≡ a → Settled d (built d a f (t ∷ ts))
      go Free e = (rw e tt, SettledAll-fpack d (t ∷ ts) h)
      go Comm e = (rw (e, funpack-fpack (sort (t ∷ ts))) (InOrder-sort (t ∷ ts)), SettledAll-fpack d (sort (t ∷ ts)) (each_sort (Settled d) (t ∷ ts) h))
      go AssocComm e = sum_parts_settled f (rw e tt) t ts h
      go (AssocCommId o) e = sum_parts_settled f (rw e tt) t ts h

  -- an associative operator builds sums
  pub build_sum : (f : OpId) → IsAssociative (axioms d f) → (t : FlatTerm) (ts : List FlatTerm) → build d f (t ∷ ts) ≡ sum d f (all_parts d f (t ∷ ts))
  build_sum f a t ts = go (axioms d f) a
    where
      go : (x : Axioms) → IsAssociative x → built d x f (t ∷ ts) ≡ sum d f (all_parts d f (t ∷ ts))
      go Free b = absurd b
      go Comm b = absurd b
      go AssocComm b = refl
      go (AssocCommId o) b = refl

  pub parts_build : (f : OpId) → IsAssociative (axioms d f) → (t : FlatTerm) (ts : List FlatTerm) → AllByRecursion (Settled d) (t ∷ ts) → parts d f (build d f (t ∷ ts)) ≡ sort (all_parts d f (t ∷ ts))
  parts_build f a t ts h = ap (parts d f) (build_sum f a t ts) ∙ parts_sum d f (all_parts d f (t ∷ ts)) (all_parts_are_pieces d f (t ∷ ts) h)

  -- what the summands of two are, counted
  count_two : (f : OpId) (q a b : _) → count q (all_parts d f (a ∷ b ∷ [])) ≡ count q (parts d f a) + count q (parts d f b)
  count_two f q a b = let x = count_append q (parts d f a) (parts d f b ++ []) in let y = count_append q (parts d f b) [] in omega arith

  pub count_parts_build : (f : OpId) → IsAssociative (axioms d f) → (q a b : FlatTerm) → Settled d a → Settled d b → count q (parts d f (build d f (a ∷ b ∷ []))) ≡ count q (parts d f a) + count q (parts d f b)
  count_parts_build f assoc q a b ha hb = ap (count q) (parts_build f assoc a (b ∷ []) (ha, (hb, tt))) ∙ count_sort q (all_parts d f (a ∷ b ∷ [])) ∙ count_two f q a b

  -- the axioms
  sum_swap : (f : OpId) (a b : FlatTerm) → sum d f (all_parts d f (a ∷ b ∷ [])) ≡ sum d f (all_parts d f (b ∷ a ∷ []))
  sum_swap f a b = sum_same_counts d f (all_parts d f (a ∷ b ∷ [])) (all_parts d f (b ∷ a ∷ [])) (λ q. let x = count_two f q a b in let y = count_two f q b a in omega arith)

  pub build_swap : (f : OpId) → IsCommutative (axioms d f) → (a b : FlatTerm) → build d f (a ∷ b ∷ []) ≡ build d f (b ∷ a ∷ [])
  build_swap f c a b = go (axioms d f) c
    where
      go : (x : Axioms) → IsCommutative x → built d x f (a ∷ b ∷ []) ≡ built d x f (b ∷ a ∷ [])
      go Free k = absurd k
      go Comm k = ap (λ l. fapp f false (fpack l)) (sort_same_counts (a ∷ b ∷ []) (b ∷ a ∷ []) (λ q. omega arith))
      go AssocComm k = sum_swap f a b
      go (AssocCommId o) k = sum_swap f a b

  pub build_shift : (f : OpId) → IsAssociative (axioms d f) → (a b c : FlatTerm) → Settled d a → Settled d b → Settled d c →
      build d f (build d f (a ∷ b ∷ []) ∷ c ∷ []) ≡ build d f (a ∷ build d f (b ∷ c ∷ []) ∷ [])
  build_shift f assoc a b c ha hb hc =
      build_sum f assoc (build d f (a ∷ b ∷ [])) (c ∷ [])
      ∙ sum_same_counts d f (all_parts d f (build d f (a ∷ b ∷ []) ∷ c ∷ [])) (all_parts d f (a ∷ build d f (b ∷ c ∷ []) ∷ []))
      (λ q.
      let x = count_two f q (build d f (a ∷ b ∷ [])) c in
      let y = count_two f q a (build d f (b ∷ c ∷ [])) in
      let z = count_parts_build f assoc q a b ha hb in
      let w = count_parts_build f assoc q b c hb hc in
      omega arith)
      ∙ sym (build_sum f assoc a (build d f (b ∷ c ∷ []) ∷ []))

  -- an identity is no summand
  pub parts_identity : (f e : OpId) → identity (axioms d f) ≡ Some e → parts d f (fconstant e) ≡ []
  parts_identity f e i = rw (i, same_op_itself e) refl

  pub sum_with_identity : (f e : OpId) → identity (axioms d f) ≡ Some e → (a : FlatTerm) → Settled d a → (sum d f (all_parts d f (a ∷ fconstant e ∷ [])) ≡ a) × (sum d f (all_parts d f (fconstant e ∷ a ∷ [])) ≡ a)
  sum_with_identity f e i a h = (
    ap (λ l. sum d f (parts d f a ++ (l ++ []))) (parts_identity f e i) ∙ ap (sum d f) (append-nil (parts d f a)) ∙ sum_parts d f a h,
    ap (λ l. sum d f (l ++ (parts d f a ++ []))) (parts_identity f e i) ∙ ap (sum d f) (append-nil (parts d f a)) ∙ sum_parts d f a h,
  )

  pub build_right_identity : (f e : OpId) → identity (axioms d f) ≡ Some e → (a : FlatTerm) → Settled d a → build d f (a ∷ fconstant e ∷ []) ≡ a
  build_right_identity f e i a h = build_sum f (identity_associates (axioms d f) e i) a (fconstant e ∷ []) ∙ (sum_with_identity f e i a h).0

  pub build_left_identity : (f e : OpId) → identity (axioms d f) ≡ Some e → (a : FlatTerm) → Settled d a → build d f (fconstant e ∷ a ∷ []) ≡ a
  build_left_identity f e i a h = build_sum f (identity_associates (axioms d f) e i) (fconstant e) (a ∷ []) ∙ (sum_with_identity f e i a h).1

  -- a form has no summands under f exactly where it is the constant that is f's identity
  pub parts_none_iff : (f : OpId) (t : FlatTerm) → Settled d t → (parts d f t ≡ []) ↔ ((e : OpId) × (identity (axioms d f) ≡ Some e) × (as_constant t ≡ Some e))
  parts_none_iff f t h = (
    λ p. let n = parts_none f t h p in (n.0, n.1, ap as_constant n.2),
    λ n. ap (parts d f) (is_constant t n.0 n.2) ∙ parts_identity f n.0 n.1,
  )

  -- over two forms with summands an associative operator builds a joined sum
  pub build_joined : (f : OpId) → IsAssociative (axioms d f) → (a b : FlatTerm) → (parts d f a ≡ [] → ⊥) → (parts d f b ≡ [] → ⊥) → as_constant (build d f (a ∷ b ∷ [])) ≡ None
  build_joined f assoc a b na nb =
      ap as_constant (build_sum f assoc a (b ∷ []))
      ∙ (
      let x = some_length (parts d f a) na in
      let y = some_length (parts d f b) nb in
      let n = length-append (parts d f a) (parts d f b ++ []) in
      let m = length-append (parts d f b) [] in
      let s = length_sort (all_parts d f (a ∷ b ∷ [])) in
      let two : 2 ≤ length (sort (all_parts d f (a ∷ b ∷ []))) = omega arith in
      of_joined (sort (all_parts d f (a ∷ b ∷ []))) two)
    where
      some_length : (l : List FlatTerm) → (l ≡ [] → ⊥) → 1 ≤ length l
      some_length [] n = absurd (n refl)
      some_length (t ∷ l) n = omega arith

      of_joined : (l : List FlatTerm) → 2 ≤ length l → as_constant (joined d f l) ≡ None
      of_joined [] n = absurd (omega arith)
      of_joined (t ∷ []) n = absurd (omega arith)
      of_joined (t ∷ u ∷ us) n = refl

  -- over some forms an operator that is not associative builds no constant
  pub build_unjoined_some : (f : OpId) → (IsAssociative (axioms d f) → ⊥) → (t : FlatTerm) (ts : List FlatTerm) → as_constant (build d f (t ∷ ts)) ≡ None
  build_unjoined_some f n t ts = go (axioms d f) n
    where
      turned : (l : List FlatTerm) → (l ≡ [] → ⊥) → as_constant (fapp f false (fpack l)) ≡ None
      turned [] e = absurd (e refl)
      turned (u ∷ us) e = refl

      go : (a : Axioms) → (IsAssociative a → ⊥) → as_constant (built d a f (t ∷ ts)) ≡ None
      go Free m = refl
      go Comm m = turned (sort (t ∷ ts)) (λ e. let q = sort_is_nil (t ∷ ts) e in cc)
      go AssocComm m = absurd (m tt)
      go (AssocCommId o) m = absurd (m tt)
