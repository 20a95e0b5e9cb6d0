-- What an operator builds of the forms that are gathered is what it builds of its arguments' forms.
use Rattle.std.proofs.Common.{◌≡◌, ℕ, zero, suc, ◌+◌, ◌<◌, ◌≤◌, Bool, true, false, nat_eq, List, [], ◌∷◌, ◌++◌, length, take, get_or, refl, sym, ap, ◌∙◌, subst, arith}
use Rattle.std.specs.Prelude.{◌&&◌, if◌then◌else◌}
use Rattle.std.proofs.lemmas.List.{append-nil, append_assoc, take_more}
use Rattle.fvn_terms.specs.declared.plain.OpId.{OpId}
use Rattle.fvn_terms.specs.declared.plain.Plain.{Plain}
use Rattle.fvn_terms.specs.declared.declarations.Declarations.{Declarations}
use Rattle.fvn_terms.specs.Term.{Term, Terms, var, app, none, more, nodes, nodes_all}
use Rattle.fvn_terms.specs.Plain.{term, terms}
use Rattle.fvn_terms.specs.Signature.{axioms}
use Rattle.fvn_terms.specs.Equality.{is_sum}
use Rattle.fvn_terms.proofs.AxiomWords.{sums_associate}
use Rattle.fvn_forms.specs.Flat.{FlatTerm, fvar, fconstant}
use Rattle.fvn_forms.specs.InOrder.{count}
use Rattle.fvn_forms.specs.Canon.{same_op, parts, all_parts, sum, build, eval_all, canon}
use Rattle.fvn_forms.proofs.InOrder.{count_append, count_sort}
use Rattle.fvn_forms.proofs.Sums.{same_op_itself, same_op_is, parts_sum, sum_same_counts, all_parts_are_pieces, all_parts-append}
use Rattle.fvn_forms.proofs.Build.{build_sum}
use Rattle.fvn_forms.proofs.Eval.{fvar_settled, eval_all_settled}
use Rattle.fvn_flat.specs.inner.Gathered.{gathered_of, gathered, IsNested}

-- the nodes of an argument
pub nodes_at : (items : List Plain) (i : ℕ) (t : Plain) → i < length items → t ≡ get_or items i t → nodes (term t) ≤ nodes_all (terms items)
nodes_at [] i t within is = absurd (omega arith)
nodes_at (u ∷ items) zero t within is = let e = ap (λ v. nodes (term v)) is in omega arith
nodes_at (u ∷ items) (suc i) t within is = let e = nodes_at items i t (omega arith) is in omega arith

module _ (d : Declarations) (f : OpId) where
  -- f, which makes sums, heads a term
  abbrev IsSum : OpId → Bool
  IsSum g = same_op f g && is_sum (axioms d f)

  heads_sum : (g : OpId) → IsSum g ≡ true → (f ≡ g) × (is_sum (axioms d f) ≡ true)
  heads_sum g e = go (same_op f g) (is_sum (axioms d f)) refl refl e
    where
      go : (a b : Bool) → same_op f g ≡ a → is_sum (axioms d f) ≡ b → (a && b) ≡ true → (f ≡ g) × (is_sum (axioms d f) ≡ true)
      go true true p q r = (same_op_is f g p, q)
      go true false p q r = cc
      go false true p q r = cc
      go false false p q r = cc

  -- where f makes no sums, the forms gathered are those of the arguments
  module _ (free : is_sum (axioms d f) ≡ false) where
    alone : (t : Term) → gathered_of d f t ≡ canon d t ∷ []
    alone (var x) = refl
    alone (app g none) = refl
    alone (app g (more t ts)) = go (same_op f g)
      where
        go : (a : Bool) → (if a && is_sum (axioms d f) then gathered_of d f t ++ gathered d f ts else canon d (app g (more t ts)) ∷ []) ≡ canon d (app g (more t ts)) ∷ []
        go true = rw free refl
        go false = refl

    all_alone : (ts : Terms) → gathered d f ts ≡ eval_all d fvar ts
    all_alone none = refl
    all_alone (more t ts) = ap (λ l. l ++ gathered d f ts) (alone t) ∙ ap (λ l. canon d t ∷ l) (all_alone ts)

  -- where it does, they have the same summands
  module _ (joined : is_sum (axioms d f) ≡ true) where
    summed : (t : Term) (ts : Terms) (q : _) → count q (all_parts d f (eval_all d fvar (more t ts))) ≡ count q (parts d f (canon d (app f (more t ts))))
    summed t ts q =
        let l = eval_all d fvar (more t ts) in
        sym (count_sort q (all_parts d f l))
        ∙ ap (count q) (sym (parts_sum d f (all_parts d f l) (all_parts_are_pieces d f l (eval_all_settled d fvar (fvar_settled d) (more t ts)))))
        ∙ ap (λ u. count q (parts d f u)) (sym (build_sum d f (sums_associate (axioms d f) joined) (canon d t) (eval_all d fvar ts)))

    one_counts : (u : FlatTerm) (q : FlatTerm) → count q (all_parts d f (u ∷ [])) ≡ count q (parts d f u)
    one_counts u q = ap (count q) (append-nil (parts d f u))

    counts_two : (t : Term) (ts : Terms) (q : FlatTerm) → count q (all_parts d f (gathered_of d f t)) ≡ count q (parts d f (canon d t)) → count q (all_parts d f (gathered d f ts)) ≡ count q (all_parts d f (eval_all d fvar ts)) →
        count q (all_parts d f (gathered_of d f t ++ gathered d f ts)) ≡ count q (all_parts d f (eval_all d fvar (more t ts)))
    counts_two t ts q a b =
        let e = ap (count q) (all_parts-append d f (gathered_of d f t) (gathered d f ts)) in
        let g = count_append q (all_parts d f (gathered_of d f t)) (all_parts d f (gathered d f ts)) in
        let h = count_append q (parts d f (canon d t)) (all_parts d f (eval_all d fvar ts)) in
        omega arith

    mutual
      counts_of : (t : Term) (q : FlatTerm) → count q (all_parts d f (gathered_of d f t)) ≡ count q (parts d f (canon d t))
      counts_of (var x) q = one_counts (fvar x) q
      counts_of (app g none) q = one_counts (fconstant g) q
      counts_of (app g (more t ts)) q = go (IsSum g) refl (counts_two t ts q (counts_of t q) (counts ts q))
        where
          go : (b : Bool) → IsSum g ≡ b → count q (all_parts d f (gathered_of d f t ++ gathered d f ts)) ≡ count q (all_parts d f (eval_all d fvar (more t ts))) →
              count q (all_parts d f (if b then gathered_of d f t ++ gathered d f ts else canon d (app g (more t ts)) ∷ [])) ≡ count q (parts d f (canon d (app g (more t ts))))
          go true e ih = ih ∙ summed t ts q ∙ ap (λ o. count q (parts d f (canon d (app o (more t ts))))) (heads_sum g e).0
          go false e ih = one_counts (canon d (app g (more t ts))) q

      counts : (ts : Terms) (q : FlatTerm) → count q (all_parts d f (gathered d f ts)) ≡ count q (all_parts d f (eval_all d fvar ts))
      counts none q = refl
      counts (more t ts) q = counts_two t ts q (counts_of t q) (counts ts q)

    mutual
      some_of : (t : Term) → (u : FlatTerm) × (us : List FlatTerm) × (gathered_of d f t ≡ u ∷ us)
      some_of (var x) = (fvar x, [], refl)
      some_of (app g none) = (fconstant g, [], refl)
      some_of (app g (more t ts)) = go (IsSum g) (some_of t)
        where
          go : (b : Bool) → (u : FlatTerm) × (us : List FlatTerm) × (gathered_of d f t ≡ u ∷ us) →
              (u : FlatTerm) × (us : List FlatTerm) × ((if b then gathered_of d f t ++ gathered d f ts else canon d (app g (more t ts)) ∷ []) ≡ u ∷ us)
          go true s = (s.0, s.1 ++ gathered d f ts, ap (λ l. l ++ gathered d f ts) s.2)
          go false s = (canon d (app g (more t ts)), [], refl)

    build_joined : (t : Term) (ts : Terms) → build d f (gathered d f (more t ts)) ≡ build d f (eval_all d fvar (more t ts))
    build_joined t ts =
        let s = some_of t in
        let assoc = sums_associate (axioms d f) joined in
        let e : gathered d f (more t ts) ≡ s.0 ∷ (s.1 ++ gathered d f ts) = ap (λ l. l ++ gathered d f ts) s.2 in
        ap (build d f) e
        ∙ build_sum d f assoc s.0 (s.1 ++ gathered d f ts)
        ∙ ap (λ l. sum d f (all_parts d f l)) (sym e)
        ∙ sum_same_counts d f (all_parts d f (gathered d f (more t ts))) (all_parts d f (eval_all d fvar (more t ts))) (counts (more t ts))
        ∙ sym (build_sum d f assoc (canon d t) (eval_all d fvar ts))

  -- of any arguments
  pub build_gathered : (ts : Terms) → build d f (gathered d f ts) ≡ build d f (eval_all d fvar ts)
  build_gathered none = refl
  build_gathered (more t ts) = go (is_sum (axioms d f)) refl
    where
      go : (b : Bool) → is_sum (axioms d f) ≡ b → build d f (gathered d f (more t ts)) ≡ build d f (eval_all d fvar (more t ts))
      go true e = build_joined e t ts
      go false e = ap (build d f) (all_alone e (more t ts))

  -- a nested sum of f
  pub nested_here : (t : Term) (g : OpId) (items : List Plain) (us : Terms) → t ≡ app g us → terms items ≡ us → nat_eq (length items) 0 ≡ false → f ≡ g → is_sum (axioms d f) ≡ true → IsNested d f t us
  nested_here t g [] us is view some e joined = cc
  nested_here t g (u ∷ items) us is view some e joined =
      subst (λ v. IsNested d f v us) (sym (is ∙ ap (λ o. app o us) (sym e)))
      (subst (λ vs. IsNested d f (app f vs) vs) view record { heads = refl; gathers = rw (same_op_itself f, joined) refl })

  -- a nested sum has fewer nodes among its arguments
  pub nested_nodes : (t : Term) (us : Terms) → IsNested d f t us → nodes_all us < nodes t
  nested_nodes t us h = let e = ap nodes h.heads in omega arith

  gathered-push : (l : List Plain) (u : Plain) → gathered d f (terms (l ++ u ∷ [])) ≡ gathered d f (terms l) ++ gathered_of d f (term u)
  gathered-push [] u = append-nil (gathered_of d f (term u))
  gathered-push (t ∷ l) u = ap (λ m. gathered_of d f (term t) ++ m) (gathered-push l u) ∙ sym (append_assoc (gathered_of d f (term t)) (gathered d f (terms l)) (gathered_of d f (term u)))

  -- with one more argument
  pub gathered-take_more : (items : List Plain) (i : ℕ) (u : Plain) → i < length items → u ≡ get_or items i u → gathered d f (terms (take (i + 1) items)) ≡ gathered d f (terms (take i items)) ++ gathered_of d f (term u)
  gathered-take_more items i u within is = ap (λ l. gathered d f (terms l)) (take_more items i u within ∙ ap (λ v. take i items ++ v ∷ []) (sym is)) ∙ gathered-push (take i items) u

  pub gathered-step : (made now next : List FlatTerm) (items : List Plain) (i : ℕ) (u : Plain) → now ≡ made ++ gathered d f (terms (take i items)) → next ≡ now ++ gathered_of d f (term u) → i < length items → u ≡ get_or items i u →
      next ≡ made ++ gathered d f (terms (take (i + 1) items))
  gathered-step made now next items i u so_far one within is =
      one ∙ ap (λ l. l ++ gathered_of d f (term u)) so_far
      ∙ append_assoc made (gathered d f (terms (take i items))) (gathered_of d f (term u))
      ∙ ap (λ l. made ++ l) (sym (gathered-take_more items i u within is))
