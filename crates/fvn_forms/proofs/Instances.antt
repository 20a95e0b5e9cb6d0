-- Instances of flat forms, by their summands.
use Rattle.std.proofs.Common.{◌≡◌, ◌+◌, Bool, true, false, List, [], ◌∷◌, ◌++◌, map, refl, sym, ap, ◌∙◌, arith}
use Rattle.std.specs.Prelude.{◌↔◌}
use Rattle.std.specs.List.{AllByRecursion}
use Rattle.std.specs.Ordering.{is_gt}
use Rattle.std.proofs.lemmas.List.{append-nil}
use Rattle.fvn_terms.specs.declared.plain.Var.{Var}
use Rattle.fvn_terms.specs.declared.plain.OpId.{OpId}
use Rattle.fvn_terms.specs.declared.declarations.Axioms.{Axioms}
use Rattle.fvn_terms.specs.declared.declarations.Axioms.TheVariants.{Free, Comm, AssocComm, AssocCommId}
use Rattle.fvn_terms.specs.declared.declarations.Declarations.{Declarations}
use Rattle.fvn_terms.specs.Term.{Term, Terms, var, app, none, more}
use Rattle.fvn_terms.specs.Signature.{axioms}
use Rattle.fvn_terms.specs.Equality.{IsAssociative}
use Rattle.fvn_forms.specs.Flat.{FlatTerm, FlatTerms, fvar, fapp, fnone, fmore, fpack, funpack, plain, plain_all}
use Rattle.fvn_forms.specs.Order.{flat_cmp}
use Rattle.fvn_forms.specs.InOrder.{insert, sort, count, SameCounts}
use Rattle.fvn_forms.specs.Canon.{parts, all_parts, joined, sum, built, build, eval, eval_all, canon, inst}
use Rattle.fvn_forms.specs.Settled.{Settled, SettledValues}
use Rattle.fvn_forms.proofs.InOrder.{count_append, count_sort, sort_same_counts}
use Rattle.fvn_forms.proofs.Sums.{parts_sum, sum_parts, sum_same_counts, all_parts_are_pieces}
use Rattle.fvn_forms.proofs.Build.{HasIdentity, parts_none, build_sum, all_parts_nonempty}
use Rattle.fvn_forms.proofs.Eval.{eval_settled, eval_all_settled, eval_nest}
use Rattle.fvn_forms.proofs.Nests.{plain_list, insert_some}

count_map_insert : (g : FlatTerm → FlatTerm) (q t : FlatTerm) (l : List FlatTerm) → count q (map g (insert t l)) ≡ count q (g t ∷ map g l)
count_map_insert g q t [] = refl
count_map_insert g q t (u ∷ l) = go (is_gt (flat_cmp t u)) refl (count_map_insert g q t l)
  where
    go : (a : Bool) → is_gt (flat_cmp t u) ≡ a → count q (map g (insert t l)) ≡ count q (g t ∷ map g l) → count q (map g (insert t (u ∷ l))) ≡ count q (g t ∷ g u ∷ map g l)
    go true p ih = rw p (omega arith)
    go false p ih = rw p refl

pub count_map_sort : (g : FlatTerm → FlatTerm) (l : List FlatTerm) → SameCounts (map g (sort l)) (map g l)
count_map_sort g [] q = refl
count_map_sort g (t ∷ l) q = let a = count_map_insert g q t (sort l) in let b = count_map_sort g l q in omega arith

module _ (d : Declarations) where
  -- all summands of a list in order are those of the list
  count_parts_insert : (f : OpId) (g : FlatTerm → FlatTerm) (q t : FlatTerm) (l : List FlatTerm) → count q (all_parts d f (map g (insert t l))) ≡ count q (parts d f (g t)) + count q (all_parts d f (map g l))
  count_parts_insert f g q t [] = count_append q (parts d f (g t)) []
  count_parts_insert f g q t (u ∷ l) = go (is_gt (flat_cmp t u)) refl (count_parts_insert f g q t l)
    where
      go : (a : Bool) → is_gt (flat_cmp t u) ≡ a → count q (all_parts d f (map g (insert t l))) ≡ count q (parts d f (g t)) + count q (all_parts d f (map g l)) →
          count q (all_parts d f (map g (insert t (u ∷ l)))) ≡ count q (parts d f (g t)) + count q (all_parts d f (map g (u ∷ l)))
      go true p ih =
          let a = count_append q (parts d f (g u)) (all_parts d f (map g (insert t l))) in
          let b = count_append q (parts d f (g u)) (all_parts d f (map g l)) in
          rw p (omega arith)
      go false p ih = rw p (count_append q (parts d f (g t)) (all_parts d f (map g (u ∷ l))))

  count_parts_sort : (f : OpId) (g : FlatTerm → FlatTerm) (l : List FlatTerm) → SameCounts (all_parts d f (map g (sort l))) (all_parts d f (map g l))
  count_parts_sort f g [] q = refl
  count_parts_sort f g (t ∷ l) q =
      let a = count_parts_insert f g q t (sort l) in
      let b = count_append q (parts d f (g t)) (all_parts d f (map g l)) in
      let c = count_parts_sort f g l q in
      omega arith

  module _ (s : Var → FlatTerm) (settled : SettledValues d s) where
    pub inst_settled : (t : FlatTerm) → Settled d (inst d s t)
    inst_settled t = eval_settled d s settled (plain t)

    insts_settled : (l : List FlatTerm) → AllByRecursion (Settled d) (map (inst d s) l)
    insts_settled [] = tt
    insts_settled (t ∷ l) = (inst_settled t, insts_settled l)

    eval_plain_list : (l : List FlatTerm) → eval_all d s (plain_list l) ≡ map (inst d s) l
    eval_plain_list [] = refl
    eval_plain_list (t ∷ l) = ap (λ m. inst d s t ∷ m) (eval_plain_list l)

    eval_plain_all : (ts : FlatTerms) → eval_all d s (plain_all ts) ≡ map (inst d s) (funpack ts)
    eval_plain_all fnone = refl
    eval_plain_all (fmore t ts) = ap (λ m. inst d s t ∷ m) (eval_plain_all ts)

    inst_joined : (f : OpId) → IsAssociative (axioms d f) → (l : List FlatTerm) → (l ≡ [] → HasIdentity d f) → inst d s (joined d f l) ≡ sum d f (all_parts d f (map (inst d s) l))
    inst_joined f assoc [] i = let e = (i refl).1 in rw e refl
    inst_joined f assoc (t ∷ []) i = sym (ap (sum d f) (append-nil (parts d f (inst d s t))) ∙ sum_parts d f (inst d s t) (inst_settled t))
    inst_joined f assoc (t ∷ u ∷ us) i = eval_nest d s settled f assoc (plain t) (plain_list (u ∷ us)) ∙ ap (λ m. sum d f (all_parts d f (inst d s t ∷ m))) (eval_plain_list (u ∷ us))

    -- an instance of a sum is the sum of the instances' summands
    pub inst_sum : (f : OpId) → IsAssociative (axioms d f) → (l : List FlatTerm) → (l ≡ [] → HasIdentity d f) → inst d s (sum d f l) ≡ sum d f (all_parts d f (map (inst d s) l))
    inst_sum f assoc l i =
        inst_joined f assoc (sort l) (λ e. i (nothing l e))
        ∙ sum_same_counts d f (all_parts d f (map (inst d s) (sort l))) (all_parts d f (map (inst d s) l)) (count_parts_sort f (inst d s) l)
      where
        nothing : (m : List FlatTerm) → sort m ≡ [] → m ≡ []
        nothing [] e = refl
        nothing (t ∷ m) e = absurd (insert_some t (sort m) e)

    pub parts_inst_sum : (f : OpId) → IsAssociative (axioms d f) → (l : List FlatTerm) → (l ≡ [] → HasIdentity d f) → parts d f (inst d s (sum d f l)) ≡ sort (all_parts d f (map (inst d s) l))
    parts_inst_sum f assoc l i = ap (parts d f) (inst_sum f assoc l i) ∙ parts_sum d f (all_parts d f (map (inst d s) l)) (all_parts_are_pieces d f (map (inst d s) l) (insts_settled l))

    -- the summands of an instance are those of the instances of the summands
    pub parts_inst : (f : OpId) → IsAssociative (axioms d f) → (t : FlatTerm) → Settled d t → SameCounts (parts d f (inst d s t)) (all_parts d f (map (inst d s) (parts d f t)))
    parts_inst f assoc t h q =
        ap (λ u. count q (parts d f (inst d s u))) (sym (sum_parts d f t h))
        ∙ ap (count q) (parts_inst_sum f assoc (parts d f t) (λ e. let n = parts_none d f t h e in (n.0, n.1)))
        ∙ count_sort q (all_parts d f (map (inst d s) (parts d f t)))

    map_append : (l m : List FlatTerm) → map (inst d s) (l ++ m) ≡ map (inst d s) l ++ map (inst d s) m
    map_append [] m = refl
    map_append (t ∷ l) m = ap (λ n. inst d s t ∷ n) (map_append l m)

    all_parts_append : (f : OpId) (l m : List FlatTerm) (q : FlatTerm) → count q (all_parts d f (l ++ m)) ≡ count q (all_parts d f l) + count q (all_parts d f m)
    all_parts_append f [] m q = omega arith
    all_parts_append f (t ∷ l) m q =
        let a = count_append q (parts d f t) (all_parts d f (l ++ m)) in
        let b = count_append q (parts d f t) (all_parts d f l) in
        let c = all_parts_append f l m q in
        omega arith

    all_parts_inst : (f : OpId) → IsAssociative (axioms d f) → (l : List FlatTerm) → AllByRecursion (Settled d) l → SameCounts (all_parts d f (map (inst d s) (all_parts d f l))) (all_parts d f (map (inst d s) l))
    all_parts_inst f assoc [] h q = refl
    all_parts_inst f assoc (t ∷ l) h q =
        let a = ap (λ m. count q (all_parts d f m)) (map_append (parts d f t) (all_parts d f l)) in
        let b = all_parts_append f (map (inst d s) (parts d f t)) (map (inst d s) (all_parts d f l)) q in
        let c = parts_inst f assoc t h.0 q in
        let e = all_parts_inst f assoc l h.1 q in
        let g = count_append q (parts d f (inst d s t)) (all_parts d f (map (inst d s) l)) in
        omega arith

    build_commutative : (f : OpId) → axioms d f ≡ Comm → (l : List FlatTerm) → build d f l ≡ fapp f false (fpack (sort l))
    build_commutative f e [] = refl
    build_commutative f e (t ∷ l) = rw e refl

    -- an instance of what an operator builds is what it builds over the instances
    pub inst_build : (f : OpId) (l : List FlatTerm) → AllByRecursion (Settled d) l → inst d s (build d f l) ≡ build d f (map (inst d s) l)
    inst_build f [] h = refl
    inst_build f (t ∷ ts) h = go (axioms d f) refl
      where
        summed : IsAssociative (axioms d f) → inst d s (sum d f (all_parts d f (t ∷ ts))) ≡ build d f (map (inst d s) (t ∷ ts))
        summed assoc =
            inst_sum f assoc (all_parts d f (t ∷ ts)) (all_parts_nonempty d f t ts h.0)
            ∙ sum_same_counts d f (all_parts d f (map (inst d s) (all_parts d f (t ∷ ts)))) (all_parts d f (map (inst d s) (t ∷ ts))) (all_parts_inst f assoc (t ∷ ts) h)
            ∙ sym (build_sum d f assoc (inst d s t) (map (inst d s) ts))

        go : (a : Axioms) → axioms d f ≡ a → inst d s (built d a f (t ∷ ts)) ≡ build d f (map (inst d s) (t ∷ ts))
        go Free e = ap (build d f) (eval_plain_list (t ∷ ts))
        go Comm e =
            ap (build d f) (eval_plain_list (sort (t ∷ ts)))
            ∙ build_commutative f e (map (inst d s) (sort (t ∷ ts)))
            ∙ ap (λ l. fapp f false (fpack l)) (sort_same_counts (map (inst d s) (sort (t ∷ ts))) (map (inst d s) (t ∷ ts)) (count_map_sort (inst d s) (t ∷ ts)))
            ∙ sym (build_commutative f e (map (inst d s) (t ∷ ts)))
        go AssocComm e = summed (rw e tt)
        go (AssocCommId o) e = summed (rw e tt)

    -- an instance is a settled form exactly where their summands are the same, each as often
    pub inst_parts_iff : (f : OpId) → IsAssociative (axioms d f) → (p t : FlatTerm) → Settled d p → Settled d t → (inst d s p ≡ t) ↔ SameCounts (all_parts d f (map (inst d s) (parts d f p))) (parts d f t)
    inst_parts_iff f assoc p t hp ht = (
      λ e q. sym (parts_inst f assoc p hp q) ∙ ap (λ u. count q (parts d f u)) e,
      λ same.
          ap (inst d s) (sym (sum_parts d f p hp))
          ∙ inst_sum f assoc (parts d f p) (λ e. let n = parts_none d f p hp e in (n.0, n.1))
          ∙ sum_same_counts d f (all_parts d f (map (inst d s) (parts d f p))) (parts d f t) same
          ∙ sum_parts d f t ht,
    )

    -- instances of what is no sum
    pub inst_free : (f : OpId) → axioms d f ≡ Free → (ts : FlatTerms) → inst d s (fapp f false ts) ≡ fapp f false (fpack (map (inst d s) (funpack ts)))
    inst_free f e fnone = refl
    inst_free f e (fmore t ts) = ap (build d f) (eval_plain_all (fmore t ts)) ∙ rw e refl

    pub inst_commutative : (f : OpId) → axioms d f ≡ Comm → (ts : FlatTerms) → inst d s (fapp f false ts) ≡ fapp f false (fpack (sort (map (inst d s) (funpack ts))))
    inst_commutative f e ts = ap (build d f) (eval_plain_all ts) ∙ build_commutative f e (map (inst d s) (funpack ts))

  -- an instance of a value is a value
  module _ (s c : Var → FlatTerm) (settled : SettledValues d s) (after : SettledValues d c) where
    mutual
      pub inst_eval : (t : Term) → inst d c (eval d s t) ≡ eval d (λ x. inst d c (s x)) t
      inst_eval (var x) = refl
      inst_eval (app f ts) = inst_build c after f (eval_all d s ts) (eval_all_settled d s settled ts) ∙ ap (build d f) (insts_eval ts)

      insts_eval : (ts : Terms) → map (inst d c) (eval_all d s ts) ≡ eval_all d (λ x. inst d c (s x)) ts
      insts_eval none = refl
      insts_eval (more t ts) = ap (λ u. u ∷ map (inst d c) (eval_all d s ts)) (inst_eval t) ∙ ap (λ us. eval d (λ x. inst d c (s x)) t ∷ us) (insts_eval ts)

    -- one after the other
    pub inst-inst : (t : FlatTerm) → inst d c (inst d s t) ≡ inst d (λ x. inst d c (s x)) t
    inst-inst t = inst_eval (plain t)

  -- the value of a term is an instance of its flat form
  pub eval_canon : (s : Var → FlatTerm) → SettledValues d s → (t : Term) → eval d s t ≡ inst d s (canon d t)
  eval_canon s settled t = sym (inst_eval fvar s (λ x. tt) settled t)
