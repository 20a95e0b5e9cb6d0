-- Nested sums under the axioms.
use Rattle.std.proofs.Common.{◌≡◌, Bool, true, false, List, [], ◌∷◌, ◌++◌, refl, sym, ap, ◌∙◌, subst, inl}
use Rattle.std.specs.Ordering.{is_gt}
use Rattle.fvn_terms.specs.declared.plain.OpId.{OpId}
use Rattle.fvn_terms.specs.declared.declarations.Axioms.{Axioms}
use Rattle.fvn_terms.specs.declared.declarations.Axioms.TheVariants.{Free, Comm, AssocComm, AssocCommId}
use Rattle.fvn_terms.specs.declared.declarations.Declarations.{Declarations}
use Rattle.fvn_terms.specs.Term.{Term, Terms, none, more}
use Rattle.fvn_terms.specs.Signature.{axioms}
use Rattle.fvn_terms.specs.Places.{here, stop, step}
use Rattle.fvn_terms.specs.Equality.{two, IsCommutative, IsAssociative, BEqual, swap, shift}
use Rattle.fvn_terms.proofs.Steps.{Leads-append, each_none, each_more, Leads_inside}
use Rattle.fvn_terms.proofs.Equal.{BEqual-sym}
use Rattle.fvn_forms.specs.Flat.{FlatTerm, fpack, nest, nest_all, plain, plain_all}
use Rattle.fvn_forms.specs.Order.{flat_cmp}
use Rattle.fvn_forms.specs.InOrder.{insert, sort}
use Rattle.fvn_forms.specs.Canon.{joined}

-- a list of flat forms as arguments of a plain term
abbrev pub plain_list : List FlatTerm → Terms
plain_list l = plain_all (fpack l)

-- the nested sum of a list
abbrev pub nested : OpId → List FlatTerm → Term
nested f l = nest_all f (plain_list l)

abbrev terms_append : Terms → Terms → Terms
terms_append none us = us
terms_append (more t ts) us = more t (terms_append ts us)

plain_list-append : (l m : List FlatTerm) → plain_list (l ++ m) ≡ terms_append (plain_list l) (plain_list m)
plain_list-append [] m = refl
plain_list-append (t ∷ l) m = ap (more (plain t)) (plain_list-append l m)

pub insert_some : (x : FlatTerm) (l : List FlatTerm) → insert x l ≡ [] → ⊥
insert_some x [] e = cc
insert_some x (y ∷ l) e = go (is_gt (flat_cmp x y)) refl
  where
    go : (a : Bool) → is_gt (flat_cmp x y) ≡ a → ⊥
    go true p = let q : y ∷ insert x l ≡ [] = rw p at e in cc
    go false p = let q : x ∷ y ∷ l ≡ [] = rw p at e in cc

pub commutes : (a : Axioms) → IsAssociative a → IsCommutative a
commutes Free h = absurd h
commutes Comm h = absurd h
commutes AssocComm h = tt
commutes (AssocCommId e) h = tt

module _ (d : Declarations) (f : OpId) (assoc : IsAssociative (axioms d f)) where
  both : {t u v w : Term} → BEqual d t u → BEqual d v w → BEqual d (two f t v) (two f u w)
  both p q = Leads_inside f (each_more p (each_more q each_none))

  swap_two : (t u : Term) → BEqual d (two f t u) (two f u t)
  swap_two t u = step (here (inl (swap (commutes (axioms d f) assoc)))) stop

  shift_right : (t u v : Term) → BEqual d (two f (two f t u) v) (two f t (two f u v))
  shift_right t u v = step (here (inl (shift assoc))) stop

  shift_left : (t u v : Term) → BEqual d (two f t (two f u v)) (two f (two f t u) v)
  shift_left t u v = BEqual-sym d (shift_right t u v)

  exchange : (t u v : Term) → BEqual d (two f t (two f u v)) (two f u (two f t v))
  exchange t u v = Leads-append (shift_left t u v) (Leads-append (both (swap_two t u) stop) (shift_right u t v))

  nest_append : (t : Term) (ts : Terms) (u : Term) (us : Terms) → BEqual d (two f (nest f t ts) (nest f u us)) (nest f t (terms_append ts (more u us)))
  nest_append t none u us = stop
  nest_append t (more v vs) u us = Leads-append (shift_right t (nest f v vs) (nest f u us)) (both stop (nest_append v vs u us))

  -- the sum of two nested sums
  pub nested_append : (x : FlatTerm) (xs : List FlatTerm) (y : FlatTerm) (ys : List FlatTerm) → BEqual d (two f (nested f (x ∷ xs)) (nested f (y ∷ ys))) (nested f ((x ∷ xs) ++ (y ∷ ys)))
  nested_append x xs y ys = subst (λ us. BEqual d (two f (nested f (x ∷ xs)) (nested f (y ∷ ys))) (nest f (plain x) us)) (sym (plain_list-append xs (y ∷ ys))) (nest_append (plain x) (plain_list xs) (plain y) (plain_list ys))

  nested_exchange : (x y : FlatTerm) (l : List FlatTerm) → BEqual d (nested f (x ∷ y ∷ l)) (nested f (y ∷ x ∷ l))
  nested_exchange x y [] = swap_two (plain x) (plain y)
  nested_exchange x y (z ∷ l) = exchange (plain x) (plain y) (nested f (z ∷ l))

  nested_insert : (x : FlatTerm) (l : List FlatTerm) → BEqual d (nested f (x ∷ l)) (nested f (insert x l))
  nested_insert x [] = stop
  nested_insert x (y ∷ l) = go (is_gt (flat_cmp x y)) refl (insert x l) refl (nested_insert x l)
    where
      under : (m : List FlatTerm) → BEqual d (nested f (x ∷ l)) (nested f m) → (m ≡ [] → ⊥) → BEqual d (nested f (y ∷ x ∷ l)) (nested f (y ∷ m))
      under [] p n = absurd (n refl)
      under (z ∷ m) p n = both stop p

      go : (a : Bool) → is_gt (flat_cmp x y) ≡ a → (m : List FlatTerm) → insert x l ≡ m → BEqual d (nested f (x ∷ l)) (nested f m) → BEqual d (nested f (x ∷ y ∷ l)) (nested f (insert x (y ∷ l)))
      go true e m i p = rw (e, i) (Leads-append (nested_exchange x y l) (under m p (λ n. insert_some x l (i ∙ n))))
      go false e m i p = rw e stop

  pub nested_sort : (l : List FlatTerm) → BEqual d (nested f l) (nested f (sort l))
  nested_sort [] = stop
  nested_sort (x ∷ []) = stop
  nested_sort (x ∷ y ∷ l) = Leads-append (under (sort (y ∷ l)) refl (nested_sort (y ∷ l))) (nested_insert x (sort (y ∷ l)))
    where
      under : (m : List FlatTerm) → sort (y ∷ l) ≡ m → BEqual d (nested f (y ∷ l)) (nested f m) → BEqual d (nested f (x ∷ y ∷ l)) (nested f (x ∷ m))
      under [] e p = absurd (insert_some y (sort l) e)
      under (z ∷ m) e p = both stop p

  -- the plain term of a sum is nested
  pub plain_joined : (x : FlatTerm) (xs : List FlatTerm) → plain (joined d f (x ∷ xs)) ≡ nested f (x ∷ xs)
  plain_joined x [] = refl
  plain_joined x (y ∷ xs) = refl
