-- The terms of nodes.
use Rattle.std.proofs.Common.{◌≡◌, ◌≢◌, ℕ, zero, suc, ◌+◌, ◌<◌, List, [], ◌∷◌, ◌++◌, length, map, get_or, take, drop, refl, sym, ap, ◌∙◌, subst, inl, inr, arith, All, AllPairs, Some, slice_get}
use Rattle.std.proofs.lemmas.List.{get_or_append_left, length_push, get_or_push, take-append-drop, drop_more, length-take-le, append_assoc}
use Rattle.std.proofs.lemmas.List.Elements.{All-head, All-tail}
use Rattle.std.proofs.lemmas.Option.{slice_get_within, get_or_from_slice_get}
use Rattle.std.proofs.lemmas.Bool.{cases_order}
use Rattle.fvn_terms.specs.declared.plain.Var.{Var as Variable}
use Rattle.fvn_terms.specs.declared.plain.OpId.{OpId}
use Rattle.fvn_terms.specs.Term.{Term, Terms, var, app, pack}
use Rattle.fvn_combine_nodes.specs.Table.{nothing, term_over, terms_from, terms_of, term_at, IsOver, IsOrdered}
use Rattle.fvn_combine_nodes.specs.declared.table.Node.{Node}
use Rattle.fvn_combine_nodes.specs.declared.table.Node.TheVariants.{Var, App}

pub terms_from-append : (ts : List Term) (xs ys : List Node) → terms_from ts (xs ++ ys) ≡ terms_from (terms_from ts xs) ys
terms_from-append ts [] ys = refl
terms_from-append ts (n ∷ xs) ys = terms_from-append (ts ++ term_over ts n ∷ []) xs ys

length-terms_from : (ts : List Term) (xs : List Node) → length (terms_from ts xs) ≡ length ts + length xs
length-terms_from ts [] = omega arith
length-terms_from ts (n ∷ xs) = length-terms_from (ts ++ term_over ts n ∷ []) xs ∙ (let e = length_push ts (term_over ts n) in omega (arith, e))

get_or-terms_from : (ts : List Term) (xs : List Node) (i : ℕ) → i < length ts → get_or (terms_from ts xs) i nothing ≡ get_or ts i nothing
get_or-terms_from ts [] i h = refl
get_or-terms_from ts (n ∷ xs) i h =
    get_or-terms_from (ts ++ term_over ts n ∷ []) xs i (let e = length_push ts (term_over ts n) in omega (arith, e)) ∙ get_or_append_left ts (term_over ts n ∷ []) nothing i h

-- there are as many terms as nodes
pub length-terms_of : (nodes : List Node) → length (terms_of nodes) ≡ length nodes
length-terms_of nodes = length-terms_from [] nodes ∙ omega arith

-- a node keeps its term when others come after it
pub term_at-more : (nodes rest : List Node) (i : ℕ) → i < length nodes → term_at (nodes ++ rest) i ≡ term_at nodes i
term_at-more nodes rest i h =
    ap (λ ts. get_or ts i nothing) (terms_from-append [] nodes rest) ∙ get_or-terms_from (terms_of nodes) rest i (let l = length-terms_of nodes in omega (arith, l))

terms_of-push : (nodes : List Node) (n : Node) → terms_of (nodes ++ n ∷ []) ≡ terms_of nodes ++ term_over (terms_of nodes) n ∷ []
terms_of-push nodes n = terms_from-append [] nodes (n ∷ [])

-- the term of one more node
pub term_at-new : (nodes : List Node) (n : Node) → term_at (nodes ++ n ∷ []) (length nodes) ≡ term_over (terms_of nodes) n
term_at-new nodes n =
    ap (λ ts. get_or ts (length nodes) nothing) (terms_of-push nodes n) ∙ get_or_push (terms_of nodes) (term_over (terms_of nodes) n) nothing (length nodes) (length-terms_of nodes)

-- the terms of the same nodes in a longer table
pub terms-more : (nodes rest : List Node) (ks : List ℕ) → All (λ k. k < length nodes) ks → map (term_at (nodes ++ rest)) ks ≡ map (term_at nodes) ks
terms-more nodes rest [] h = refl
terms-more nodes rest (k ∷ ks) h =
    ap (λ t. t ∷ map (term_at (nodes ++ rest)) ks) (term_at-more nodes rest k (All-head (λ k. k < length nodes) k ks h))
    ∙ ap (λ ts. term_at nodes k ∷ ts) (terms-more nodes rest ks (All-tail (λ k. k < length nodes) k ks h))

-- what stands at a place
pub record NodeAt (nodes : List Node) (i : ℕ) : Type 0 where
  pub node : Node
  pub is : slice_get nodes i ≡ Some node

pub node_at : (nodes : List Node) (i : ℕ) → i < length nodes → NodeAt nodes i
node_at [] i h = absurd (omega arith)
node_at (n ∷ nodes) zero h = record { node = n; is = refl }
node_at (n ∷ nodes) (suc i) h = let r = node_at nodes i (omega arith) in record { node = r.node; is = r.is }

-- the nodes before and after one of them
split_at : (nodes : List Node) (i : ℕ) (n : Node) → slice_get nodes i ≡ Some n → nodes ≡ take i nodes ++ n ∷ drop (i + 1) nodes
split_at nodes i n e =
    sym (take-append-drop i nodes) ∙ ap (λ ys. take i nodes ++ ys) (drop_more nodes i n (slice_get_within nodes i n e)) ∙ ap (λ x. take i nodes ++ x ∷ drop (i + 1) nodes) (get_or_from_slice_get nodes i n n e)

module _ (nodes : List Node) (i : ℕ) (n : Node) (is : slice_get nodes i ≡ Some n) where
  front : List Node
  front = take i nodes

  length-front : length front ≡ i
  unfolding front
  length-front = length-take-le i nodes (let l = slice_get_within nodes i n is in omega (arith, l))

  whole : nodes ≡ front ++ n ∷ drop (i + 1) nodes
  unfolding front
  whole = split_at nodes i n is

  at_front : (k : ℕ) → k < i → term_at nodes k ≡ term_at front k
  at_front k h = ap (λ ns. term_at ns k) whole ∙ term_at-more front (n ∷ drop (i + 1) nodes) k (let l = length-front in omega (arith, l))

  -- the term of a node is its operator over the terms before it
  term_at-front : term_at nodes i ≡ term_over (terms_of front) n
  term_at-front =
      ap (λ ns. term_at ns i) (whole ∙ sym (append_assoc front (n ∷ []) (drop (i + 1) nodes)))
      ∙ term_at-more (front ++ n ∷ []) (drop (i + 1) nodes) i (let l = length_push front n in let m = length-front in omega (arith, l, m))
      ∙ ap (term_at (front ++ n ∷ [])) (sym length-front)
      ∙ term_at-new front n

  front_terms : (ks : List ℕ) → All (λ k. k < i) ks → map (term_at front) ks ≡ map (term_at nodes) ks
  front_terms [] h = refl
  front_terms (k ∷ ks) h =
      ap (λ t. t ∷ map (term_at front) ks) (sym (at_front k (All-head (λ k. k < i) k ks h))) ∙ ap (λ ts. term_at nodes k ∷ ts) (front_terms ks (All-tail (λ k. k < i) k ks h))

-- the term of a variable
pub term_at-variable : (nodes : List Node) (i : ℕ) (x : Variable) → slice_get nodes i ≡ Some (Var x) → term_at nodes i ≡ var x
term_at-variable nodes i x is = term_at-front nodes i (Var x) is

-- the term of an operator over nodes
pub term_at-over : (nodes : List Node) → IsOrdered nodes → (i : ℕ) (f : OpId) (ks : List ℕ) → IsOver nodes i f ks → term_at nodes i ≡ app f (pack (map (term_at nodes) ks))
term_at-over nodes ordered i f ks is = term_at-front nodes i (App f ks) is ∙ ap (λ ts. app f (pack ts)) (front_terms nodes i (App f ks) is ks (ordered i f ks is))

pub pack-injective : (ts us : List Term) → pack ts ≡ pack us → ts ≡ us
pack-injective [] [] e = refl
pack-injective [] (u ∷ us) e = cc
pack-injective (t ∷ ts) [] e = cc
pack-injective (t ∷ ts) (u ∷ us) e =
    let first : t ≡ u = cc in
    let rest : pack ts ≡ pack us = cc in
    let same = pack-injective ts us rest in
    cc

-- a node with an application as its term is an operator over nodes
pub record IsApplication (nodes : List Node) (i : ℕ) (f : OpId) (ts : Terms) : Type 0 where
  pub arguments : List ℕ
  pub is : IsOver nodes i f arguments
  pub terms : pack (map (term_at nodes) arguments) ≡ ts

pub application_at : (nodes : List Node) → IsOrdered nodes → (i : ℕ) (f : OpId) (ts : Terms) → i < length nodes → term_at nodes i ≡ app f ts → IsApplication nodes i f ts
application_at nodes ordered i f ts h e = let r = node_at nodes i h in go r.node r.is
  where
    go : (n : Node) → slice_get nodes i ≡ Some n → IsApplication nodes i f ts
    go (Var x) is = absurd (let p : var x ≡ app f ts = sym (term_at-variable nodes i x is) ∙ e in cc)
    go (App g ks) is =
        let p : app g (pack (map (term_at nodes) ks)) ≡ app f ts = sym (term_at-over nodes ordered i g ks is) ∙ e in
        let same : g ≡ f = cc in
        record { arguments = ks; is = subst (λ o. IsOver nodes i o ks) same is; terms = cc }

pub variable_at : (nodes : List Node) → IsOrdered nodes → (i : ℕ) (x : Variable) → i < length nodes → term_at nodes i ≡ var x → slice_get nodes i ≡ Some (Var x)
variable_at nodes ordered i x h e = let r = node_at nodes i h in go r.node r.is
  where
    go : (n : Node) → slice_get nodes i ≡ Some n → slice_get nodes i ≡ Some (Var x)
    go (Var y) is = is ∙ (let p : var y ≡ var x = sym (term_at-variable nodes i y is) ∙ e in cc)
    go (App g ks) is = absurd (let p : app g (pack (map (term_at nodes) ks)) ≡ var x = sym (term_at-over nodes ordered i g ks is) ∙ e in cc)

-- different nodes have different terms
pub term_at-injective : (nodes : List Node) → AllPairs ◌≢◌ (terms_of nodes) → (i j : ℕ) → i < length nodes → j < length nodes → term_at nodes i ≡ term_at nodes j → i ≡ j
term_at-injective nodes distinct i j h g e =
    let l = length-terms_of nodes in
    elim (cases_order i j) [
      | inl same ↦ same
      | inr o ↦ elim o [
        | inl lt ↦ absurd (distinct i j nothing lt (omega arith) e)
        | inr gt ↦ absurd (distinct j i nothing gt (omega arith) (sym e))
      ]
    ]

-- so lists of nodes with the same terms are the same
pub terms-injective : (nodes : List Node) → AllPairs ◌≢◌ (terms_of nodes) → (ks ls : List ℕ) → All (λ k. k < length nodes) ks → All (λ k. k < length nodes) ls → map (term_at nodes) ks ≡ map (term_at nodes) ls → ks ≡ ls
terms-injective nodes distinct [] [] left right e = refl
terms-injective nodes distinct [] (l ∷ ls) left right e = cc
terms-injective nodes distinct (k ∷ ks) [] left right e = cc
terms-injective nodes distinct (k ∷ ks) (l ∷ ls) left right e =
    let P = λ (n : ℕ). n < length nodes in
    let first : term_at nodes k ≡ term_at nodes l = cc in
    let rest : map (term_at nodes) ks ≡ map (term_at nodes) ls = cc in
    let a : k ≡ l = term_at-injective nodes distinct k l (All-head P k ks left) (All-head P l ls right) first in
    let b : ks ≡ ls = terms-injective nodes distinct ks ls (All-tail P k ks left) (All-tail P l ls right) rest in
    cc

-- arguments are nodes
pub arguments_within : (nodes : List Node) → IsOrdered nodes → (i : ℕ) (f : OpId) (ks : List ℕ) → IsOver nodes i f ks → All (λ k. k < length nodes) ks
arguments_within nodes ordered i f ks is k d h = let a = ordered i f ks is k d h in let b = slice_get_within nodes i (App f ks) is in omega (arith, a, b)

-- a node is one operator over one list
pub over_unique : (nodes : List Node) (i : ℕ) (f g : OpId) (ks ls : List ℕ) → IsOver nodes i f ks → IsOver nodes i g ls → (f ≡ g) × (ks ≡ ls)
over_unique nodes i f g ks ls a b = let e : Some (App f ks) ≡ Some (App g ls) = sym a ∙ b in (cc, cc)
