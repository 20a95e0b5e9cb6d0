-- Summands and sums.
use Rattle.std.proofs.Common.{◌≡◌, ◌≤◌, Bool, true, false, List, [], ◌∷◌, ◌++◌, length, Option, Some, None, refl, sym, ap, ◌∙◌, subst, arith}
use Rattle.std.specs.Prelude.{if◌then◌else◌}
use Rattle.std.specs.List.{AllByRecursion}
use Rattle.std.proofs.lemmas.Bool.{eqb-true, eq-eqb}
use Rattle.std.proofs.lemmas.List.{append_assoc}
use Rattle.fvn_terms.specs.declared.plain.OpId.{OpId}
use Rattle.fvn_terms.specs.declared.declarations.Axioms.{Axioms}
use Rattle.fvn_terms.specs.declared.declarations.Axioms.TheVariants.{Free, Comm, AssocComm, AssocCommId}
use Rattle.fvn_terms.specs.declared.declarations.Declarations.{Declarations}
use Rattle.fvn_terms.specs.Signature.{axioms}
use Rattle.fvn_forms.specs.Flat.{FlatTerm, FlatTerms, fvar, fapp, fnone, fmore, fpack, funpack, fconstant}
use Rattle.fvn_forms.specs.InOrder.{InOrder, sort, SameCounts}
use Rattle.fvn_forms.specs.Canon.{same_op, is_identity, parts, all_parts, empty_sum, joined, sum}
use Rattle.fvn_terms.specs.Equality.{identity}
use Rattle.fvn_forms.specs.Settled.{IsPiece, FitsUnjoined, Settled, SettledAll}
use Rattle.fvn_forms.proofs.InOrder.{sort-sort, sort_in_order, sort_same_counts, each_append, each_sort}

pub funpack-fpack : (l : List FlatTerm) → funpack (fpack l) ≡ l
funpack-fpack [] = refl
funpack-fpack (t ∷ l) = ap (λ m. t ∷ m) (funpack-fpack l)

pub fpack-funpack : (ts : FlatTerms) → fpack (funpack ts) ≡ ts
fpack-funpack fnone = refl
fpack-funpack (fmore t ts) = ap (fmore t) (fpack-funpack ts)

pub same_op_itself : (f : OpId) → same_op f f ≡ true
same_op_itself f = eq-eqb f.0 f.0 refl

pub same_op_is : (f g : OpId) → same_op f g ≡ true → f ≡ g
same_op_is f g e = let n = eqb-true f.0 g.0 e in λ i. record { 0 = n i }

module _ (d : Declarations) where
  pub SettledAll-fpack : (l : List FlatTerm) → AllByRecursion (Settled d) l → SettledAll d (fpack l)
  SettledAll-fpack [] h = tt
  SettledAll-fpack (t ∷ l) h = (h.0, SettledAll-fpack l h.1)

  pub SettledAll-funpack : (ts : FlatTerms) → SettledAll d ts → AllByRecursion (Settled d) (funpack ts)
  SettledAll-funpack fnone h = tt
  SettledAll-funpack (fmore t ts) h = (h.0, SettledAll-funpack ts h.1)

  module _ (f : OpId) where
    -- a sum of f has its arguments as summands
    parts_joined : (ts : FlatTerms) → parts d f (fapp f true ts) ≡ funpack ts
    parts_joined ts = rw (same_op_itself f) refl

    parts_empty : (i : Option OpId) → identity (axioms d f) ≡ i → parts d f (empty_sum d f i) ≡ []
    parts_empty None e = parts_joined fnone
    parts_empty (Some e) p = rw (p, same_op_itself e) refl

    parts_of_joined : (l : List FlatTerm) → AllByRecursion (IsPiece d f) l → parts d f (joined d f l) ≡ l
    parts_of_joined [] h = parts_empty (identity (axioms d f)) refl
    parts_of_joined (t ∷ []) h = h.0
    parts_of_joined (t ∷ u ∷ us) h = parts_joined (fpack (t ∷ u ∷ us)) ∙ funpack-fpack (t ∷ u ∷ us)

    -- the summands of a sum
    pub parts_sum : (l : List FlatTerm) → AllByRecursion (IsPiece d f) l → parts d f (sum d f l) ≡ sort l
    parts_sum l h = parts_of_joined (sort l) (each_sort (IsPiece d f) l h)

    pub sum_same_counts : (l m : List FlatTerm) → SameCounts l m → sum d f l ≡ sum d f m
    sum_same_counts l m h = ap (joined d f) (sort_same_counts l m h)

    pub sum-sort : (l : List FlatTerm) → sum d f (sort l) ≡ sum d f l
    sum-sort l = ap (joined d f) (sort-sort l)

    joined_two : (l : List FlatTerm) → 2 ≤ length l → joined d f l ≡ fapp f true (fpack l)
    joined_two [] h = absurd (omega arith)
    joined_two (t ∷ []) h = absurd (omega arith)
    joined_two (t ∷ u ∷ us) h = refl

    pub sum_in_order : (l : List FlatTerm) → InOrder l → 2 ≤ length l → sum d f l ≡ fapp f true (fpack l)
    sum_in_order l h k = ap (joined d f) (sort_in_order l h) ∙ joined_two l k

    -- the sum of the summands of a form is the form
    pub sum_parts : (t : FlatTerm) → Settled d t → sum d f (parts d f t) ≡ t
    sum_parts (fvar x) h = refl
    sum_parts (fapp g true ts) h = go (same_op f g) refl
      where
        go : (b : Bool) → same_op f g ≡ b → sum d f (parts d f (fapp g true ts)) ≡ fapp g true ts
        go false e = rw e refl
        go true e = rw e (sum_in_order (funpack ts) h.0.in_order h.0.two_or_more ∙ (λ i. fapp (same_op_is f g e i) true (fpack-funpack ts i)))
    sum_parts (fapp g false fnone) h = go (identity (axioms d f)) refl
      where
        at : (e : OpId) (b : Bool) → same_op e g ≡ b → identity (axioms d f) ≡ Some e → sum d f (if b then [] else fconstant g ∷ []) ≡ fconstant g
        at e true p q = rw q (ap fconstant (same_op_is e g p))
        at e false p q = refl

        go : (i : Option OpId) → identity (axioms d f) ≡ i → sum d f (if is_identity i g then [] else fconstant g ∷ []) ≡ fconstant g
        go None q = refl
        go (Some e) q = at e (same_op e g) refl q
    sum_parts (fapp g false (fmore t ts)) h = refl

    -- each summand is one summand
    pub parts_are_pieces : (t : FlatTerm) → Settled d t → AllByRecursion (IsPiece d f) (parts d f t)
    parts_are_pieces (fvar x) h = (refl, tt)
    parts_are_pieces (fapp g true ts) h = go (same_op f g) refl
      where
        go : (b : Bool) → same_op f g ≡ b → AllByRecursion (IsPiece d f) (if b then funpack ts else fapp g true ts ∷ [])
        go true e = subst (λ o. AllByRecursion (IsPiece d o) (funpack ts)) (sym (same_op_is f g e)) h.0.pieces
        go false e = (rw e refl, tt)
    parts_are_pieces (fapp g false fnone) h = go (is_identity (identity (axioms d f)) g) refl
      where
        go : (b : Bool) → is_identity (identity (axioms d f)) g ≡ b → AllByRecursion (IsPiece d f) (if b then [] else fconstant g ∷ [])
        go true e = tt
        go false e = (rw e refl, tt)
    parts_are_pieces (fapp g false (fmore t ts)) h = (refl, tt)

    pub parts_are_settled : (t : FlatTerm) → Settled d t → AllByRecursion (Settled d) (parts d f t)
    parts_are_settled (fvar x) h = (tt, tt)
    parts_are_settled (fapp g true ts) h = go (same_op f g)
      where
        go : (b : Bool) → AllByRecursion (Settled d) (if b then funpack ts else fapp g true ts ∷ [])
        go true = SettledAll-funpack ts h.1
        go false = (h, tt)
    parts_are_settled (fapp g false fnone) h = go (is_identity (identity (axioms d f)) g)
      where
        go : (b : Bool) → AllByRecursion (Settled d) (if b then [] else fconstant g ∷ [])
        go true = tt
        go false = (h, tt)
    parts_are_settled (fapp g false (fmore t ts)) h = (h, tt)

    pub all_parts_are_pieces : (l : List FlatTerm) → AllByRecursion (Settled d) l → AllByRecursion (IsPiece d f) (all_parts d f l)
    all_parts_are_pieces [] h = tt
    all_parts_are_pieces (t ∷ l) h = each_append (IsPiece d f) (parts d f t) (all_parts d f l) (parts_are_pieces t h.0) (all_parts_are_pieces l h.1)

    pub all_parts_are_settled : (l : List FlatTerm) → AllByRecursion (Settled d) l → AllByRecursion (Settled d) (all_parts d f l)
    all_parts_are_settled [] h = tt
    all_parts_are_settled (t ∷ l) h = each_append (Settled d) (parts d f t) (all_parts d f l) (parts_are_settled t h.0) (all_parts_are_settled l h.1)

    -- pieces are their own summands
    pub all_parts-pieces : (l : List FlatTerm) → AllByRecursion (IsPiece d f) l → all_parts d f l ≡ l
    all_parts-pieces [] h = refl
    all_parts-pieces (t ∷ l) h = ap (λ m. m ++ all_parts d f l) h.0 ∙ ap (λ m. t ∷ m) (all_parts-pieces l h.1)

    pub all_parts-append : (l m : List FlatTerm) → all_parts d f (l ++ m) ≡ all_parts d f l ++ all_parts d f m
    all_parts-append [] m = refl
    all_parts-append (t ∷ l) m = ap (λ n. parts d f t ++ n) (all_parts-append l m) ∙ sym (append_assoc (parts d f t) (all_parts d f l) (all_parts d f m))

    FitsUnjoined-none : (a : Axioms) → FitsUnjoined d a []
    FitsUnjoined-none Free = tt
    FitsUnjoined-none Comm = tt
    FitsUnjoined-none AssocComm = refl
    FitsUnjoined-none (AssocCommId e) = refl

    pub constant_settled : (g : OpId) → Settled d (fconstant g)
    constant_settled g = (FitsUnjoined-none (axioms d g), tt)
