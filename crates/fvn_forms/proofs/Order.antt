-- The order of flat forms is total, and ties only what is equal.
use Rattle.std.proofs.Common.{◌≡◌, ℕ, Bool, true, false, List, [], ◌∷◌, refl, sym, ap, ◌∙◌, subst, inl, inr}
use Rattle.std.specs.declared.cmp.Ordering.{Ordering}
use Rattle.std.specs.declared.cmp.Ordering.TheVariants.{Less, Equal, Greater}
use Rattle.std.specs.Bool.{Decides}
use Rattle.std.specs.Cmp.{IsTotalOrder}
use Rattle.std.specs.Cmp.Lexicographic.{slice_cmp}
use Rattle.std.specs.Ordering.{ordering_then, nat_cmp, bool_cmp, is_eq}
use Rattle.std.proofs.lemmas.Cmp.{nat_list_cmp_total, on_total, ranked, tied_itself}
use Rattle.fvn_base.specs.Decided.{Decided}
use Rattle.fvn_terms.specs.declared.plain.Var.{Var}
use Rattle.fvn_terms.specs.declared.plain.OpId.{OpId}
use Rattle.fvn_forms.specs.Flat.{FlatTerm, FlatTerms, fvar, fapp, fnone, fmore}
use Rattle.fvn_forms.specs.Order.{var_cmp, flat_cmp, flats_cmp, same_flat}

-- a flat form as a list of numbers, each form before its arguments
abbrev bit : Bool → ℕ
bit false = 0
bit true = 1

abbrev mutual
  code : FlatTerm → List ℕ → List ℕ
  code (fvar x) k = 0 ∷ x.name ∷ x.sort.0 ∷ bit x.fresh ∷ k
  code (fapp f j ts) k = 1 ∷ f.0 ∷ bit j ∷ codes ts k

  codes : FlatTerms → List ℕ → List ℕ
  codes fnone k = 0 ∷ k
  codes (fmore t ts) k = 1 ∷ code t (codes ts k)

then_assoc : (a b c : Ordering) → ordering_then (ordering_then a b) c ≡ ordering_then a (ordering_then b c)
then_assoc Less b c = refl
then_assoc Equal b c = refl
then_assoc Greater b c = refl

then_equal : (a : Ordering) → ordering_then a Equal ≡ a
then_equal Less = refl
then_equal Equal = refl
then_equal Greater = refl

bit_cmp : (j k : Bool) → nat_cmp (bit j) (bit k) ≡ bool_cmp j k
bit_cmp false false = refl
bit_cmp false true = refl
bit_cmp true false = refl
bit_cmp true true = refl

-- the order of the lists of numbers is that of the forms
mutual
  code_cmp : (t u : FlatTerm) (k l : List ℕ) → slice_cmp nat_cmp (code t k) (code u l) ≡ ordering_then (flat_cmp t u) (slice_cmp nat_cmp k l)
  code_cmp (fvar x) (fvar y) k l =
      rw (bit_cmp x.fresh y.fresh)
      (sym
      (
      then_assoc (nat_cmp x.name y.name) (ordering_then (nat_cmp x.sort.0 y.sort.0) (bool_cmp x.fresh y.fresh)) (slice_cmp nat_cmp k l)
      ∙ ap (ordering_then (nat_cmp x.name y.name)) (then_assoc (nat_cmp x.sort.0 y.sort.0) (bool_cmp x.fresh y.fresh) (slice_cmp nat_cmp k l))
      ))
  code_cmp (fvar x) (fapp g j us) k l = refl
  code_cmp (fapp f i ts) (fvar y) k l = refl
  code_cmp (fapp f i ts) (fapp g j us) k l =
      rw (bit_cmp i j, codes_cmp ts us k l)
      (sym
      (
      then_assoc (nat_cmp f.0 g.0) (ordering_then (bool_cmp i j) (flats_cmp ts us)) (slice_cmp nat_cmp k l)
      ∙ ap (ordering_then (nat_cmp f.0 g.0)) (then_assoc (bool_cmp i j) (flats_cmp ts us) (slice_cmp nat_cmp k l))
      ))

  codes_cmp : (ts us : FlatTerms) (k l : List ℕ) → slice_cmp nat_cmp (codes ts k) (codes us l) ≡ ordering_then (flats_cmp ts us) (slice_cmp nat_cmp k l)
  codes_cmp fnone fnone k l = refl
  codes_cmp fnone (fmore u us) k l = refl
  codes_cmp (fmore t ts) fnone k l = refl
  codes_cmp (fmore t ts) (fmore u us) k l =
      code_cmp t u (codes ts k) (codes us l) ∙ ap (ordering_then (flat_cmp t u)) (codes_cmp ts us k l) ∙ sym (then_assoc (flat_cmp t u) (flats_cmp ts us) (slice_cmp nat_cmp k l))

by_code : (t u : FlatTerm) → slice_cmp nat_cmp (code t []) (code u []) ≡ flat_cmp t u
by_code t u = code_cmp t u [] [] ∙ then_equal (flat_cmp t u)

pub flat_cmp_total : IsTotalOrder flat_cmp
flat_cmp_total = subst IsTotalOrder (λ i t u. by_code t u i) (on_total (λ (t : FlatTerm). code t []) nat_list_cmp_total)

-- ties
first_ties : (a b : Ordering) → ordering_then a b ≡ Equal → a ≡ Equal
first_ties Less b e = e
first_ties Equal b e = refl
first_ties Greater b e = e

second_ties : (a b : Ordering) → ordering_then a b ≡ Equal → b ≡ Equal
second_ties Less b e = cc
second_ties Equal b e = e
second_ties Greater b e = cc

nat_ties : (m n : ℕ) → nat_cmp m n ≡ Equal → m ≡ n
nat_ties m n e = ranked m n Equal (sym e)

bool_ties : (j k : Bool) → bool_cmp j k ≡ Equal → j ≡ k
bool_ties false false e = refl
bool_ties false true e = cc
bool_ties true false e = cc
bool_ties true true e = refl

var_ties : (x y : Var) → var_cmp x y ≡ Equal → x ≡ y
var_ties x y e =
    let p : x.name ≡ y.name = nat_ties x.name y.name (first_ties (nat_cmp x.name y.name) (ordering_then (nat_cmp x.sort.0 y.sort.0) (bool_cmp x.fresh y.fresh)) e) in
    let e2 : ordering_then (nat_cmp x.sort.0 y.sort.0) (bool_cmp x.fresh y.fresh) ≡ Equal = second_ties (nat_cmp x.name y.name) (ordering_then (nat_cmp x.sort.0 y.sort.0) (bool_cmp x.fresh y.fresh)) e in
    let q : x.sort.0 ≡ y.sort.0 = nat_ties x.sort.0 y.sort.0 (first_ties (nat_cmp x.sort.0 y.sort.0) (bool_cmp x.fresh y.fresh) e2) in
    let r : x.fresh ≡ y.fresh = bool_ties x.fresh y.fresh (second_ties (nat_cmp x.sort.0 y.sort.0) (bool_cmp x.fresh y.fresh) e2) in
    λ i. record { name = p i; sort = record { 0 = q i }; fresh = r i }

app_same : (f g : OpId) (j k : Bool) (ts us : FlatTerms) → f.0 ≡ g.0 → j ≡ k → ts ≡ us → fapp f j ts ≡ fapp g k us
app_same f g j k ts us p q r = λ i. fapp (record { 0 = p i }) (q i) (r i)

mutual
  pub flat_ties : (t u : FlatTerm) → flat_cmp t u ≡ Equal → t ≡ u
  flat_ties (fvar x) (fvar y) e = ap fvar (var_ties x y e)
  flat_ties (fvar x) (fapp g k us) e = cc
  flat_ties (fapp f j ts) (fvar y) e = cc
  flat_ties (fapp f j ts) (fapp g k us) e =
      let e2 : ordering_then (bool_cmp j k) (flats_cmp ts us) ≡ Equal = second_ties (nat_cmp f.0 g.0) (ordering_then (bool_cmp j k) (flats_cmp ts us)) e in
      app_same f g j k ts us (nat_ties f.0 g.0 (first_ties (nat_cmp f.0 g.0) (ordering_then (bool_cmp j k) (flats_cmp ts us)) e)) (bool_ties j k (first_ties (bool_cmp j k) (flats_cmp ts us) e2))
      (flats_ties ts us (second_ties (bool_cmp j k) (flats_cmp ts us) e2))

  pub flats_ties : (ts us : FlatTerms) → flats_cmp ts us ≡ Equal → ts ≡ us
  flats_ties fnone fnone e = refl
  flats_ties fnone (fmore u us) e = cc
  flats_ties (fmore t ts) fnone e = cc
  flats_ties (fmore t ts) (fmore u us) e =
      ap (λ v. fmore v ts) (flat_ties t u (first_ties (flat_cmp t u) (flats_cmp ts us) e)) ∙ ap (fmore u) (flats_ties ts us (second_ties (flat_cmp t u) (flats_cmp ts us) e))

pub flat_cmp_itself : (t : FlatTerm) → flat_cmp t t ≡ Equal
flat_cmp_itself t = tied_itself flat_cmp_total t

-- the test of equality
pub same_flat_itself : (t : FlatTerm) → same_flat t t ≡ true
same_flat_itself t = ap is_eq (flat_cmp_itself t)

equal_if : (r : Ordering) → is_eq r ≡ true → r ≡ Equal
equal_if Less e = cc
equal_if Equal e = refl
equal_if Greater e = cc

pub same_flat_is : (t u : FlatTerm) → same_flat t u ≡ true → t ≡ u
same_flat_is t u e = flat_ties t u (equal_if (flat_cmp t u) e)

pub same_flat-decides : (t u : FlatTerm) → Decides (same_flat t u) (t ≡ u)
same_flat-decides t u = (same_flat_is t u, λ e. subst (λ v. same_flat t v ≡ true) e (same_flat_itself t))

pub flat_equal_decided : (t u : FlatTerm) → Decided (t ≡ u)
flat_equal_decided t u = go (same_flat t u) refl
  where
    go : (b : Bool) → same_flat t u ≡ b → Decided (t ≡ u)
    go true e = inl (same_flat_is t u e)
    go false e = inr (λ (p : t ≡ u). let q : same_flat t t ≡ false = ap (same_flat t) p ∙ e in cc (same_flat_itself t))
