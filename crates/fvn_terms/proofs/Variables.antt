-- Whether two variables are one.
use Rattle.std.proofs.Common.{◌≡◌, Bool, true, false, refl}
use Rattle.std.specs.Prelude.{◌&&◌, nat_eq}
use Rattle.std.proofs.lemmas.Bool.{eqb-true, eq-eqb}
use Rattle.fvn_terms.specs.declared.plain.Var.{Var}
use Rattle.fvn_terms.specs.Substitution.{same_truth, same_var}

both : (a b : Bool) → (a && b) ≡ true → (a ≡ true) × (b ≡ true)
both true true e = (refl, refl)
both true false e = cc
both false true e = cc
both false false e = cc

and_true : (a b : Bool) → a ≡ true → b ≡ true → (a && b) ≡ true
and_true true true p q = refl
and_true true false p q = cc
and_true false true p q = cc
and_true false false p q = cc

truths : (a b : Bool) → same_truth a b ≡ true → a ≡ b
truths true true e = refl
truths true false e = cc
truths false true e = cc
truths false false e = refl

truth_itself : (a : Bool) → same_truth a a ≡ true
truth_itself true = refl
truth_itself false = refl

pub same_var_is : (x y : Var) → same_var x y ≡ true → x ≡ y
same_var_is x y e =
    let p = both (nat_eq x.name y.name && nat_eq x.sort.0 y.sort.0) (same_truth x.fresh y.fresh) e in
    let q = both (nat_eq x.name y.name) (nat_eq x.sort.0 y.sort.0) p.0 in
    let n = eqb-true x.name y.name q.0 in
    let s = eqb-true x.sort.0 y.sort.0 q.1 in
    let f = truths x.fresh y.fresh p.1 in
    λ i. record { name = n i; sort = record { 0 = s i }; fresh = f i }

pub same_var_itself : (x : Var) → same_var x x ≡ true
same_var_itself x =
    and_true (nat_eq x.name x.name && nat_eq x.sort.0 x.sort.0) (same_truth x.fresh x.fresh)
    (and_true (nat_eq x.name x.name) (nat_eq x.sort.0 x.sort.0) (eq-eqb x.name x.name refl) (eq-eqb x.sort.0 x.sort.0 refl)) (truth_itself x.fresh)
