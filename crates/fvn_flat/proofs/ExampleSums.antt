-- A partition and a solved list of the problem union(x0, x1) =? x2: x2 is bound to the sum of two minimal solutions.
use Rattle.std.proofs.Common.{◌≡◌, ◌≢◌, ◌⊎◌, ℕ, zero, suc, ◌+◌, ◌*◌, ◌<◌, ℤ, Bool, true, false, if◌then◌else◌, List, [], ◌∷◌, Some, None, refl, sym, ap, ◌∙◌, subst, inl, inr, arith, lit<}
use Rattle.std.specs.Prelude.{All, AllPairs, Any, Contains, slice_index, slice_index_or}
use Rattle.std.proofs.lemmas.List.Elements.{All-nil, All-cons, All-head}
use Rattle.fvn_terms.specs.declared.plain.Var.{Var}
use Rattle.fvn_terms.specs.declared.plain.OpId.{OpId}
use Rattle.fvn_terms.specs.declared.plain.SortId.{SortId}
use Rattle.fvn_terms.specs.declared.declarations.Axioms.TheVariants.{Free, Comm, AssocComm}
use Rattle.fvn_terms.specs.Term.{Term, Terms, var, app, none, more}
use Rattle.fvn_terms.specs.Substitution.{apply, Occurs, same_var}
use Rattle.fvn_terms.specs.Signature.{axioms, kind, IsSort, HasKind, KeepsKinds}
use Rattle.fvn_terms.specs.Places.{stop}
use Rattle.fvn_terms.specs.Equality.{BEqual, identity}
use Rattle.fvn_terms.specs.Unifiers.{Problem}
use Rattle.fvn_terms.proofs.Substitutions.{apply-var}
use Rattle.fvn_forms.specs.Flat.{FlatTerm, fvar, fapp, plain}
use Rattle.fvn_forms.specs.Canon.{canon, sum}
use Rattle.fvn_forms.proofs.Eval.{canon_respects}
use Rattle.fvn_lindio.specs.declared.system.System.{System}
use Rattle.fvn_lindio.specs.Vectors.{IsAtOrBelow, IsNonZero}
use Rattle.fvn_lindio.specs.Systems.{IsUnused, Solves, IsMinimal, IsZeroAt}
use Rattle.fvn_flat.specs.Bindings.{Bindings}
use Rattle.fvn_flat.specs.Problems.{subterms_of, variables_of}
use Rattle.fvn_flat.specs.Partitions.{Heads, IsUnit, IsNode, IsPartition}
use Rattle.fvn_flat.specs.SumSystems.{sums_of, classes_of, IsColumn, IsSumSystem}
use Rattle.fvn_flat.specs.SolvedLists.{Form, Part, Plan, unbound, as_sum, only, unfolded, component, bound_to, IsClass, IsFormOf, IsNew, IsBinding, StandsForClass, StandsForNone, RestsOn, IsSolvedList}
use Rattle.fvn_flat.proofs.Examples.{op, s, numbers, variable, x, union, o, i, m}

abbrev Eq : ℕ → ℕ → Type 0
Eq a b = a ≡ b

abbrev added : Problem
added = (union (x 0) (x 1), x 2) ∷ []

-- each variable in a class of its own, and the sum in that of x2
abbrev of_added : Term → ℕ
of_added (var y) = y.name
of_added (app f ts) = 2

-- what is said of each node of the problem
module _ (P : Term → Type 0) (of_sum : P (union (x 0) (x 1))) (of_x0 : P (x 0)) (of_x1 : P (x 1)) (of_x2 : P (x 2)) where
  at_subterm : (t : Term) → Contains (subterms_of added) t → P t
  at_subterm t (zero, l, e) = subst P e of_sum
  at_subterm t (suc zero, l, e) = subst P e of_x0
  at_subterm t (suc (suc zero), l, e) = subst P e of_x1
  at_subterm t (suc (suc (suc zero)), l, e) = subst P e of_x2
  at_subterm t (suc (suc (suc (suc k))), l, e) = absurd (omega (arith, l))

-- union is the only operator
abbrev HeadIsUnion : Term → Type 0
HeadIsUnion (var y) = Unit {0}
HeadIsUnion (app f ts) = op 2 ≡ f

heads_union : (f : OpId) → Heads numbers added f → op 2 ≡ f
heads_union f h = at_subterm HeadIsUnion refl tt tt tt (app f h.arguments) h.listed

no_unit : (t : Term) → IsUnit numbers added t → ⊥
no_unit t u = let e : None ≡ Some u.constant_of = ap (λ f. identity (axioms numbers f)) (heads_union u.operator u.heads) ∙ u.identity in cc

at_node : (P : Term → Type 0) → P (union (x 0) (x 1)) → P (x 0) → P (x 1) → P (x 2) → (t : Term) → IsNode numbers added t → P t
at_node P of_sum of_x0 of_x1 of_x2 t (inl c) = at_subterm P of_sum of_x0 of_x1 of_x2 t c
at_node P of_sum of_x0 of_x1 of_x2 t (inr u) = absurd (no_unit t u)

node_head : (f : OpId) (ts : Terms) → IsNode numbers added (app f ts) → op 2 ≡ f
node_head f ts h = at_node HeadIsUnion refl tt tt tt (app f ts) h

-- the class can be told from the flat form
of_form : FlatTerm → ℕ
of_form (fvar y) = y.name
of_form (fapp f joined ts) = 2

class_of_form : (t : Term) → IsNode numbers added t → of_added t ≡ of_form (canon numbers t)
unfolding of_form
class_of_form = at_node (λ t. of_added t ≡ of_form (canon numbers t)) refl refl refl refl

pub is_partition : IsPartition numbers added of_added
is_partition = record {
  sides = All-cons (λ p. of_added p.0 ≡ of_added p.1) (union (x 0) (x 1), x 2) [] refl (All-nil (λ p. of_added p.0 ≡ of_added p.1));
  equal = λ t u h j e. class_of_form t h ∙ (ap of_form (canon_respects numbers e) ∙ sym (class_of_form u j));
  congruent = λ f ts us h j e. refl;
  one_head = λ f g ts us n o h j e. sym (node_head f ts h) ∙ node_head g us j;
  free = λ f ts us a h j e. let no : AssocComm ≡ Free = ap (axioms numbers) (node_head f ts h) ∙ a in cc;
  commutative = λ f t u v w a h j e. let no : AssocComm ≡ Comm = ap (axioms numbers) (node_head f (more t (more u none)) h) ∙ a in cc;
}

-- the row x0 + x1 - x2
abbrev row : List ℤ
row = i ∷ i ∷ m ∷ []

abbrev system : System
system = record { columns = 3; rows = record { coefficients = row } ∷ [] }

abbrev columns : List ℕ
columns = 0 ∷ 1 ∷ 2 ∷ []

distinct : AllPairs ◌≢◌ columns
distinct zero (suc zero) d l n e = let no : Eq 0 1 = e in omega (arith, no)
distinct zero (suc (suc zero)) d l n e = let no : Eq 0 2 = e in omega (arith, no)
distinct (suc zero) (suc (suc zero)) d l n e = let no : Eq 1 2 = e in omega (arith, no)
distinct zero zero d l n e = omega (arith, l)
distinct (suc k) zero d l n e = omega (arith, l)
distinct (suc k) (suc zero) d l n e = omega (arith, l)
distinct (suc (suc k)) (suc (suc zero)) d l n e = omega (arith, l)
distinct k (suc (suc (suc j))) d l n e = omega (arith, n)

one_sum : (t : Term) → Contains (sums_of (op 2) added) t → union (x 0) (x 1) ≡ t
one_sum t (zero, l, e) = e
one_sum t (suc k, l, e) = absurd (omega (arith, l))

is_column : (k : ℕ) → Contains (classes_of of_added (union (x 0) (x 1))) k → IsColumn numbers added of_added (op 2) k
is_column k c = record { sum = union (x 0) (x 1); listed = (0, lit< tt, refl); among = c; no_identity = λ e. e }

to_column : (k : ℕ) → Contains columns k → IsColumn numbers added of_added (op 2) k
to_column k (zero, l, e) = is_column k (1, lit< tt, e)
to_column k (suc zero, l, e) = is_column k (2, lit< tt, e)
to_column k (suc (suc zero), l, e) = is_column k (0, lit< tt, e)
to_column k (suc (suc (suc j)), l, e) = absurd (omega (arith, l))

of_sum : (k : ℕ) → Contains (classes_of of_added (union (x 0) (x 1))) k → Contains columns k
of_sum k (zero, l, e) = (2, lit< tt, e)
of_sum k (suc zero, l, e) = (0, lit< tt, e)
of_sum k (suc (suc zero), l, e) = (1, lit< tt, e)
of_sum k (suc (suc (suc j)), l, e) = absurd (omega (arith, l))

from_column : (k : ℕ) → IsColumn numbers added of_added (op 2) k → Contains columns k
from_column k c = of_sum k (subst (λ t. Contains (classes_of of_added t) k) (sym (one_sum c.sum c.listed)) c.among)

is_system : IsSumSystem numbers added of_added (op 2) columns system
is_system = record { associative = tt; distinct = distinct; exact = λ k. (to_column k, from_column k); wide = refl; rows = refl }

-- its minimal solutions
abbrev with_x0 : List ℕ
with_x0 = 1 ∷ 0 ∷ 1 ∷ []

abbrev with_x1 : List ℕ
with_x1 = 0 ∷ 1 ∷ 1 ∷ []

used : (k : ℕ) → IsUnused (row ∷ []) k → 2 < k
used zero h = let e : i ≡ o = h 0 row (lit< tt) in cc
used (suc zero) h = let e : i ≡ o = h 0 row (lit< tt) in cc
used (suc (suc zero)) h = let e : m ≡ o = h 0 row (lit< tt) in cc
used (suc (suc (suc k))) h = omega arith

beyond : (a b c k : ℕ) → 2 < k → slice_index (a ∷ b ∷ c ∷ []) k ≡ 0
beyond a b c zero h = absurd (omega (arith, h))
beyond a b c (suc zero) h = absurd (omega (arith, h))
beyond a b c (suc (suc zero)) h = absurd (omega (arith, h))
beyond a b c (suc (suc (suc k))) h = refl

zero_rows : (v : List ℕ) → IsZeroAt v row → All (IsZeroAt v) (row ∷ [])
zero_rows v h = All-cons (IsZeroAt v) row [] h (All-nil (IsZeroAt v))

solution : (a b c : ℕ) → IsZeroAt (a ∷ b ∷ c ∷ []) row → Solves 3 (row ∷ []) (a ∷ b ∷ c ∷ [])
solution a b c h = record { sized = refl; zero_rows = zero_rows (a ∷ b ∷ c ∷ []) h; unused = λ j k. beyond a b c j (used j k) }

vector : ℕ → ℕ → ℕ → List ℕ
vector a b c = a ∷ b ∷ c ∷ []

least_x0 : (y : List ℕ) → Solves 3 (row ∷ []) y → IsNonZero y → IsAtOrBelow y with_x0 → y ≡ with_x0
unfolding vector
least_x0 [] h n b = absurd b
least_x0 (a ∷ []) h n b = absurd b.1
least_x0 (a ∷ c ∷ []) h n b = absurd b.1.1
least_x0 (a ∷ c ∷ e ∷ []) h n b =
    let z : 1 * a + (1 * c + (0 * e + 0)) ≡ 0 * a + (0 * c + (1 * e + 0)) = All-head (IsZeroAt (a ∷ c ∷ e ∷ [])) row [] h.zero_rows in
    let n_ : 0 < ((0 + a) + c) + e = n in
    let pa : a ≡ 1 = omega (arith, z, n_, b.0, b.1.0, b.1.1.0) in
    let pc : c ≡ 0 = omega (arith, z, n_, b.0, b.1.0, b.1.1.0) in
    let pe : e ≡ 1 = omega (arith, z, n_, b.0, b.1.0, b.1.1.0) in
    ap (λ k. vector k c e) pa ∙ ap (λ k. vector 1 k e) pc ∙ ap (vector 1 0) pe
least_x0 (a ∷ c ∷ e ∷ g ∷ y) h n b = absurd b.1.1.1

least_x1 : (y : List ℕ) → Solves 3 (row ∷ []) y → IsNonZero y → IsAtOrBelow y with_x1 → y ≡ with_x1
unfolding vector
least_x1 [] h n b = absurd b
least_x1 (a ∷ []) h n b = absurd b.1
least_x1 (a ∷ c ∷ []) h n b = absurd b.1.1
least_x1 (a ∷ c ∷ e ∷ []) h n b =
    let z : 1 * a + (1 * c + (0 * e + 0)) ≡ 0 * a + (0 * c + (1 * e + 0)) = All-head (IsZeroAt (a ∷ c ∷ e ∷ [])) row [] h.zero_rows in
    let n_ : 0 < ((0 + a) + c) + e = n in
    let pa : a ≡ 0 = omega (arith, z, n_, b.0, b.1.0, b.1.1.0) in
    let pc : c ≡ 1 = omega (arith, z, n_, b.0, b.1.0, b.1.1.0) in
    let pe : e ≡ 1 = omega (arith, z, n_, b.0, b.1.0, b.1.1.0) in
    ap (λ k. vector k c e) pa ∙ ap (λ k. vector 0 k e) pc ∙ ap (vector 0 1) pe
least_x1 (a ∷ c ∷ e ∷ g ∷ y) h n b = absurd b.1.1.1

minimal_x0 : IsMinimal 3 (row ∷ []) with_x0
minimal_x0 = record { solves = solution 1 0 1 refl; nonzero = lit< tt; least = least_x0 }

minimal_x1 : IsMinimal 3 (row ∷ []) with_x1
minimal_x1 = record { solves = solution 0 1 1 refl; nonzero = lit< tt; least = least_x1 }

-- x2 is bound to the sum; each of the two minimal solutions has just one class that is not, and that class stands for it
abbrev form : ℕ → Form
form zero = unbound
form (suc zero) = unbound
form (suc (suc k)) = as_sum (op 2)

abbrev part_x0 : Part
part_x0 = record { solution = with_x0; variable = variable 0 }

abbrev part_x1 : Part
part_x1 = record { solution = with_x1; variable = variable 1 }

abbrev plan : Plan
plan = record { name = variable; form = form; columns = λ f. columns; parts = λ f. part_x0 ∷ part_x1 ∷ [] }

abbrev bindings : Bindings
bindings = (variable 2, sum numbers (op 2) (fvar (variable 0) ∷ fvar (variable 1) ∷ [])) ∷ []

abbrev Class : ℕ → Type 0
Class = IsClass numbers added of_added

at_class : (P : ℕ → Type 0) → P 0 → P 1 → P 2 → (k : ℕ) → Class k → P k
at_class P a b c k h = subst P h.2 (at_node (λ t. P (of_added t)) c a b c h.0 h.1)

class_0 : Class 0
class_0 = (x 0, inl (1, lit< tt, refl), refl)

class_1 : Class 1
class_1 = (x 1, inl (2, lit< tt, refl), refl)

class_2 : Class 2
class_2 = (x 2, inl (3, lit< tt, refl), refl)

is_sum : form 2 ≡ as_sum (op 2)
is_sum = refl

stands_x0 : StandsForClass numbers added of_added plan (op 2) part_x0
stands_x0 = record {
  k = 0;
  is_class = class_0;
  no_sum = λ e. cc;
  one = refl;
  alone = at_class (λ j. form j ≢ as_sum (op 2) → j ≢ 0 → component columns with_x0 j ≡ 0) (λ n d. absurd (d refl)) (λ n d. refl) (λ n d. absurd (n is_sum));
  named = refl;
}

stands_x1 : StandsForClass numbers added of_added plan (op 2) part_x1
stands_x1 = record {
  k = 1;
  is_class = class_1;
  no_sum = λ e. cc;
  one = refl;
  alone = at_class (λ j. form j ≢ as_sum (op 2) → j ≢ 1 → component columns with_x1 j ≡ 0) (λ n d. refl) (λ n d. absurd (d refl)) (λ n d. absurd (n is_sum));
  named = refl;
}

different : AllPairs (λ p q. (p.solution ≢ q.solution) × (p.variable ≢ q.variable)) (part_x0 ∷ part_x1 ∷ [])
different zero (suc zero) d l n = ((λ e. cc), λ e. let no : Eq 0 1 = ap (λ (v : Var). v.name) e in omega (arith, no))
different zero zero d l n = absurd (omega (arith, l))
different (suc k) zero d l n = absurd (omega (arith, l))
different (suc k) (suc zero) d l n = absurd (omega (arith, l))
different k (suc (suc j)) d l n = absurd (omega (arith, n))

abbrev Stands : Part → Type 0
Stands p = StandsForClass numbers added of_added plan (op 2) p ⊎ StandsForNone numbers added of_added plan (op 2) p

abbrev Minimal : Part → Type 0
Minimal p = IsMinimal 3 (row ∷ []) p.solution

abbrev Names : ℕ → Type 0
Names k = Any (λ p. p.variable ≡ variable k) (part_x0 ∷ part_x1 ∷ [])

rests : RestsOn numbers added of_added plan (op 2) system
rests = record {
  is_system = is_system;
  minimal = All-cons Minimal part_x0 (part_x1 ∷ []) minimal_x0 (All-cons Minimal part_x1 [] minimal_x1 (All-nil Minimal));
  distinct = different;
  standing = All-cons Stands part_x0 (part_x1 ∷ []) (inl stands_x0) (All-cons Stands part_x1 [] (inl stands_x1) (All-nil Stands));
  covered = λ k h u n no. at_class (λ j. form j ≢ as_sum (op 2) → Names j) (λ n. (0, part_x0, lit< tt, refl, refl)) (λ n. (1, part_x1, lit< tt, refl, refl)) (λ n. absurd (n is_sum)) k h n;
}

given : (y : Var) → Contains (variables_of added) y → variable y.name ≡ y
given y (zero, l, e) = subst (λ v. variable v.name ≡ v) e refl
given y (suc zero, l, e) = subst (λ v. variable v.name ≡ v) e refl
given y (suc (suc zero), l, e) = subst (λ v. variable v.name ≡ v) e refl
given y (suc (suc (suc k)), l, e) = absurd (omega (arith, l))

not_new : (p : Part) → Contains (part_x0 ∷ part_x1 ∷ []) p → IsNew numbers added of_added plan p.variable → ⊥
not_new p (zero, l, e) new = new.not_given (subst (λ q. Contains (variables_of added) q.variable) e (0, lit< tt, refl))
not_new p (suc zero, l, e) new = new.not_given (subst (λ q. Contains (variables_of added) q.variable) e (1, lit< tt, refl))
not_new p (suc (suc k), l, e) new = omega (arith, l)

kind_of : (q : SortId) → IsSort numbers q → record { 0 = 1 } ≡ kind numbers q
kind_of q h = go q.0 h
  where
    go : (n : ℕ) → n < 2 → record { 0 = 1 } ≡ slice_index_or numbers.kinds n q
    go zero h = refl
    go (suc zero) h = refl
    go (suc (suc n)) h = absurd (omega (arith, h))

keeps : KeepsKinds numbers (unfolded bindings)
keeps y k = subst (λ t. HasKind numbers t (kind numbers y.sort)) (sym (apply-var (only (variable 2) (union (x 0) (x 1)) y))) (go (same_var (variable 2) y))
  where
    go : (b : Bool) → HasKind numbers (if b then union (x 0) (x 1) else var y) (kind numbers y.sort)
    go true = record { rank = record { args = s ∷ s ∷ []; result = s }; listed = (0, lit< tt, refl); args = ((lit< tt, refl), ((lit< tt, refl), tt)); result = kind_of y.sort k }
    go false = (k, refl)

abbrev Unified : Term × Term → Type 0
Unified p = BEqual numbers (apply (unfolded bindings) p.0) (apply (unfolded bindings) p.1)

not_itself : Occurs (variable 2) (union (x 0) (x 1)) → ⊥
not_itself (inl e) = let no : Eq 2 0 = ap (λ (v : Var). v.name) e in omega (arith, no)
not_itself (inr (inl e)) = let no : Eq 2 1 = ap (λ (v : Var). v.name) e in omega (arith, no)
not_itself (inr (inr n)) = n

abbrev NotItself : Var × FlatTerm → Type 0
NotItself b = Occurs b.0 (plain b.1) → ⊥

abbrev bound_x2 : Var × FlatTerm
bound_x2 = (variable 2, sum numbers (op 2) (fvar (variable 0) ∷ fvar (variable 1) ∷ []))

abbrev OneBinding : Var × FlatTerm → Type 0
OneBinding = IsBinding numbers added of_added plan

abbrev Listed : ℕ → Type 0
Listed k = (t : FlatTerm) → bound_to numbers added of_added plan k ≡ Some t → Contains bindings (variable k, t)

listed_x2 : Listed 2
listed_x2 t e = let q : bound_x2.1 ≡ t = cc in let pair : FlatTerm → Var × FlatTerm = λ u. (variable 2, u) in (0, lit< tt, ap pair q)

pub is_solved_list : IsSolvedList numbers added of_added bindings
is_solved_list = (
  plan,
  record {
    names = λ k j h l e. ap (λ (v : Var). v.name) e;
    own = λ k h c. refl;
    forms = at_class (λ k. IsFormOf numbers added of_added plan k (form k)) tt tt (record { heads = record { arguments = more (x 0) (more (x 1) none); listed = (0, lit< tt, refl) }; associative = tt; members = λ n e. cc });
    sums = λ f h a. (system, subst (λ g. RestsOn numbers added of_added plan g system) (heads_union f h) rests);
    apart = λ f g p q n c d new e. not_new p c new;
    classes = λ k t h. at_class Listed (λ t e. cc) (λ t e. cc) listed_x2 k h t;
    variables = λ y c n. absurd (n (given y c));
    no_other = All-cons OneBinding bound_x2 [] (inl (2, class_2, refl, refl)) (All-nil OneBinding);
    triangular = record { not_itself = All-cons NotItself bound_x2 [] not_itself (All-nil NotItself); not_later = λ i j e l n. absurd (omega (arith, l, n)) };
    unifies = (keeps, All-cons Unified (union (x 0) (x 1), x 2) [] stop (All-nil Unified));
  },
)
