-- The code of a declaration tells it.
use Rattle.std.proofs.Common.{◌≡◌, ℕ, ◌/◌, ◌%◌, Bool, true, false, ◌||◌, List, [], ◌∷◌, ◌++◌, map, refl, sym, ap, subst, ◌∙◌, arith, cond, nat_eq}
use Rattle.std.specs.List.{list_any}
use Rattle.std.specs.Prelude.{is_none, not}
use Rattle.std.specs.Str.{bytes_eq}
use Rattle.std.proofs.lemmas.Bool.{and_parts, and_from, eq-eqb, eqb-true}
use Rattle.std.proofs.lemmas.Slice.Eq.{bytes_eq-Decides}
use Rattle.fvn_terms.specs.declared.plain.OpId.{OpId}
use Rattle.fvn_terms.specs.declared.plain.SortId.{SortId}
use Rattle.fvn_terms.specs.declared.declarations.Axioms.{Axioms}
use Rattle.fvn_terms.specs.declared.declarations.Axioms.TheVariants.{Free, Comm, AssocComm, AssocCommId}
use Rattle.fvn_forms.specs.SortOrder.{sort_number, same_sort}
use Rattle.fvn_forms.proofs.SortTests.{same_sort-true, same_sort-self}
use Rattle.fvn_signature.proofs.FirstSorts.{same_tests}
use Rattle.fvn_signature_draft.specs.declared.collected.Declaration.{Declaration}
use Rattle.fvn_signature_draft.specs.Collected.{op_number, same_op}
use Rattle.fvn_syntax.specs.Texts.{place}
use Rattle.fvn_syntax.proofs.TextLemmas.{position-any}
use Rattle.fvn_module_declarations.specs.Operators.{alike, same_sorts, same_axioms, same_declaration}
use Rattle.fvn_module_declarations.specs.inner.Codes.{number_code, sorts_code, partial_code, axioms_code, code}

-- The test of sameness.

same_op-self : (f : OpId) → same_op f f ≡ true
same_op-self f = eq-eqb f.0 f.0 refl

same_op-true : (f g : OpId) → same_op f g ≡ true → f ≡ g
same_op-true f g e = ap op_number (eqb-true f.0 g.0 e)

alike-self : (b : Bool) → alike b b ≡ true
alike-self true = refl
alike-self false = refl

alike-true : (b c : Bool) → alike b c ≡ true → b ≡ c
alike-true true c e = sym e
alike-true false true e = cc
alike-true false false e = refl

same_sorts-self : (ss : List SortId) → same_sorts ss ss ≡ true
same_sorts-self [] = refl
same_sorts-self (s ∷ ss) = and_from (same_sort s s) (same_sorts ss ss) (same_sort-self s) (same_sorts-self ss)

same_sorts-true : (ss qs : List SortId) → same_sorts ss qs ≡ true → ss ≡ qs
same_sorts-true [] [] e = refl
same_sorts-true [] (q ∷ qs) e = cc
same_sorts-true (s ∷ ss) [] e = cc
same_sorts-true (s ∷ ss) (q ∷ qs) e =
    let r = and_parts (same_sort s q) (same_sorts ss qs) e in
    ap (λ z. z ∷ ss) (same_sort-true s q r.0) ∙ ap (λ zs. q ∷ zs) (same_sorts-true ss qs r.1)

same_axioms-self : (a : Axioms) → same_axioms a a ≡ true
same_axioms-self Free = refl
same_axioms-self Comm = refl
same_axioms-self AssocComm = refl
same_axioms-self (AssocCommId e) = same_op-self e

same_axioms-true : (a b : Axioms) → same_axioms a b ≡ true → a ≡ b
same_axioms-true Free Free e = refl
same_axioms-true Comm Comm e = refl
same_axioms-true AssocComm AssocComm e = refl
same_axioms-true (AssocCommId f) (AssocCommId g) e = ap AssocCommId (same_op-true f g e)
same_axioms-true Free Comm e = cc
same_axioms-true Free AssocComm e = cc
same_axioms-true Free (AssocCommId g) e = cc
same_axioms-true Comm Free e = cc
same_axioms-true Comm AssocComm e = cc
same_axioms-true Comm (AssocCommId g) e = cc
same_axioms-true AssocComm Free e = cc
same_axioms-true AssocComm Comm e = cc
same_axioms-true AssocComm (AssocCommId g) e = cc
same_axioms-true (AssocCommId f) Free e = cc
same_axioms-true (AssocCommId f) Comm e = cc
same_axioms-true (AssocCommId f) AssocComm e = cc

-- declarations with the same parts are the same
whole : (d e : Declaration) → d.op ≡ e.op → d.partial ≡ e.partial → d.axioms ≡ e.axioms → d.rank.result ≡ e.rank.result → d.rank.args ≡ e.rank.args → d ≡ e
whole d e op partial axioms result args =
    ap (λ (f : OpId). record d { op = f }) op
    ∙ ap (λ b. record { op = e.op; rank = d.rank; partial = b; axioms = d.axioms }) partial
    ∙ ap (λ a. record { op = e.op; rank = d.rank; partial = e.partial; axioms = a }) axioms
    ∙ ap (λ (s : SortId). record { op = e.op; rank = record { args = d.rank.args; result = s }; partial = e.partial; axioms = e.axioms }) result
    ∙ ap (λ ss. record { op = e.op; rank = record { args = ss; result = e.rank.result }; partial = e.partial; axioms = e.axioms }) args

pub same_declaration-self : (d : Declaration) → same_declaration d d ≡ true
same_declaration-self d = rw (same_op-self d.op, alike-self d.partial, same_axioms-self d.axioms, same_sort-self d.rank.result, same_sorts-self d.rank.args) refl

pub same_declaration-true : (d e : Declaration) → same_declaration d e ≡ true → d ≡ e
same_declaration-true d e h =
    let four = and_parts _ (same_sorts d.rank.args e.rank.args) h in
    let three = and_parts _ (same_sort d.rank.result e.rank.result) four.0 in
    let two = and_parts _ (same_axioms d.axioms e.axioms) three.0 in
    let one = and_parts (same_op d.op e.op) (alike d.partial e.partial) two.0 in
    whole d e (same_op-true d.op e.op one.0) (alike-true d.partial e.partial one.1) (same_axioms-true d.axioms e.axioms two.1) (same_sort-true d.rank.result e.rank.result three.1) (same_sorts-true d.rank.args e.rank.args four.1)

-- The code.

number-told : (n m : ℕ) → n / 256 ≡ m / 256 → n % 256 ≡ m % 256 → n ≡ m
number-told n m e f = omega arith

sorts-told : (ss qs : List SortId) → sorts_code ss ≡ sorts_code qs → ss ≡ qs
sorts-told [] [] e = refl
sorts-told [] (q ∷ qs) e = cc
sorts-told (s ∷ ss) [] e = cc
sorts-told (s ∷ ss) (q ∷ qs) e =
    let high : s.0 / 256 ≡ q.0 / 256 = cc in
    let low : s.0 % 256 ≡ q.0 % 256 = cc in
    let rest : sorts_code ss ≡ sorts_code qs = cc in
    ap (λ (z : SortId). z ∷ ss) (ap sort_number (number-told s.0 q.0 high low)) ∙ ap (λ zs. q ∷ zs) (sorts-told ss qs rest)

-- axioms are told by their first byte and the number behind it
axioms_mark : Axioms → ℕ
axioms_mark Free = 0
axioms_mark Comm = 1
axioms_mark AssocComm = 2
axioms_mark (AssocCommId e) = 3

-- the number behind it
axioms_number : Axioms → ℕ
axioms_number Free = 0
axioms_number Comm = 0
axioms_number AssocComm = 0
axioms_number (AssocCommId e) = e.0

axioms_of_code : ℕ → ℕ → Axioms
axioms_of_code mark n =
    cond (nat_eq mark 0) Free (cond (nat_eq mark 1) Comm (cond (nat_eq mark 2) AssocComm (AssocCommId (op_number n))))

axioms_code-parts : (a : Axioms) → axioms_code a ≡ axioms_mark a ∷ number_code (axioms_number a)
unfolding axioms_mark axioms_number
axioms_code-parts Free = refl
axioms_code-parts Comm = refl
axioms_code-parts AssocComm = refl
axioms_code-parts (AssocCommId e) = refl

axioms_of_code-told : (a : Axioms) → axioms_of_code (axioms_mark a) (axioms_number a) ≡ a
unfolding axioms_mark axioms_number axioms_of_code
axioms_of_code-told Free = refl
axioms_of_code-told Comm = refl
axioms_of_code-told AssocComm = refl
axioms_of_code-told (AssocCommId e) = refl

partial-told : (a b : Bool) → partial_code a ≡ partial_code b → a ≡ b
partial-told true true e = refl
partial-told false false e = refl
partial-told true false e = absurd (omega arith)
partial-told false true e = absurd (omega arith)

-- equal codes are of equal declarations
pub code-told : (d e : Declaration) → code d ≡ code e → d ≡ e
code-told d e h =
    let parts : partial_code d.partial ∷ (number_code d.op.0 ++ ((axioms_mark d.axioms ∷ number_code (axioms_number d.axioms)) ++ (number_code d.rank.result.0 ++ sorts_code d.rank.args)))
    ≡ partial_code e.partial ∷ (number_code e.op.0 ++ ((axioms_mark e.axioms ∷ number_code (axioms_number e.axioms)) ++ (number_code e.rank.result.0 ++ sorts_code e.rank.args))) =
    rw (axioms_code-parts d.axioms, axioms_code-parts e.axioms) at h in
    let partial : partial_code d.partial ≡ partial_code e.partial = cc in
    let op_high : d.op.0 / 256 ≡ e.op.0 / 256 = cc in
    let op_low : d.op.0 % 256 ≡ e.op.0 % 256 = cc in
    let mark : axioms_mark d.axioms ≡ axioms_mark e.axioms = cc in
    let id_high : axioms_number d.axioms / 256 ≡ axioms_number e.axioms / 256 = cc in
    let id_low : axioms_number d.axioms % 256 ≡ axioms_number e.axioms % 256 = cc in
    let result_high : d.rank.result.0 / 256 ≡ e.rank.result.0 / 256 = cc in
    let result_low : d.rank.result.0 % 256 ≡ e.rank.result.0 % 256 = cc in
    let args : sorts_code d.rank.args ≡ sorts_code e.rank.args = cc in
    let axioms : d.axioms ≡ e.axioms =
    sym (axioms_of_code-told d.axioms) ∙ ap (λ m. axioms_of_code m (axioms_number d.axioms)) mark
    ∙ ap (axioms_of_code (axioms_mark e.axioms)) (number-told (axioms_number d.axioms) (axioms_number e.axioms) id_high id_low) ∙ axioms_of_code-told e.axioms in
    whole d e (ap op_number (number-told d.op.0 e.op.0 op_high op_low)) (partial-told d.partial e.partial partial) axioms
    (ap sort_number (number-told d.rank.result.0 e.rank.result.0 result_high result_low)) (sorts-told d.rank.args e.rank.args args)

-- the test of codes is that of declarations
pub code-same : (d e : Declaration) → bytes_eq (code d) (code e) ≡ same_declaration d e
code-same d e = same_tests (bytes_eq (code d) (code e)) (same_declaration d e)
    (λ h. subst (λ z. same_declaration d z ≡ true) (code-told d e ((bytes_eq-Decides (code d) (code e)).0 h)) (same_declaration-self d))
    (λ h. (bytes_eq-Decides (code d) (code e)).1 (ap code (same_declaration-true d e h)))

any_coded : (d : Declaration) (ds : List Declaration) → list_any (bytes_eq (code d)) (map code ds) ≡ list_any (same_declaration d) ds
any_coded d [] = refl
any_coded d (e ∷ ds) = ap (λ b. b || list_any (bytes_eq (code d)) (map code ds)) (code-same d e) ∙ ap (λ b. same_declaration d e || b) (any_coded d ds)

-- a declaration is there exactly where its code has a place
pub coded-place : (d : Declaration) (ds : List Declaration) → list_any (same_declaration d) ds ≡ not (is_none (place (map code ds) (code d)))
coded-place d ds = sym (any_coded d ds) ∙ position-any (bytes_eq (code d)) 0 (map code ds)
