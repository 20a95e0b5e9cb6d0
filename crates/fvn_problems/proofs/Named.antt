-- Names go on from term to term, and each variable of a term has a name.
use Rattle.std.proofs.Common.{◌≡◌, ℕ, ◌+◌, ◌<◌, ◌⊎◌, inl, inr, Bool, true, false, List, [], ◌∷◌, ◌++◌, length, Option, Some, None, Result, Ok, Err, refl, sym, ap, ◌∙◌, subst, append_assoc, arith, length-append}
use Rattle.std.specs.Prelude.{◌&&◌, if◌then◌else◌}
use Rattle.std.specs.List.{position_from}
use Rattle.std.specs.Str.{bytes_eq}
use Rattle.std.proofs.lemmas.List.{append-nil}
use Rattle.fvn_terms.specs.declared.plain.Var.{Var}
use Rattle.fvn_terms.specs.declared.plain.OpId.{OpId}
use Rattle.fvn_terms.specs.declared.plain.SortId.{SortId}
use Rattle.fvn_terms.specs.declared.plain.Plain.{Plain}
use Rattle.fvn_terms.specs.declared.declarations.Declarations.{Declarations}
use Rattle.fvn_terms.specs.Term.{Term, Terms, var, app, none, more}
use Rattle.fvn_terms.specs.Plain.{term, terms}
use Rattle.fvn_terms.specs.Signature.{kind, axioms, IsSort, HasKind, HaveKinds}
use Rattle.fvn_terms.specs.Substitution.{Occurs, OccursAmong}
use Rattle.fvn_syntax.specs.declared.fault.TermFault.{TermFault}
use Rattle.fvn_syntax.specs.declared.fault.TermFault.TheVariants.{UnknownName, ReservedName}
use Rattle.fvn_syntax.specs.declared.naming.Meaning.{Meaning}
use Rattle.fvn_syntax.specs.declared.naming.Meaning.TheVariants.{Constant, Variable}
use Rattle.fvn_terms.specs.Equality.{is_sum}
use Rattle.fvn_syntax.specs.Names.{resolve_name, op_named, bracket, result_of}
use Rattle.fvn_syntax.specs.Pieces.{Text, without_last, is_reserved}
use Rattle.fvn_syntax.specs.Raw.{RawTerm, RawTerms, name, call, round, kind_variable, last, and}
use Rattle.fvn_syntax.specs.Resolve.{Resolved, AllResolved, bind, or_fault, nested, applied, unless, application_fault, apply, the_constant, the_variable, resolve_meaning, resolve_kind, resolve, resolve_all}
use Rattle.fvn_syntax.specs.Scope.{Scope}
use Rattle.fvn_problems.specs.Laws.{NamesGoOn}
use Rattle.fvn_syntax.specs.Texts.{place, or_end, unless_at}

-- each variable that occurs has the text with its number
abbrev pub IsOld : List Text → Var → Type 0
IsOld texts x = (x.fresh ≡ false) × (x.name < length texts)

-- the names go on, and the variables that occur have names
pub record Grown (before : List Text) (Occur : Var → Type 0) (after : List Text) : Type 0 where
  pub more : List Text
  pub is : after ≡ before ++ more
  pub old : (x : Var) → Occur x → IsOld after x

pub old-later : (a b ms : List Text) (x : Var) → b ≡ a ++ ms → IsOld a x → IsOld b x
old-later a b ms x e h = (h.0, (let l = ap length e ∙ length-append a ms in let m = h.1 in omega arith))

pub grown-both : (before mid after : List Text) (P Q : Var → Type 0) → Grown before P mid → Grown mid Q after → Grown before (λ x. P x ⊎ Q x) after
grown-both before mid after P Q a b =
    record {
      more = a.more ++ b.more;
      is = b.is ∙ ap (λ l. l ++ b.more) a.is ∙ append_assoc before a.more b.more;
      old = λ x o. elim o [ inl p ↦ old-later mid after b.more x b.is (a.old x p) | inr q ↦ b.old x q ];
    }

pub grown-same : (before after : List Text) → after ≡ before → Grown before (λ x. ⊥) after
grown-same before after e = record { more = []; is = e ∙ sym (append-nil before); old = λ x o. absurd o }

weaken : (before after : List Text) (P Q : Var → Type 0) → ((x : Var) → Q x → P x) → Grown before P after → Grown before Q after
weaken before after P Q f a = record { more = a.more; is = a.is; old = λ x q. a.old x (f x q) }

occurs-nested : (x : Var) (f : OpId) (t : Plain) (ts : List Plain) → Occurs x (term (nested f t ts)) → OccursAmong x (terms (t ∷ ts))
occurs-nested x f t [] o = inl o
occurs-nested x f t (u ∷ us) (inl o) = inl o
occurs-nested x f t (u ∷ us) (inr (inl o)) = inr (occurs-nested x f u us o)
occurs-nested x f t (u ∷ us) (inr (inr o)) = absurd o

occurs-applied : (x : Var) (sum : Bool) (f : OpId) (ts : List Plain) → Occurs x (term (applied sum f ts)) → OccursAmong x (terms ts)
occurs-applied x true f [] o = absurd o
occurs-applied x true f (t ∷ ts) o = occurs-nested x f t ts o
occurs-applied x false f ts o = o

position-below : {A : Type 0} (p : A → Bool) (i : ℕ) (xs : List A) (k : ℕ) → position_from p i xs ≡ Some k → k < i + length xs
position-below p i [] k h = cc
position-below p i (x ∷ xs) k h = go (p x) refl (position-below p (i + 1) xs k) where
  go : (b : Bool) → p x ≡ b → (position_from p (i + 1) xs ≡ Some k → k < i + 1 + length xs) → k < i + length (x ∷ xs)
  go true e later = let f : i ≡ k = (let g = rw e at h in cc) in omega arith
  go false e later = let g = later (rw e at h) in omega arith

pub place-below : (texts : List Text) (t : Text) (k : ℕ) → place texts t ≡ Some k → k < length texts
place-below texts t k h = let e = position-below (bytes_eq t) 0 texts k h in omega arith

module _ (c : Scope) where
  abbrev GrownIf : List Text → Result Resolved TermFault → Type 0
  GrownIf before (Ok r) = Grown before (λ x. Occurs x (term r.term)) r.texts
  GrownIf before (Err fault) = Unit {0}

  abbrev GrownAll : List Text → Result AllResolved TermFault → Type 0
  GrownAll before (Ok r) = Grown before (λ x. OccursAmong x (terms r.terms)) r.texts
  GrownAll before (Err fault) = Unit {0}

  -- a variable's name is there, or put at the end
  variable-at : (before : List Text) (x : Text) (s : SortId) (o : Option ℕ) → ((i : ℕ) → o ≡ Some i → i < length before) →
      Grown before (λ y. y ≡ record { name = or_end before o; sort = s; fresh = false }) (unless_at before x o)
  variable-at before x s None h =
      record {
        more = x ∷ [];
        is = refl;
        old = λ y e. (ap (λ v. v.fresh) e, (let n : y.name ≡ length before = ap (λ v. v.name) e in let l = length-append before (x ∷ []) in omega arith));
      }
  variable-at before x s (Some i) h =
      record {
        more = [];
        is = sym (append-nil before);
        old = λ y e. (ap (λ v. v.fresh) e, (let n : y.name ≡ i = ap (λ v. v.name) e in let l = h i refl in omega arith));
      }

  variable : (before : List Text) (x : Text) (s k : SortId) → GrownIf before (Ok (the_variable before x s k))
  variable before x s k = variable-at before x s (place before x) (λ i e. place-below before x i e)

  constant : (before : List Text) (f : OpId) → GrownIf before (Ok (the_constant c before f))
  constant before f = grown-same before before refl

  checked-grown : (before : List Text) (b : Bool) (r : Result Resolved TermFault) → GrownIf before r → GrownIf before (if b then Err ReservedName else r)
  checked-grown before true r h = tt
  checked-grown before false r h = h

  meaning-grown : (before : List Text) (m : Option Meaning) → GrownIf before (resolve_meaning c before m)
  meaning-grown before None = tt
  meaning-grown before (Some (Constant f)) = constant before f
  meaning-grown before (Some (Variable x s)) = checked-grown before (c.guarded && is_reserved x) (Ok (the_variable before x s (kind c.declarations s))) (variable before x s (kind c.declarations s))

  kind-grown : (before : List Text) (x : Text) (k : Option SortId) → GrownIf before (resolve_kind c before x k)
  kind-grown before x None = tt
  kind-grown before x (Some k) = variable before x k (kind c.declarations k)

  applied-grown : (before : List Text) (f : OpId) (r : AllResolved) → GrownAll before (Ok r) → (o : Option TermFault) →
      GrownIf before (unless c.declarations o (record { term = applied (is_sum (axioms c.declarations f)) f r.terms; kind = result_of c.declarations f; texts = r.texts }))
  applied-grown before f r h None =
      weaken before r.texts (λ x. OccursAmong x (terms r.terms)) (λ x. Occurs x (term (applied (is_sum (axioms c.declarations f)) f r.terms)))
      (λ x o. occurs-applied x (is_sum (axioms c.declarations f)) f r.terms o) h
  applied-grown before f r h (Some fault) = tt

  apply-grown : (before : List Text) (f : OpId) (r : Result AllResolved TermFault) → GrownAll before r → GrownIf before (bind r (apply c.declarations f))
  apply-grown before f (Ok r) h = applied-grown before f r h (application_fault c.declarations (is_sum (axioms c.declarations f)) f r.kinds)
  apply-grown before f (Err fault) h = tt

  call-grown : (before : List Text) (ts : RawTerms) → GrownAll before (resolve_all c before ts) → (o : Option OpId) →
      GrownIf before (bind (or_fault UnknownName o) (λ f. bind (resolve_all c before ts) (apply c.declarations f)))
  call-grown before ts h None = tt
  call-grown before ts h (Some f) = apply-grown before f (resolve_all c before ts) h

  last-grown : (before : List Text) (r : Result Resolved TermFault) → GrownIf before r →
      GrownAll before (bind r (λ r. Ok (record { terms = r.term ∷ []; kinds = r.kind ∷ []; texts = r.texts })))
  last-grown before (Ok r) h =
      weaken before r.texts (λ x. Occurs x (term r.term)) (λ x. OccursAmong x (terms (r.term ∷ []))) (λ x o. elim o [ inl p ↦ p | inr q ↦ absurd q ]) h
  last-grown before (Err fault) h = tt

  joined : (before : List Text) (r : Resolved) (xs : Result AllResolved TermFault) → GrownIf before (Ok r) → GrownAll r.texts xs →
      GrownAll before (bind xs (λ rs. Ok (record { terms = r.term ∷ rs.terms; kinds = r.kind ∷ rs.kinds; texts = rs.texts })))
  joined before r (Ok rs) h k = grown-both before r.texts rs.texts (λ x. Occurs x (term r.term)) (λ x. OccursAmong x (terms rs.terms)) h k
  joined before r (Err fault) h k = tt

  and-grown : (before : List Text) (ts : RawTerms) (r : Result Resolved TermFault) → GrownIf before r → ((mid : List Text) → GrownAll mid (resolve_all c mid ts)) →
      GrownAll before (bind r (λ r. bind (resolve_all c r.texts ts) (λ rs. Ok (record { terms = r.term ∷ rs.terms; kinds = r.kind ∷ rs.kinds; texts = rs.texts }))))
  and-grown before ts (Ok r) h later = joined before r (resolve_all c r.texts ts) h (later r.texts)
  and-grown before ts (Err fault) h later = tt

  mutual
    pub grown : (t : RawTerm) (before : List Text) → GrownIf before (resolve c before t)
    grown (name w) before = meaning-grown before (resolve_name c.declarations c.names w)
    grown (round t) before = grown t before
    grown (kind_variable x s ss) before =
        checked-grown before (c.guarded && is_reserved (without_last x)) (resolve_kind c before (without_last x) (bracket c.names.sorts c.declarations.kinds s ss))
        (kind-grown before (without_last x) (bracket c.names.sorts c.declarations.kinds s ss))
    grown (call w ts) before = call-grown before ts (grown-all ts before) (op_named c.names w)

    grown-all : (ts : RawTerms) (before : List Text) → GrownAll before (resolve_all c before ts)
    grown-all (last t) before = last-grown before (resolve c before t) (grown t before)
    grown-all (and t ts) before = and-grown before ts (resolve c before t) (grown t before) (λ mid. grown-all ts mid)

  pub grown-ok : (before : List Text) (t : RawTerm) (r : Resolved) → resolve c before t ≡ Ok r → Grown before (λ x. Occurs x (term r.term)) r.texts
  grown-ok before t r e = subst (GrownIf before) e (grown t before)

-- each variable of a well-kinded term has a sort of the signature
module _ (d : Declarations) (x : Var) where
  mutual
    pub sort-known : (t : Term) (k : SortId) → HasKind d t k → Occurs x t → IsSort d x.sort
    sort-known (var y) k h o = subst (λ v. IsSort d v.sort) (sym o) h.0
    sort-known (app f ts) k h o = sort-known-among ts _ h.args o

    sort-known-among : (ts : Terms) (ks : List SortId) → HaveKinds d ts ks → OccursAmong x ts → IsSort d x.sort
    sort-known-among none ks h o = absurd o
    sort-known-among (more t ts) [] h o = absurd h
    sort-known-among (more t ts) (k ∷ ks) h (inl o) = sort-known t k h.0 o
    sort-known-among (more t ts) (k ∷ ks) h (inr o) = sort-known-among ts ks h.1 o

pub names-go-on : NamesGoOn
names-go-on c before t r e = let g = grown-ok c before t r e in (g.more, g.is)
