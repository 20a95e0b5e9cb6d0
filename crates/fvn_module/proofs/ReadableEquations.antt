-- The equations of a module are well-made.
use Rattle.std.proofs.Common.{◌≡◌, inl, inr, Bool, true, false, List, [], ◌∷◌, length, Option, Some, None, Result, Ok, Err, refl, sym, ap, subst, ◌∙◌, arith}
use Rattle.std.specs.Prelude.{if◌then◌else◌, ◌&&◌}
use Rattle.std.specs.List.{All}
use Rattle.std.proofs.lemmas.List.Elements.{All-nil, All-cons}
use Rattle.fvn_terms.specs.declared.plain.Var.{Var}
use Rattle.fvn_terms.specs.declared.plain.OpId.{OpId}
use Rattle.fvn_terms.specs.declared.plain.SortId.{SortId}
use Rattle.fvn_terms.specs.declared.plain.Plain.{Plain}
use Rattle.fvn_terms.specs.declared.declarations.Declarations.{Declarations}
use Rattle.fvn_terms.specs.Plain.{term, terms}
use Rattle.fvn_terms.specs.Substitution.{Occurs, OccursAmong}
use Rattle.fvn_terms.specs.Signature.{kind, axioms, HasKind}
use Rattle.fvn_syntax.specs.declared.fault.TermFault.{TermFault}
use Rattle.fvn_syntax.specs.declared.fault.TermFault.TheVariants.{ReservedName, UnknownName}
use Rattle.fvn_syntax.specs.declared.naming.Meaning.{Meaning}
use Rattle.fvn_syntax.specs.declared.naming.Meaning.TheVariants.{Constant, Variable}
use Rattle.fvn_syntax.specs.Pieces.{Text, is_reserved, without_last}
use Rattle.fvn_syntax.specs.Raw.{RawTerm, RawTerms, name, call, round, kind_variable, last, and}
use Rattle.fvn_terms.specs.Equality.{is_sum}
use Rattle.fvn_syntax.specs.Names.{resolve_name, op_named, bracket, result_of}
use Rattle.fvn_syntax.specs.Scope.{Scope}
use Rattle.fvn_syntax.specs.Resolve.{Resolved, AllResolved, bind, or_fault, nested, applied, application_fault, unless, apply, the_variable, resolve_meaning, resolve_kind, resolve, resolve_all}
use Rattle.fvn_syntax.specs.Laws.{IsFitting}
use Rattle.fvn_syntax.proofs.WellKinded.{well-kinded}
use Rattle.fvn_theory.specs.declared.equation.Equation.{Equation}
use Rattle.fvn_module.specs.declared.sides.Sides.{Sides}
use Rattle.fvn_module.specs.Equations.{IsEquationOf, AreEquationsOf}
use Rattle.fvn_theory.specs.Equations.{IsReadableEquation}

-- No variable of a term that is read is fresh.

abbrev IsOld : Plain → Type 0
IsOld t = (x : Var) → Occurs x (term t) → x.fresh ≡ false

abbrev AreOld : List Plain → Type 0
AreOld ts = (x : Var) → OccursAmong x (terms ts) → x.fresh ≡ false

old-none : AreOld []
old-none x h = absurd h

old-and : (t : Plain) (ts : List Plain) → IsOld t → AreOld ts → AreOld (t ∷ ts)
old-and t ts h hs x (inl o) = h x o
old-and t ts h hs x (inr o) = hs x o

old-first : (t : Plain) (ts : List Plain) → AreOld (t ∷ ts) → IsOld t
old-first t ts h x o = h x (inl o)

old-rest : (t : Plain) (ts : List Plain) → AreOld (t ∷ ts) → AreOld ts
old-rest t ts h x o = h x (inr o)

old-nested : (f : OpId) (t : Plain) (ts : List Plain) → IsOld t → AreOld ts → IsOld (nested f t ts)
old-nested f t [] h hs = h
old-nested f t (u ∷ us) h hs =
    old-and t (nested f u us ∷ []) h (old-and (nested f u us) [] (old-nested f u us (old-first u us hs) (old-rest u us hs)) old-none)

old-applied : (sum : Bool) (f : OpId) (ts : List Plain) → AreOld ts → IsOld (applied sum f ts)
old-applied false f ts h = h
old-applied true f [] h = old-none
old-applied true f (t ∷ ts) h = old-nested f t ts (old-first t ts h) (old-rest t ts h)

old-variable : (texts : List Text) (w : Text) (s k : SortId) → IsOld (the_variable texts w s k).term
old-variable texts w s k x o = ap (λ (y : Var). y.fresh) o

-- the term that is read, where there is one, has no fresh variable
abbrev IsOldRead : Result Resolved TermFault → Type 0
IsOldRead (Ok r) = IsOld r.term
IsOldRead (Err fault) = Unit {0}

abbrev AreOldRead : Result AllResolved TermFault → Type 0
AreOldRead (Ok r) = AreOld r.terms
AreOldRead (Err fault) = Unit {0}

old-checked : (b : Bool) (fault : TermFault) (r : Result Resolved TermFault) → IsOldRead r → IsOldRead (if b then Err fault else r)
old-checked true fault r h = tt
old-checked false fault r h = h

old-unless : (d : Declarations) (o : Option TermFault) (r : Resolved) → IsOld r.term → IsOldRead (unless d o r)
old-unless d None r h = h
old-unless d (Some fault) r h = tt

module _ (c : Scope) where
  old-meaning : (texts : List Text) (o : Option Meaning) → IsOldRead (resolve_meaning c texts o)
  old-meaning texts None = tt
  old-meaning texts (Some (Constant f)) = old-none
  old-meaning texts (Some (Variable x q)) =
      old-checked (c.guarded && is_reserved x) ReservedName (Ok (the_variable texts x q (kind c.declarations q))) (old-variable texts x q (kind c.declarations q))

  old-kind : (texts : List Text) (x : Text) (o : Option SortId) → IsOldRead (resolve_kind c texts x o)
  old-kind texts x None = tt
  old-kind texts x (Some k) = old-variable texts x k (kind c.declarations k)

  old-last : (x : Result Resolved TermFault) → IsOldRead x →
      AreOldRead (bind x (λ r. Ok (record { terms = r.term ∷ []; kinds = r.kind ∷ []; texts = r.texts })))
  old-last (Ok r) h = old-and r.term [] h old-none
  old-last (Err fault) h = tt

  old-joined : (r : Resolved) (xs : Result AllResolved TermFault) → IsOld r.term → AreOldRead xs →
      AreOldRead (bind xs (λ rs. Ok (record { terms = r.term ∷ rs.terms; kinds = r.kind ∷ rs.kinds; texts = rs.texts })))
  old-joined r (Ok x) h hs = old-and r.term x.terms h hs
  old-joined r (Err fault) h hs = tt

  old-more : (ts : RawTerms) (x : Result Resolved TermFault) → IsOldRead x → ((texts : List Text) → AreOldRead (resolve_all c texts ts)) →
      AreOldRead (bind x (λ r. bind (resolve_all c r.texts ts) (λ rs. Ok (record { terms = r.term ∷ rs.terms; kinds = r.kind ∷ rs.kinds; texts = rs.texts }))))
  old-more ts (Ok r) h later = old-joined r (resolve_all c r.texts ts) h (later r.texts)
  old-more ts (Err fault) h later = tt

  old-over : (f : OpId) (xs : Result AllResolved TermFault) → AreOldRead xs → IsOldRead (bind xs (apply c.declarations f))
  old-over f (Ok x) h =
      old-unless c.declarations (application_fault c.declarations (is_sum (axioms c.declarations f)) f x.kinds)
      (record { term = applied (is_sum (axioms c.declarations f)) f x.terms; kind = result_of c.declarations f; texts = x.texts })
      (old-applied (is_sum (axioms c.declarations f)) f x.terms h)
  old-over f (Err fault) h = tt

  old-call : (o : Option OpId) (xs : Result AllResolved TermFault) → AreOldRead xs →
      IsOldRead (bind (or_fault UnknownName o) (λ f. bind xs (apply c.declarations f)))
  old-call None xs h = tt
  old-call (Some f) xs h = old-over f xs h

  mutual
    old : (t : RawTerm) (texts : List Text) → IsOldRead (resolve c texts t)
    old (name w) texts = old-meaning texts (resolve_name c.declarations c.names w)
    old (round t) texts = old t texts
    old (kind_variable x s ss) texts =
        old-checked (c.guarded && is_reserved (without_last x)) ReservedName
        (resolve_kind c texts (without_last x) (bracket c.names.sorts c.declarations.kinds s ss))
        (old-kind texts (without_last x) (bracket c.names.sorts c.declarations.kinds s ss))
    old (call w ts) texts = old-call (op_named c.names w) (resolve_all c texts ts) (all-old ts texts)

    all-old : (ts : RawTerms) (texts : List Text) → AreOldRead (resolve_all c texts ts)
    all-old (last t) texts = old-last (resolve c texts t) (old t texts)
    all-old (and t ts) texts = old-more ts (resolve c texts t) (old t texts) (λ us. all-old ts us)

  -- An equation of a scope whose names fit is well-made.
  equation-readable : IsFitting c → (e : Sides) (q : Equation) → IsEquationOf c e q → IsReadableEquation c.declarations q
  equation-readable fit e q is = subst (IsReadableEquation c.declarations) (sym same) read where
    made : Equation
    made = record { left = is.stand.first.term; right = is.stand.second.term }

    same : q ≡ made
    same = ap (λ t. record { left = t; right = q.right }) is.left_is ∙ ap (λ t. record { left = is.stand.first.term; right = t }) is.right_is

    read : IsReadableEquation c.declarations made
    read = record {
      kind = is.stand.first.kind;
      left = well-kinded c fit [] is.left is.stand.first is.stand.left_stands;
      right = subst (HasKind c.declarations (term is.stand.second.term)) (sym is.one_kind)
          (well-kinded c fit is.stand.first.texts is.right is.stand.second is.stand.right_stands);
      brings_none = is.brings_none;
      not_fresh = subst IsOldRead is.stand.left_stands (old is.left []);
      left_small = is.small.0;
      right_small = is.small.1;
    }

  pub equations-readable : IsFitting c → (es : List Sides) (qs : List Equation) → AreEquationsOf c es qs → All (IsReadableEquation c.declarations) qs
  equations-readable fit [] [] h = All-nil (IsReadableEquation c.declarations)
  equations-readable fit [] (q ∷ qs) h = absurd h
  equations-readable fit (e ∷ es) [] h = absurd h
  equations-readable fit (e ∷ es) (q ∷ qs) h =
      All-cons (IsReadableEquation c.declarations) q qs (equation-readable fit e q h.0) (equations-readable fit es qs h.1)

  -- there are as many equations as written ones
  pub equations-count : (es : List Sides) (qs : List Equation) → AreEquationsOf c es qs → length qs ≡ length es
  equations-count [] [] h = refl
  equations-count [] (q ∷ qs) h = absurd h
  equations-count (e ∷ es) [] h = absurd h
  equations-count (e ∷ es) (q ∷ qs) h = let k = equations-count es qs h.1 in omega arith
