-- The names of the variables of a problem, and of a term, differ from one another, so that what a text binds in it is determined.
use Rattle.std.proofs.Common.{◌≡◌, ◌≢◌, ℕ, Bool, true, false, List, [], ◌∷◌, Option, Some, None, Result, Ok, Err, refl, sym, ◌∙◌, subst, arith}
use Rattle.std.specs.Prelude.{◌&&◌, if◌then◌else◌, IfOk, AllPairs}
use Rattle.std.proofs.lemmas.List.{get_or_default}
use Rattle.std.proofs.lemmas.List.Quantifiers.{all_pairs_push}
use Rattle.fvn_terms.specs.declared.plain.OpId.{OpId}
use Rattle.fvn_terms.specs.declared.plain.SortId.{SortId}
use Rattle.fvn_terms.specs.declared.plain.Plain.{Plain}
use Rattle.fvn_terms.specs.declared.declarations.Declarations.{Declarations}
use Rattle.fvn_terms.specs.Signature.{kind}
use Rattle.fvn_syntax.specs.declared.names.Names.{Names}
use Rattle.fvn_problems.specs.declared.problem.Problem.{Problem}
use Rattle.fvn_syntax.specs.declared.fault.TermFault.{TermFault}
use Rattle.fvn_syntax.specs.declared.fault.TermFault.TheVariants.{UnknownName, ReservedName}
use Rattle.fvn_syntax.specs.declared.naming.Meaning.{Meaning}
use Rattle.fvn_syntax.specs.declared.naming.Meaning.TheVariants.{Constant, Variable}
use Rattle.fvn_syntax.specs.Names.{resolve_name, op_named, bracket}
use Rattle.fvn_syntax.specs.Pieces.{Text, is_reserved, without_last}
use Rattle.fvn_syntax.specs.Raw.{RawTerm, RawTerms, name, call, round, kind_variable, last, and}
use Rattle.fvn_syntax.specs.Resolve.{Resolved, AllResolved, bind, or_fault, apply, the_variable, checked, resolve_meaning, resolve_kind, resolve, resolve_all}
use Rattle.fvn_syntax.specs.Scope.{Scope}
use Rattle.fvn_syntax.specs.Texts.{place, unless_at}
use Rattle.fvn_problems.specs.Problems.{IsProblem, IsPairOf, ArePairsOf}
use Rattle.fvn_problems.specs.Laws.{ProblemNamesDiffer, QueryNamesDiffer, BindingsAreDetermined, RefusedBindingsBindNothing}
use Rattle.fvn_problems.specs.Scopes.{guarded}
use Rattle.fvn_problems.specs.Spelling.{RawPair, pairs_in}
use Rattle.fvn_problems.proofs.BindingTexts.{bindings-only, bindings-none}
use Rattle.fvn_problems.proofs.Keys.{contains-text}
use Rattle.fvn_problems.proofs.Results.{after-bind, after-ok, after-unless, nothing-of}

abbrev AreDistinct : List Text → Type 0
AreDistinct texts = AllPairs (λ x y. x ≢ y) texts

none-are-distinct : AreDistinct []
none-are-distinct i j d l m = absurd (omega arith)

distinct-with : (texts : List Text) (x : Text) → AreDistinct texts → (o : Option ℕ) → place texts x ≡ o → AreDistinct (unless_at texts x o)
distinct-with texts x h (Some k) e = h
distinct-with texts x h None e =
    all_pairs_push (λ v w. v ≢ w) texts x h (λ k d l is. contains-text texts x (k, l, get_or_default texts k x d l ∙ is) e)

abbrev Kept : Resolved → Type 0
Kept r = AreDistinct r.texts

abbrev KeptAll : AllResolved → Type 0
KeptAll r = AreDistinct r.texts

checked-kept : (guarded : Bool) (x : Text) (r : Result Resolved TermFault) → IfOk r Kept → IfOk (checked guarded x r) Kept
checked-kept guarded x r f = go guarded (is_reserved x) where
  go : (g b : Bool) → IfOk (if g && b then Err ReservedName else r) Kept
  go true true = tt
  go true false = f
  go false b = f

module _ (c : Scope) where
  variable-kept : (before : List Text) (x : Text) (s k : SortId) → AreDistinct before → IfOk (checked c.guarded x (Ok (the_variable before x s k))) Kept
  variable-kept before x s k a = checked-kept c.guarded x (Ok (the_variable before x s k)) (distinct-with before x a (place before x) refl)

  meaning-kept : (before : List Text) → AreDistinct before → (m : Option Meaning) → IfOk (resolve_meaning c before m) Kept
  meaning-kept before a None = tt
  meaning-kept before a (Some (Constant f)) = a
  meaning-kept before a (Some (Variable x s)) = variable-kept before x s (kind c.declarations s) a

  kind-kept : (before : List Text) (x : Text) → AreDistinct before → (o : Option SortId) → IfOk (checked c.guarded x (resolve_kind c before x o)) Kept
  kind-kept before x a None = checked-kept c.guarded x (Err UnknownName) tt
  kind-kept before x a (Some k) = variable-kept before x k (kind c.declarations k) a

  apply-kept : (f : OpId) (r : AllResolved) → KeptAll r → IfOk (apply c.declarations f r) Kept
  apply-kept f r h = after-unless Kept c.declarations _ _ h

  mutual
    kept : (t : RawTerm) (before : List Text) → AreDistinct before → IfOk (resolve c before t) Kept
    kept (name w) before a = meaning-kept before a (resolve_name c.declarations c.names w)
    kept (round t) before a = kept t before a
    kept (kind_variable w s ss) before a = kind-kept before (without_last w) a (bracket c.names.sorts c.declarations.kinds s ss)
    kept (call w ts) before a =
        after-bind (λ f. Unit {0}) Kept (or_fault UnknownName (op_named c.names w)) (λ f. bind (resolve_all c before ts) (apply c.declarations f)) (nothing-of UnknownName (op_named c.names w))
        (λ f _. after-bind KeptAll Kept (resolve_all c before ts) (apply c.declarations f) (kept-all ts before a) (apply-kept f))

    kept-all : (ts : RawTerms) (before : List Text) → AreDistinct before → IfOk (resolve_all c before ts) KeptAll
    kept-all (last t) before a = after-bind Kept KeptAll (resolve c before t) _ (kept t before a) (λ r b. b)
    kept-all (and t ts) before a =
        after-bind Kept KeptAll (resolve c before t) _ (kept t before a)
        (λ r b. after-bind KeptAll KeptAll (resolve_all c r.texts ts) _ (kept-all ts r.texts b) (λ rs e. e))

  pair-kept : (before : List Text) (raw : RawPair) (p : Plain × Plain) (after : List Text) → IsPairOf c before raw p after → AreDistinct before → AreDistinct after
  pair-kept before raw p after q a =
      let l = after-ok Kept (resolve c before raw.left) q.left q.left_stands (kept raw.left before a) in
      subst AreDistinct (sym q.names) (after-ok Kept (resolve c q.left.texts raw.right) q.right q.right_stands (kept raw.right q.left.texts l))

  pairs-kept : (before : List Text) (rs : List RawPair) (ps : List (Plain × Plain)) (after : List Text) → ArePairsOf c before rs ps after → AreDistinct before → AreDistinct after
  pairs-kept before [] [] after q a = subst AreDistinct q a
  pairs-kept before [] (p ∷ ps) after q a = absurd q
  pairs-kept before (r ∷ rs) [] after q a = absurd q
  pairs-kept before (r ∷ rs) (p ∷ ps) after q a = pairs-kept q.0 rs ps after q.1.1 (pair-kept before r p q.0 q.1.0 a)

module _ (d : Declarations) (names : Names) (text : Text) (p : Problem) (asked : IsProblem d names text p) where
  distinct : AreDistinct p.names.texts
  distinct = pairs-kept (guarded d names) [] (pairs_in asked.raw) p.pairs p.names.texts asked.asked.pairs none-are-distinct

pub names-differ : ProblemNamesDiffer
names-differ d names bytes p is = distinct d names bytes p is

pub query-names-differ : QueryNamesDiffer
query-names-differ d names bytes q h =
    let c = guarded d names in
    subst AreDistinct (sym h.asked.names) (after-ok Kept (resolve c [] h.raw.term) h.asked.resolved h.asked.stands (kept c h.raw.term [] none-are-distinct))

pub bindings-determined : BindingsAreDetermined
bindings-determined d names text p asked bytes b e h k = bindings-only d names p bytes (distinct d names text p asked) e k b h

pub refused-bind-nothing : RefusedBindingsBindNothing
refused-bind-nothing d names text p asked bytes f h = bindings-none d names p bytes (distinct d names text p asked) f h
