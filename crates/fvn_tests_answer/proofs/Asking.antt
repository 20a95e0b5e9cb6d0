-- The variables of problems that were read are asked for.
use Rattle.std.proofs.Common.{◌≡◌, ◌≢◌, ◌<◌, false, List, [], ◌∷◌, length, drop, arith}
use Rattle.std.specs.Prelude.{◌==◌, AllPairs, Contains}
use Rattle.fvn_base.proofs.Membership.{contains_later}
use Rattle.fvn_base.proofs.Pigeonhole.{AllPairs-tail}
use Rattle.fvn_terms.specs.declared.plain.Var.{Var}
use Rattle.fvn_terms.specs.declared.declarations.Declarations.{Declarations}
use Rattle.fvn_flat.specs.Bindings.{Bindings}
use Rattle.fvn_syntax.specs.declared.names.Names.{Names}
use Rattle.fvn_syntax.specs.Pieces.{Text}
use Rattle.fvn_problems.specs.declared.problem.Problem.{Problem}
use Rattle.fvn_problems.specs.Laws.{ProblemNamesAreWords}
use Rattle.fvn_problems.specs.Problems.{IsProblem, HasVariables}
use Rattle.fvn_problems.specs.Scopes.{AreNamesOf}
use Rattle.fvn_module.specs.Contents.{Contents}
use Rattle.fvn_module.specs.Readable.{IsReadable}
use Rattle.fvn_answer.specs.Asked.{AreAsked, HaveSorts}

-- the names of a module that was read are those of its signature
pub names-of : (m : Contents) → IsReadable m → AreNamesOf m.signature m.names
names-of m r = record {
  numbered = r.numbered;
  fitting = record { sorts = r.fitting.sorts; kinds = r.fitting.kinds; variables = r.fitting.variables; ops = r.fitting.ops; sums = r.fitting.sums };
}

pub problem-asked : (d : Declarations) (names : Names) (bytes : Text) (p : Problem) → ProblemNamesAreWords → IsProblem d names bytes p → HasVariables d p →
    AllPairs (λ v w. v ≢ w) p.names.texts → AreAsked d p.names.texts p.vars
problem-asked d names bytes p law is vars distinct = record {
  distinct = vars.distinct;
  named = λ x h. vars.named x ((vars.exact x).0 h);
  words = law d names bytes p is;
  distinct_texts = distinct;
}

-- all variables but the first

later : (vs : List Var) (x : Var) → Contains (drop 1 vs) x → Contains vs x
later [] x h = h
later (v ∷ us) x h = contains_later v us x h

rest-distinct : (vs : List Var) → AllPairs (λ x y. x ≢ y) vs → AllPairs (λ x y. x ≢ y) (drop 1 vs)
rest-distinct [] h = h
rest-distinct (v ∷ us) h = AllPairs-tail ◌≢◌ v us h

pub rest-asked : (d : Declarations) (texts : List Text) (vs : List Var) → AreAsked d texts vs → AreAsked d texts (drop 1 vs)
rest-asked d texts vs a = record {
  distinct = rest-distinct vs a.distinct;
  named = λ x h. a.named x (later vs x h);
  words = a.words;
  distinct_texts = a.distinct_texts;
}

pub rest-sorts : (d : Declarations) (vs : List Var) (s : Bindings) → HaveSorts d vs s → HaveSorts d (drop 1 vs) s
rest-sorts d vs s h x k = h x (later vs x k)

-- a list that is not empty
pub filled-list : {A : Type 0} (xs : List A) → false ≡ (length xs == 0) → 0 < length xs
filled-list [] e = cc
filled-list (x ∷ xs) e = omega arith
