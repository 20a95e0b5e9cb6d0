-- The variables of a problem that was read are those of its pairs, and are asked for.
use Rattle.std.proofs.Common.{◌≡◌, List, [], ◌∷◌, inl, inr, sym, ◌∙◌, subst, true≢false, zero-le}
use Rattle.std.specs.Prelude.{◌++◌, Contains}
use Rattle.std.proofs.lemmas.List.Elements.{Contains-append_left, Contains-append_right, Contains-append_cases}
use Rattle.fvn_base.proofs.Membership.{contains_none}
use Rattle.fvn_terms.specs.declared.plain.Var.{Var}
use Rattle.fvn_terms.specs.declared.plain.Plain.{Plain}
use Rattle.fvn_terms.specs.declared.declarations.Declarations.{Declarations}
use Rattle.fvn_terms.specs.Plain.{term}
use Rattle.fvn_terms.specs.Substitution.{Substitution}
use Rattle.fvn_terms.specs.Unifiers.{IsInstance}
use Rattle.fvn_flat.specs.Problems.{variables, variables_of}
use Rattle.fvn_flat.specs.PlainPairs.{HasRoom}
use Rattle.fvn_flat.proofs.VariableLists.{variables_list, variables_occur}
use Rattle.fvn_syntax.specs.declared.names.Names.{Names}
use Rattle.fvn_syntax.specs.Pieces.{Text}
use Rattle.fvn_problems.specs.declared.problem.Problem.{Problem}
use Rattle.fvn_problems.specs.Laws.{ProblemNamesAreWords, ProblemNamesDiffer}
use Rattle.fvn_problems.specs.Problems.{IsProblem, HasVariables}
use Rattle.fvn_problems.specs.Scopes.{AreNamesOf}
use Rattle.fvn_problems.specs.Variables.{OccursInSides}
use Rattle.fvn_module.specs.Contents.{Contents}
use Rattle.fvn_module.specs.Readable.{IsReadable}
use Rattle.fvn_answer.specs.Asked.{AreAsked}
use Rattle.fvn_cmd_unify.specs.Asked.{pairs_of}

sides-listed : (pairs : List (Plain × Plain)) (x : Var) → OccursInSides pairs x → Contains (variables_of (pairs_of pairs)) x
sides-listed [] x o = absurd o
sides-listed (p ∷ pairs) x (inr o) = Contains-append_right (variables (term p.0) ++ variables (term p.1)) (variables_of (pairs_of pairs)) x (sides-listed pairs x o)
sides-listed (p ∷ pairs) x (inl (inl o)) =
    Contains-append_left (variables (term p.0) ++ variables (term p.1)) (variables_of (pairs_of pairs)) x (Contains-append_left (variables (term p.0)) (variables (term p.1)) x (variables_list x (term p.0) o))
sides-listed (p ∷ pairs) x (inl (inr o)) =
    Contains-append_left (variables (term p.0) ++ variables (term p.1)) (variables_of (pairs_of pairs)) x (Contains-append_right (variables (term p.0)) (variables (term p.1)) x (variables_list x (term p.1) o))

listed-sides : (pairs : List (Plain × Plain)) (x : Var) → Contains (variables_of (pairs_of pairs)) x → OccursInSides pairs x
listed-sides [] x c = contains_none x c
listed-sides (p ∷ pairs) x c = elim (Contains-append_cases (variables (term p.0) ++ variables (term p.1)) (variables_of (pairs_of pairs)) x c) [
  | inr r ↦ inr (listed-sides pairs x r)
  | inl l ↦ elim (Contains-append_cases (variables (term p.0)) (variables (term p.1)) x l) [
    | inl a ↦ inl (inl (variables_occur x (term p.0) a))
    | inr b ↦ inl (inr (variables_occur x (term p.1) b))
  ]
]

module _ (d : Declarations) (p : Problem) (vars : HasVariables d p) where
  pub listed : (x : Var) → Contains p.vars x → Contains (variables_of (pairs_of p.pairs)) x
  listed x c = sides-listed p.pairs x ((vars.exact x).0 c)

  pub asked : (x : Var) → Contains (variables_of (pairs_of p.pairs)) x → Contains p.vars x
  asked x c = (vars.exact x).1 (listed-sides p.pairs x c)

  pub instance-on_vars : (a b : Substitution) → IsInstance d (variables_of (pairs_of p.pairs)) a b → IsInstance d p.vars a b
  instance-on_vars a b h = record { after = h.after; well_sorted = h.well_sorted; equal = λ x c. h.equal x (listed x c) }

  pub instance-on_pairs : (a b : Substitution) → IsInstance d p.vars a b → IsInstance d (variables_of (pairs_of p.pairs)) a b
  instance-on_pairs a b h = record { after = h.after; well_sorted = h.well_sorted; equal = λ x c. h.equal x (asked x c) }

  pub problem-room : HasRoom (pairs_of p.pairs) 0
  problem-room = record {
    numbers = λ x c f. absurd (true≢false (sym f ∙ (vars.named x (listed-sides p.pairs x c)).not_fresh));
    small = zero-le;
  }

pub module-names : (m : Contents) → IsReadable m → AreNamesOf m.signature m.names
module-names m r = record {
  numbered = r.numbered;
  fitting = record { sorts = r.fitting.sorts; kinds = r.fitting.kinds; variables = r.fitting.variables; ops = r.fitting.ops; sums = r.fitting.sums };
}

pub problem-asked : (m : Contents) (d : Declarations) (names : Names) → d ≡ m.signature → names ≡ m.names → (word : Text) (p : Problem) → ProblemNamesAreWords → ProblemNamesDiffer → IsProblem d names word p → HasVariables d p →
    AreAsked m.signature p.names.texts p.vars
problem-asked m d names signature_is names_are word p words differ is vars =
    subst (λ x. AreAsked x p.names.texts p.vars) signature_is
    (record {
      distinct = vars.distinct;
      named = λ x c. vars.named x ((vars.exact x).0 c);
      words = words d names word p is;
      distinct_texts = differ d names word p is;
    })
