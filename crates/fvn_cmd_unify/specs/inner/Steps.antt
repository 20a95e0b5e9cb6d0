-- What the steps of `unify` find and reply.
use Rattle.std.specs.Prelude.{ℕ, List}
use Rattle.fvn_base.specs.declared.limits.TheConstants.{TERM_SYMBOLS, UNIFIERS}
use Rattle.fvn_flat.specs.declared.solver.Pairs.{Pairs}
use Rattle.fvn_flat.specs.declared.solver.Solved.{Solved}
use Rattle.fvn_problems.specs.declared.problem.Problem.{Problem}
use Rattle.fvn_module.specs.Contents.{Contents}
use Rattle.fvn_module_loading.specs.Loading.{IsLoaded}
use Rattle.fvn_axunify.specs.Solved.{IsSolvedAs}
use Rattle.fvn_axunify.specs.Exact.{IsExact}
use Rattle.fvn_axunify.specs.Coarser.{HoldsCoarserOnes}
use Rattle.fvn_cmd.specs.declared.status.Status.{Status}
use Rattle.fvn_cmd_unify.specs.Asked.{AreFlattened}
use Rattle.fvn_cmd_unify.specs.Replies.{IsUnifyReply}

-- what a solver found answers the problem's pairs in flat form
pub record IsSolved (m : Contents) (p : Problem) (r : Solved) : Type 0 where
  pub given : Pairs
  pub flattened : AreFlattened m p given
  pub answer : IsSolvedAs m.signature given 0 UNIFIERS TERM_SYMBOLS r
  pub exact : IsExact given 0 UNIFIERS TERM_SYMBOLS r
  pub coarser : HoldsCoarserOnes m.signature given r

-- replies to a word, whichever bytes are loaded as this module
abbrev pub RepliesIn : Contents → List ℕ → Status → List ℕ → Type 0
RepliesIn m word status text = (bytes : List ℕ) → IsLoaded bytes m → IsUnifyReply bytes word status text
