-- the arguments so far
use Rattle.std.proofs.Common.{List, take, map}
use Rattle.fvn_terms.specs.declared.plain.Var.{Var}
use Rattle.fvn_flat.specs.Weight.{places}
use Rattle.fvn_answer.specs.Writing.{text_of, written, bytes_of}
use Rattle.fvn_answer.specs.inner.Fronts.{Agrees, AreGathered}
use Rattle.fvn_answer.proofs.front.+term_front.Given as goal

abbrev pub decreases-term_front : goal.decreases-term_front
decreases-term_front l = places l.t.now

abbrev pub invariant-loop-u : goal.invariant-loop-u
invariant-loop-u l = (other : List Var) → Agrees l.fixed other →
    AreGathered l.fixed.known other l.exchange (bytes_of l.texts.items) l.least (map (λ u. text_of (written l.signature l.names other u)) (take l.u-index l.u-items))
