-- the texts of the arguments so far
use Rattle.std.proofs.Common.{◌≡◌, take, map}
use Rattle.fvn_flat.specs.Weight.{places}
use Rattle.fvn_answer.specs.Writing.{text_of, written, bytes_of}
use Rattle.fvn_answer.proofs.texts.+term_text.Given as goal

abbrev pub decreases-term_text : goal.decreases-term_text
decreases-term_text l = places l.t.now

abbrev pub invariant-loop-u : goal.invariant-loop-u
invariant-loop-u l =
    bytes_of l.texts.items ≡ map (λ u. text_of (written l.signature l.names l.order u)) (take l.u-index l.u-items)
