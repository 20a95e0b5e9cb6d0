-- The pair is one of those that are held.
use Rattle.std.proofs.Common.{sym, subst}
use Rattle.fvn_combine_inferring.specs.inner.Sizes.{AreInside}
use Rattle.fvn_combine_inferring.proofs.holding.note_holder.Goals as goal

pub holder-requires-clause-insides : goal.holder-requires-clause-insides
holder-requires-clause-insides c = subst (AreInside c.args.sig.now c.args.table.now c.args.state.now c.args.known.now.sorted) (sym c.as_slice-insides.ensures.value) c.requires.pairs.insides

pub returns-in_ok-note_pair-in-Some : goal.returns-in_ok-note_pair-in-Some
returns-in_ok-note_pair-in-Some c = record { insides = c.requires.pairs.insides; held = c.in_ok-note_pair-in-Some.ensures; equal = c.requires.pairs.equal }
