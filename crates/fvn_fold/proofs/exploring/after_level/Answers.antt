-- which end it is, or the longer run
use Rattle.std.proofs.Common.{sym, subst, inl, inr, arith}
use Rattle.fvn_fold.specs.inner.Running.{lists_of, IsEndedAtLast}
use Rattle.fvn_fold.proofs.Rounds.{kept_first}
use Rattle.fvn_fold.proofs.exploring.after_level.Goals as goal

pub at_last-requires : goal.at_last-requires
at_last-requires c = record { kept = kept_first c.args.sig.now c.args.run.kept.items c.args.level.next.items c.requires.kept }

pub returns-then-depth-limits : goal.returns-then-depth-limits
returns-then-depth-limits c = inl (subst (λ n. IsEndedAtLast c.args.sig.now c.args.limits (lists_of c.args.run) n c.args.level.next.items c.args.level.end c.in_ok-x.x) (sym c.if-depth-limits.true) c.in_ok-x.ensures)

pub full-requires-clause-many : goal.full-requires-clause-many
full-requires-clause-many c = omega (arith, c.len.ensures, c.args.run.kept.ok.0, c.len-2.ensures, c.args.level.next.ok.0, c.if-len-room.true, c.requires.few)

pub returns-then-len-room : goal.returns-then-len-room
returns-then-len-room c = inr (inl c.in_ok-x-2.ensures)

pub next_turn-requires-clause-few : goal.next_turn-requires-clause-few
next_turn-requires-clause-few c = omega (arith, c.len.ensures, c.args.run.kept.ok.0, c.len-2.ensures, c.args.level.next.ok.0, c.if-len-room.false, c.requires.few)
