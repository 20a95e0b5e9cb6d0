-- Heads refuse the term, or a pattern without variables is another form.
use Rattle.std.proofs.Common.{◌≡◌, true, subst}
use Rattle.std.specs.Prelude.{not}
use Rattle.std.proofs.lemmas.Bool.{false≢true}
use Rattle.fvn_match.proofs.Closed.{closed_lost}
use Rattle.fvn_match.proofs.apart.is_other.Goals as goal

pub heads_allow-may-requires : goal.heads_allow-may-requires
heads_allow-may-requires c = record {
  pattern = record { flat = c.requires.pattern; kinded = (c.requires.of_kind, c.requires.pattern_kind) };
  target = record { flat = c.requires.target; kinded = (c.requires.of_kind, c.requires.target_kind) };
}

pub returns-then-not-may : goal.returns-then-not-may
returns-then-not-may c = λ yes. c.heads_allow-may.ensures c.if-not-may.true

pub returns : goal.returns
returns c = λ yes.
    closed_lost c.args.sig.now c.args.p.now c.args.t.now c.requires.pattern (c.is_closed-closed.ensures c.if-not-closed.false)
    (λ e. false≢true (subst (λ b. not b ≡ true) (c.same.ensures.exact.1 e) yes))
