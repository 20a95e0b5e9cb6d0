-- A choice found is valid and above all others to come; a jump passes no valid choice.
use Rattle.std.proofs.Common.{◌<◌, ◌∙◌, length, ap, sym, refl, arith}
use Rattle.std.proofs.lemmas.List.{length-take, length-append, length-drop}
use Rattle.std.proofs.lemmas.Nat.{one_shl}
use Rattle.fvn_acunify.proofs.Cursors.{IsListed-same}
use Rattle.fvn_acunify.proofs.Prefixes.{jump_skips_none}
use Rattle.fvn_acunify.proofs.choices.Choices.next.Goals as goal

pub returns-in-None-clause-greatest : goal.returns-in-None-clause-greatest
returns-in-None-clause-greatest c =
    let inv = c.loop-self.invariant in (
      (omega (arith, inv.lower), IsListed-same inv.full (c.as_slice.ensures.value ∙ inv.constants) (c.as_slice-in-loop-self.ensures.value ∙ inv.may_be_zero) inv.bounds (c.as_slice-in-loop-self-2.ensures ∙ inv.basis) _ c.in-None.ensures.listed),
      λ a pending. omega (arith, inv.left a pending),
    )

pub returns-in-None-clause-exhausted : goal.returns-in-None-clause-exhausted
returns-in-None-clause-exhausted c =
    (λ e. cc, λ none. absurd (none _ (returns-in-None-clause-greatest c).0))

pub loop-self-preserved : goal.loop-self-preserved
loop-self-preserved c =
    let inv = c.loop-self.invariant in
    let place = c.in-Some.place in
    let small : place < 128 = omega (arith, c.in-Some.ensures.place, ap length c.as_slice-in-loop-self-2.ensures, inv.bounded.few) in
    record {
      constants = inv.constants;
      may_be_zero = inv.may_be_zero;
      bounds = inv.bounds;
      basis = inv.basis;
      full = inv.full;
      bounded = inv.bounded;
      room = simp (length-take, length-append, length-drop) (omega (arith, c.loop-self.self-inside.sums.ok.0, inv.room, c.as_mut_slice.ensures.len));
      within = omega (arith, inv.within);
      lower = omega (arith, inv.lower);
      left = λ a pending. rw (one_shl place 128 small)
          (jump_skips_none _ _ _ _ _ _ place c.in-Some.ensures.dead a (omega (arith, inv.left a pending))
          (IsListed-same (sym inv.full) (sym (c.as_slice.ensures.value ∙ inv.constants)) (sym (c.as_slice-in-loop-self.ensures.value ∙ inv.may_be_zero)) (sym inv.bounds) (sym (c.as_slice-in-loop-self-2.ensures ∙ inv.basis)) a pending.1));
    }

pub returns-clause-exhausted : goal.returns-clause-exhausted
returns-clause-exhausted c =
    (λ _ a pending. omega (arith, c.loop-self.invariant.left a pending), λ _. refl)
