-- By the identity and the kind.
use Rattle.std.proofs.Common.{◌≡◌, refl, sym, ◌∙◌, Some, None}
use Rattle.fvn_combine_candidates.proofs.Absorbing.{neutral_by, neutral_without}
use Rattle.fvn_combine_candidates.proofs.neutral.is_neutral.Goals as goal

pub returns-in-None : goal.returns-in-None
returns-in-None c = (λ e. cc, λ n. let e : None ≡ Some n.unit = sym c.in-None.is ∙ c.identity.ensures ∙ n.is_identity in cc)

pub returns-in-None-kind_given : goal.returns-in-None-kind_given
returns-in-None-kind_given c = (λ _. neutral_without c.args.sig.now c.args.f c.in-Some.e (sym c.identity.ensures ∙ c.in-Some.is) c.in-None-kind_given.ensures, λ _. refl)

pub returns-in-Some-kind_given : goal.returns-in-Some-kind_given
returns-in-Some-kind_given c =
    let by = neutral_by c.args.sig.now c.args.f c.in-Some.e (sym c.identity.ensures ∙ c.in-Some.is) c.in-Some-kind_given.of c.in-Some-kind_given.ensures in
    (λ t. by.0 (c.all_pass.ensures.0 t), λ n. c.all_pass.ensures.1 (by.1 n))
