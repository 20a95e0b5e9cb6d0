-- The law, by its lemmas.
use Rattle.fvn_rewrite_laws.proofs.Losing.{choice_loses, choices_decrease, decreases_by_choice}
use Rattle.fvn_rewrite_laws.proofs.Collapsing.{variable_choice, identity_choice, choice_to_variable, choice_to_identity}
use Rattle.fvn_rewrite_laws.proofs.laws.choices_are_enough.Goals as goal

pub returns : goal.returns
returns c = λ d good completed. record {
  decreasing = λ left right kinds within. (decreases_by_choice d good completed left right kinds within, choices_decrease d good completed left right kinds within);
  losing = λ left right kinds within. choice_loses d good completed left right kinds within;
  to_variable = λ t h. (
    λ c. let w = variable_choice d good completed t h.0 h.1 c in (w.env, w.choice, w.is),
    λ w. choice_to_variable d good completed t h.0 h.1 w.0 w.1 w.2,
  );
  to_identity = λ t h. (
    λ c. let w = identity_choice d good completed t h.0 h.1 c in (w.env, w.choice, (w.is.0, w.is.1.0, w.is.1.1)),
    λ w. choice_to_identity d good completed t h.0 h.1 w.0 w.1 w.2.0 w.2.1 w.2.2,
  );
}
