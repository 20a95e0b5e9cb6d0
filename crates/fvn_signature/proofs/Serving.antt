-- The arguments that a rank takes, one at a time.
use Rattle.std.proofs.Common.{◌≡◌, suc, Bool, false, List, [], ◌∷◌, length, refl, ap}
use Rattle.std.proofs.lemmas.Bool.{and_right}
use Rattle.fvn_terms.specs.declared.plain.SortId.{SortId}
use Rattle.fvn_forms.specs.Ranks.{pass_together}

-- lists that are not as long do not pass
pub pass_together-length : (test : SortId → SortId → Bool) (ss qs : List SortId) → (length ss ≡ length qs → ⊥) → pass_together test ss qs ≡ false
pass_together-length test [] [] h = absurd (h refl)
pass_together-length test [] (q ∷ qs) h = refl
pass_together-length test (s ∷ ss) [] h = refl
pass_together-length test (s ∷ ss) (q ∷ qs) h = and_right (test s q) (pass_together test ss qs) (pass_together-length test ss qs (λ e. h (ap suc e)))
