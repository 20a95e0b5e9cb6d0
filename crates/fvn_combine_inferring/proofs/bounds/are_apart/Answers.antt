-- The names and pairs of the state.
use Rattle.std.proofs.Common.{◌≡◌, ℕ, ◌<◌, List, length, get_or, sym, ◌∙◌, subst₂, All}
use Rattle.fvn_combine_inferring.specs.inner.Bounds.{is_kept}
use Rattle.fvn_combine_inferring.proofs.bounds.are_apart.Goals as goal

pub keeps_apart-requires : goal.keeps_apart-requires
keeps_apart-requires c =
    subst₂ (λ (names : List ℕ) (apart : List (ℕ × ℕ)). All (λ p. (p.0 < length names) × (p.1 < length names)) apart) (sym c.as_slice-names.ensures) (sym c.as_slice.ensures) c.requires.naming.kept

pub returns : goal.returns
returns c t =
    sym (subst₂ (λ (names : List ℕ) (apart : List (ℕ × ℕ)). c.keeps_apart.result ≡ is_kept names (get_or names c.args.i 0) (get_or names c.args.j 0) apart) c.as_slice-names.ensures c.as_slice.ensures c.keeps_apart.ensures) ∙ t
