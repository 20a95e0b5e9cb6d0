-- The text at the place of a text.
use Rattle.std.proofs.Common.{◌≡◌, ℕ, zero, suc, ◌+◌, ◌-◌, ◌≤◌, Bool, true, false, cond, List, [], ◌∷◌, Option, Some, None, refl, sym, ap, ◌∙◌, arith}
use Rattle.std.specs.Prelude.{slice_get}
use Rattle.std.specs.List.{position_from}
use Rattle.std.specs.Str.{bytes_eq}
use Rattle.fvn_syntax.specs.Pieces.{Text}
use Rattle.fvn_syntax.specs.Texts.{place}
use Rattle.fvn_syntax.proofs.PieceLemmas.{bytes_eq-is}

-- places in lists of different texts
place-from : (text : Text) (k : ℕ) (texts : List Text) (i : ℕ) → position_from (λ t. bytes_eq text t) k texts ≡ Some i → (k ≤ i) × (slice_get texts (i - k) ≡ Some text)
place-from text k [] i h = (let f : None ≡ Some i = h in cc)
place-from text k (t ∷ ts) i h = go (bytes_eq text t) refl (place-from text (k + 1) ts i) h where
  go : (b : Bool) → bytes_eq text t ≡ b → (position_from (λ u. bytes_eq text u) (k + 1) ts ≡ Some i → (k + 1 ≤ i) × (slice_get ts (i - (k + 1)) ≡ Some text)) →
      cond b (Some k) (position_from (λ u. bytes_eq text u) (k + 1) ts) ≡ Some i → (k ≤ i) × (slice_get (t ∷ ts) (i - k) ≡ Some text)
  go true e later f =
      let is : k ≡ i = cc in
      let z : i - k ≡ zero = omega arith in
      (omega arith, ap (slice_get (t ∷ ts)) z ∙ ap Some (sym (bytes_eq-is text t e)))
  go false e later f =
      let g = later f in
      let l = g.0 in
      let z : i - k ≡ suc (i - (k + 1)) = omega arith in
      (omega arith, ap (slice_get (t ∷ ts)) z ∙ g.1)

pub place-text : (texts : List Text) (text : Text) (i : ℕ) → place texts text ≡ Some i → slice_get texts i ≡ Some text
place-text texts text i h = let g = place-from text 0 texts i h in let z : i - 0 ≡ i = omega arith in ap (slice_get texts) (sym z) ∙ g.1
