-- Pieces begin with a term exactly where the reader of forms finds one, and it is the only one.
use Rattle.std.proofs.Common.{◌≡◌, ℕ, List, [], take, drop, Option, Some, None, sym, ◌∙◌}
use Rattle.std.specs.Prelude.{option_map, IfSome, IfNone}
use Rattle.std.proofs.lemmas.List.{append-nil, take-append-drop, append_cancel_right}
use Rattle.fvn_lex.specs.Cut.{Piece}
use Rattle.fvn_syntax.specs.declared.form.Spot.TheVariants.{Wanted}
use Rattle.fvn_syntax.specs.Raw.{RawTerm, spell, IsWritten, IsTermBefore}
use Rattle.fvn_syntax.specs.inner.Form.{left_behind, behind_term}
use Rattle.fvn_syntax.proofs.FormReading.{term-read, ends-nil}
use Rattle.fvn_syntax.proofs.FormSound.{read-is_term}

pub behind_term-sound : (ps rest : List Piece) → behind_term ps ≡ Some rest → IsTermBefore rest ps
behind_term-sound ps rest h = read-is_term rest ps h

pub behind_term-complete : (ps rest : List Piece) → IsTermBefore rest ps → behind_term ps ≡ Some rest
behind_term-complete ps rest h = term-read rest ps h

-- a written term is a term alone
pub spelled-alone : (t : RawTerm) → IsWritten t → IsTermBefore [] (spell t)
spelled-alone t h = record { term = t; written = h; ends = ends-nil t; spelled = sym (append-nil (spell t)) }

module _ (row : List Piece) where
  pub taken-term : (r : Option ℕ) → option_map (λ n. drop n row) r ≡ left_behind [] Wanted row →
      IfSome r (λ n. IsTermBefore (drop n row) row)
  taken-term None h = tt
  taken-term (Some n) h = read-is_term (drop n row) row (sym h)

  pub taken-only : (r : Option ℕ) → option_map (λ n. drop n row) r ≡ left_behind [] Wanted row →
      IfSome r (λ n. (rest : List Piece) → IsTermBefore rest row → rest ≡ drop n row)
  taken-only None h = tt
  taken-only (Some n) h = λ rest k. let e : Some (drop n row) ≡ Some rest = h ∙ term-read rest row k in cc

  pub taken-none : (r : Option ℕ) → option_map (λ n. drop n row) r ≡ left_behind [] Wanted row →
      IfNone r ((rest : List Piece) → IsTermBefore rest row → ⊥)
  taken-none None h = λ rest k. let e : None ≡ Some rest = h ∙ term-read rest row k in cc
  taken-none (Some n) h = tt

  alone : (n : ℕ) → IsTermBefore (drop n row) row → IsTermBefore [] (take n row)
  alone n h =
      let e : take n row ≡ spell h.term = append_cancel_right (take n row) (spell h.term) (drop n row) (take-append-drop n row ∙ h.spelled) in
      record { term = h.term; written = h.written; ends = ends-nil h.term; spelled = e ∙ sym (append-nil (spell h.term)) }

  pub taken-alone : (r : Option ℕ) → option_map (λ n. drop n row) r ≡ left_behind [] Wanted row →
      IfSome r (λ n. IsTermBefore [] (take n row))
  taken-alone None h = tt
  taken-alone (Some n) h = alone n (read-is_term (drop n row) row (sym h))
