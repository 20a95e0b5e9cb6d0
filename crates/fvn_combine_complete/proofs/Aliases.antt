-- The summands of values as pieces that are laid out, and no shared class that is a sum of a single class.
use Rattle.std.proofs.Common.{◌≡◌, ℕ, ◌<◌, ◌≤◌, true, List, [], length, get_or, sym, ap, ◌∙◌, inl, inr, arith, All, Contains}
use Rattle.std.specs.Prelude.{Bool}
use Rattle.std.proofs.lemmas.Bool.{cases_lt}
use Rattle.std.proofs.lemmas.List.Elements.{All-contains_itself, All-weaker}
use Rattle.fvn_terms.specs.declared.plain.OpId.{OpId}
use Rattle.fvn_terms.specs.declared.declarations.Declarations.{Declarations}
use Rattle.fvn_forms.specs.Flat.{FlatTerm}
use Rattle.fvn_forms.specs.InOrder.{SameCounts}
use Rattle.fvn_forms.specs.Canon.{parts}
use Rattle.fvn_forms.proofs.InOrder.{sort_same_counts, length_sort}
use Rattle.fvn_lindio.specs.declared.system.System.{System}
use Rattle.fvn_lindio.specs.Systems.{IsMinimal, IsUnused, rows_of}
use Rattle.fvn_acunify.specs.ValidChoice.{chosen, column_sum}
use Rattle.fvn_combine_supports.specs.Pieces.{has_some, number_of}
use Rattle.fvn_combine_supports.specs.Laws.{MadeUpByTaken}
use Rattle.fvn_combine_complete.specs.LaidOut.{laid_out}
use Rattle.fvn_combine_complete.specs.Laws.{IsChosen}
use Rattle.fvn_combine_complete.proofs.Laying.{laid_is_counted, one_laid}

same_length : (l m : List FlatTerm) → SameCounts l m → length l ≡ length m
same_length l m h = sym (length_sort l) ∙ ap length (sort_same_counts l m h) ∙ length_sort m

module _ (d : Declarations) (f : OpId) (values : ℕ → FlatTerm) (columns : List ℕ) (system : System) (basis : List (List ℕ)) (minimal : (v : List ℕ) → Contains basis v → IsMinimal system.columns (rows_of system) v) (constants : List ℕ) (may_be_zero : List Bool) (ch : IsChosen d f values columns system basis constants may_be_zero) where
  sized : All (λ v. length v ≡ system.columns) basis
  sized = All-weaker (Contains basis) (λ v. length v ≡ system.columns) (λ v c. (minimal v c).solves.sized) basis (All-contains_itself basis)

  -- the summands of the value of a used column are the pieces that are laid out there
  pub laid_out_are : (j : ℕ) → j < length columns → (IsUnused (rows_of system) j → ⊥) → SameCounts (parts d f (values (get_or columns j 0))) (laid_out j ch.pieces basis)
  laid_out_are j l used q = sym ((ch.counts q).used j l used) ∙ sym (laid_is_counted system.columns basis sized ch.counted ch.pieces ch.made_up q j)

  -- where the value has two summands, no vector with a constant is alone
  pub no_alias : MadeUpByTaken → (i j c : ℕ) → i < length basis → has_some (get_or ch.pieces i []) ≡ true → j < length columns → (IsUnused (rows_of system) j → ⊥) → Contains constants c → 2 ≤ length (parts d f (values (get_or columns j 0))) → 0 < get_or (get_or basis i []) j 0 → 0 < get_or (get_or basis i []) c 0 → 2 ≤ column_sum j (chosen (number_of ch.pieces) basis)
  no_alias law i j c within some l used m two p q = elim (cases_lt (column_sum j (chosen (number_of ch.pieces) basis)) 2) [
    | inr h ↦ h
    | inl few ↦
        let is = (law system.columns basis sized ch.counted ch.pieces ch.made_up).0 in
        let e = ap (column_sum j) is in
        let piece = ch.stand.piece i c within m some q in
        let one : length (get_or ch.pieces i []) ≡ 1 = ap length piece in
        let laid = one_laid j ch.pieces basis i within one p (omega (arith, few, e)) in
        let same = same_length (parts d f (values (get_or columns j 0))) (laid_out j ch.pieces basis) (laid_out_are j l used) in
        absurd (omega (arith, laid, same, two))
  ]
