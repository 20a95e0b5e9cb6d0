-- Sides of equations are terms.
use Rattle.std.proofs.Common.{List, [], ◌∷◌, ◌++◌, refl, sym, ap, subst}
use Rattle.std.proofs.lemmas.List.{append_cancel_right}
use Rattle.fvn_lex.specs.Cut.{Piece}
use Rattle.fvn_syntax.specs.Raw.{RawTerm, name, call, round, kind_variable, spell, EndsBefore, IsTermBefore}
use Rattle.fvn_syntax.proofs.FormExact.{spelled-alone}
use Rattle.fvn_module_syntax.specs.Spelling.{equals}
use Rattle.fvn_module_syntax.specs.Written.{IsSide}

-- a side is a term alone
pub side-alone : (rest side : List Piece) → IsSide rest side → IsTermBefore [] side
side-alone rest side h = subst (IsTermBefore []) (sym h.spelled) (spelled-alone h.term h.written)

-- a side is a term with the rest behind it
pub side-before : (rest side : List Piece) → IsSide rest side → IsTermBefore rest (side ++ rest)
side-before rest side h =
    record { term = h.term; written = h.written; ends = h.ends; spelled = ap (λ x. x ++ rest) h.spelled }

-- what is a term with the rest behind it is a side
pub before-side : (rest side : List Piece) → IsTermBefore rest (side ++ rest) → IsSide rest side
before-side rest side h =
    record { term = h.term; written = h.written; ends = h.ends; spelled = append_cancel_right side (spell h.term) rest h.spelled }

pub ends-equals : (t : RawTerm) (rest : List Piece) → EndsBefore (equals ∷ rest) t
ends-equals (name w) rest = (refl, λ _. refl)
ends-equals (call w ts) rest = tt
ends-equals (round t) rest = tt
ends-equals (kind_variable x s ss) rest = tt

-- whatever stands behind = , the left side ends before it
pub left-side : (rest left : List Piece) → IsSide (equals ∷ []) left → IsSide (equals ∷ rest) left
left-side rest left h = record { term = h.term; written = h.written; ends = ends-equals h.term rest; spelled = h.spelled }
