-- What comes of a form whose normal form is compared.
use Rattle.std.proofs.Common.{ℕ, sym, subst}
use Rattle.std.specs.Prelude.{Option, None, Some}
use Rattle.fvn_forms.specs.Flat.{FlatTerm}
use Rattle.fvn_rewrite_laws.specs.Normalised.{IsForm}
use Rattle.fvn_rewrite.specs.Usable.{Rewriting, equations_by}
use Rattle.fvn_critical.specs.declared.fault.CriticalFault.{CriticalFault}
use Rattle.fvn_critical.specs.declared.fault.CriticalFault.TheVariants.{Sorts, Apart, Steps, Size, Basis, Unifiers}
use Rattle.fvn_critical.specs.inner.Comparing.{ComparedAs, AgainstAs}

pub against_compared : (m n : ℕ) (left : FlatTerm) (r : Rewriting) (form right : FlatTerm) → IsForm r.signature (equations_by r) form r.bounds right → (f : Option CriticalFault) → ComparedAs m n left right f → AgainstAs m n left r form f
against_compared m n left r form right is None e = subst (IsForm r.signature (equations_by r) form r.bounds) (sym e) is
against_compared m n left r form right is (Some (Sorts k)) h = absurd h
against_compared m n left r form right is (Some (Apart a b t u)) h = (right, is, h.0, h.1)
against_compared m n left r form right is (Some (Steps start end)) h = absurd h
against_compared m n left r form right is (Some (Size cause)) h = absurd h
against_compared m n left r form right is (Some (Basis f system)) h = absurd h
against_compared m n left r form right is (Some (Unifiers given list)) h = absurd h
