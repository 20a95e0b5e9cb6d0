-- What is found where the same is asked in other words.
use Rattle.std.proofs.Common.{◌≡◌, true, false, List, Option, Some, None}
use Rattle.std.specs.Prelude.{◌↔◌, Result, Ok, Err, is_some, IfOk}
use Rattle.fvn_terms.specs.declared.plain.Var.{Var}
use Rattle.fvn_terms.specs.declared.declarations.Declarations.{Declarations}
use Rattle.fvn_flat.specs.Bindings.{Bindings}
use Rattle.fvn_match.specs.inner.Candidates.{Values, IsCandidate, Agrees, IsSolution, Finds}

module _ (vars : List Var) (d : Declarations) (b : Bindings) where
  -- the two ask the same of the candidates that agree
  abbrev pub AsksSame : (Values → Type 0) → (Values → Type 0) → Type 0
  AsksSame P Q = (c : Values) → IsCandidate d c → Agrees b c → P c ↔ Q c

  pub found_same : (P Q : Values → Type 0) → AsksSame P Q → (r : Option Bindings) → Finds vars (IsSolution d b P) r → Finds vars (IsSolution d b Q) r
  found_same P Q same None f = λ c s. f c record { candidate = s.candidate; agrees = s.agrees; holds = (same c s.candidate s.agrees).1 s.holds }
  found_same P Q same (Some s) f = let k = f.1 in (f.0, record { candidate = k.candidate; agrees = k.agrees; holds = (same f.0 k.candidate k.agrees).0 k.holds }, f.2)

  pub if_found_same : {E : Type 0} (P Q : Values → Type 0) → AsksSame P Q → (r : Result (Option Bindings) E) → IfOk r (Finds vars (IsSolution d b P)) → IfOk r (Finds vars (IsSolution d b Q))
  if_found_same P Q same (Ok r) f = found_same P Q same r f
  if_found_same P Q same (Err e) f = tt

  -- what was found by one way is found
  pub found_first : (P Q : Values → Type 0) → ((c : Values) → IsCandidate d c → Agrees b c → P c → Q c) → (r : Option Bindings) → is_some r ≡ true → Finds vars (IsSolution d b P) r → Finds vars (IsSolution d b Q) r
  found_first P Q way None e f = cc
  found_first P Q way (Some s) e f = let k = f.1 in (f.0, record { candidate = k.candidate; agrees = k.agrees; holds = way f.0 k.candidate k.agrees k.holds }, f.2)

  -- where nothing was found, nothing does what was asked
  pub found_none : (P : Values → Type 0) → (r : Option Bindings) → is_some r ≡ false → Finds vars (IsSolution d b P) r → (c : Values) → IsCandidate d c → Agrees b c → P c → ⊥
  found_none P None e f c candidate agrees holds = f c record { candidate = candidate; agrees = agrees; holds = holds }
  found_none P (Some s) e f c candidate agrees holds = cc

  -- nothing is to be found
  pub nothing_found : (Q : Values → Type 0) → ((c : Values) → IsCandidate d c → Agrees b c → Q c → ⊥) → Finds vars (IsSolution d b Q) None
  nothing_found Q never c s = never c s.candidate s.agrees s.holds
