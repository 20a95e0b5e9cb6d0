-- Patterns and targets that stand in two lists.
use Rattle.std.proofs.Common.{◌≡◌, List, [], ◌∷◌, ◌++◌, length, Option, arith}
use Rattle.std.specs.Prelude.{◌↔◌}
use Rattle.std.specs.List.{AllZip}
use Rattle.fvn_terms.specs.declared.plain.Var.{Var}
use Rattle.fvn_terms.specs.declared.declarations.Declarations.{Declarations}
use Rattle.fvn_forms.specs.Flat.{FlatTerm}
use Rattle.fvn_forms.specs.Canon.{inst}
use Rattle.fvn_flat.specs.Bindings.{Bindings}
use Rattle.fvn_match.specs.inner.Candidates.{Values, IsSolution, Finds}
use Rattle.fvn_match.specs.inner.Goals.{AllMake}
use Rattle.fvn_match.proofs.Finding.{found_same}

-- what holds place by place, taken apart and put together
pub zip_both : {A B : Type 0} (R : A → B → Type 0) (xs zs : List A) (ys ws : List B) → length xs ≡ length ys → AllZip R (xs ++ zs) (ys ++ ws) ↔ (AllZip R xs ys × AllZip R zs ws)
zip_both R [] zs [] ws e = (λ h. (tt, h), λ h. h.1)
zip_both R [] zs (y ∷ ys) ws e = absurd (omega arith)
zip_both R (x ∷ xs) zs [] ws e = absurd (omega arith)
zip_both R (x ∷ xs) zs (y ∷ ys) ws e = let k = zip_both R xs zs ys ws (omega arith) in (λ h. let z = k.0 h.1 in ((h.0, z.0), z.1), λ h. (h.0.0, k.1 (h.0.1, h.1)))

-- both lists ask what is asked of them together
pub found_both : (d : Declarations) (ps qs ts us : List FlatTerm) → length ps ≡ length ts → (vars : List Var) (o : Option Bindings) → Finds vars (IsSolution d [] (λ c. AllMake d ps ts c × (AllMake d qs us c × Unit {0}))) o → Finds vars (IsSolution d [] (λ c. AllMake d (ps ++ qs) (ts ++ us) c × Unit {0})) o
found_both d ps qs ts us e vars o f = found_same vars d [] (λ c. AllMake d ps ts c × (AllMake d qs us c × Unit {0})) (λ c. AllMake d (ps ++ qs) (ts ++ us) c × Unit {0}) (λ c k a. same c) o f
  where
    same : (c : Values) → (AllMake d ps ts c × (AllMake d qs us c × Unit {0})) ↔ (AllMake d (ps ++ qs) (ts ++ us) c × Unit {0})
    same c = let k = zip_both (λ p t. inst d c p ≡ t) ps qs ts us e in (λ h. (k.1 (h.0, h.1.0), tt), λ h. let z = k.0 h.0 in (z.0, (z.1, tt)))
