-- What is listed by the fields of the code is listed by the cursor.
use Rattle.std.proofs.Common.{◌≡◌, ℕ, Bool, List, Option, subst}
use Rattle.fvn_lindio.specs.Systems.{vectors_of}
use Rattle.fvn_lindio.specs.declared.system.Solution.{Solution}
use Rattle.fvn_acunify.specs.declared.theory.ColumnBounds.{ColumnBounds}
use Rattle.fvn_acunify.specs.ValidChoice.{IsListed}

-- what the code reads from its fields is what the cursor has
pub IsListed-same : {full full' : Option (List ℕ)} {constants constants' : List ℕ} {may_be_zero may_be_zero' : List Bool} {bounds bounds' : ColumnBounds} {basis basis' : List Solution} → full ≡ full' → constants ≡ constants' → may_be_zero ≡ may_be_zero' → bounds ≡ bounds' → basis ≡ basis' → (b : ℕ) → IsListed full constants may_be_zero bounds (vectors_of basis) b → IsListed full' constants' may_be_zero' bounds' (vectors_of basis') b
IsListed-same {full} {full'} {constants} {constants'} {may_be_zero} {may_be_zero'} {bounds} {bounds'} {basis} {basis'} w e f h g b listed =
    subst (λ l. IsListed full' constants' may_be_zero' bounds' (vectors_of l) b) g
    (subst (λ l. IsListed full' constants' may_be_zero' l (vectors_of basis) b) h
    (subst (λ l. IsListed full' constants' l bounds (vectors_of basis) b) f
    (subst (λ l. IsListed full' l may_be_zero bounds (vectors_of basis) b) e
    (subst (λ l. IsListed l constants may_be_zero bounds (vectors_of basis) b) w listed))))
