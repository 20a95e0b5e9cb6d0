-- Clauses on a result of which little is known.
use Rattle.std.proofs.Common.{Result, Ok, Err, IfErr}

-- what holds of each error
pub IfErr-each : {T E : Type 0} (P : E → Type 0) (r : Result T E) → ((e : E) → P e) → IfErr r P
IfErr-each P (Ok x) h = tt
IfErr-each P (Err e) h = h e
