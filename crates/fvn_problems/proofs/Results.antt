-- What holds of the steps of reading a term, one after another.
use Rattle.std.proofs.Common.{◌≡◌, Option, Some, None, Result, Ok, Err, subst}
use Rattle.std.specs.Prelude.{IfOk}
use Rattle.fvn_terms.specs.declared.declarations.Declarations.{Declarations}
use Rattle.fvn_syntax.specs.declared.fault.TermFault.{TermFault}
use Rattle.fvn_syntax.specs.Resolve.{bind, or_fault, unless}

pub after-bind : {A B : Type 0} (P : A → Type 0) (Q : B → Type 0) (r : Result A TermFault) (next : A → Result B TermFault) →
    IfOk r P → ((a : A) → P a → IfOk (next a) Q) → IfOk (bind r next) Q
after-bind P Q (Ok a) next h f = f a h
after-bind P Q (Err fault) next h f = tt

pub after-ok : {A : Type 0} (P : A → Type 0) (r : Result A TermFault) (a : A) → r ≡ Ok a → IfOk r P → P a
after-ok P r a e h = subst (λ x. IfOk x P) e h

pub after-unless : {A : Type 0} (P : A → Type 0) (d : Declarations) (o : Option TermFault) (a : A) → P a → IfOk (unless d o a) P
after-unless P d None a h = h
after-unless P d (Some fault) a h = tt

pub nothing-of : {A : Type 0} (fault : TermFault) (o : Option A) → IfOk (or_fault fault o) (λ a. Unit {0})
nothing-of fault None = tt
nothing-of fault (Some a) = tt
