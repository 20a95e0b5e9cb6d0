-- One subterm replaced, and finite lists of steps.
use Rattle.fvn_terms.specs.declared.plain.OpId.{OpId}
use Rattle.fvn_terms.specs.Term.{Term, Terms, app, more}

mutual
  -- the second term is the first with one subterm replaced by one that R relates to it
  pub data AtOnePlace (R : Term → Term → Type 0) : Term → Term → Type 0 where
    here : {t u : Term} → R t u → AtOnePlace R t u
    inside : {f : OpId} {ts us : Terms} → AmongOnePlace R ts us → AtOnePlace R (app f ts) (app f us)

  -- the same inside one term of a list
  pub data AmongOnePlace (R : Term → Term → Type 0) : Terms → Terms → Type 0 where
    first : {t u : Term} {ts : Terms} → AtOnePlace R t u → AmongOnePlace R (more t ts) (more u ts)
    later : {t : Term} {ts us : Terms} → AmongOnePlace R ts us → AmongOnePlace R (more t ts) (more t us)

-- a finite list leads from the first to the second, each member a step from the one before
pub data Leads {A : Type 0} (R : A → A → Type 0) : A → A → Type 0 where
  stop : {t : A} → Leads R t t
  step : {t u v : A} → R t u → Leads R u v → Leads R t v
