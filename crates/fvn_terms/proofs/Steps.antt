-- Finite lists of steps, and steps at one place.
use Rattle.std.proofs.Common.{◌≡◌, refl}
use Rattle.fvn_terms.specs.declared.plain.OpId.{OpId}
use Rattle.fvn_terms.specs.Term.{Term, Terms, app, none, more}
use Rattle.fvn_terms.specs.Substitution.{Substitution, apply, apply_all}
use Rattle.fvn_terms.specs.Places.{AtOnePlace, AmongOnePlace, here, inside, first, later, Leads, stop, step}

pub Leads-append : {A : Type 0} {R : A → A → Type 0} {t u v : A} → Leads R t u → Leads R u v → Leads R t v
Leads-append stop q = q
Leads-append (step r p) q = step r (Leads-append p q)

pub Leads-reverse : {A : Type 0} {R : A → A → Type 0} → ((t u : A) → R t u → R u t) → {t u : A} → Leads R t u → Leads R u t
Leads-reverse h stop = stop
Leads-reverse h (step {t} {u} r p) = Leads-append (Leads-reverse h p) (step (h t u r) stop)

pub Leads-map : {A B : Type 0} {R : A → A → Type 0} {Q : B → B → Type 0} (f : A → B) → ((t u : A) → R t u → Q (f t) (f u)) → {t u : A} → Leads R t u → Leads Q (f t) (f u)
Leads-map f h stop = stop
Leads-map f h (step {t} {u} r p) = step (h t u r) (Leads-map f h p)

pub Leads_nowhere : {A : Type 0} {R : A → A → Type 0} → ((t u : A) → R t u → ⊥) → {t u : A} → Leads R t u → t ≡ u
Leads_nowhere h stop = refl
Leads_nowhere h (step {t} {u} r p) = absurd (h t u r)

mutual
  pub AtOnePlace-reverse : {R : Term → Term → Type 0} → ((t u : Term) → R t u → R u t) → {t u : Term} → AtOnePlace R t u → AtOnePlace R u t
  AtOnePlace-reverse h (here {t} {u} r) = here (h t u r)
  AtOnePlace-reverse h (inside p) = inside (AmongOnePlace-reverse h p)

  pub AmongOnePlace-reverse : {R : Term → Term → Type 0} → ((t u : Term) → R t u → R u t) → {ts us : Terms} → AmongOnePlace R ts us → AmongOnePlace R us ts
  AmongOnePlace-reverse h (first p) = first (AtOnePlace-reverse h p)
  AmongOnePlace-reverse h (later p) = later (AmongOnePlace-reverse h p)

-- a step under a substitution
mutual
  pub AtOnePlace-apply : {R Q : Term → Term → Type 0} (s : Substitution) → ((t u : Term) → R t u → Q (apply s t) (apply s u)) → {t u : Term} → AtOnePlace R t u → AtOnePlace Q (apply s t) (apply s u)
  AtOnePlace-apply s h (here {t} {u} r) = here (h t u r)
  AtOnePlace-apply s h (inside p) = inside (AmongOnePlace-apply s h p)

  pub AmongOnePlace-apply : {R Q : Term → Term → Type 0} (s : Substitution) → ((t u : Term) → R t u → Q (apply s t) (apply s u)) → {ts us : Terms} → AmongOnePlace R ts us → AmongOnePlace Q (apply_all s ts) (apply_all s us)
  AmongOnePlace-apply s h (first p) = first (AtOnePlace-apply s h p)
  AmongOnePlace-apply s h (later p) = later (AmongOnePlace-apply s h p)

-- a weaker relation
mutual
  pub AtOnePlace-weaker : {R Q : Term → Term → Type 0} → ((t u : Term) → R t u → Q t u) → {t u : Term} → AtOnePlace R t u → AtOnePlace Q t u
  AtOnePlace-weaker h (here {t} {u} r) = here (h t u r)
  AtOnePlace-weaker h (inside p) = inside (AmongOnePlace-weaker h p)

  pub AmongOnePlace-weaker : {R Q : Term → Term → Type 0} → ((t u : Term) → R t u → Q t u) → {ts us : Terms} → AmongOnePlace R ts us → AmongOnePlace Q ts us
  AmongOnePlace-weaker h (first p) = first (AtOnePlace-weaker h p)
  AmongOnePlace-weaker h (later p) = later (AmongOnePlace-weaker h p)

mutual
  pub nowhere : {R : Term → Term → Type 0} → ((t u : Term) → R t u → ⊥) → {t u : Term} → AtOnePlace R t u → ⊥
  nowhere h (here {t} {u} r) = h t u r
  nowhere h (inside p) = nowhere_among h p

  pub nowhere_among : {R : Term → Term → Type 0} → ((t u : Term) → R t u → ⊥) → {ts us : Terms} → AmongOnePlace R ts us → ⊥
  nowhere_among h (first p) = nowhere h p
  nowhere_among h (later p) = nowhere_among h p

-- each term leads to the one in its place
pub data EachLeads (R : Term → Term → Type 0) : Terms → Terms → Type 0 where
  each_none : EachLeads R none none
  each_more : {t u : Term} {ts us : Terms} → Leads (AtOnePlace R) t u → EachLeads R ts us → EachLeads R (more t ts) (more u us)

pub Leads_among : {R : Term → Term → Type 0} {ts us : Terms} → EachLeads R ts us → Leads (AmongOnePlace R) ts us
Leads_among each_none = stop
Leads_among (each_more {t} {u} {ts} {us} p q) =
    Leads-append (Leads-map (λ (v : Term). more v ts) (λ _ _. first) p) (Leads-map (more u) (λ _ _. later) (Leads_among q))

pub Leads_inside : {R : Term → Term → Type 0} (f : OpId) {ts us : Terms} → EachLeads R ts us → Leads (AtOnePlace R) (app f ts) (app f us)
Leads_inside f e = Leads-map (app f) (λ _ _. inside) (Leads_among e)
