-- Sums and exchanges modulo the axioms.
use Rattle.std.proofs.Common.{◌≡◌, inl, inr, List, [], ◌∷◌, refl, ap}
use Rattle.fvn_terms.specs.declared.plain.OpId.{OpId}
use Rattle.fvn_terms.specs.declared.plain.Plain.{Plain}
use Rattle.fvn_terms.specs.declared.declarations.Declarations.{Declarations}
use Rattle.fvn_terms.specs.Signature.{axioms}
use Rattle.fvn_terms.specs.Term.{Term, Terms, none, more}
use Rattle.fvn_terms.specs.Plain.{term, terms}
use Rattle.fvn_terms.specs.Substitution.{Substitution, apply, apply_all}
use Rattle.fvn_terms.specs.Places.{here, stop, step}
use Rattle.fvn_terms.specs.Equality.{two, IsCommutative, IsAssociative, IsAxiomEitherWay, BEqual, swap, shift}
use Rattle.fvn_terms.proofs.Equal.{BEqual-trans, BEqual-inside}
use Rattle.fvn_terms.proofs.Steps.{EachLeads, each_none, each_more}
use Rattle.fvn_forms.specs.Flat.{nest}
use Rattle.fvn_syntax.specs.Resolve.{nested}

pub apply-nest : (s : Substitution) (f : OpId) (t : Term) (ts : Terms) → apply s (nest f t ts) ≡ nest f (apply s t) (apply_all s ts)
apply-nest s f t none = refl
apply-nest s f t (more u us) = ap (two f (apply s t)) (apply-nest s f u us)

pub term-nested : (f : OpId) (t : Plain) (us : List Plain) → term (nested f t us) ≡ nest f (term t) (terms us)
term-nested f t [] = refl
term-nested f t (u ∷ us) = ap (two f (term t)) (term-nested f u us)

module _ (d : Declarations) (f : OpId) where
  abbrev Each : Terms → Terms → Type 0
  Each = EachLeads (IsAxiomEitherWay d)

  in-two : {t u v w : Term} → BEqual d t u → BEqual d v w → BEqual d (two f t v) (two f u w)
  in-two p q = BEqual-inside d f (each_more p (each_more q each_none))

  pub nest-each : {t u : Term} {ts us : Terms} → BEqual d t u → Each ts us → BEqual d (nest f t ts) (nest f u us)
  nest-each p each_none = p
  nest-each p (each_more q qs) = in-two p (nest-each q qs)

  module _ (c : IsCommutative (axioms d f)) where
    pub exchanged : (t u : Term) → BEqual d (two f t u) (two f u t)
    exchanged t u = step (here (inl (swap c))) stop

    module _ (a : IsAssociative (axioms d f)) where
      -- the first two summands are exchanged
      pub first-exchanged : (t u : Term) (rest : Terms) → BEqual d (nest f t (more u rest)) (nest f u (more t rest))
      first-exchanged t u none = exchanged t u
      first-exchanged t u (more v rest) =
          BEqual-trans d (step (here (inr (shift a))) stop)
          (BEqual-trans d (in-two (exchanged t u) stop) (step (here (inl (shift a))) stop))

      pub behind : (t u : Term) (us : Terms) (v : Term) (vs : Terms) → BEqual d (nest f u us) (nest f v vs) → BEqual d (nest f t (more u us)) (nest f t (more v vs))
      behind t u us v vs p = in-two stop p
