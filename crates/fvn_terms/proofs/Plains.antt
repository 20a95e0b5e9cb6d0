-- Lists of plain terms and the lists of terms that they stand for.
use Rattle.std.proofs.Common.{◌≡◌, ℕ, ◌+◌, ◌<◌, List, [], ◌∷◌, ◌++◌, length, take, get_or, refl, sym, ap, ◌∙◌, arith}
use Rattle.std.proofs.lemmas.List.{take_more}
use Rattle.fvn_terms.specs.declared.plain.Plain.{Plain}
use Rattle.fvn_terms.specs.declared.plain.Plain.TheVariants.{Var, App}
use Rattle.fvn_terms.specs.Term.{Term, Terms, var, app, none, more, nodes, nodes_all}
use Rattle.fvn_terms.specs.Plain.{term, terms}
use Rattle.fvn_terms.specs.Substitution.{Substitution, apply, apply_all}

-- the plain term that stands for a term
abbrev pub plain_of : Term → Plain
plain_of (var x) = Var x
plain_of (app f ts) = App f ts

abbrev pub plains : Terms → List Plain
plains none = []
plains (more t ts) = plain_of t ∷ plains ts

pub plain_of-term : (t : Plain) → plain_of (term t) ≡ t
plain_of-term (Var x) = refl
plain_of-term (App f us) = refl

pub term-plain_of : (t : Term) → term (plain_of t) ≡ t
term-plain_of (var x) = refl
term-plain_of (app f ts) = refl

pub terms-plains : (ts : Terms) → terms (plains ts) ≡ ts
terms-plains none = refl
terms-plains (more t ts) = ap (λ u. more u (terms (plains ts))) (term-plain_of t) ∙ ap (more t) (terms-plains ts)

plains-terms : (ts : List Plain) → plains (terms ts) ≡ ts
plains-terms [] = refl
plains-terms (t ∷ ts) = ap (λ u. u ∷ plains (terms ts)) (plain_of-term t) ∙ ap (λ us. t ∷ us) (plains-terms ts)

pub term-injective : (t u : Plain) → term t ≡ term u → t ≡ u
term-injective t u e = sym (plain_of-term t) ∙ ap plain_of e ∙ plain_of-term u

pub terms-injective : (ts us : List Plain) → terms ts ≡ terms us → ts ≡ us
terms-injective ts us e = sym (plains-terms ts) ∙ ap plains e ∙ plains-terms us

pub terms_length : (ts us : List Plain) → terms ts ≡ terms us → length ts ≡ length us
terms_length ts us e = ap length (terms-injective ts us e)

-- one more term at the end
abbrev pub push : Terms → Term → Terms
push none u = more u none
push (more t ts) u = more t (push ts u)

pub terms-push : (ts : List Plain) (u : Plain) → terms (ts ++ u ∷ []) ≡ push (terms ts) (term u)
terms-push [] u = refl
terms-push (t ∷ ts) u = ap (more (term t)) (terms-push ts u)

pub nodes_all-push : (ts : Terms) (u : Term) → nodes_all (push ts u) ≡ nodes_all ts + nodes u
nodes_all-push none u = omega arith
nodes_all-push (more t ts) u = let e = nodes_all-push ts u in omega (arith, e)

pub apply_all-push : (s : Substitution) (ts : Terms) (u : Term) → apply_all s (push ts u) ≡ push (apply_all s ts) (apply s u)
apply_all-push s none u = refl
apply_all-push s (more t ts) u = ap (more (apply s t)) (apply_all-push s ts u)

terms-take_more : (items : List Plain) (i : ℕ) (u : Plain) → i < length items → u ≡ get_or items i u → terms (take (i + 1) items) ≡ push (terms (take i items)) (term u)
terms-take_more items i u within is = ap terms (take_more items i u within) ∙ ap (λ v. terms (take i items ++ v ∷ [])) (sym is) ∙ terms-push (take i items) u

pub nodes_all-take_more : (items : List Plain) (i : ℕ) (u : Plain) → i < length items → u ≡ get_or items i u → nodes_all (terms (take (i + 1) items)) ≡ nodes_all (terms (take i items)) + nodes (term u)
nodes_all-take_more items i u within is = ap nodes_all (terms-take_more items i u within is) ∙ nodes_all-push (terms (take i items)) (term u)

pub apply_all-take_more : (s : Substitution) (items : List Plain) (i : ℕ) (u : Plain) (made : List Plain) (v : Plain) → i < length items → u ≡ get_or items i u →
    terms made ≡ apply_all s (terms (take i items)) → term v ≡ apply s (term u) → terms (made ++ v ∷ []) ≡ apply_all s (terms (take (i + 1) items))
apply_all-take_more s items i u made v within is so_far one =
    terms-push made v ∙ ap (λ w. push w (term v)) so_far ∙ ap (push (apply_all s (terms (take i items)))) one ∙ sym (apply_all-push s (terms (take i items)) (term u)) ∙ ap (apply_all s) (sym (terms-take_more items i u within is))
