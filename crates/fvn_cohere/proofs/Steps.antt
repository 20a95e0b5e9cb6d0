-- Lists that grow by one step of a loop.
use Rattle.std.proofs.Common.{◌≡◌, ◌<◌, ◌+◌, ℕ, List, [], ◌∷◌, ◌++◌, map, length, take, get_or, sym, ap, ◌∙◌}
use Rattle.std.specs.Prelude.{fold}
use Rattle.std.proofs.lemmas.List.{take_more, map_more, append_assoc, append-nil}
use Rattle.std.proofs.lemmas.List.Sums.{fold-append, fold_more}
use Rattle.fvn_terms.specs.declared.plain.Plain.{Plain}
use Rattle.fvn_terms.specs.declared.plain.Var.{Var}
use Rattle.fvn_terms.specs.declared.declarations.OpDecl.{OpDecl}
use Rattle.fvn_terms.specs.declared.plain.SortId.{SortId}
use Rattle.fvn_terms.specs.Plain.{term, terms}
use Rattle.fvn_rewrite_laws.specs.declared.shapes.Shape.{Shape}
use Rattle.fvn_flat.specs.Problems.{variables, variables_among}
use Rattle.fvn_flat.specs.Variables.{with_variable}
use Rattle.fvn_rewrite_laws.specs.Identities.{with_identity_of}

-- the identity of one more operator
pub identity-step : (ops : List OpDecl) (i : ℕ) (o : OpDecl) → i < length ops → o ≡ get_or ops i o → fold with_identity_of [] (take (i + 1) ops) ≡ with_identity_of (fold with_identity_of [] (take i ops)) o
identity-step ops i o within is = fold_more with_identity_of [] ops i o within ∙ ap (with_identity_of (fold with_identity_of [] (take i ops))) (sym is)

variables-push : (us : List Plain) (u : Plain) → variables_among (terms (us ++ u ∷ [])) ≡ variables_among (terms us) ++ variables (term u)
variables-push [] u = append-nil (variables (term u))
variables-push (t ∷ us) u = ap (λ l. variables (term t) ++ l) (variables-push us u) ∙ sym (append_assoc (variables (term t)) (variables_among (terms us)) (variables (term u)))

-- the variables of one more argument
pub variables-step : (us : List Plain) (i : ℕ) (u : Plain) (vars : List Var) → i < length us → u ≡ get_or us i u → fold with_variable vars (variables_among (terms (take (i + 1) us))) ≡ fold with_variable (fold with_variable vars (variables_among (terms (take i us)))) (variables (term u))
variables-step us i u vars within is =
    ap (λ l. fold with_variable vars (variables_among (terms l))) (take_more us i u within ∙ ap (λ p. take i us ++ p ∷ []) (sym is))
    ∙ ap (fold with_variable vars) (variables-push (take i us) u)
    ∙ fold-append with_variable vars (variables_among (terms (take i us))) (variables (term u))

-- one element more at the end, after others
pub map-append-step : {A B : Type 0} (f : A → B) (xs : List B) (ys : List A) (i : ℕ) (d : A) (z : B) → i < length ys → z ≡ f (get_or ys i d) → (xs ++ map f (take i ys)) ++ z ∷ [] ≡ xs ++ map f (take (i + 1) ys)
map-append-step f xs ys i d z within e =
    append_assoc xs (map f (take i ys)) (z ∷ [])
    ∙ ap (λ v. xs ++ (map f (take i ys) ++ v ∷ [])) e
    ∙ ap (λ l. xs ++ l) (sym (map_more f ys i d within))

-- the sort of one shape more
pub sorts-step : (list : List Shape) (front : List SortId) (i : ℕ) (d : Shape) (s : SortId) → i < length list → front ≡ map (λ (z : Shape). z.sort) (take i list) → s ≡ (get_or list i d).sort → front ++ s ∷ [] ≡ map (λ (z : Shape). z.sort) (take (i + 1) list)
sorts-step list front i d s within e is =
    ap (λ l. l ++ s ∷ []) e ∙ ap (λ q. map (λ (z : Shape). z.sort) (take i list) ++ q ∷ []) is ∙ sym (map_more (λ (z : Shape). z.sort) list i d within)
