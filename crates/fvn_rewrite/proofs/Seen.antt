-- What the content of a shared term stands for.
use Rattle.std.proofs.Common.{◌≡◌, ◌+◌, ◌*◌, ◌<◌, ◌≤◌, ℕ, zero, suc, List, [], ◌∷◌, ◌++◌, length, take, get_or, refl, sym, ap, ◌∙◌, arith, Vec, Global}
use Rattle.std.proofs.lemmas.List.{take_more}
use Rattle.fvn_terms.specs.declared.plain.OpId.{OpId}
use Rattle.fvn_terms.specs.declared.plain.SortId.{SortId}
use Rattle.fvn_terms.specs.declared.plain.Plain.{Plain}
use Rattle.fvn_terms.specs.Plain.{term, terms}
use Rattle.fvn_terms.specs.Term.{more}
use Rattle.fvn_terms.proofs.Plains.{push, terms-push}
use Rattle.fvn_forms.specs.Flat.{FlatTerm, fvar, fapp, fpack}
use Rattle.fvn_forms.proofs.Sums.{fpack-funpack}
use Rattle.fvn_flat.specs.Forms.{args_of}
use Rattle.fvn_flat.specs.Weight.{places, places_all}
use Rattle.fvn_rewrite.specs.inner.SortedTerms.{SortedTerm, sapp, spack, parts_of, term_of, terms_of, weight, weight_all}
use Rattle.fvn_rewrite.specs.inner.Content.{term_in}
use Rattle.fvn_rewrite.specs.declared.shared.Content.{Content}
use Rattle.fvn_rewrite.specs.declared.shared.Content.TheVariants.{App}
use Rattle.fvn_rewrite.proofs.Values.{sunpack-spack}

module _ (inside now : Content) (t : SortedTerm) (f : OpId) (s : SortId) (n : ℕ) (ts : Vec SortedTerm Global) (items : List SortedTerm) (view : term_in inside ≡ t) (read : now ≡ inside) (is : now ≡ App f s n ts) (are : items ≡ ts.items) where
  -- an operator over the terms that it holds
  pub app_seen : t ≡ sapp f s (spack items)
  app_seen = sym view ∙ ap term_in (sym read ∙ is) ∙ ap (λ l. sapp f s (spack l)) (sym are)

  pub parts_seen : items ≡ parts_of t
  parts_seen = sym (ap parts_of app_seen ∙ sunpack-spack items)

  -- the terms that it holds weigh less
  pub parts_fall : 2 * weight_all (spack items) + 1 < 2 * weight t
  parts_fall = let e = ap weight app_seen in omega (arith, e)

-- a term of a list weighs no more than the list
pub weight_at : (l : List SortedTerm) (i : ℕ) (t : SortedTerm) → i < length l → t ≡ get_or l i t → weight t ≤ weight_all (spack l)
weight_at [] i t within is = absurd (omega arith)
weight_at (u ∷ l) zero t within is = let e = ap weight is in omega arith
weight_at (u ∷ l) (suc i) t within is = let e = weight_at l i t (omega arith) is in omega arith

terms_of-push : (l : List SortedTerm) (t : SortedTerm) → terms_of (l ++ t ∷ []) ≡ push (terms_of l) (term_of t)
terms_of-push [] t = refl
terms_of-push (u ∷ l) t = ap (more (term_of u)) (terms_of-push l t)

-- one more argument as a plain term
pub terms_of-step : (made next : List Plain) (v : Plain) (l : List SortedTerm) (i : ℕ) (t : SortedTerm) → next ≡ made ++ v ∷ [] → terms made ≡ terms_of (take i l) → term v ≡ term_of t → i < length l → t ≡ get_or l i t → terms next ≡ terms_of (take (i + 1) l)
terms_of-step made next v l i t e so_far one within is =
    ap terms e
    ∙ terms-push made v
    ∙ ap (λ ts. push ts (term v)) so_far
    ∙ ap (push (terms_of (take i l))) one
    ∙ sym (terms_of-push (take i l) t)
    ∙ ap terms_of (sym (take_more l i t within ∙ ap (λ u. take i l ++ u ∷ []) (sym is)))

-- the arguments of a form have fewer places
pub args_fall : (p : FlatTerm) (l : List FlatTerm) → l ≡ args_of p → 2 * places_all (fpack l) + 1 < 2 * places p
args_fall (fvar x) l e = let q = ap (λ m. places_all (fpack m)) e in omega (arith, q)
args_fall (fapp f joined ts) l e = let q = ap (λ m. places_all (fpack m)) e in let r = ap places_all (fpack-funpack ts) in omega (arith, q, r)
