-- A list of flat forms as a list of marks, by which a proof tells lists of flat forms apart: each list in postfix order.
use Rattle.std.specs.Prelude.{◌≡◌, Bool, true, ◌⊎◌, List, [], ◌∷◌, Option, Some, None, refl}
use Rattle.std.proofs.Common.{◌∙◌, ap, inl, inr}
use Rattle.std.specs.Coded.{Coded, code_by, coded×, coded⊎, coded_bool, coded_list, coded_option}
use Rattle.fvn_terms.specs.declared.plain.Var.{Var}
use Rattle.fvn_terms.specs.declared.plain.OpId.{OpId}
use Rattle.fvn_terms.specs.Coded.{coded_var, coded_op}
use Rattle.fvn_forms.specs.Flat.{FlatTerm, FlatTerms, fvar, fapp, fnone, fmore}

-- the end of a list, a variable, or an operator whose arguments came before, with whether it is a sum
abbrev pub FlatMark : Type 0
FlatMark = Option (Var ⊎ (OpId × Bool))

abbrev mutual
  -- the marks of a form, and then these
  pub flat_marks_of : FlatTerm → List FlatMark → List FlatMark
  flat_marks_of (fvar x) k = Some (inl x) ∷ k
  flat_marks_of (fapp f joined ts) k = flat_marks ts (Some (inr (f, joined)) ∷ k)

  -- the marks of a list of forms, and then these
  pub flat_marks : FlatTerms → List FlatMark → List FlatMark
  flat_marks fnone k = None ∷ k
  flat_marks (fmore t ts) k = flat_marks ts (flat_marks_of t k)

-- what one mark makes of a stack of lists of forms
abbrev pub flat_push : FlatMark → List FlatTerms → List FlatTerms
flat_push None s = fnone ∷ s
flat_push (Some (inl x)) [] = []
flat_push (Some (inl x)) (ts ∷ s) = fmore (fvar x) ts ∷ s
flat_push (Some (inr f)) [] = []
flat_push (Some (inr f)) (us ∷ []) = []
flat_push (Some (inr f)) (us ∷ ts ∷ s) = fmore (fapp f.0 f.1 us) ts ∷ s

-- what marks make of a stack, one after another
abbrev pub flat_run : List FlatMark → List FlatTerms → List FlatTerms
flat_run [] s = s
flat_run (m ∷ k) s = flat_run k (flat_push m s)

-- the list on top of a stack
abbrev pub flat_top : List FlatTerms → FlatTerms
flat_top [] = fnone
flat_top (ts ∷ s) = ts

mutual
  -- the marks of a form put it before the list on top
  pub flat_run_marks_of : (t : FlatTerm) (k : List FlatMark) (ts : FlatTerms) (s : List FlatTerms) → flat_run (flat_marks_of t k) (ts ∷ s) ≡ flat_run k (fmore t ts ∷ s)
  flat_run_marks_of (fvar x) k ts s = refl
  flat_run_marks_of (fapp f joined us) k ts s = flat_run_marks us (Some (inr (f, joined)) ∷ k) (ts ∷ s)

  -- the marks of a list of forms put that list on top
  pub flat_run_marks : (ts : FlatTerms) (k : List FlatMark) (s : List FlatTerms) → flat_run (flat_marks ts k) s ≡ flat_run k (ts ∷ s)
  flat_run_marks fnone k s = refl
  flat_run_marks (fmore t ts) k s = flat_run_marks ts (flat_marks_of t k) s ∙ flat_run_marks_of t k ts s

-- the marks of a list lead back to it
pub flat_top_run : (ts : FlatTerms) → flat_top (flat_run (flat_marks ts []) []) ≡ ts
flat_top_run ts = ap flat_top (flat_run_marks ts [] [])

-- marks by their variables, or by their operators and whether these are sums
abbrev pub coded_mark : Coded FlatMark
coded_mark = coded_option (coded⊎ coded_var (coded× coded_op coded_bool))

-- a flat form as the list of it alone
abbrev pub flat_first : FlatTerms → FlatTerm
flat_first fnone = fapp (record { 0 = 0 }) true fnone
flat_first (fmore t ts) = t

-- the marks of the list of a form alone lead back to the form
pub flat_first_run : (t : FlatTerm) → flat_first (flat_top (flat_run (flat_marks (fmore t fnone) []) [])) ≡ t
flat_first_run t = ap flat_first (flat_top_run (fmore t fnone))

-- flat forms as lists of marks
abbrev pub coded_flat : Coded FlatTerm
coded_flat = code_by (List FlatMark) (coded_list coded_mark) (λ t. flat_marks (fmore t fnone) []) (λ k. flat_first (flat_top (flat_run k []))) flat_first_run
