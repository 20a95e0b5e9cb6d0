-- Terms with sorts as lists of marks, in postfix order, by which a proof tells them apart.
use Rattle.std.specs.Prelude.{◌≡◌, ℕ, ◌⊎◌, List, [], ◌∷◌, Option, Some, None, refl}
use Rattle.std.proofs.Common.{◌∙◌, ap, inl, inr}
use Rattle.std.specs.Coded.{Coded, code_by, coded×, coded⊎, coded_ℕ, coded_list, coded_option}
use Rattle.fvn_terms.specs.declared.plain.Var.{Var}
use Rattle.fvn_terms.specs.declared.plain.OpId.{OpId}
use Rattle.fvn_terms.specs.declared.plain.SortId.{SortId}
use Rattle.fvn_terms.specs.Coded.{coded_var, coded_op}
use Rattle.fvn_rewrite.specs.inner.SortedTerms.{SortedTerm, SortedTerms, svar, sapp, snone, smore}

-- the end of a list, a variable, or an operator whose arguments came before, with its sort
abbrev pub SortedMark : Type 0
SortedMark = Option (Var ⊎ (OpId × SortId))

abbrev mutual
  -- the marks of a term, and then these
  pub sorted_marks_of : SortedTerm → List SortedMark → List SortedMark
  sorted_marks_of (svar x) k = Some (inl x) ∷ k
  sorted_marks_of (sapp f q ts) k = sorted_marks ts (Some (inr (f, q)) ∷ k)

  -- the marks of a list of terms, and then these
  pub sorted_marks : SortedTerms → List SortedMark → List SortedMark
  sorted_marks snone k = None ∷ k
  sorted_marks (smore t ts) k = sorted_marks ts (sorted_marks_of t k)

-- what one mark makes of a stack of lists of terms
abbrev pub sorted_push : SortedMark → List SortedTerms → List SortedTerms
sorted_push None s = snone ∷ s
sorted_push (Some (inl x)) [] = []
sorted_push (Some (inl x)) (ts ∷ s) = smore (svar x) ts ∷ s
sorted_push (Some (inr f)) [] = []
sorted_push (Some (inr f)) (us ∷ []) = []
sorted_push (Some (inr f)) (us ∷ ts ∷ s) = smore (sapp f.0 f.1 us) ts ∷ s

-- what marks make of a stack, one after another
abbrev pub sorted_run : List SortedMark → List SortedTerms → List SortedTerms
sorted_run [] s = s
sorted_run (m ∷ k) s = sorted_run k (sorted_push m s)

-- the list on top of a stack
abbrev pub sorted_top : List SortedTerms → SortedTerms
sorted_top [] = snone
sorted_top (ts ∷ s) = ts

mutual
  -- the marks of a term put it before the list on top
  pub sorted_run_marks_of : (t : SortedTerm) (k : List SortedMark) (ts : SortedTerms) (s : List SortedTerms) → sorted_run (sorted_marks_of t k) (ts ∷ s) ≡ sorted_run k (smore t ts ∷ s)
  sorted_run_marks_of (svar x) k ts s = refl
  sorted_run_marks_of (sapp f q us) k ts s = sorted_run_marks us (Some (inr (f, q)) ∷ k) (ts ∷ s)

  -- the marks of a list of terms put that list on top
  pub sorted_run_marks : (ts : SortedTerms) (k : List SortedMark) (s : List SortedTerms) → sorted_run (sorted_marks ts k) s ≡ sorted_run k (ts ∷ s)
  sorted_run_marks snone k s = refl
  sorted_run_marks (smore t ts) k s = sorted_run_marks ts (sorted_marks_of t k) s ∙ sorted_run_marks_of t k ts s

-- the marks of a list lead back to it
pub sorted_top_run : (ts : SortedTerms) → sorted_top (sorted_run (sorted_marks ts []) []) ≡ ts
sorted_top_run ts = ap sorted_top (sorted_run_marks ts [] [])

-- sorts as numbers
abbrev pub coded_sort : Coded SortId
coded_sort = code_by ℕ coded_ℕ (λ q. q.0) (λ n. record { 0 = n }) (λ _. refl)

-- marks by their variables, or by their operators and sorts
abbrev pub coded_sorted_mark : Coded SortedMark
coded_sorted_mark = coded_option (coded⊎ coded_var (coded× coded_op coded_sort))

-- a term as the list of it alone
abbrev pub sorted_first : SortedTerms → SortedTerm
sorted_first snone = sapp (record { 0 = 0 }) (record { 0 = 0 }) snone
sorted_first (smore t ts) = t

-- the marks of the list of a term alone lead back to the term
pub sorted_first_run : (t : SortedTerm) → sorted_first (sorted_top (sorted_run (sorted_marks (smore t snone) []) [])) ≡ t
sorted_first_run t = ap sorted_first (sorted_top_run (smore t snone))

-- terms with sorts as lists of marks
abbrev pub coded_sorted : Coded SortedTerm
coded_sorted = code_by (List SortedMark) (coded_list coded_sorted_mark) (λ t. sorted_marks (smore t snone) []) (λ k. sorted_first (sorted_top (sorted_run k []))) sorted_first_run
