-- A list of terms as a list of marks, by which a proof tells lists of terms apart: each list in postfix order.
use Rattle.std.specs.Prelude.{◌≡◌, ◌⊎◌, List, [], ◌∷◌, Option, Some, None, refl}
use Rattle.std.proofs.Common.{◌∙◌, ap, inl, inr}
use Rattle.std.specs.Coded.{Coded, code_by, coded⊎, coded_list, coded_option}
use Rattle.fvn_terms.specs.declared.plain.Var.{Var}
use Rattle.fvn_terms.specs.declared.plain.OpId.{OpId}
use Rattle.fvn_terms.specs.Term.{Term, Terms, var, app, none, more}
use Rattle.fvn_terms.specs.Coded.{coded_var, coded_op}

-- the end of a list, a variable, or an operator whose arguments came before
abbrev pub Mark : Type 0
Mark = Option (Var ⊎ OpId)

abbrev mutual
  -- the marks of a term, and then these
  pub marks_of : Term → List Mark → List Mark
  marks_of (var x) k = Some (inl x) ∷ k
  marks_of (app f ts) k = marks ts (Some (inr f) ∷ k)

  -- the marks of a list of terms, and then these
  pub marks : Terms → List Mark → List Mark
  marks none k = None ∷ k
  marks (more t ts) k = marks ts (marks_of t k)

-- what one mark makes of a stack of lists of terms
abbrev pub push : Mark → List Terms → List Terms
push None s = none ∷ s
push (Some (inl x)) [] = []
push (Some (inl x)) (ts ∷ s) = more (var x) ts ∷ s
push (Some (inr f)) [] = []
push (Some (inr f)) (us ∷ []) = []
push (Some (inr f)) (us ∷ ts ∷ s) = more (app f us) ts ∷ s

-- what marks make of a stack, one after another
abbrev pub run : List Mark → List Terms → List Terms
run [] s = s
run (m ∷ k) s = run k (push m s)

-- the list on top of a stack
abbrev pub top : List Terms → Terms
top [] = none
top (ts ∷ s) = ts

mutual
  -- the marks of a term put it before the list on top
  pub run_marks_of : (t : Term) (k : List Mark) (ts : Terms) (s : List Terms) → run (marks_of t k) (ts ∷ s) ≡ run k (more t ts ∷ s)
  run_marks_of (var x) k ts s = refl
  run_marks_of (app f us) k ts s = run_marks us (Some (inr f) ∷ k) (ts ∷ s)

  -- the marks of a list of terms put that list on top
  pub run_marks : (ts : Terms) (k : List Mark) (s : List Terms) → run (marks ts k) s ≡ run k (ts ∷ s)
  run_marks none k s = refl
  run_marks (more t ts) k s = run_marks ts (marks_of t k) s ∙ run_marks_of t k ts s

-- the marks of a list lead back to it
pub top_run : (ts : Terms) → top (run (marks ts []) []) ≡ ts
top_run ts = ap top (run_marks ts [] [])

-- lists of terms as lists of marks
abbrev pub coded_terms : Coded Terms
coded_terms =
    code_by (List Mark) (coded_list (coded_option (coded⊎ coded_var coded_op))) (λ ts. marks ts []) (λ k. top (run k [])) top_run
