-- Two numbers of unifiers that are told are one.
use Rattle.std.proofs.Common.{◌≡◌, ℕ, zero, suc, List, [], ◌∷◌, ◌++◌, refl, sym, ap, ◌∙◌, subst}
use Rattle.std.specs.Prelude.{codes}
use Rattle.fvn_base.proofs.Membership.{contains_here, contains_none}
use Rattle.fvn_syntax.specs.Pieces.{Text}
use Rattle.fvn_problems.specs.declared.problem.Problem.{Problem}
use Rattle.fvn_module.specs.Contents.{Contents}
use Rattle.fvn_answer.specs.Answers.{numbered, ended, AreInByteOrder}
use Rattle.fvn_answer.specs.declared.end.End.{End}
use Rattle.fvn_answer.specs.declared.end.End.TheVariants.{Complete, Levels, Variants, Steps, Size, Basis, Unifiers, Sorts}
use Rattle.fvn_cmd.specs.declared.status.Status.{Status}
use Rattle.fvn_cmd.specs.declared.status.Status.TheVariants.{Solved}
use Rattle.fvn_cmd.specs.Texts.{Is}
use Rattle.fvn_cmd.specs.Ends.{status_of_end}
use Rattle.fvn_cmd_work.specs.Replies.{ShowsEnd, IsCount}

solved_end : (e : End) → status_of_end e ≡ Solved → (n : ℕ) × (e ≡ Complete n)
solved_end (Complete zero) h = cc
solved_end (Complete (suc n)) h = (suc n, refl)
solved_end (Levels n) h = cc
solved_end (Variants n) h = cc
solved_end (Steps n t) h = cc
solved_end (Size n) h = cc
solved_end (Basis f) h = cc
solved_end (Unifiers n) h = cc
solved_end (Sorts n) h = cc

no_lines : (shown : List Text) → AreInByteOrder [] shown → shown ≡ []
no_lines [] o = refl
no_lines (line ∷ lines) o = absurd (contains_none line ((o.exact line).0 (contains_here line lines)))

-- the text of a number
abbrev told : ℕ → List ℕ
told n = ended (numbered (codes "complete ") n ∷ [])

end_text : (m : Contents) (n : ℕ) (t : List ℕ) → ShowsEnd m (Complete n) t → t ≡ told n
end_text m n t h = h.text_is ∙ ap (λ l. ended (l ++ h.last ∷ [])) (no_lines h.lines h.in_order) ∙ ap (λ l. ended (l ∷ [])) h.end_line

pub counts_agree : (m : Contents) (p : Problem) (s : Status) (t : List ℕ) (u : Status) (v : List ℕ) (a : IsCount m p s t) (b : IsCount m p u v) →
    ((n k : ℕ) → a.found.end ≡ Complete n → b.found.end ≡ Complete k → n ≡ k) → s ≡ Solved → u ≡ Solved → Is s t u v
counts_agree m p s t u v a b one solved other =
    let e = solved_end a.found.end (sym a.status_is ∙ solved) in
    let f = solved_end b.found.end (sym b.status_is ∙ other) in
    let first : t ≡ told e.0 = end_text m e.0 t (subst (λ x. ShowsEnd m x t) e.1 a.shown) in
    let second : v ≡ told f.0 = end_text m f.0 v (subst (λ x. ShowsEnd m x v) f.1 b.shown) in
    (other ∙ sym solved, second ∙ ap told (sym (one e.0 f.0 e.1 f.1)) ∙ sym first)
