-- Lines of substitutions, one after another.
use Rattle.std.proofs.Common.{◌≡◌, ℕ, ◌+◌, ◌<◌, List, [], ◌∷◌, ◌++◌, take, length, get_or, refl, sym, ap, ◌∙◌, subst}
use Rattle.std.specs.List.{AllZip}
use Rattle.std.specs.Global.{Vec}
use Rattle.std.proofs.lemmas.List.{take_more, map_push}
use Rattle.fvn_terms.specs.declared.plain.Var.{Var}
use Rattle.fvn_flat.specs.Bindings.{Bindings}
use Rattle.fvn_flat.specs.Solving.{substitution}
use Rattle.fvn_syntax.specs.Pieces.{Text}
use Rattle.fvn_problems.specs.declared.problem.Problem.{Problem}
use Rattle.fvn_module.specs.Contents.{Contents}
use Rattle.fvn_answer.specs.Denoting.{Reads}
use Rattle.fvn_answer.specs.Lines.{HasNoLineFeed, IsTextOf, values as text_of_values, values_of}
use Rattle.fvn_answer.specs.Writing.{bytes_of as lines_in}
use Rattle.fvn_cmd_unify.specs.Solutions.{IsLineOf}
use Rattle.fvn_cmd_unify.specs.inner.Told.{AreLinesOfBindings}
use Rattle.fvn_cmd_unify.proofs.Counting.{zip-push}

module _ (m : Contents) (p : Problem) where
  pub line-of : (b : Bindings) (vars : List Var) → vars ≡ p.vars → (line : Text) → Reads m.signature m.names p.names.texts vars line (substitution b) →
      IsTextOf m.signature m.names p.names.texts (text_of_values (values_of b vars)) line → HasNoLineFeed line → IsLineOf m p (substitution b) line
  line-of b vars is line reads spelled plain = record {
    reads = subst (λ v. Reads m.signature m.names p.names.texts v line (substitution b)) is reads;
    bindings = b;
    stands = refl;
    spelled = subst (λ v. IsTextOf m.signature m.names p.names.texts (text_of_values (values_of b v)) line) is spelled;
    plain = plain;
  }

  abbrev IsLineOfBindings : Bindings → List ℕ → Type 0
  IsLineOfBindings s line = IsLineOf m p (substitution s) line

  pub lines-more : (unifiers : List Bindings) (i : ℕ) (s : Bindings) → i < length unifiers → s ≡ get_or unifiers i s → (lines after : List (Vec ℕ)) (line : Vec ℕ) → AreLinesOfBindings m p (take i unifiers) (lines_in lines) → IsLineOf m p (substitution s) line.items → after ≡ lines ++ line ∷ [] →
      AreLinesOfBindings m p (take (i + 1) unifiers) (lines_in after)
  lines-more unifiers i s within is lines after line h r e =
      let pushed = zip-push IsLineOfBindings (take i unifiers) (lines_in lines) s line.items h r in
      let all : lines_in after ≡ lines_in lines ++ line.items ∷ [] = ap lines_in e ∙ map_push (λ v. v.items) lines line in
      let front : take (i + 1) unifiers ≡ take i unifiers ++ s ∷ [] = take_more unifiers i s within ∙ ap (λ z. take i unifiers ++ z ∷ []) (sym is) in
      subst (λ l. AllZip IsLineOfBindings l (lines_in after)) (sym front) (subst (AllZip IsLineOfBindings (take i unifiers ++ s ∷ [])) (sym all) pushed)
