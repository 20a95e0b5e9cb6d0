-- The fronts of the texts of new variables.
use Rattle.std.proofs.Common.{◌≡◌, ℕ, ◌+◌, ◌<◌, ◌≤◌, inl, inr, Bool, true, false, List, [], ◌∷◌, ◌++◌, refl, sym, ap, ◌∙◌, subst, append_assoc, arith}
use Rattle.std.specs.Prelude.{◌≢◌, decimal, nat_lt, Contains}
use Rattle.std.proofs.lemmas.Fmt.{decimal_digit}
use Rattle.std.proofs.lemmas.List.{append-nil}
use Rattle.fvn_base.proofs.Membership.{contains_here}
use Rattle.fvn_lex.specs.Parts.{is_quoted_after}
use Rattle.fvn_lex.specs.Join.{needs_space, space, join_after, join}
use Rattle.fvn_terms.specs.declared.plain.Var.{Var}
use Rattle.fvn_terms.specs.declared.plain.SortId.{SortId}
use Rattle.fvn_terms.specs.declared.declarations.Declarations.{Declarations}
use Rattle.fvn_syntax.specs.declared.names.Names.{Names}
use Rattle.fvn_syntax.specs.Pieces.{Text}
use Rattle.fvn_answer.specs.declared.front.Front.{Front}
use Rattle.fvn_answer.specs.Numberings.{number, new_name}
use Rattle.fvn_answer.specs.Writing.{text_of, top, sort_text, sorted}
use Rattle.fvn_answer.specs.inner.Fronts.{AtLeast, AreTips, IsFrontOf}
use Rattle.fvn_answer.proofs.Fronts.{at_least-append, at_least-behind, cut-front}
use Rattle.fvn_answer.proofs.Joining.{quoted-append}

module _ (d : Declarations) (names : Names) where
  -- the text of a variable begins with its name
  pub sorted-front : (x : Text) (s : SortId) → (z : Text) × (text_of (sorted d names x s) ≡ x ++ z)
  unfolding join join_after needs_space
  sorted-front x s = go (nat_lt s.0 d.sorts) refl
    where
      st : Text
      st = sort_text d names (top d s)

      rest : Text
      rest = space (is_quoted_after false st) ++ 93 ∷ []

      r : is_quoted_after false (x ++ 58 ∷ []) ≡ false
      r = quoted-append false x (58 ∷ [])

      go : (b : Bool) → nat_lt s.0 d.sorts ≡ b → (z : Text) × (text_of (sorted d names x s) ≡ x ++ z)
      go true e = (58 ∷ sort_text d names s, rw e (append-nil (x ++ 58 ∷ sort_text d names s)))
      go false e = (58 ∷ 91 ∷ (st ++ rest), rw (e, r) (append_assoc x (58 ∷ []) (91 ∷ (st ++ rest))))

  digit-least : (a b : ℕ) → a ≤ b → AtLeast ((48 + a) ∷ []) ((48 + b) ∷ [])
  digit-least a b h (inl l) = omega arith
  digit-least a b h (inr r) = r.1

  -- a variable with a later number
  pub open-at_least : (n m : ℕ) (s : SortId) → n ≤ m → m < 10 → AtLeast (35 ∷ decimal n) (text_of (sorted d names (35 ∷ decimal m) s))
  open-at_least n m s h few =
      let f = sorted-front (35 ∷ decimal m) s in
      let e = decimal_digit n (omega arith) in
      let g = decimal_digit m few in
      let digits : AtLeast (decimal n) (decimal m) = subst (λ v. AtLeast v (decimal m)) (sym e) (subst (AtLeast ((48 + n) ∷ [])) (sym g) (digit-least n m h)) in
      subst (AtLeast (35 ∷ decimal n)) (sym f.1) (at_least-append (35 ∷ decimal n) (35 ∷ decimal m) f.0 (at_least-behind (35 ∷ []) (decimal n) (decimal m) digits))

  -- a front that ends at the variable's number
  pub open-front : (known : ℕ) (least later : ℕ) (x : Var) (s : SortId) (other : List Var) (front : Front) → front.tips.items ≡ x ∷ [] → front.text.items ≡ 35 ∷ decimal least →
      front.later.items ≡ 35 ∷ decimal later → least ≤ number other x → (number other x ≢ known + 1 → later ≤ number other x) → number other x < 10 →
      IsFrontOf known other front (text_of (sorted d names (new_name other x) s))
  open-front known least later x s other front t e l h k few = record {
    upto = cut-front front.tips.items front.text.items (text_of (sorted d names (new_name other x) s)) (subst AreTips (sym t) tt)
        (subst (λ w. AtLeast w (text_of (sorted d names (new_name other x) s))) (sym e) (open-at_least least (number other x) s h few));
    later = λ n. subst (λ w. AtLeast w (text_of (sorted d names (new_name other x) s))) (sym l)
        (open-at_least later (number other x) s (k (n x (subst (λ tips. Contains tips x) (sym t) (contains_here x [])))) few);
  }

  -- a variable whose number is known
  pub known-front : (order other : List Var) (x : Var) (s : SortId) (v : Text) → number other x ≡ number order x → v ≡ text_of (sorted d names (new_name order x) s) →
      v ≡ text_of (sorted d names (new_name other x) s)
  known-front order other x s v same e = e ∙ ap (λ n. text_of (sorted d names (35 ∷ decimal n) s)) (sym same)
