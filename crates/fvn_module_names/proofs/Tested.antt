-- Statements that were tested one after the other.
use Rattle.std.proofs.Common.{◌≡◌, ℕ, ◌+◌, ◌<◌, false, List, [], ◌∷◌, ◌++◌, length, take, drop, get_or, refl, sym, ap, subst, ◌∙◌, arith}
use Rattle.std.proofs.lemmas.List.{append-nil, append_assoc, take-append-drop, drop_more, take_more, length-take-le}
use Rattle.fvn_syntax.specs.Pieces.{Text}
use Rattle.fvn_syntax.specs.declared.names.Variables.{Variables}
use Rattle.fvn_module_syntax.specs.declared.statement.Statement.{Statement}
use Rattle.fvn_module_names.specs.declared.fault.NameFault.{NameFault}
use Rattle.fvn_module_names.specs.declared.fault.NameFault.TheVariants.{UnknownName, Twice, NoMemory}
use Rattle.fvn_module_names.specs.Names.{operators_in, constants_in, sorts_of, operators_of, with_texts, with_names}
use Rattle.fvn_module_names.specs.Variables.{no_variables, with_declared, with_all_declared}
use Rattle.fvn_module_names.specs.Vocabulary.{Vocabulary, vocabulary_of}
use Rattle.fvn_module_names.specs.Order.{kinds_in}
use Rattle.fvn_module_names.specs.Faults.{names_unknown, declares_twice, AreNamed, IsFirstFault}
use Rattle.fvn_module_names.specs.inner.Testing.{past, with_past, Passes, IsFault}

pub with_names-push : (names : Statement → List Text) (texts : List Text) (sts : List Statement) (st : Statement) →
    with_names names texts (sts ++ st ∷ []) ≡ with_texts (with_names names texts sts) (names st)
with_names-push names texts [] st = refl
with_names-push names texts (s ∷ sts) st = with_names-push names (with_texts texts (names s)) sts st

module _ (v : Vocabulary) where
  declared-push : (xs : Variables) (sts : List Statement) (st : Statement) →
      with_all_declared v.sorts v.kinds xs (sts ++ st ∷ []) ≡ with_declared v.sorts v.kinds (with_all_declared v.sorts v.kinds xs sts) st
  declared-push xs [] st = refl
  declared-push xs (s ∷ sts) st = declared-push (with_declared v.sorts v.kinds xs s) sts st

  pub past-push : (sts : List Statement) (st : Statement) → past v (sts ++ st ∷ []) ≡ with_past v (past v sts) st
  past-push sts st = rw (with_names-push operators_in [] sts st, with_names-push constants_in [] sts st, declared-push no_variables sts st)

  pub named-push : (before sts : List Statement) (st : Statement) → AreNamed v.sorts v.ops v.kinds before sts →
      names_unknown v.sorts v.ops v.kinds (before ++ sts) st ≡ false → declares_twice v.sorts v.ops v.kinds (before ++ sts) st ≡ false → AreNamed v.sorts v.ops v.kinds before (sts ++ st ∷ [])
  named-push before [] st h unknown twice = (rw append-nil at unknown, rw append-nil at twice, tt)
  named-push before (s ∷ sts) st h unknown twice = (
    h.0,
    h.1,
    named-push (before ++ s ∷ []) sts st h.2
        (rw (append_assoc before (s ∷ []) sts) unknown) (rw (append_assoc before (s ∷ []) sts) twice),
  )

module _ (sts : List Statement) (i : ℕ) (st : Statement) (within : i < length sts) (at : st ≡ get_or sts i st) where
  taken : take (i + 1) sts ≡ take i sts ++ st ∷ []
  taken = take_more sts i st within ∙ ap (λ z. take i sts ++ z ∷ []) (sym at)

  pub past-more : (v : Vocabulary) → past v (take (i + 1) sts) ≡ with_past v (past v (take i sts)) st
  past-more v = ap (past v) taken ∙ past-push v (take i sts) st

  pub named-more : (v : Vocabulary) → AreNamed v.sorts v.ops v.kinds [] (take i sts) → Passes v (past v (take i sts)) st → AreNamed v.sorts v.ops v.kinds [] (take (i + 1) sts)
  named-more v h p = subst (AreNamed v.sorts v.ops v.kinds []) (sym taken) (named-push v [] (take i sts) st h p.0 p.1)

  split : sts ≡ take i sts ++ (st ∷ drop (i + 1) sts)
  split = sym (take-append-drop i sts) ∙ ap (λ z. take i sts ++ z) (drop_more sts i st within ∙ ap (λ z. z ∷ drop (i + 1) sts) (sym at))

  number : (k : ℕ) → k ≡ i + 1 → k ≡ length (take i sts) + 1
  number k e = e ∙ ap (λ n. n + 1) (sym (length-take-le i sts (omega arith)))

  -- the first statement that is at fault
  pub first-fault : AreNamed (sorts_of sts) (operators_of sts) (kinds_in sts) [] (take i sts) → (fault : NameFault) → IsFault (vocabulary_of sts) (past (vocabulary_of sts) (take i sts)) st (i + 1) fault → IsFirstFault sts fault
  first-fault h (UnknownName k) w = record { before = take i sts; statement = st; after = drop (i + 1) sts; split = split; number = number k w.0; named = h; wrong = w.1 }
  first-fault h (Twice k) w = record { before = take i sts; statement = st; after = drop (i + 1) sts; split = split; number = number k w.0; named = h; wrong = (w.1, w.2) }
  first-fault h NoMemory w = absurd w
