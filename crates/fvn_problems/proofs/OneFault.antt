-- A text has one first fault at most.
use Rattle.std.proofs.Common.{◌≡◌, [], inl, inr, List, refl, sym, ap, ◌∙◌, subst}
use Rattle.fvn_lex.specs.declared.token.LexFault.{LexFault}
use Rattle.fvn_lex.specs.Parts.{IsFirstFault as IsFirstLexFault}
use Rattle.fvn_lex.proofs.RowPieces.{first-once}
use Rattle.fvn_syntax.specs.Pieces.{Text}
use Rattle.fvn_syntax.specs.Scope.{Scope}
use Rattle.fvn_problems.specs.declared.fault.ProblemFault.{ProblemFault}
use Rattle.fvn_problems.specs.declared.fault.ProblemFault.TheVariants.{Lex, Text as NoText, UnknownName, Arity, WrongKind, TooLarge, ReservedName, WrongSort, NoMemory}
use Rattle.fvn_problems.specs.declared.problem.Problem.{Problem}
use Rattle.fvn_problems.specs.Faults.{fault_of, HasTokens, IsFirstFault, AreOneFault}
use Rattle.fvn_problems.specs.Spelling.{RawQuery, RawProblem, RawPair, spell_query, spell_problem, spell_bindings, pairs_in, IsQueryText, IsProblemText}
use Rattle.fvn_problems.specs.Scopes.{guarded, unguarded}
use Rattle.fvn_problems.specs.Queries.{IsQueryFault, in_term, too_large as large_query}
use Rattle.fvn_problems.specs.Problems.{IsProblemFault, in_pairs, too_large as large_problem}
use Rattle.fvn_problems.specs.Bindings.{IsFault, in_bindings, too_large as large_bindings, IsText}
use Rattle.fvn_problems.specs.Laws.{QueryFaultsAreDetermined, ProblemFaultsAreDetermined, BindingFaultsAreDetermined}
use Rattle.fvn_problems.proofs.Answering.{no-tokens}
use Rattle.fvn_problems.proofs.Pairs.{no-fault, same-fault, pairs-faultless, pairs-fault-same}
use Rattle.fvn_problems.proofs.Binding.{bindings-faultless, bindings-fault-same}
use Rattle.fvn_problems.proofs.QueryTexts.{text-once as query-once}
use Rattle.fvn_problems.proofs.ProblemTexts.{text-once as problem-once}
use Rattle.fvn_problems.proofs.BindingTexts.{text-once as bindings-once}

-- the first faults of bytes, where a text that is written has one at most
module _ {Raw : Type 0} (IsText : Raw → Type 0) (IsFault : Raw → ProblemFault → Type 0) (bytes : Text) where
  -- what a first fault is told of: the bytes, the form, what is written, or nothing
  data Told (fault : ProblemFault) : Type 0 where
    by_bytes : (first : LexFault) → IsFirstLexFault bytes first → fault ≡ Lex first → Told fault
    by_form : HasTokens bytes → ((raw : Raw) → IsText raw → ⊥) → fault ≡ NoText → Told fault
    by_text : (raw : Raw) → IsText raw → IsFault raw fault → Told fault
    by_memory : fault ≡ NoMemory → Told fault

  told : (fault : ProblemFault) → IsFirstFault IsText IsFault bytes fault → Told fault
  told (Lex first) h = by_bytes first h refl
  told NoText h = by_form h.0 h.1 refl
  told UnknownName h = by_text h.0 h.1 h.2
  told Arity h = by_text h.0 h.1 h.2
  told WrongKind h = by_text h.0 h.1 h.2
  told TooLarge h = by_text h.0 h.1 h.2
  told ReservedName h = by_text h.0 h.1 h.2
  told WrongSort h = by_text h.0 h.1 h.2
  told NoMemory h = by_memory refl

  module _ (tokens : (raw : Raw) → IsText raw → HasTokens bytes) (one_text : (q r : Raw) → IsText q → IsText r → q ≡ r)
      (one_fault : (raw : Raw) (f g : ProblemFault) → IsFault raw f → IsFault raw g → f ≡ g) where
    same : (f g : ProblemFault) → Told f → Told g → AreOneFault f g
    same f g (by_memory e) b = inl e
    same f g (by_bytes first h e) (by_memory k) = inr (inl k)
    same f g (by_bytes first h e) (by_bytes second k i) =
        inr (inr (e ∙ ap Lex (first-once bytes first second h k) ∙ sym i))
    same f g (by_bytes first h e) (by_form t n i) = absurd (no-tokens bytes first h t)
    same f g (by_bytes first h e) (by_text raw t b) = absurd (no-tokens bytes first h (tokens raw t))
    same f g (by_form t n e) (by_memory k) = inr (inl k)
    same f g (by_form t n e) (by_bytes second k i) = absurd (no-tokens bytes second k t)
    same f g (by_form t n e) (by_form u m i) = inr (inr (e ∙ sym i))
    same f g (by_form t n e) (by_text raw u b) = absurd (n raw u)
    same f g (by_text raw t a) (by_memory k) = inr (inl k)
    same f g (by_text raw t a) (by_bytes second k i) = absurd (no-tokens bytes second k (tokens raw t))
    same f g (by_text raw t a) (by_form u m i) = absurd (m raw t)
    same f g (by_text raw t a) (by_text other u b) = inr (inr (one_fault other f g (subst (λ r. IsFault r f) (one_text raw other t u) a) b))

    first-same : (f g : ProblemFault) → IsFirstFault IsText IsFault bytes f → IsFirstFault IsText IsFault bytes g → AreOneFault f g
    first-same f g h k = same f g (told f h) (told g k)

query-fault : (c : Scope) (raw : RawQuery) (f g : ProblemFault) → IsQueryFault c raw f → IsQueryFault c raw g → f ≡ g
query-fault c raw f g (in_term first h e) (in_term second k i) = e ∙ ap fault_of (same-fault c [] raw.term first second h k) ∙ sym i
query-fault c raw f g (in_term first h e) (large_query r k large i) = absurd (no-fault c [] raw.term r first k h)
query-fault c raw f g (large_query r h large e) (in_term second k i) = absurd (no-fault c [] raw.term r second h k)
query-fault c raw f g (large_query r h large e) (large_query s k most i) = e ∙ sym i

problem-fault : (c : Scope) (raw : RawProblem) (f g : ProblemFault) → IsProblemFault c raw f → IsProblemFault c raw g → f ≡ g
problem-fault c raw f g (in_pairs first h e) (in_pairs second k i) = e ∙ ap fault_of (pairs-fault-same c [] (pairs_in raw) first second h k) ∙ sym i
problem-fault c raw f g (in_pairs first h e) (large_problem ps after k large i) = absurd (pairs-faultless c [] (pairs_in raw) ps after first k h)
problem-fault c raw f g (large_problem ps after h large e) (in_pairs second k i) = absurd (pairs-faultless c [] (pairs_in raw) ps after second h k)
problem-fault c raw f g (large_problem ps after h large e) (large_problem qs end k most i) = e ∙ sym i

bindings-fault : (c : Scope) (p : Problem) (raw : List RawPair) (f g : ProblemFault) → IsFault c p raw f → IsFault c p raw g → f ≡ g
bindings-fault c p raw f g (in_bindings h) (in_bindings k) = bindings-fault-same c p p.names.texts raw f g h k
bindings-fault c p raw f g (in_bindings h) (large_bindings bs after k large i) = absurd (bindings-faultless c p p.names.texts raw bs after f k h)
bindings-fault c p raw f g (large_bindings bs after h large e) (in_bindings k) = absurd (bindings-faultless c p p.names.texts raw bs after g h k)
bindings-fault c p raw f g (large_bindings bs after h large e) (large_bindings es end k most i) = e ∙ sym i

pub query-faults : QueryFaultsAreDetermined
query-faults d names bytes =
    first-same (IsQueryText bytes) (IsQueryFault (guarded d names)) bytes (λ raw t. (spell_query raw, t.spelled)) (query-once d names bytes) (query-fault (guarded d names))

pub problem-faults : ProblemFaultsAreDetermined
problem-faults d names bytes =
    first-same (IsProblemText bytes) (IsProblemFault (guarded d names)) bytes (λ raw t. (spell_problem raw, t.spelled)) (problem-once d names bytes) (problem-fault (guarded d names))

pub binding-faults : BindingFaultsAreDetermined
binding-faults d names p bytes =
    first-same (IsText d names p bytes) (IsFault (unguarded d names) p) bytes (λ raw t. (spell_bindings raw, (t.0).spelled)) (bindings-once d names p bytes)
    (bindings-fault (unguarded d names) p)
