-- What is promised of a run follows from its outcome.
use Rattle.std.proofs.Common.{◌≡◌, ◌≤◌, ◌<◌, ◌+◌, ◌⊎◌, ℕ, List, ◌++◌, length, Option, Some, None, refl, sym, ap, ◌∙◌, subst, inl, inr, arith, append-nil, length-append}
use Rattle.std.specs.Prelude.{unwrap_or}
use Rattle.std.specs.Io.KnownBytes.{IsAtEnd}
use Rattle.fvn_base.proofs.Options.{Some-injective}
use Rattle.fvn_base.specs.declared.limits.TheConstants.{MODULE_BYTES}
use Rattle.fvn_outside.specs.Source.{Takes, TakesCount}
use Rattle.fvn_cmd.specs.declared.status.Status.{Status}
use Rattle.fvn_cmd.specs.declared.status.Status.TheVariants.{Usage, ReadFault, WriteFault}
use Rattle.fvn_cmd.specs.Statuses.{IsSilent, IsSpoken, IsAnswering, IsRefusing}
use Rattle.fvn_cmd.specs.Texts.{Is}
use Rattle.fvn_cmd_laws.specs.CmdVariantsSolutions as of_terms
use Rattle.fvn_cmd_laws.specs.CmdVunifySolutions as modulo
use Rattle.fvn_cmd_laws.proofs.Verified.{verdict_answering}
use Rattle.fvn_cmd_laws.proofs.Unified.{end_answering}
use Rattle.fvn_cmd_laws.proofs.Weighed.{weighing_answering}
use Rattle.fvn_tool.specs.Words.{Command, work, IsCommand, AreNoCommand, ReadsModule, ReadNothing, own_text, text_for}
use Rattle.fvn_tool.specs.Runs.{Outside, Run, Leaves, HasFailed}
use Rattle.fvn_tool.specs.Asked.{Question, summary, unifiers, verdict, termination, term_variants, theory_unifiers, count, Asked, IsShort, IsAsked, AsksNothing, IsRefused}
use Rattle.fvn_tool.specs.Answered.{AnswerTo, status_of, Answers, IsAnswered, IsReply}
use Rattle.fvn_tool.specs.Outcomes.{usage_line, IsOutcome, no_command, too_long, replied}
use Rattle.fvn_tool.specs.Claims.{RefusesWords, Asks, AnswersCommand, IsReport}
use Rattle.fvn_cmd_laws.specs.Laws.{VerdictsAreExact, AnswersAreExact, ExploredAnswersAreExact}
use Rattle.fvn_tool.specs.Laws.{QuestionsAreDetermined}
use Rattle.fvn_tool.specs.inner.Steps.{IsCommandReply, IsGivenOutcome, is_usage, is_long, is_replied}
use Rattle.fvn_tool.proofs.Grammar.{one_command}
use Rattle.fvn_tool.proofs.Replying.{given_outcome}
use Rattle.fvn_tool.proofs.Outcomes.{Leaves-weaker, Leaves-goes, answering_spoken, refusing_spoken, refusing_not_answering, refused_refusing, count_answering, without_fault}

-- Where the source tells its bytes

told_all : (bytes read : List ℕ) (rest : Option (List ℕ)) → Takes (Some bytes) rest read → IsAtEnd rest → read ≡ bytes
told_all bytes read None e h = cc
told_all bytes read (Some r) e h = sym (Some-injective e ∙ ap (λ x. read ++ x) h ∙ append-nil read)

told_count : (bytes : List ℕ) (rest : Option (List ℕ)) (n : ℕ) → TakesCount (Some bytes) rest n → n ≤ length bytes
told_count bytes None n h = cc
told_count bytes (Some r) n h = let e = ap length (Some-injective h.2) in let a = length-append h.0 r in let b = h.1 in grind arith

-- where the bytes that are read are one, the text is
same_text : (own : Option (List ℕ)) (read bytes : List ℕ) → (own ≡ None → read ≡ bytes) → unwrap_or own read ≡ unwrap_or own bytes
same_text None read bytes h = h refl
same_text (Some t) read bytes h = refl

-- what comes of a command about a text is a reply to it
pub came : (words : List (List ℕ)) (source : Outside) (bytes : List ℕ) (command : Command) → (ReadsModule command → source.before ≡ Some bytes) → IsCommand words command →
    (s : Status) (t : List ℕ) → IsOutcome words source s t → IsReply (text_for command bytes) command s t
came words source bytes command told is_command s t (no_command none is) = absurd (none command is_command)
came words source bytes command told is_command s t (too_long c h r n is) =
    let reads : ReadsModule command = subst ReadsModule (one_command words c command h is_command) r in
    let many : MODULE_BYTES + 1 ≤ length bytes = told_count bytes source.after (MODULE_BYTES + 1) (subst (λ l. TakesCount l source.after (MODULE_BYTES + 1)) (told reads) n) in
    let read : text_for command bytes ≡ bytes = ap (λ own. unwrap_or own bytes) reads in
    inl (inl ((λ short. let few : length bytes ≤ MODULE_BYTES = subst IsShort read short in omega (arith, many, few)), (refl, is)))
came words source bytes command told is_command s t (replied c b h n r) =
    let c_is : c ≡ command = one_command words c command h is_command in
    let all : ReadsModule c → b ≡ bytes = λ reads. told_all bytes b source.after (subst (λ l. Takes l source.after b) (told (subst ReadsModule c_is reads)) (n reads).0) (n reads).1 in
    subst (λ x. IsReply (text_for x bytes) x s t) c_is (subst (λ x. IsReply x c s t) (same_text (own_text c) b bytes all) r)

-- Replies

status_answering : (q : Question) (a : AnswerTo q) → IsAnswering (status_of q a)
status_answering summary loss = tt
status_answering (unifiers p) found = end_answering found.end
status_answering (verdict p b steps) v = verdict_answering v
status_answering (termination w) found = weighing_answering found
status_answering (term_variants t reach) found = end_answering (of_terms.end_of reach found)
status_answering (theory_unifiers p reach) found = end_answering (modulo.end_of reach found)
status_answering (count p) found = end_answering found.end

answer_answering : (a : Asked) (s : Status) (t : List ℕ) → Answers a s t → IsAnswering s
answer_answering a s t h = subst IsAnswering (sym h.status_is) (status_answering a.question h.answer)

module _ (bytes : List ℕ) (c : Command) (s : Status) (t : List ℕ) where
  reply_spoken : IsReply bytes c s t → IsSpoken s
  reply_spoken (inl r) = refusing_spoken s (refused_refusing bytes c s t r)
  reply_spoken (inr a) = answering_spoken s (answer_answering a.0 s t a.1.1)

  reply_not_usage : s ≡ Usage → IsReply bytes c s t → ⊥
  reply_not_usage e (inl r) = subst IsRefusing e (refused_refusing bytes c s t r)
  reply_not_usage e (inr a) = subst IsAnswering e (answer_answering a.0 s t a.1.1)

  refused_of : IsRefusing s → IsReply bytes c s t → IsRefused bytes c s t
  refused_of refusing (inl r) = r
  refused_of refusing (inr a) = absurd (refusing_not_answering s refusing (answer_answering a.0 s t a.1.1))

  answered_of : IsAnswering s → IsReply bytes c s t → IsAnswered bytes c s t
  answered_of answering (inl r) = absurd (refusing_not_answering s (refused_refusing bytes c s t r) answering)
  answered_of answering (inr a) = a

-- Words

pub outcome_usage : (words : List (List ℕ)) (source : Outside) → AreNoCommand words → (s : Status) (t : List ℕ) → IsOutcome words source s t → Is Usage usage_line s t
outcome_usage words source none s t (no_command h is) = (refl, is)
outcome_usage words source none s t (too_long command h r n is) = absurd (none command h)
outcome_usage words source none s t (replied command bytes h n r) = absurd (none command h)

usage_only : (words : List (List ℕ)) (source : Outside) (s : Status) (t : List ℕ) → s ≡ Usage → IsOutcome words source s t → AreNoCommand words
usage_only words source s t e (no_command h is) = h
usage_only words source s t e (too_long command h r n is) = cc
usage_only words source s t e (replied command bytes h n r) = absurd (reply_not_usage (text_for command bytes) command s t e r)

-- A run

module _ (run : Run) (h : Leaves (IsOutcome run.words run.source) run.status run.sink) where
  refuses_words : (AreNoCommand run.words → (run.status ≡ Usage) ⊎ (run.status ≡ WriteFault)) → RefusesWords run
  refuses_words always = record {
    only = λ e. let g = Leaves-goes (IsOutcome run.words run.source) run.status run.sink (subst IsSpoken (sym e) tt) h in usage_only run.words run.source run.status g.0 e g.1;
    always = always;
    text = λ none. Leaves-weaker (IsOutcome run.words run.source) (Is Usage usage_line) (outcome_usage run.words run.source none) run.status run.sink h;
  }

  module _ (questions : QuestionsAreDetermined) (command : Command) (bytes : List ℕ) (asks : Asks run command bytes) where
    -- the text that the command is about
    abbrev about : List ℕ
    about = text_for command bytes

    coming : (u : Status) (t : List ℕ) → IsOutcome run.words run.source u t → IsReply about command u t
    coming = came run.words run.source bytes command asks.told asks.command_is

    -- the reply that is left, in other words
    weaker : (Goes : Status → List ℕ → Type 0) → ((u : Status) (t : List ℕ) → IsReply about command u t → Goes u t) → Leaves Goes run.status run.sink
    weaker Goes w = Leaves-weaker (IsOutcome run.words run.source) Goes (λ u t o. w u t (coming u t o)) run.status run.sink h

    left : IsSpoken run.status → (t : List ℕ) × IsReply about command run.status t
    left k = let g = Leaves-goes (IsOutcome run.words run.source) run.status run.sink k h in (g.0, coming run.status g.0 g.1)

    refused_then : AsksNothing about command → (u : Status) (t : List ℕ) → IsReply about command u t → IsRefused about command u t
    refused_then none u t (inl r) = r
    refused_then none u t (inr a) = absurd (none a.0 a.1.0)

    answered_then : (a : Asked) → IsAsked about command a → (u : Status) (t : List ℕ) → IsReply about command u t → Answers a u t
    answered_then a asked u t (inl r) = absurd (questions.not_both about command a asked u t r)
    answered_then a asked u t (inr b) = subst (λ x. Answers x u t) (questions.one_question about command b.0 a b.1.0 asked) b.1.1

    answers : AnswersCommand run command about
    answers = record {
      refused = λ none. weaker (IsRefused about command) (refused_then none);
      refused_only = λ refusing a asked.
          let g = left (refusing_spoken run.status refusing) in
          questions.not_both about command a asked run.status g.0 (refused_of about command run.status g.0 refusing g.1);
      answered = λ a asked. weaker (Answers a) (answered_then a asked);
      answered_only = λ answering.
          let g = left (answering_spoken run.status answering) in
          let b = answered_of about command run.status g.0 answering g.1 in
          (b.0, b.1.0);
    }

-- what is written for `work` is an answer
work_answering : (words : List (List ℕ)) (source : Outside) (number : ℕ) → IsCommand words (work number) → (s : Status) (t : List ℕ) → IsGivenOutcome words source s t → IsAnswering s
work_answering words source number is_work s t (is_usage none is) = absurd (none (work number) is_work)
work_answering words source number is_work s t (is_long c h r n is) = let reads = subst ReadsModule (one_command words c (work number) h is_work) r in cc
work_answering words source number is_work s t (is_replied c b h n f r) =
    count_answering number b s t (subst (λ x. IsCommandReply x b s t) (one_command words c (work number) h is_work) r)

-- the outcome that the steps give, what stays the same and the causes of faults are all that there is to prove of a run
pub report : VerdictsAreExact → AnswersAreExact → ExploredAnswersAreExact → QuestionsAreDetermined → (run : Run) → Leaves (IsGivenOutcome run.words run.source) run.status run.sink → (run.status ≡ ReadFault → HasFailed run.source) → (run.status ≡ WriteFault → HasFailed run.sink) →
    (AreNoCommand run.words → (run.status ≡ Usage) ⊎ (run.status ≡ WriteFault)) →
    (ReadNothing run.words → run.source.after ≡ run.source.before) → (IsSilent run.status → run.sink.after ≡ run.sink.before) →
    (run.source.faults_before < run.source.faults_after → run.status ≡ ReadFault) → (run.sink.faults_before < run.sink.faults_after → run.status ≡ WriteFault) → IsReport run
report verdicts exact explored questions run given read write always unread unwritten failed_read failed_write =
    let h = Leaves-weaker (IsGivenOutcome run.words run.source) (IsOutcome run.words run.source) (given_outcome verdicts exact explored run.words run.source) run.status run.sink given in
    record {
      outcome = h;
      unread = unread;
      unwritten = unwritten;
      read_fault = read;
      write_fault = write;
      failed_read = failed_read;
      failed_write = failed_write;
      written = λ no_read no_write. without_fault run.status (λ e. no_read (read e)) (λ e. no_write (write e));
      usage = refuses_words run h always;
      made = λ number is_work spoken.
          let g = Leaves-goes (IsGivenOutcome run.words run.source) run.status run.sink spoken given in
          work_answering run.words run.source number is_work run.status g.0 g.1;
      answers = answers run h questions;
    }
