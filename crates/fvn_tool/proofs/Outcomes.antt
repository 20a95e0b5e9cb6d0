-- How an outcome comes about.
use Rattle.std.proofs.Common.{◌≡◌, ◌+◌, ◌⊎◌, ℕ, List, refl, sym, subst, inl, inr}
use Rattle.fvn_base.specs.declared.limits.TheConstants.{MODULE_BYTES}
use Rattle.fvn_outside.specs.Source.{TakesCount}
use Rattle.fvn_outside.specs.Sink.{Appends}
use Rattle.fvn_cmd.specs.declared.status.Status.{Status}
use Rattle.fvn_cmd.specs.declared.status.Status.TheVariants.{Solved, Nothing, Usage, ModuleRefused, ProblemRefused, Ended, ReadFault, WriteFault, NoMemory}
use Rattle.fvn_cmd.specs.Statuses.{IsSilent, IsSpoken, IsAnswering, IsRefusing}
use Rattle.fvn_cmd.specs.Asking.{Word}
use Rattle.fvn_cmd.specs.Refusing.{IsRefusal}
use Rattle.fvn_cmd_laws.specs.CmdVariantsSolutions as of_terms
use Rattle.fvn_cmd_laws.specs.CmdVunifySolutions as modulo
use Rattle.fvn_cmd_laws.proofs.Verified.{verdict_answering}
use Rattle.fvn_cmd_laws.proofs.Unified.{end_answering}
use Rattle.fvn_cmd_laws.proofs.Weighed.{weighing_answering}
use Rattle.fvn_tool.specs.Words.{Command, check, unify, verify, terminates, variants, vunify, work, IsCommand, AreNoCommand, ReadsModule}
use Rattle.fvn_tool.specs.Runs.{Outside, Leaves}
use Rattle.fvn_tool.specs.Asked.{too_long_line, IsRefused}
use Rattle.fvn_tool.specs.Outcomes.{usage_line}
use Rattle.fvn_tool.specs.inner.Steps.{IsCommandReply, IsGivenOutcome, is_usage, is_long, is_replied}

module _ (words : List (List ℕ)) (source : Outside) (status : Status) (text : List ℕ) where
  pub usage_outcome : status ≡ Usage → AreNoCommand words → text ≡ usage_line → IsGivenOutcome words source status text
  usage_outcome e none is = subst (λ s. IsGivenOutcome words source s text) (sym e) (is_usage none is)

  pub too_long_outcome : (command : Command) → status ≡ ModuleRefused → IsCommand words command → ReadsModule command → TakesCount source.before source.after (MODULE_BYTES + 1) → text ≡ too_long_line → IsGivenOutcome words source status text
  too_long_outcome command e is_command reads taken is = subst (λ s. IsGivenOutcome words source s text) (sym e) (is_long command is_command reads taken is)

-- Statuses.

pub answering_spoken : (s : Status) → IsAnswering s → IsSpoken s
answering_spoken Solved a = tt
answering_spoken Nothing a = tt
answering_spoken Ended a = tt
answering_spoken Usage a = absurd a
answering_spoken ModuleRefused a = absurd a
answering_spoken ProblemRefused a = absurd a
answering_spoken ReadFault a = absurd a
answering_spoken WriteFault a = absurd a
answering_spoken NoMemory a = absurd a

pub refusing_spoken : (s : Status) → IsRefusing s → IsSpoken s
refusing_spoken ModuleRefused a = tt
refusing_spoken ProblemRefused a = tt
refusing_spoken Solved a = absurd a
refusing_spoken Nothing a = absurd a
refusing_spoken Ended a = absurd a
refusing_spoken Usage a = absurd a
refusing_spoken ReadFault a = absurd a
refusing_spoken WriteFault a = absurd a
refusing_spoken NoMemory a = absurd a

pub refusing_not_answering : (s : Status) → IsRefusing s → IsAnswering s → ⊥
refusing_not_answering ModuleRefused r a = a
refusing_not_answering ProblemRefused r a = a
refusing_not_answering Solved r a = r
refusing_not_answering Nothing r a = r
refusing_not_answering Ended r a = r
refusing_not_answering Usage r a = r
refusing_not_answering ReadFault r a = r
refusing_not_answering WriteFault r a = r
refusing_not_answering NoMemory r a = r

refusal_refusing : {bytes : List ℕ} {words : List Word} {s : Status} {t : List ℕ} → IsRefusal bytes words s t → IsRefusing s
refusal_refusing (inl a) = subst IsRefusing (sym a.0) tt
refusal_refusing (inr a) = subst IsRefusing (sym a.0) tt

pub refused_refusing : (bytes : List ℕ) (c : Command) (s : Status) (t : List ℕ) → IsRefused bytes c s t → IsRefusing s
refused_refusing bytes c s t (inl a) = subst IsRefusing (sym a.1.0) tt
refused_refusing bytes c s t (inr a) = refusal_refusing a.1

-- the reply to `work` is an answer
pub count_answering : (number : ℕ) (bytes : List ℕ) (status : Status) (text : List ℕ) → IsCommandReply (work number) bytes status text → IsAnswering status
count_answering number bytes status text a = subst IsAnswering (sym a.2.1.status_is) (end_answering a.2.1.found.end)

-- the reply of a command has a text
status_of_check : {s : Status} → s ≡ Solved → IsSpoken s
status_of_check e = subst IsSpoken (sym e) tt

reply_spoken : (command : Command) (bytes : List ℕ) (status : Status) (text : List ℕ) → IsCommandReply command bytes status text → IsSpoken status
reply_spoken check bytes status text (inl r) = refusing_spoken status (refusal_refusing r)
reply_spoken check bytes status text (inr a) = status_of_check a.1.1.told.0
reply_spoken (unify word) bytes status text (inl r) = refusing_spoken status (refusal_refusing r)
reply_spoken (unify word) bytes status text (inr a) =
    answering_spoken status (subst IsAnswering (sym a.2.1.status_is) (end_answering a.2.1.found.end))
reply_spoken (verify problem bindings steps) bytes status text (inl r) = refusing_spoken status (refusal_refusing r)
reply_spoken (verify problem bindings steps) bytes status text (inr a) =
    answering_spoken status (subst IsAnswering (sym a.3.1.1.1.status_is) (verdict_answering a.3.1.0))
reply_spoken (terminates word) bytes status text (inl r) = refusing_spoken status (refusal_refusing r)
reply_spoken (terminates word) bytes status text (inr a) =
    answering_spoken status (subst IsAnswering (sym a.2.1.status_is) (weighing_answering a.2.1.found))
reply_spoken (variants word reach) bytes status text (inl r) = refusing_spoken status (refusal_refusing r)
reply_spoken (variants word reach) bytes status text (inr a) =
    answering_spoken status (subst IsAnswering (sym a.2.1.status_is) (end_answering (of_terms.end_of reach a.2.1.found)))
reply_spoken (vunify word reach) bytes status text (inl r) = refusing_spoken status (refusal_refusing r)
reply_spoken (vunify word reach) bytes status text (inr a) =
    answering_spoken status (subst IsAnswering (sym a.2.1.status_is) (end_answering (modulo.end_of reach a.2.1.found)))
reply_spoken (work number) bytes status text a = answering_spoken status (count_answering number bytes status text a)

pub outcome_spoken : {words : List (List ℕ)} {source : Outside} {status : Status} {text : List ℕ} → IsGivenOutcome words source status text → IsSpoken status
outcome_spoken (is_usage h is) = tt
outcome_spoken (is_long command h r t is) = tt
outcome_spoken (is_replied command bytes h t f r) = reply_spoken command bytes _ _ r

-- a text that goes with its status was written
pub leaves_whole : (Goes : Status → List ℕ → Type 0) (status : Status) (text : List ℕ) (sink : Outside) → IsSpoken status → Goes status text → Appends sink.before sink.after text → Leaves Goes status sink
leaves_whole Goes Solved text sink h g w = record { text = text; goes = g; written = w }
leaves_whole Goes Nothing text sink h g w = record { text = text; goes = g; written = w }
leaves_whole Goes Usage text sink h g w = record { text = text; goes = g; written = w }
leaves_whole Goes ModuleRefused text sink h g w = record { text = text; goes = g; written = w }
leaves_whole Goes ProblemRefused text sink h g w = record { text = text; goes = g; written = w }
leaves_whole Goes Ended text sink h g w = record { text = text; goes = g; written = w }
leaves_whole Goes ReadFault text sink h g w = absurd h
leaves_whole Goes WriteFault text sink h g w = absurd h
leaves_whole Goes NoMemory text sink h g w = absurd h

-- what goes with a status may be said in other words
pub Leaves-weaker : (Goes Suits : Status → List ℕ → Type 0) → ((s : Status) (t : List ℕ) → Goes s t → Suits s t) → (status : Status) (sink : Outside) → Leaves Goes status sink → Leaves Suits status sink
Leaves-weaker Goes Suits w Solved sink h = record { text = h.text; goes = w Solved h.text h.goes; written = h.written }
Leaves-weaker Goes Suits w Nothing sink h = record { text = h.text; goes = w Nothing h.text h.goes; written = h.written }
Leaves-weaker Goes Suits w Usage sink h = record { text = h.text; goes = w Usage h.text h.goes; written = h.written }
Leaves-weaker Goes Suits w ModuleRefused sink h = record { text = h.text; goes = w ModuleRefused h.text h.goes; written = h.written }
Leaves-weaker Goes Suits w ProblemRefused sink h = record { text = h.text; goes = w ProblemRefused h.text h.goes; written = h.written }
Leaves-weaker Goes Suits w Ended sink h = record { text = h.text; goes = w Ended h.text h.goes; written = h.written }
Leaves-weaker Goes Suits w WriteFault sink h = record { meant = h.meant; text = h.text; goes = w h.meant h.text h.goes; written = h.written }
Leaves-weaker Goes Suits w ReadFault sink h = tt
Leaves-weaker Goes Suits w NoMemory sink h = tt

-- what is left at the sink, where the status has a text of its own
pub Leaves-goes : (Goes : Status → List ℕ → Type 0) (status : Status) (sink : Outside) → IsSpoken status → Leaves Goes status sink → (text : List ℕ) × Goes status text
Leaves-goes Goes Solved sink k h = (h.text, h.goes)
Leaves-goes Goes Nothing sink k h = (h.text, h.goes)
Leaves-goes Goes Usage sink k h = (h.text, h.goes)
Leaves-goes Goes ModuleRefused sink k h = (h.text, h.goes)
Leaves-goes Goes ProblemRefused sink k h = (h.text, h.goes)
Leaves-goes Goes Ended sink k h = (h.text, h.goes)
Leaves-goes Goes WriteFault sink k h = absurd k
Leaves-goes Goes ReadFault sink k h = absurd k
Leaves-goes Goes NoMemory sink k h = absurd k

pub spoken_not_silent : (s : Status) → IsSpoken s → IsSilent s → ⊥
spoken_not_silent Solved h k = k
spoken_not_silent Nothing h k = k
spoken_not_silent Usage h k = k
spoken_not_silent ModuleRefused h k = k
spoken_not_silent ProblemRefused h k = k
spoken_not_silent Ended h k = k
spoken_not_silent WriteFault h k = k
spoken_not_silent ReadFault h k = h
spoken_not_silent NoMemory h k = h

-- where nothing outside failed, a text was written whole, or memory was refused
pub without_fault : (status : Status) → (status ≡ ReadFault → ⊥) → (status ≡ WriteFault → ⊥) → (status ≡ NoMemory) ⊎ IsSpoken status
without_fault Solved r w = inr tt
without_fault Nothing r w = inr tt
without_fault Usage r w = inr tt
without_fault ModuleRefused r w = inr tt
without_fault ProblemRefused r w = inr tt
without_fault Ended r w = inr tt
without_fault WriteFault r w = absurd (w refl)
without_fault ReadFault r w = absurd (r refl)
without_fault NoMemory r w = inl refl
