-- What is promised of a verdict follows from how it is told.
use Rattle.std.proofs.Common.{◌≡◌, ℕ, List, [], ◌∷◌, ◌++◌, Some, refl, sym, ap, ◌∙◌, subst, inl, inr}
use Rattle.std.specs.Prelude.{All}
use Rattle.std.proofs.lemmas.List.Elements.{All-head, All-tail}
use Rattle.fvn_base.specs.declared.limits.TheConstants.{TERM_SYMBOLS}
use Rattle.fvn_terms.specs.declared.plain.Plain.{Plain}
use Rattle.fvn_terms.specs.Substitution.{value}
use Rattle.fvn_forms.specs.Flat.{FlatTerm}
use Rattle.fvn_module.specs.Contents.{Contents}
use Rattle.fvn_theory.specs.Equations.{equations_of}
use Rattle.fvn_problems.specs.declared.problem.Problem.{Problem}
use Rattle.fvn_problems.specs.declared.bindings.Bindings.{Bindings}
use Rattle.fvn_verify.specs.declared.verdict.Verdict.{Verdict}
use Rattle.fvn_verify.specs.declared.verdict.Verdict.TheVariants.{Yes, No, Steps, Size}
use Rattle.fvn_verify.specs.Verdicts.{AreEqual, EndsAt}
use Rattle.fvn_verify.specs.Laws.{Agree, VerdictsAgree}
use Rattle.fvn_cmd_texts.specs.Verdicts.{verdict_text}
use Rattle.fvn_cmd.specs.declared.status.Status.{Status}
use Rattle.fvn_cmd.specs.declared.status.Status.TheVariants.{Solved, Nothing, Ended}
use Rattle.fvn_cmd.specs.Statuses.{IsAnswering}
use Rattle.fvn_cmd.specs.Texts.{line, Is}
use Rattle.fvn_cmd_verify.specs.Verdicts.{status_of_verdict, IsToldAs, setting_under, IsVerdictOn, TellsVerdict}
use Rattle.fvn_cmd_verify.specs.Replies.{AreSolvedBy}
use Rattle.fvn_cmd_laws.specs.Verified.{AreConfluentIn, AreOneIfConfluent, IsDecided, TellsYes, TellsNo, TellsYesOrNo, StaysWithin, AllStayWithin, IsVerdictExact}
use Rattle.fvn_cmd_laws.specs.Laws.{VerdictsAreExact}

pub verdict_answering : (v : Verdict) → IsAnswering (status_of_verdict v)
verdict_answering Yes = tt
verdict_answering (No n l r) = tt
verdict_answering (Steps l r) = tt
verdict_answering (Size f) = tt

-- what holds of all holds of each
all_at : {T : Type 0} (P : T → Type 0) (before : List T) (x : T) (after : List T) → All P (before ++ (x ∷ after)) → P x
all_at P [] x after h = All-head P x after h
all_at P (y ∷ before) x after h = all_at P before x after (All-tail P y (before ++ (x ∷ after)) h)

module _ (m : Contents) (p : Problem) (b : Bindings) (steps : ℕ) where
  solved_by : (v : Verdict) → Solved ≡ status_of_verdict v → IsVerdictOn m steps p b v → AreSolvedBy m p b
  solved_by Yes e k = k.0
  solved_by (No n l r) e k = cc
  solved_by (Steps l r) e k = cc
  solved_by (Size f) e k = cc

  -- a side at which the search ended met a bound
  stays_at : AllStayWithin m p b steps → (t : Plain) → EndsAt (setting_under m steps b) p.pairs t → StaysWithin m p b steps t
  stays_at all t ends = all_at (StaysWithin m p b steps) ends.before t ends.after (subst (All (StaysWithin m p b steps)) ends.split all)

  module _ (s : Status) (t : List ℕ) where
    told_yes : IsVerdictOn m steps p b Yes → IsToldAs m steps Yes s t → TellsYes m p b steps s t
    told_yes k told = record { told = (told.status_is, told.text_tells); solved = k.0 }

    told_difference : (n : ℕ) (l r : FlatTerm) → IsVerdictOn m steps p b (No n l r) → IsToldAs m steps (No n l r) s t → TellsNo m p b steps s t
    told_difference n l r k told = record { number = n; left = l; right = r; told = (told.status_is, told.text_tells); first = k }

    told_no : (v : Verdict) → IsVerdictOn m steps p b v → IsToldAs m steps v s t → s ≡ Nothing → TellsNo m p b steps s t
    told_no Yes k told e = let is = told.status_is in cc
    told_no (No n l r) k told e = told_difference n l r k told
    told_no (Steps l r) k told e = let is = told.status_is in cc
    told_no (Size f) k told e = let is = told.status_is in cc

    told_within : AllStayWithin m p b steps → (v : Verdict) → IsVerdictOn m steps p b v → IsToldAs m steps v s t → TellsYesOrNo m p b steps s t
    told_within all Yes k told = inl (told_yes k told)
    told_within all (No n l r) k told = inr (told_difference n l r k told)
    told_within all (Steps l r) k told = absurd ((stays_at all k.0 k.1.0).few l r k.1.1)
    told_within all (Size f) k told = absurd ((stays_at all k.0 k.1.0).small f k.1.1)

    -- `no` is told with the number of the first pair whose forms differ
    tells_no : TellsVerdict m steps p b s t → s ≡ Nothing → TellsNo m p b steps s t
    tells_no h e = told_no h.0 h.1.0 h.1.1 e

    -- where the equations are confluent, `no` is told only of bindings that do not solve the problem
    tells_refuted : TellsNo m p b steps s t → AreConfluentIn m → AreSolvedBy m p b → ⊥
    tells_refuted h confluent solved =
        let f = h.first in
        let P = AreEqual m.signature (equations_of m.equations) (value b.subst.pairs) in
        f.apart confluent (all_at P f.before f.pair f.after (subst (All P) f.split solved))

    -- where no bound is met, one of the two is told
    tells_within : AllStayWithin m p b steps → TellsVerdict m steps p b s t → TellsYesOrNo m p b steps s t
    tells_within all h = told_within all h.0 h.1.0 h.1.1

  exact : (s : Status) (t : List ℕ) → TellsVerdict m steps p b s t → IsVerdictExact m p b steps s t
  exact s t h = record {
    yes = λ e. solved_by h.0 (sym e ∙ h.1.1.status_is) h.1.0;
    no = tells_no s t h;
    refuted = λ e. tells_refuted s t (tells_no s t h e);
    no_event = λ all. tells_within s t all h;
  }

  decided : (v : Verdict) → IsVerdictOn m steps p b v → AllStayWithin m p b steps → IsDecided v
  decided Yes k all = tt
  decided (No n l r) k all = tt
  decided (Steps l r) k all = (stays_at all k.0 k.1.0).few l r k.1.1
  decided (Size f) k all = (stays_at all k.0 k.1.0).small f k.1.1

-- verdicts that agree and end at no bound are told alike
told_alike : (m : Contents) (steps more : ℕ) (v w : Verdict) (s : Status) (t : List ℕ) (u : Status) (x : List ℕ) → Agree v w → IsToldAs m steps v s t → IsToldAs m more w u x →
    (s ≡ Ended → ⊥) → (u ≡ Ended → ⊥) → Is s t u x
told_alike m steps more Yes Yes s t u x a h k f g = (k.status_is ∙ sym h.status_is, k.text_tells ∙ sym h.text_tells)
told_alike m steps more Yes (No n l r) s t u x a h k f g = absurd a
told_alike m steps more Yes (Steps l r) s t u x a h k f g = absurd (g k.status_is)
told_alike m steps more Yes (Size z) s t u x a h k f g = absurd (g k.status_is)
told_alike m steps more (No n l r) Yes s t u x a h k f g = absurd a
told_alike m steps more (No n l r) (No o y z) s t u x a h k f g =
    (k.status_is ∙ sym h.status_is, k.text_tells ∙ ap (λ i. line (verdict_text (Some i))) (sym a) ∙ sym h.text_tells)
told_alike m steps more (No n l r) (Steps y z) s t u x a h k f g = absurd (g k.status_is)
told_alike m steps more (No n l r) (Size z) s t u x a h k f g = absurd (g k.status_is)
told_alike m steps more (Steps l r) w s t u x a h k f g = absurd (f h.status_is)
told_alike m steps more (Size z) w s t u x a h k f g = absurd (f h.status_is)

-- verdicts on one question are one where the equations are confluent and neither ended at a bound
one : VerdictsAgree → (m : Contents) (p : Problem) (b : Bindings) (steps more : ℕ) (s : Status) (t : List ℕ) (u : Status) (v : List ℕ) → TellsVerdict m steps p b s t → TellsVerdict m more p b u v → AreOneIfConfluent m s t u v
one agree m p b steps more s t u v h k confluent f g =
    told_alike m steps more h.0 k.0 s t u v
    (agree m.signature (equations_of m.equations) confluent (value b.subst.pairs) p.pairs
    (record { steps = steps; size = TERM_SYMBOLS }) (record { steps = more; size = TERM_SYMBOLS }) h.0 k.0 h.1.0 k.1.0)
    h.1.1 k.1.1 f g

pub verdicts_exact : VerdictsAgree → VerdictsAreExact
verdicts_exact agree = record { exact = exact; one = one agree; decided = decided }
