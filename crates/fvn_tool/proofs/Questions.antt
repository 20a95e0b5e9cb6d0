-- What is asked is determined, and so is what is refused.
use Rattle.std.proofs.Common.{◌≡◌, ◌⊎◌, ℕ, List, refl, sym, ap, ◌∙◌, subst, inl, inr}
use Rattle.fvn_module.specs.Contents.{Contents}
use Rattle.fvn_problems.specs.Bindings.{IsBindings}
use Rattle.fvn_cmd.specs.declared.status.Status.{Status}
use Rattle.fvn_cmd.specs.declared.status.Status.TheVariants.{ModuleRefused, ProblemRefused}
use Rattle.fvn_cmd.specs.Texts.{Is}
use Rattle.fvn_cmd.specs.Asking.{AllStand}
use Rattle.fvn_cmd.specs.Refusing.{IsRefusal, IsFirstRefusal, IsFirstWordRefusal}
use Rattle.fvn_cmd.specs.Laws.{ReadersAreLawful, RefusalsAreLawful}
use Rattle.fvn_module_loading.specs.Loading.{IsLoaded, AreNotLoaded}
use Rattle.fvn_cmd_work.specs.Made.{work_problem}
use Rattle.fvn_tool.specs.Words.{Command, check, unify, verify, terminates, variants, vunify, work}
use Rattle.fvn_tool.specs.Asked.{Question, unifiers, verdict, termination, term_variants, theory_unifiers, count, Asked, words_of, IsQuestion, IsShort, IsAsked, IsRefused}
use Rattle.fvn_tool.specs.Laws.{QuestionsAreDetermined, RefusalsAreRight}

-- the words of what is asked are what they should be
stand : (m : Contents) (c : Command) (q : Question) → IsQuestion m c q → AllStand m (words_of c)
stand m check q h = tt
stand m (unify problem) q h = ((h.0, h.1.0), tt)
stand m (verify problem bindings steps) q h = ((h.0, h.2.0), ((h.0, h.1, (h.2.0, h.2.1)), tt))
stand m (terminates weights) q h = ((h.0, h.1.0), tt)
stand m (variants term reach) q h = ((h.0, h.1.0), tt)
stand m (vunify problem reach) q h = ((h.0, h.1.0), tt)
stand m (work number) q h = ((h.0, h.1.0), tt)

module _ (laws : ReadersAreLawful) where
  question_one : (m : Contents) (c : Command) (q r : Question) → IsQuestion m c q → IsQuestion m c r → q ≡ r
  question_one m check q r h k = h ∙ sym k
  question_one m (unify problem) q r h k =
      h.1.1 ∙ ap unifiers (laws.problems m.signature m.names problem h.0 k.0 h.1.0 k.1.0) ∙ sym k.1.1
  question_one m (verify problem bindings steps) q r h k =
      let same : h.0 ≡ k.0 = laws.problems m.signature m.names problem h.0 k.0 h.2.0 k.2.0 in
      let bound : h.1 ≡ k.1 = laws.bindings m.signature m.names problem k.0 k.2.0 bindings h.1 k.1 (subst (λ p. IsBindings m.signature m.names p bindings h.1) same h.2.1) k.2.1 in
      h.2.2 ∙ ap (λ p. verdict p h.1 steps) same ∙ ap (λ b. verdict k.0 b steps) bound ∙ sym k.2.2
  question_one m (terminates weights) q r h k =
      h.1.1 ∙ ap termination (laws.weights m.signature m.names weights k.0 k.1.0 h.0 h.1.0) ∙ sym k.1.1
  question_one m (variants term reach) q r h k =
      h.1.1 ∙ ap (λ t. term_variants t reach) (laws.terms m.signature m.names term h.0 k.0 h.1.0 k.1.0) ∙ sym k.1.1
  question_one m (vunify problem reach) q r h k =
      h.1.1 ∙ ap (λ p. theory_unifiers p reach) (laws.problems m.signature m.names problem h.0 k.0 h.1.0 k.1.0) ∙ sym k.1.1
  question_one m (work number) q r h k =
      h.1.1 ∙ ap count (laws.problems m.signature m.names (work_problem number) h.0 k.0 h.1.0 k.1.0) ∙ sym k.1.1

  one_question : (bytes : List ℕ) (c : Command) (a b : Asked) → IsAsked bytes c a → IsAsked bytes c b → a ≡ b
  one_question bytes c a b h k =
      let contents : a.contents ≡ b.contents = laws.loaded bytes a.contents b.contents h.loaded k.loaded in
      let question : a.question ≡ b.question = question_one b.contents c a.question b.question (subst (λ m. IsQuestion m c a.question) contents h.question_is) k.question_is in
      λ i. record { contents = contents i; question = question i }

module _ (refusals : RefusalsAreLawful) where
  one_refusal : (bytes : List ℕ) (c : Command) (s : Status) (t : List ℕ) → IsRefused bytes c s t → (u : Status) (v : List ℕ) → IsRefused bytes c u v → Is s t u v
  one_refusal bytes c s t (inl a) u v (inl b) = (b.1.0 ∙ sym a.1.0, b.1.1 ∙ sym a.1.1)
  one_refusal bytes c s t (inl a) u v (inr b) = absurd (a.0 b.0)
  one_refusal bytes c s t (inr a) u v (inl b) = absurd (b.0 a.0)
  one_refusal bytes c s t (inr a) u v (inr b) = refusals.one bytes (words_of c) s t a.1 u v b.1

  not_both : (bytes : List ℕ) (c : Command) (a : Asked) → IsAsked bytes c a → (s : Status) (t : List ℕ) → IsRefused bytes c s t → ⊥
  not_both bytes c a h s t (inl r) = r.0 h.short
  not_both bytes c a h s t (inr r) = refusals.not_both bytes (words_of c) s t r.1 a.contents h.loaded (stand a.contents c a.question h.question_is)

  -- What a refusal says.

  module _ (bytes : List ℕ) (c : Command) (s : Status) (t : List ℕ) where
    module_only : IsRefused bytes c s t → s ≡ ModuleRefused → (IsShort bytes → ⊥) ⊎ (IsShort bytes × AreNotLoaded bytes)
    module_only (inl a) e = inl a.0
    module_only (inr a) e = inr (a.0, refusals.module_refused bytes (words_of c) t (subst (λ x. IsRefusal bytes (words_of c) x t) e a.1))

    words_only : IsRefused bytes c s t → s ≡ ProblemRefused → IsShort bytes × ((m : Contents) × (IsLoaded bytes m × (AllStand m (words_of c) → ⊥)))
    words_only (inl a) e = let is = a.1.0 in cc
    words_only (inr a) e = (a.0, refusals.words_refused bytes (words_of c) t (subst (λ x. IsRefusal bytes (words_of c) x t) e a.1))

    not_loaded_in : AreNotLoaded bytes → IsRefusal bytes (words_of c) s t → (s ≡ ModuleRefused) × IsFirstRefusal bytes t
    not_loaded_in none (inl x) = x
    not_loaded_in none (inr x) = absurd (none x.1.contents x.1.loaded)

    not_loaded : IsRefused bytes c s t → IsShort bytes → AreNotLoaded bytes → (s ≡ ModuleRefused) × IsFirstRefusal bytes t
    not_loaded (inl a) short none = absurd (a.0 short)
    not_loaded (inr a) short none = not_loaded_in none a.1

    no_words_in : (m : Contents) → IsLoaded bytes m → IsRefusal bytes (words_of c) s t → (s ≡ ProblemRefused) × IsFirstWordRefusal bytes (words_of c) t
    no_words_in m h (inl x) = absurd (refusals.module_refused bytes (words_of c) t (inl (refl, x.1)) m h)
    no_words_in m h (inr x) = x

    no_words : IsRefused bytes c s t → IsShort bytes → (m : Contents) → IsLoaded bytes m → (s ≡ ProblemRefused) × IsFirstWordRefusal bytes (words_of c) t
    no_words (inl a) short m h = absurd (a.0 short)
    no_words (inr a) short m h = no_words_in m h a.1

  pub refusals_right : RefusalsAreRight
  refusals_right bytes c s t r = record {
    module_only = module_only bytes c s t r;
    words_only = words_only bytes c s t r;
    not_loaded = not_loaded bytes c s t r;
    no_words = no_words bytes c s t r;
  }

pub questions_determined : ReadersAreLawful → RefusalsAreLawful → QuestionsAreDetermined
questions_determined laws refusals = record {
  one_question = one_question laws;
  one_refusal = one_refusal refusals;
  not_both = not_both refusals;
}
