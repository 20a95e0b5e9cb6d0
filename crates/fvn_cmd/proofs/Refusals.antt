-- Refusals of modules and of words are determined.
use Rattle.std.proofs.Common.{◌≡◌, ℕ, List, [], ◌∷◌, sym, ap, ◌∙◌, subst, inl, inr}
use Rattle.fvn_base.proofs.Options.{Some-injective}
use Rattle.fvn_module.specs.declared.fault.ModuleFault.{ModuleFault}
use Rattle.fvn_module.specs.declared.fault.ModuleFault.TheVariants.{NoMemory as NoModuleMemory}
use Rattle.fvn_module.specs.Contents.{Contents}
use Rattle.fvn_module_loading.specs.Loading.{IsLoaded, AreNotLoaded}
use Rattle.fvn_problems.specs.declared.fault.ProblemFault.{ProblemFault}
use Rattle.fvn_problems.specs.declared.fault.ProblemFault.TheVariants.{NoMemory}
use Rattle.fvn_problems.specs.Faults.{AreOneFault}
use Rattle.fvn_problems.specs.Bindings.{IsBindings, RefusesBindings}
use Rattle.fvn_cmd_texts.specs.Refusals.{refusal_text}
use Rattle.fvn_cmd_texts.specs.ProblemRefusals.{problem_text}
use Rattle.fvn_cmd.specs.declared.status.Status.{Status}
use Rattle.fvn_cmd.specs.declared.status.Status.TheVariants.{ModuleRefused, ProblemRefused}
use Rattle.fvn_cmd.specs.Texts.{line, Is}
use Rattle.fvn_cmd.specs.Asking.{Word, problem_word, bindings_word, weights_word, term_word, Stands, IsFaultOf, AllStand, IsFirstFault}
use Rattle.fvn_cmd.specs.Refusing.{IsRefusalLine, IsProblemRefusalLine, IsFirstRefusal, IsFirstWordRefusal, IsRefusal}
use Rattle.fvn_cmd.specs.Laws.{ReadersAreLawful, RefusalsAreLawful}

-- Want of memory has no line, and a fault has one line.

module_not_memory : (fault : ModuleFault) (text : List ℕ) → IsRefusalLine fault text → fault ≡ NoModuleMemory → ⊥
module_not_memory fault text h e = let line_is = h.told in cc

not_memory : (fault : ProblemFault) (text : List ℕ) → IsProblemRefusalLine fault text → fault ≡ NoMemory → ⊥
not_memory fault text h e = let line_is = h.told in cc

module_line_each : (f g : ModuleFault) (t v : List ℕ) → IsRefusalLine f t → IsRefusalLine g v → f ≡ g → v ≡ t
module_line_each f g t v a b e =
    b.text_is ∙ ap line (Some-injective (sym b.told ∙ ap refusal_text (sym e) ∙ a.told)) ∙ sym a.text_is

line_each : (f g : ProblemFault) (t v : List ℕ) → IsProblemRefusalLine f t → IsProblemRefusalLine g v → f ≡ g → v ≡ t
line_each f g t v a b e =
    b.text_is ∙ ap line (Some-injective (sym b.told ∙ ap problem_text (sym e) ∙ a.told)) ∙ sym a.text_is

lines_alike : (f g : ProblemFault) (t v : List ℕ) → IsProblemRefusalLine f t → IsProblemRefusalLine g v → AreOneFault f g → v ≡ t
lines_alike f g t v a b h =
    elim h [
      | inl e ↦ absurd (not_memory f t a e)
      | inr k ↦ elim k [
        | inl e ↦ absurd (not_memory g v b e)
        | inr e ↦ line_each f g t v a b e
      ]
    ]

module _ (laws : ReadersAreLawful) where
  -- Words in a module.

  module _ (m : Contents) where
    -- but for want of memory, a word with a fault is not what it should be
    word_falls : (w : Word) (fault : ProblemFault) → (fault ≡ NoMemory → ⊥) → IsFaultOf m w fault → Stands m w → ⊥
    word_falls (problem_word text) fault room h s =
        elim (laws.no_problem m.signature m.names text fault h) [
          | inl e ↦ room e
          | inr none ↦ none s.0 s.1
        ]
    word_falls (bindings_word problem text) fault room h s =
        let same : s.0 ≡ h.0 = laws.problems m.signature m.names problem s.0 h.0 s.2.0 h.1.0 in
        elim (laws.no_bindings m.signature m.names problem h.0 h.1.0 text fault h.1.1) [
          | inl e ↦ room e
          | inr none ↦ none s.1 (subst (λ p. IsBindings m.signature m.names p text s.1) same s.2.1)
        ]
    word_falls (weights_word text) fault room h s =
        elim (laws.no_weights m.signature m.names text fault h) [
          | inl e ↦ room e
          | inr none ↦ none s.0 s.1
        ]
    word_falls (term_word text) fault room h s =
        elim (laws.no_term m.signature m.names text fault h) [
          | inl e ↦ room e
          | inr none ↦ none s.0 s.1
        ]

    -- but for want of memory, a word has one first fault
    word_one : (w : Word) (f g : ProblemFault) → IsFaultOf m w f → IsFaultOf m w g → AreOneFault f g
    word_one (problem_word text) f g h k = laws.problem_faults m.signature m.names text f g h k
    word_one (bindings_word problem text) f g h k =
        let same : k.0 ≡ h.0 = laws.problems m.signature m.names problem k.0 h.0 k.1.0 h.1.0 in
        laws.binding_faults m.signature m.names h.0 text f g h.1.1 (subst (λ p. RefusesBindings m.signature m.names p text g) same k.1.1)
    word_one (weights_word text) f g h k = laws.weight_faults m.signature m.names text f g h k
    word_one (term_word text) f g h k = laws.term_faults m.signature m.names text f g h k

    words_fall : (words : List Word) (fault : ProblemFault) → (fault ≡ NoMemory → ⊥) → IsFirstFault m words fault → AllStand m words → ⊥
    words_fall [] fault room h s = h
    words_fall (w ∷ words) fault room (inl h) s = word_falls w fault room h s.0
    words_fall (w ∷ words) fault room (inr h) s = words_fall words fault room h.1 s.1

    words_one : (words : List Word) (f g : ProblemFault) → (f ≡ NoMemory → ⊥) → (g ≡ NoMemory → ⊥) → IsFirstFault m words f → IsFirstFault m words g → AreOneFault f g
    words_one [] f g room more h k = absurd h
    words_one (w ∷ words) f g room more (inl h) (inl k) = word_one w f g h k
    words_one (w ∷ words) f g room more (inl h) (inr k) = absurd (word_falls w f room h k.0)
    words_one (w ∷ words) f g room more (inr h) (inl k) = absurd (word_falls w g more k h.0)
    words_one (w ∷ words) f g room more (inr h) (inr k) = words_one words f g room more h.1 k.1

  -- Texts of modules, and words.

  module _ (bytes : List ℕ) where
    not_loaded : (t : List ℕ) → IsFirstRefusal bytes t → AreNotLoaded bytes
    not_loaded t a m h = module_not_memory a.fault t a.line_of (laws.not_loaded bytes a.fault m a.first h)

    modules_alike : (t v : List ℕ) → IsFirstRefusal bytes t → IsFirstRefusal bytes v → v ≡ t
    modules_alike t v a b =
        elim (laws.faults bytes a.fault b.fault a.first b.first) [
          | inl e ↦ absurd (module_not_memory a.fault t a.line_of e)
          | inr h ↦ elim h [
            | inl e ↦ absurd (module_not_memory b.fault v b.line_of e)
            | inr e ↦ module_line_each a.fault b.fault t v a.line_of b.line_of e
          ]
        ]

    module _ (words : List Word) where
      not_all : (t : List ℕ) → IsFirstWordRefusal bytes words t → (m : Contents) → IsLoaded bytes m → AllStand m words → ⊥
      not_all t r m h s =
          let same : m ≡ r.contents = laws.loaded bytes m r.contents h r.loaded in
          words_fall r.contents words r.fault (not_memory r.fault t r.line_of) r.first (subst (λ k. AllStand k words) same s)

      words_alike : (t v : List ℕ) → IsFirstWordRefusal bytes words t → IsFirstWordRefusal bytes words v → v ≡ t
      words_alike t v a b =
          let same : b.contents ≡ a.contents = laws.loaded bytes b.contents a.contents b.loaded a.loaded in
          lines_alike a.fault b.fault t v a.line_of b.line_of
          (words_one a.contents words a.fault b.fault (not_memory a.fault t a.line_of) (not_memory b.fault v b.line_of) a.first (subst (λ k. IsFirstFault k words b.fault) same b.first))

      one : (s : Status) (t : List ℕ) → IsRefusal bytes words s t → (u : Status) (v : List ℕ) → IsRefusal bytes words u v → Is s t u v
      one s t (inl a) u v (inl b) = (b.0 ∙ sym a.0, modules_alike t v a.1 b.1)
      one s t (inl a) u v (inr b) = absurd (not_loaded t a.1 b.1.contents b.1.loaded)
      one s t (inr a) u v (inl b) = absurd (not_loaded v b.1 a.1.contents a.1.loaded)
      one s t (inr a) u v (inr b) = (b.0 ∙ sym a.0, words_alike t v a.1 b.1)

      module_refused : (t : List ℕ) → IsRefusal bytes words ModuleRefused t → AreNotLoaded bytes
      module_refused t (inl a) = not_loaded t a.1
      module_refused t (inr a) = let e = a.0 in cc

      words_refused : (t : List ℕ) → IsRefusal bytes words ProblemRefused t → (m : Contents) × (IsLoaded bytes m × (AllStand m words → ⊥))
      words_refused t (inl a) = let e = a.0 in cc
      words_refused t (inr a) = (a.1.contents, (a.1.loaded, not_all t a.1 a.1.contents a.1.loaded))

      not_both : (s : Status) (t : List ℕ) → IsRefusal bytes words s t → (m : Contents) → IsLoaded bytes m → AllStand m words → ⊥
      not_both s t (inl a) m h all = not_loaded t a.1 m h
      not_both s t (inr a) m h all = not_all t a.1 m h all

  pub refusals_lawful : RefusalsAreLawful
  refusals_lawful = record { one = one; module_refused = module_refused; words_refused = words_refused; not_both = not_both }
