-- Words that are read one after another.
use Rattle.std.proofs.Common.{◌≡◌, ◌<◌, ◌≤◌, ◌+◌, ℕ, List, [], ◌∷◌, ◌++◌, suc, zero, map, drop, length, get_or, Option, Some, None, refl, sym, ap, ◌∙◌, subst, arith}
use Rattle.std.specs.Prelude.{option_map}
use Rattle.std.proofs.lemmas.List.{append_assoc, drop_more, drop_all}
use Rattle.fvn_base.proofs.Options.{Some-injective}
use Rattle.fvn_cmd_words.specs.declared.kinds.Mode.{Mode}
use Rattle.fvn_cmd_words.specs.declared.kinds.Mode.TheVariants.{Usual}
use Rattle.fvn_cmd_words.specs.declared.kinds.Next.{Next}
use Rattle.fvn_cmd_words.specs.declared.kinds.Next.TheVariants.{Operand, Set, To, Wrong}
use Rattle.fvn_cmd_words.specs.declared.options.Settings.{Settings}
use Rattle.fvn_cmd_words.specs.declared.reading.Places.{Places}
use Rattle.fvn_cmd_words.specs.declared.reading.Places.TheVariants.{Zero, One, Two}
use Rattle.fvn_cmd_words.specs.declared.reading.State.{State}
use Rattle.fvn_cmd_words.specs.Words.{Word, Command, Options}
use Rattle.fvn_cmd_words.specs.inner.Reading.{next_of, Given, before_all, at_end, going_on, arguments_of, standing_of, command_from, command_given, command_of, word_at}
use Rattle.fvn_cmd_words.specs.inner.Keeping.{set_once, operands_of, AreBelow, with_place, taken, ClosedAs, ReadAs}
use Rattle.fvn_cmd_words.proofs.Naming.{command_behind}
use Rattle.fvn_cmd_words.proofs.Keeping.{IsTallyOf, tally_none, tally_more, tally_twice, same_standing, no_command_twice}

before_both : (a b : List Word) (p q : Options) (o : Option Given) → before_all (a ++ b) (p ++ q) o ≡ before_all a p (before_all b q o)
before_both a b p q None = refl
before_both a b p q (Some g) = ap (λ l. Some (l, (p ++ q) ++ g.1)) (append_assoc a b g.0) ∙ ap (λ l. Some (a ++ (b ++ g.0), l)) (append_assoc p q g.1)

no_more : {A : Type 0} (l : List A) → l ++ [] ≡ l
no_more [] = refl
no_more (x ∷ l) = ap (λ m. x ∷ m) (no_more l)

before_none : (o : Option Given) → before_all [] [] o ≡ o
before_none None = refl
before_none (Some g) = refl

-- what stands at a place
pub there : {A : Type 0} (f : A → Word) (l : List A) (i : ℕ) (x d : A) → i < length l → x ≡ get_or l i d → word_at (map f l) i ≡ f x
there f [] i x d within is = absurd (omega (arith, within))
there f (y ∷ l) zero x d within is = ap f (sym is)
there f (y ∷ l) (suc i) x d within is = there f l i x d (omega (arith, within)) is

-- a value that is made of another
made : {A B : Type 0} (f : A → B) (o : Option A) (y : B) → option_map f o ≡ Some y → (x : A) × (o ≡ Some x) × (f x ≡ y)
made f None y e = cc
made f (Some x) y e = (x, refl, Some-injective e)

made_none : {A B : Type 0} (f : A → B) (o : Option A) → option_map f o ≡ None → o ≡ None
made_none f None e = refl
made_none f (Some x) e = cc

module _ (words : List Word) where
  place_more : (p q : Places) (i : ℕ) → with_place i p ≡ Some q → operands_of words q ≡ operands_of words p ++ word_at words i ∷ []
  place_more Zero q i e = ap (operands_of words) (sym (Some-injective e))
  place_more (One f) q i e = ap (operands_of words) (sym (Some-injective e))
  place_more (Two f g) q i e = cc

  place_below : (p q : Places) (i : ℕ) → with_place i p ≡ Some q → i < length words → AreBelow (length words) p → AreBelow (length words) q
  place_below Zero q i e within below = subst (AreBelow (length words)) (Some-injective e) within
  place_below (One f) q i e within below = subst (AreBelow (length words)) (Some-injective e) (below, within)
  place_below (Two f g) q i e within below = cc

  -- a third operand is one too many
  place_many : (p : Places) (i : ℕ) (name : Word) (options : Options) (o : Option Given) → with_place i p ≡ None → command_given name (before_all (operands_of words p) options (before_all (word_at words i ∷ []) [] o)) ≡ None
  place_many Zero i name options o e = cc
  place_many (One f) i name options o e = cc
  place_many (Two f g) i name options None e = refl
  place_many (Two f g) i name options (Some r) e = refl

  -- a second number of an option too
  set_many : (operands : List Word) (options : Options) (set : Settings) (x : _) (n : ℕ) (name : Word) (o : Option Given) → IsTallyOf options set → set_once x n set ≡ None → command_given name (before_all operands options (before_all [] ((x, n) ∷ []) o)) ≡ None
  set_many operands options set x n name None h e = refl
  set_many operands options set x n name (Some g) h e = no_command_twice x (options ++ (x, n) ∷ g.1) (tally_twice options set x n g.1 h e) name (operands ++ g.0)

  -- What is read of the words from a place on.
  read_on_word : (mode : Mode) (i : ℕ) → i < length words → arguments_of (drop i words) mode ≡ going_on mode (word_at words i) (next_of mode (word_at words i)) (arguments_of (drop (i + 1) words))
  read_on_word mode i within = ap (λ l. arguments_of l mode) (drop_more words i [] within)

  -- what is kept, with options of which it is the tally, and the words from a place on decide
  pub record IsReading (i : ℕ) (s : State) : Type 0 where
    pub options : Options
    pub tally : IsTallyOf options s.set
    pub below : AreBelow (length words) s.operands
    pub decides : command_of words ≡ command_given (word_at words 0) (before_all (operands_of words s.operands) options (arguments_of (drop i words) s.mode))

  pub read_begin : 1 ≤ length words → IsReading 1 (record { mode = Usual; operands = Zero; set = record { levels = None; variants = None; steps = None; workers = None } })
  read_begin some = record {
    options = [];
    tally = tally_none;
    below = tt;
    decides = command_behind words some ∙ ap (command_given (word_at words 0)) (sym (before_none (arguments_of (drop 1 words) Usual)));
  }

  module _ (s : State) (i : ℕ) (next : Next) (within : i < length words) (is : next ≡ next_of s.mode (word_at words i)) (r : IsReading i s) where
    abbrev rest : Mode → Option Given
    rest = arguments_of (drop (i + 1) words)

    abbrev from : Option Given → Option Command
    from o = command_given (word_at words 0) (before_all (operands_of words s.operands) r.options o)

    -- the next word decides, and those behind it
    decided : command_of words ≡ from (going_on s.mode (word_at words i) next rest)
    decided = r.decides ∙ ap from (read_on_word s.mode i within ∙ ap (λ n. going_on s.mode (word_at words i) n rest) (sym is))

    -- one word more
    pub read_step : (t : State) → taken next i s ≡ Some t → IsReading (i + 1) t
    read_step t e = go next e decided
      where
        go : (n : Next) → taken n i s ≡ Some t → command_of words ≡ from (going_on s.mode (word_at words i) n rest) → IsReading (i + 1) t
        go Operand h d =
            let m = made (λ places. record { mode = s.mode; operands = places; set = s.set }) (with_place i s.operands) t h in
            subst (IsReading (i + 1)) m.2
            (record {
              options = r.options;
              tally = r.tally;
              below = place_below s.operands m.0 i m.1 within r.below;
              decides =
                  d
                  ∙ ap (command_given (word_at words 0)) (sym (before_both (operands_of words s.operands) (word_at words i ∷ []) r.options [] (rest s.mode)))
                  ∙ ap (λ l. command_given (word_at words 0) (before_all (operands_of words s.operands ++ word_at words i ∷ []) l (rest s.mode))) (no_more r.options)
                  ∙ ap (λ l. command_given (word_at words 0) (before_all l r.options (rest s.mode))) (sym (place_more s.operands m.0 i m.1));
            })
        go (Set x n) h d =
            let m = made (λ set. record { mode = Usual; operands = s.operands; set = set }) (set_once x n s.set) t h in
            subst (IsReading (i + 1)) m.2
            (record {
              options = r.options ++ (x, n) ∷ [];
              tally = tally_more r.options s.set m.0 x n r.tally m.1;
              below = r.below;
              decides =
                  d
                  ∙ ap (command_given (word_at words 0)) (sym (before_both (operands_of words s.operands) [] r.options ((x, n) ∷ []) (rest Usual)))
                  ∙ ap (λ l. command_given (word_at words 0) (before_all l (r.options ++ (x, n) ∷ []) (rest Usual))) (no_more (operands_of words s.operands));
            })
        go (To other) h d =
            subst (IsReading (i + 1)) (Some-injective h) (record { options = r.options; tally = r.tally; below = r.below; decides = d })
        go Wrong h d = cc

    -- a word that is wrong, or one too many
    pub read_wrong : taken next i s ≡ None → command_of words ≡ None
    read_wrong e = go next e decided
      where
        go : (n : Next) → taken n i s ≡ None → command_of words ≡ from (going_on s.mode (word_at words i) n rest) → command_of words ≡ None
        go Operand h d =
            d ∙ place_many s.operands i (word_at words 0) r.options (rest s.mode) (made_none (λ places. record { mode = s.mode; operands = places; set = s.set }) (with_place i s.operands) h)
        go (Set x n) h d =
            d ∙ set_many (operands_of words s.operands) r.options s.set x n (word_at words 0) (rest Usual) r.tally (made_none (λ set. record { mode = Usual; operands = s.operands; set = set }) (set_once x n s.set) h)
        go (To other) h d = cc
        go Wrong h d = d

  -- the words end
  pub read_end : (s : State) (i : ℕ) → length words ≤ i → IsReading i s → (o : Option State) → ClosedAs s o → ReadAs words o
  read_end s i end r o closed = go o closed
    where
      ended : command_of words ≡ command_given (word_at words 0) (before_all (operands_of words s.operands) r.options (at_end s.mode))
      ended = r.decides ∙ ap (λ l. command_given (word_at words 0) (before_all (operands_of words s.operands) r.options (arguments_of l s.mode))) (drop_all i words end)

      go : (a : Option State) → ClosedAs s a → ReadAs words a
      go None h = ended ∙ ap (λ e. command_given (word_at words 0) (before_all (operands_of words s.operands) r.options e)) h
      go (Some t) h = subst (λ x. ReadAs words (Some x)) (sym h.1) (
        r.below,
        ended
            ∙ ap (λ e. command_given (word_at words 0) (before_all (operands_of words s.operands) r.options e)) h.0
            ∙ ap (λ l. command_from (word_at words 0) l (standing_of (r.options ++ []))) (no_more (operands_of words s.operands))
            ∙ ap (λ l. command_from (word_at words 0) (operands_of words s.operands) (standing_of l)) (no_more r.options)
            ∙ ap (command_from (word_at words 0) (operands_of words s.operands)) (same_standing r.options s.set r.tally),
      )
