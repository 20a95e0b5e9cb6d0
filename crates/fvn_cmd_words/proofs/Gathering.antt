-- Operands and options are read just as they are.
use Rattle.std.proofs.Common.{◌≡◌, ℕ, List, [], ◌∷◌, ◌++◌, Option, Some, None, refl, sym, ap, ◌∙◌, subst}
use Rattle.std.specs.Prelude.{codes}
use Rattle.fvn_base.proofs.Options.{Some-injective}
use Rattle.fvn_cmd_words.specs.declared.options.OptionName.{OptionName}
use Rattle.fvn_cmd_words.specs.declared.kinds.Mode.{Mode}
use Rattle.fvn_cmd_words.specs.declared.kinds.Mode.TheVariants.{Usual, Value, Operands}
use Rattle.fvn_cmd_words.specs.declared.kinds.Next.{Next}
use Rattle.fvn_cmd_words.specs.declared.kinds.Next.TheVariants.{Operand, Set, To, Wrong}
use Rattle.fvn_cmd_words.specs.Words.{Word, spelled, Options, IsNumber, AreArguments, none, ended, operand, in_two, in_one}
use Rattle.fvn_cmd_words.specs.inner.Reading.{number_of, set_to, usual_next, Given, before_all, going_on, arguments_of}
use Rattle.fvn_cmd_words.proofs.Spelling.{number_read, number_spelled}
use Rattle.fvn_cmd_words.proofs.Sorting.{IsSo, next_so, operand_next, spelled_next, joined_given}

-- the words behind an option are its number and arguments
pub record IsBehind (x : OptionName) (words operands : List Word) (options : Options) : Type 0 where
  pub number : Word
  pub value : ℕ
  pub rest : List Word
  pub others : Options
  pub words_are : words ≡ number ∷ rest
  pub options_are : options ≡ (x, value) ∷ others
  pub is_number : IsNumber number value
  pub arguments : AreArguments rest operands others

-- what is read where this is awaited
abbrev Arrives : Mode → List Word → Given → Type 0
Arrives Usual words g = AreArguments words g.0 g.1
Arrives (Value x) words g = IsBehind x words g.0 g.1
Arrives Operands words g = (g.0 ≡ words) × (g.1 ≡ [])

-- what was put before
put_before : (operands : List Word) (options : Options) (o : Option Given) (g : Given) → before_all operands options o ≡ Some g → (r : Given) × (o ≡ Some r) × (g ≡ (operands ++ r.0, options ++ r.1))
put_before operands options None g e = cc
put_before operands options (Some r) g e = (r, refl, sym (Some-injective e))

pub arguments_read : (words : List Word) (mode : Mode) (g : Given) → arguments_of words mode ≡ Some g → Arrives mode words g
arguments_read [] Usual g e = subst (λ (r : Given). AreArguments [] r.0 r.1) (Some-injective e) none
arguments_read [] (Value x) g e = cc
arguments_read [] Operands g e = (sym (ap (λ (r : Given). r.0) (Some-injective e)), sym (ap (λ (r : Given). r.1) (Some-injective e)))
arguments_read (word ∷ words) Operands g e =
    let p = put_before (word ∷ []) [] (arguments_of words Operands) g e in
    let h = arguments_read words Operands p.0 p.1 in
    (ap (λ (r : Given). r.0) p.2 ∙ ap (λ l. word ∷ l) h.0, ap (λ (r : Given). r.1) p.2 ∙ h.1)
arguments_read (word ∷ words) (Value x) g e = go (number_of word) refl e (arguments_read words Usual)
  where
    go : (o : Option ℕ) → number_of word ≡ o → going_on (Value x) word (set_to x o) (arguments_of words) ≡ Some g → ((r : Given) → arguments_of words Usual ≡ Some r → AreArguments words r.0 r.1) → IsBehind x (word ∷ words) g.0 g.1
    go None q h rest = cc
    go (Some n) q h rest =
        let p = put_before [] ((x, n) ∷ []) (arguments_of words Usual) g h in record {
          number = word;
          value = n;
          rest = words;
          others = p.0.1;
          words_are = refl;
          options_are = ap (λ (r : Given). r.1) p.2;
          is_number = number_read word n q;
          arguments = subst (λ os. AreArguments words os p.0.1) (sym (ap (λ (r : Given). r.0) p.2)) (rest p.0 p.1);
        }
arguments_read (word ∷ words) Usual g e =
    go (usual_next word) (next_so word) e (arguments_read words Usual) (λ x r h. arguments_read words (Value x) r h) (arguments_read words Operands)
  where
    go : (next : Next) → IsSo word next → going_on Usual word next (arguments_of words) ≡ Some g → ((r : Given) → arguments_of words Usual ≡ Some r → AreArguments words r.0 r.1) →
        ((x : OptionName) (r : Given) → arguments_of words (Value x) ≡ Some r → IsBehind x words r.0 r.1) → ((r : Given) → arguments_of words Operands ≡ Some r → (r.0 ≡ words) × (r.1 ≡ [])) →
        AreArguments (word ∷ words) g.0 g.1
    go Operand so h usual value operands =
        let p = put_before (word ∷ []) [] (arguments_of words Usual) g h in
        subst (λ (r : Given). AreArguments (word ∷ words) r.0 r.1) (sym p.2) (operand so (usual p.0 p.1))
    go (Set x n) so h usual value operands =
        let p = put_before [] ((x, n) ∷ []) (arguments_of words Usual) g h in
        subst (λ (r : Given). AreArguments (word ∷ words) r.0 r.1) (sym p.2)
        (subst (λ w. AreArguments (w ∷ words) p.0.0 ((x, n) ∷ p.0.1)) (sym so.1) (in_one (number_read so.0 n so.2) (usual p.0 p.1)))
    go (To Usual) so h usual value operands = absurd so
    go (To (Value x)) so h usual value operands =
        let v = value x g h in
        subst (λ w. AreArguments (w ∷ words) g.0 g.1) (sym so)
        (subst (λ ws. AreArguments (spelled x ∷ ws) g.0 g.1) (sym v.words_are) (subst (λ ps. AreArguments (spelled x ∷ v.number ∷ v.rest) g.0 ps) (sym v.options_are) (in_two v.is_number v.arguments)))
    go (To Operands) so h usual value operands =
        let o = operands g h in
        subst (λ w. AreArguments (w ∷ words) g.0 g.1) (sym so)
        (subst (λ os. AreArguments (codes "--" ∷ words) os g.1) (sym o.0) (subst (λ ps. AreArguments (codes "--" ∷ words) words ps) (sym o.1) ended))
    go Wrong so h usual value operands = cc

all_operands : (words : List Word) → arguments_of words Operands ≡ Some (words, [])
all_operands [] = refl
all_operands (word ∷ words) = ap (before_all (word ∷ []) []) (all_operands words)

pub arguments_given : {words operands : List Word} {options : Options} → AreArguments words operands options → arguments_of words Usual ≡ Some (operands, options)
arguments_given none = refl
arguments_given (ended {words}) = all_operands words
arguments_given (operand {word} {words} e a) = ap (λ n. going_on Usual word n (arguments_of words)) (operand_next word e) ∙ ap (before_all (word ∷ []) []) (arguments_given a)
arguments_given (in_two {x} {number} {n} {words} h a) =
    ap (λ m. going_on Usual (spelled x) m (arguments_of (number ∷ words))) (spelled_next x)
    ∙ ap (λ m. going_on (Value x) number (set_to x m) (arguments_of words)) (number_spelled number n h)
    ∙ ap (before_all [] ((x, n) ∷ [])) (arguments_given a)
arguments_given (in_one {x} {number} {n} {words} h a) =
    ap (λ m. going_on Usual (spelled x ++ codes "=" ++ number) m (arguments_of words)) (joined_given x number ∙ ap (set_to x) (number_spelled number n h))
    ∙ ap (before_all [] ((x, n) ∷ [])) (arguments_given a)
