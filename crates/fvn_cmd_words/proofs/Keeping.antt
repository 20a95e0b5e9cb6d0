-- A number for each option is enough, and words that ask for a second one, or for a third operand, are no command.
use Rattle.std.proofs.Common.{◌≡◌, ℕ, Bool, true, false, List, [], ◌∷◌, ◌++◌, Option, Some, None, refl, sym, ap, ◌∙◌, subst}
use Rattle.std.specs.Prelude.{if◌then◌else◌, ◌&&◌, is_some, is_none, nat_eq, codes, option_map, Contains}
use Rattle.std.specs.Cmp.Lexicographic.{pointwise}
use Rattle.std.proofs.lemmas.List.{append_assoc}
use Rattle.fvn_base.proofs.Membership.{contains_here, contains_later}
use Rattle.fvn_base.proofs.Options.{Some-injective}
use Rattle.fvn_cmd_words.specs.declared.options.OptionName.{OptionName}
use Rattle.fvn_cmd_words.specs.declared.options.OptionName.TheVariants.{Levels, Variants, Steps, Workers}
use Rattle.fvn_cmd_words.specs.declared.options.Settings.{Settings}
use Rattle.fvn_cmd_words.specs.declared.reach.Reach.{Reach}
use Rattle.fvn_cmd_words.specs.Words.{Word, Command, check, verify, variants, vunify, Options, IsNoneOf}
use Rattle.fvn_cmd_words.specs.inner.Reading.{same_name, one_more, once, settled_once, setting_of, is_bare, has_steps_alone, standing_of, reach_of, reach_from, bare_with, variants_from, vunify_from, verify_from, command_from}
use Rattle.fvn_cmd_words.specs.inner.Keeping.{told, with_set, set_first, set_once, is_bare_set, is_steps_alone, standing_in}
use Rattle.fvn_cmd_words.proofs.Settings.{itself, IsFound, as_before, this_one, once_found, once_none, steps_read}

-- One option more behind others.

-- the number that was found, with one option more
abbrev with_one : Bool → Option ℕ → ℕ → Option (Option ℕ)
with_one false found n = Some found
with_one true None n = Some (Some n)
with_one true (Some m) n = None

once_push : (x : OptionName) (options : Options) (found seen : Option ℕ) (p : OptionName × ℕ) → once x found options ≡ Some seen → once x found (options ++ p ∷ []) ≡ with_one (same_name p.0 x) seen p.1
once_push x [] found seen p e = subst (λ o. once x found (p ∷ []) ≡ with_one (same_name p.0 x) o p.1) (Some-injective e) (go (same_name p.0 x) found)
  where
    go : (b : Bool) (f : Option ℕ) → one_more b f (Some f) (Some (Some p.1)) ≡ with_one b f p.1
    go false f = refl
    go true None = refl
    go true (Some m) = refl
once_push x (o ∷ options) found seen p e = go (same_name o.0 x) found e (λ f h. once_push x options f seen p h)
  where
    go : (b : Bool) (f : Option ℕ) → one_more b f (once x f options) (once x (Some o.1) options) ≡ Some seen → ((f : Option ℕ) → once x f options ≡ Some seen → once x f (options ++ p ∷ []) ≡ with_one (same_name p.0 x) seen p.1) →
        one_more b f (once x f (options ++ p ∷ [])) (once x (Some o.1) (options ++ p ∷ [])) ≡ with_one (same_name p.0 x) seen p.1
    go false f h rest = rest f h
    go true None h rest = rest (Some o.1) h
    go true (Some m) h rest = cc

-- what stands twice stands twice also before others
once_dead : (x : OptionName) (options : Options) (found : Option ℕ) (more : Options) → once x found options ≡ None → once x found (options ++ more) ≡ None
once_dead x [] found more e = cc
once_dead x (o ∷ options) found more e = go (same_name o.0 x) found e (λ f h. once_dead x options f more h)
  where
    go : (b : Bool) (f : Option ℕ) → one_more b f (once x f options) (once x (Some o.1) options) ≡ None → ((f : Option ℕ) → once x f options ≡ None → once x f (options ++ more) ≡ None) → one_more b f (once x f (options ++ more)) (once x (Some o.1) (options ++ more)) ≡ None
    go false f h rest = rest f h
    go true None h rest = rest (Some o.1) h
    go true (Some m) h rest = refl

-- The settings have the number of each option of a list, of which none stands twice.
abbrev pub IsTallyOf : Options → Settings → Type 0
IsTallyOf options set = (x : OptionName) → once x None options ≡ Some (told x set)

pub tally_none : IsTallyOf [] (record { levels = None; variants = None; steps = None; workers = None })
tally_none Levels = refl
tally_none Variants = refl
tally_none Steps = refl
tally_none Workers = refl

first_parts : (o : Option ℕ) (x : OptionName) (n : ℕ) (set more : Settings) → set_first o x n set ≡ Some more → (o ≡ None) × (with_set x n set ≡ more)
first_parts None x n set more e = (refl, Some-injective e)
first_parts (Some m) x n set more e = cc

first_none : (o : Option ℕ) (x : OptionName) (n : ℕ) (set : Settings) → set_first o x n set ≡ None → (m : ℕ) × (o ≡ Some m)
first_none None x n set e = cc
first_none (Some m) x n set e = (m, refl)

told_set : (x y : OptionName) (n : ℕ) (set : Settings) → told x set ≡ None → with_one (same_name x y) (told y set) n ≡ Some (told y (with_set x n set))
told_set Levels Levels n set e = ap (λ o. with_one true o n) e
told_set Levels Variants n set e = refl
told_set Levels Steps n set e = refl
told_set Levels Workers n set e = refl
told_set Variants Levels n set e = refl
told_set Variants Variants n set e = ap (λ o. with_one true o n) e
told_set Variants Steps n set e = refl
told_set Variants Workers n set e = refl
told_set Steps Levels n set e = refl
told_set Steps Variants n set e = refl
told_set Steps Steps n set e = ap (λ o. with_one true o n) e
told_set Steps Workers n set e = refl
told_set Workers Levels n set e = refl
told_set Workers Variants n set e = refl
told_set Workers Steps n set e = refl
told_set Workers Workers n set e = ap (λ o. with_one true o n) e

pub tally_more : (options : Options) (set more : Settings) (x : OptionName) (n : ℕ) → IsTallyOf options set → set_once x n set ≡ Some more → IsTallyOf (options ++ (x, n) ∷ []) more
tally_more options set more x n h e y =
    let p = first_parts (told x set) x n set more e in
    once_push y options None (told y set) (x, n) (h y) ∙ told_set x y n set p.0 ∙ ap (λ s. Some (told y s)) p.1

pub tally_twice : (options : Options) (set : Settings) (x : OptionName) (n : ℕ) (more : Options) → IsTallyOf options set → set_once x n set ≡ None → once x None (options ++ (x, n) ∷ more) ≡ None
tally_twice options set x n more h e =
    let p = first_none (told x set) x n set e in
    let twice : once x None (options ++ (x, n) ∷ []) ≡ None =
    once_push x options None (told x set) (x, n) (h x) ∙ ap (λ b. with_one b (told x set) n) (itself x) ∙ ap (λ o. with_one true o n) p.1 in
    ap (once x None) (sym (append_assoc options ((x, n) ∷ []) more)) ∙ once_dead x (options ++ (x, n) ∷ []) None more twice

-- What a command asks of options.

always_false : (b : Bool) → (if b then false else false) ≡ false
always_false true = refl
always_false false = refl

not_bare : (x : OptionName) (k : ℕ) (set : Settings) → told x set ≡ Some k → is_bare_set set ≡ false
not_bare Levels k set e = ap (λ o. if is_some o then false else (if is_some set.variants then false else (if is_some set.steps then false else is_none set.workers))) e
not_bare Variants k set e =
    ap (λ o. if is_some set.levels then false else (if is_some o then false else (if is_some set.steps then false else is_none set.workers))) e ∙ always_false (is_some set.levels)
not_bare Steps k set e =
    ap (λ o. if is_some set.levels then false else (if is_some set.variants then false else (if is_some o then false else is_none set.workers))) e
    ∙ ap (λ b. if is_some set.levels then false else b) (always_false (is_some set.variants))
    ∙ always_false (is_some set.levels)
not_bare Workers k set e =
    ap (λ o. if is_some set.levels then false else (if is_some set.variants then false else (if is_some set.steps then false else is_none o))) e
    ∙ ap (λ b. if is_some set.levels then false else (if is_some set.variants then false else b)) (always_false (is_some set.steps))
    ∙ ap (λ b. if is_some set.levels then false else b) (always_false (is_some set.variants))
    ∙ always_false (is_some set.levels)

not_alone : (x : OptionName) (k : ℕ) (set : Settings) → same_name x Steps ≡ false → told x set ≡ Some k → is_steps_alone set ≡ false
not_alone Levels k set o e = ap (λ l. if is_some l then false else (if is_some set.variants then false else is_none set.workers)) e
not_alone Variants k set o e = ap (λ v. if is_some set.levels then false else (if is_some v then false else is_none set.workers)) e ∙ always_false (is_some set.levels)
not_alone Steps k set o e = cc
not_alone Workers k set o e =
    ap (λ w. if is_some set.levels then false else (if is_some set.variants then false else is_none w)) e
    ∙ ap (λ b. if is_some set.levels then false else b) (always_false (is_some set.variants))
    ∙ always_false (is_some set.levels)

-- the first option has a number
first_told : (x : OptionName) (n : ℕ) (options : Options) (t : Option ℕ) → once x None ((x, n) ∷ options) ≡ Some t → (k : ℕ) × (t ≡ Some k)
first_told x n options t e = go (once_found x options (Some n) t (sym (ap (λ b. one_more b None (once x None options) (once x (Some n) options)) (itself x)) ∙ e))
  where
    go : IsFound x (Some n) options t → (k : ℕ) × (t ≡ Some k)
    go (as_before q h) = (n, q)
    go (this_one m before after f q s b a) = (m, q)

-- an option that stands has a number
standing_told : (p : OptionName × ℕ) (options : Options) (t : Option ℕ) → Contains options p → once p.0 None options ≡ Some t → (k : ℕ) × (t ≡ Some k)
standing_told p options t c e = go (once_found p.0 options None t e)
  where
    go : IsFound p.0 None options t → (k : ℕ) × (t ≡ Some k)
    go (as_before q h) = absurd (h p.1 c)
    go (this_one m before after f q s b a) = (m, q)

-- an option that is not `--steps`
pub record IsAnother (options : Options) : Type 0 where
  pub option : OptionName × ℕ
  pub stands : Contains options option
  pub not_steps : same_name option.0 Steps ≡ false

another : (options : Options) → has_steps_alone options ≡ false → IsAnother options
another [] e = cc
another (o ∷ options) e = go (same_name o.0 Steps) refl e (another options)
  where
    go : (b : Bool) → same_name o.0 Steps ≡ b → (if b then has_steps_alone options else false) ≡ false → (has_steps_alone options ≡ false → IsAnother options) → IsAnother (o ∷ options)
    go true s h rest = let a = rest h in record { option = a.option; stands = contains_later o options a.option a.stands; not_steps = a.not_steps }
    go false s h rest = record { option = o; stands = contains_here o options; not_steps = s }

module _ (options : Options) (set : Settings) (h : IsTallyOf options set) where
  none_told : (x : OptionName) → IsNoneOf x options → told x set ≡ None
  none_told x none = Some-injective (sym (h x) ∙ once_none x options None none)

  bare_same : (l : Options) → options ≡ l → is_bare l ≡ is_bare_set set
  bare_same [] e =
      let none : (x : OptionName) → told x set ≡ None = λ x. Some-injective (sym (h x) ∙ ap (once x None) e) in
      let l : set.levels ≡ None = none Levels in
      let v : set.variants ≡ None = none Variants in
      let s : set.steps ≡ None = none Steps in
      let w : set.workers ≡ None = none Workers in
      rw (l, v, s, w) refl
  bare_same (o ∷ os) e =
      let t = first_told o.0 o.1 os (told o.0 set) (ap (once o.0 None) (sym e) ∙ h o.0) in
      sym (not_bare o.0 t.0 set t.1)

  alone_same : (b : Bool) → has_steps_alone options ≡ b → b ≡ is_steps_alone set
  alone_same true e =
      let alone = steps_read options e in
      let l : set.levels ≡ None = none_told Levels (λ n c. let s = alone Levels n c in cc) in
      let v : set.variants ≡ None = none_told Variants (λ n c. let s = alone Variants n c in cc) in
      let w : set.workers ≡ None = none_told Workers (λ n c. let s = alone Workers n c in cc) in
      rw (l, v, w) refl
  alone_same false e =
      let a = another options e in
      let t = standing_told a.option options (told a.option.0 set) a.stands (h a.option.0) in
      sym (not_alone a.option.0 t.0 set a.not_steps t.1)

  -- the settings say all of the options that is asked
  pub same_standing : standing_of options ≡ standing_in set
  same_standing i = record {
    bare = bare_same options refl i;
    steps_alone = alone_same (has_steps_alone options) refl i;
    levels = settled_once Levels (h Levels i);
    kept = settled_once Variants (h Variants i);
    steps = settled_once Steps (h Steps i);
    workers = settled_once Workers (h Workers i);
  }

-- Options that stand twice are those of no command.

both_none : (b : Bool) (c d : Option Command) → c ≡ None → d ≡ None → (if b then c else d) ≡ None
both_none true c d e f = e
both_none false c d e f = f

no_variants : (l s k : Option ℕ) → reach_of l None s k ≡ None
no_variants None s k = refl
no_variants (Some l) s k = refl

no_steps : (l v k : Option ℕ) → reach_of l v None k ≡ None
no_steps None v k = refl
no_steps (Some l) None k = refl
no_steps (Some l) (Some v) k = refl

no_workers : (l v s : Option ℕ) → reach_of l v s None ≡ None
no_workers None v s = refl
no_workers (Some l) None s = refl
no_workers (Some l) (Some v) None = refl
no_workers (Some l) (Some v) (Some s) = refl

no_reach : (x : OptionName) (options : Options) → setting_of x options ≡ None → reach_from (standing_of options) ≡ None
no_reach Levels options e = ap (λ l. reach_of l (setting_of Variants options) (setting_of Steps options) (setting_of Workers options)) e
no_reach Variants options e =
    ap (λ v. reach_of (setting_of Levels options) v (setting_of Steps options) (setting_of Workers options)) e ∙ no_variants (setting_of Levels options) (setting_of Steps options) (setting_of Workers options)
no_reach Steps options e =
    ap (λ s. reach_of (setting_of Levels options) (setting_of Variants options) s (setting_of Workers options)) e ∙ no_steps (setting_of Levels options) (setting_of Variants options) (setting_of Workers options)
no_reach Workers options e =
    ap (λ k. reach_of (setting_of Levels options) (setting_of Variants options) (setting_of Steps options) k) e ∙ no_workers (setting_of Levels options) (setting_of Variants options) (setting_of Steps options)

module _ (x : OptionName) (options : Options) (twice : once x None options ≡ None) where
  no_setting : setting_of x options ≡ None
  no_setting = ap (settled_once x) twice

  some_stand : (l : Options) → options ≡ l → is_bare l ≡ false
  some_stand [] e = let t : None ≡ Some None = sym twice ∙ ap (once x None) e in cc
  some_stand (o ∷ os) e = refl

  no_verify : (problem bindings : Word) → verify_from problem bindings (standing_of options) ≡ None
  no_verify problem bindings = go (has_steps_alone options) refl
    where
      is_steps : (y : OptionName) → x ≡ y → (y ≡ Steps → ⊥) → has_steps_alone options ≡ true → ⊥
      is_steps y same other e =
          let none : IsNoneOf y options = λ n c. other (steps_read options e y n c) in
          let once_no : once y None options ≡ Some None = once_none y options None none in
          let t : None ≡ Some None = sym (subst (λ z. once z None options ≡ None) same twice) ∙ once_no in
          cc

      at : (y : OptionName) → x ≡ y → has_steps_alone options ≡ true → option_map (verify problem bindings) (setting_of Steps options) ≡ None
      at Levels same e = absurd (is_steps Levels same (λ q. cc) e)
      at Variants same e = absurd (is_steps Variants same (λ q. cc) e)
      at Steps same e = ap (option_map (verify problem bindings)) (subst (λ y. setting_of y options ≡ None) same no_setting)
      at Workers same e = absurd (is_steps Workers same (λ q. cc) e)

      go : (b : Bool) → has_steps_alone options ≡ b → (if b then option_map (verify problem bindings) (setting_of Steps options) else None) ≡ None
      go true e = at x refl e
      go false e = refl

  and_false : (b c : Bool) → c ≡ false → (b && c) ≡ false
  and_false true c e = e
  and_false false c e = refl

  pub no_command_twice : (name : Word) (operands : List Word) → command_from name operands (standing_of options) ≡ None
  no_command_twice name [] = ap (λ b. if b then Some check else None) (and_false (pointwise nat_eq name (codes "check")) (is_bare options) (some_stand options refl))
  no_command_twice name (word ∷ []) =
      let none = no_reach x options no_setting in
      both_none (pointwise nat_eq name (codes "variants")) (variants_from word (standing_of options)) _
      (ap (option_map (λ (s : Reach × ℕ). variants word s.0 s.1)) none)
      (
      both_none (pointwise nat_eq name (codes "vunify")) (vunify_from word (standing_of options)) _
      (ap (option_map (λ (s : Reach × ℕ). vunify word s.0 s.1)) none)
      (ap (λ b. if b then bare_with name word else None) (some_stand options refl))
      )
  no_command_twice name (word ∷ other ∷ []) = both_none (pointwise nat_eq name (codes "verify")) (verify_from word other (standing_of options)) None (no_verify word other) refl
  no_command_twice name (word ∷ other ∷ more ∷ operands) = refl
