-- The number that an option has.
use Rattle.std.proofs.Common.{◌≡◌, ◌⊎◌, ◌≤◌, ℕ, Bool, true, false, [], ◌∷◌, ◌++◌, Option, Some, None, inl, inr, refl, sym, ap, ◌∙◌, subst}
use Rattle.std.specs.Prelude.{if◌then◌else◌, nat_lt, Contains}
use Rattle.std.proofs.lemmas.Bool.{ltb-false, le-ltb}
use Rattle.fvn_base.proofs.Membership.{contains_here, contains_later, contains_cases, contains_none}
use Rattle.fvn_base.proofs.Options.{Some-injective}
use Rattle.fvn_cmd_words.specs.declared.options.OptionName.{OptionName}
use Rattle.fvn_cmd_words.specs.declared.options.OptionName.TheVariants.{Levels, Variants, Steps, Workers}
use Rattle.fvn_cmd_words.specs.Words.{Options, most, IsNoneOf, IsSet, HaveStepsAlone}
use Rattle.fvn_cmd_words.specs.inner.Reading.{same_name, one_more, once, settled, settled_once, setting_of, has_steps_alone, is_bare}

pub itself : (x : OptionName) → same_name x x ≡ true
itself Levels = refl
itself Variants = refl
itself Steps = refl
itself Workers = refl

pub same_is : (x y : OptionName) → same_name x y ≡ true → x ≡ y
same_is Levels Levels e = refl
same_is Levels Variants e = cc
same_is Levels Steps e = cc
same_is Levels Workers e = cc
same_is Variants Levels e = cc
same_is Variants Variants e = refl
same_is Variants Steps e = cc
same_is Variants Workers e = cc
same_is Steps Levels e = cc
same_is Steps Variants e = cc
same_is Steps Steps e = refl
same_is Steps Workers e = cc
same_is Workers Levels e = cc
same_is Workers Variants e = cc
same_is Workers Steps e = cc
same_is Workers Workers e = refl

-- none of an option, with another one before
none_with : (x : OptionName) (option : OptionName × ℕ) (options : Options) → (option.0 ≡ x → ⊥) → IsNoneOf x options → IsNoneOf x (option ∷ options)
none_with x option options n h m c = go (contains_cases option options (x, m) c) where
  go : (option ≡ (x, m)) ⊎ Contains options (x, m) → ⊥
  go (inl e) = n (ap (λ p. p.0) e)
  go (inr k) = h m k

other : (x : OptionName) (option : OptionName × ℕ) → same_name option.0 x ≡ false → option.0 ≡ x → ⊥
other x option f e = let t : true ≡ false = sym (subst (λ y. same_name y x ≡ true) (sym e) (itself x)) ∙ f in cc

-- what is found: what was found before, and the option stands no more; or the one number with which it stands
pub data IsFound (x : OptionName) (found : Option ℕ) (options : Options) (told : Option ℕ) : Type 0 where
  as_before : told ≡ found → IsNoneOf x options → IsFound x found options told
  this_one : (n : ℕ) (before after : Options) → found ≡ None → told ≡ Some n → options ≡ before ++ (x, n) ∷ after → IsNoneOf x before → IsNoneOf x after → IsFound x found options told

one_later : (x : OptionName) (found told : Option ℕ) (option : OptionName × ℕ) (options : Options) → (option.0 ≡ x → ⊥) → IsFound x found options told → IsFound x found (option ∷ options) told
one_later x found told option options n (as_before e h) = as_before e (none_with x option options n h)
one_later x found told option options n (this_one m before after e t s b a) = this_one m (option ∷ before) after e t (ap (λ l. option ∷ l) s) (none_with x option before n b) a

none_listed : (x : OptionName) → IsNoneOf x []
none_listed x n c = contains_none (x, n) c

pub is_this : (x : OptionName) (option : OptionName × ℕ) → option.0 ≡ x → option ≡ (x, option.1)
is_this x option e i = (e i, option.1)

pub once_found : (x : OptionName) (options : Options) (found told : Option ℕ) → once x found options ≡ Some told → IsFound x found options told
once_found x [] found told e = as_before (sym (Some-injective e)) (none_listed x)
once_found x (option ∷ options) found told e = go (same_name option.0 x) refl found refl e (λ f h. once_found x options f told h)
  where
    first : (f : Option ℕ) → f ≡ None → IsFound x (Some option.1) options told → option.0 ≡ x → IsFound x f (option ∷ options) told
    first f z (as_before t h) s = this_one option.1 [] options z t (ap (λ p. p ∷ options) (is_this x option s)) (none_listed x) h
    first f z (this_one n before after q t r b a) s = cc

    go : (b : Bool) → same_name option.0 x ≡ b → (f : Option ℕ) → found ≡ f → one_more b f (once x f options) (once x (Some option.1) options) ≡ Some told → ((f : Option ℕ) → once x f options ≡ Some told → IsFound x f options told) → IsFound x f (option ∷ options) told
    go false s f q h rest = one_later x f told option options (other x option s) (rest f h)
    go true s None q h rest = first None refl (rest (Some option.1) h) (same_is option.0 x s)
    go true s (Some m) q h rest = cc

pub once_none : (x : OptionName) (options : Options) (found : Option ℕ) → IsNoneOf x options → once x found options ≡ Some found
once_none x [] found h = refl
once_none x (option ∷ options) found h = go (same_name option.0 x) refl (once_none x options found (λ n c. h n (contains_later option options (x, n) c)))
  where
    go : (b : Bool) → same_name option.0 x ≡ b → once x found options ≡ Some found → one_more b found (once x found options) (once x (Some option.1) options) ≡ Some found
    go false s rest = rest
    go true s rest = absurd (h option.1 (subst (λ p. Contains (option ∷ options) p) (is_this x option (same_is option.0 x s)) (contains_here option options)))

once_this : (x : OptionName) (n : ℕ) (before after : Options) → IsNoneOf x before → IsNoneOf x after → once x None (before ++ (x, n) ∷ after) ≡ Some (Some n)
once_this x n [] after b a = ap (λ t. one_more t None (once x None after) (once x (Some n) after)) (itself x) ∙ once_none x after (Some n) a
once_this x n (option ∷ before) after b a = go (same_name option.0 x) refl (once_this x n before after (λ m c. b m (contains_later option before (x, m) c)) a)
  where
    go : (t : Bool) → same_name option.0 x ≡ t → once x None (before ++ (x, n) ∷ after) ≡ Some (Some n) → one_more t None (once x None (before ++ (x, n) ∷ after)) (once x (Some option.1) (before ++ (x, n) ∷ after)) ≡ Some (Some n)
    go false s rest = rest
    go true s rest = absurd (b option.1 (subst (λ p. Contains (option ∷ before) p) (is_this x option (same_is option.0 x s)) (contains_here option before)))

in_range : (x : OptionName) (m n : ℕ) → settled x (Some m) ≡ Some n → (m ≡ n) × (1 ≤ n) × (n ≤ most x)
in_range x m n e = go (nat_lt m 1) refl e
  where
    high : (b : Bool) → nat_lt (most x) m ≡ b → nat_lt m 1 ≡ false → (if b then None else Some m) ≡ Some n → (m ≡ n) × (1 ≤ n) × (n ≤ most x)
    high true q l h = cc
    high false q l h =
        let same : m ≡ n = Some-injective h in
        (same, subst (λ k. 1 ≤ k) same (ltb-false m 1 l), subst (λ k. k ≤ most x) same (ltb-false (most x) m q))

    go : (b : Bool) → nat_lt m 1 ≡ b → (if b then None else (if nat_lt (most x) m then None else Some m)) ≡ Some n → (m ≡ n) × (1 ≤ n) × (n ≤ most x)
    go true l h = cc
    go false l h = high (nat_lt (most x) m) refl l h

pub setting_range : (x : OptionName) (n : ℕ) → 1 ≤ n → n ≤ most x → settled x (Some n) ≡ Some n
setting_range x n low high =
    let a : nat_lt n 1 ≡ false = le-ltb n 1 low in
    let b : nat_lt (most x) n ≡ false = le-ltb (most x) n high in
    rw (a, b) refl

pub setting_read : (options : Options) (x : OptionName) (n : ℕ) → setting_of x options ≡ Some n → IsSet options x n
setting_read options x n e = go (once x None options) refl e
  where
    told : (t : Option ℕ) → settled x t ≡ Some n → IsFound x None options t → IsSet options x n
    told None h (as_before q s) = inr (s, sym (Some-injective h))
    told None h (this_one k before after f t s b a) = cc
    told (Some m) h (as_before q s) = cc
    told (Some m) h (this_one k before after f t s b a) =
        let r = in_range x m n h in
        let same : k ≡ n = sym (Some-injective t) ∙ r.0 in
        inl (record { before = before; after = after; split = subst (λ i. options ≡ before ++ (x, i) ∷ after) same s; none_before = b; none_after = a; low = r.1; high = r.2 })

    go : (o : Option (Option ℕ)) → once x None options ≡ o → settled_once x o ≡ Some n → IsSet options x n
    go None q h = cc
    go (Some t) q h = told t h (once_found x options None t q)

pub setting_given : (options : Options) (x : OptionName) (n : ℕ) → IsSet options x n → setting_of x options ≡ Some n
setting_given options x n (inl s) =
    ap (λ l. settled_once x (once x None l)) s.split ∙ ap (settled_once x) (once_this x n s.before s.after s.none_before s.none_after) ∙ setting_range x n s.low s.high
setting_given options x n (inr s) = ap (settled_once x) (once_none x options None s.0) ∙ ap Some (sym s.1)

-- `--steps` alone
pub steps_read : (options : Options) → has_steps_alone options ≡ true → HaveStepsAlone options
steps_read [] e x n c = absurd (contains_none (x, n) c)
steps_read (option ∷ options) e x n c = go (same_name option.0 Steps) refl e (contains_cases option options (x, n) c) (λ h k. steps_read options h x n k)
  where
    go : (b : Bool) → same_name option.0 Steps ≡ b → (if b then has_steps_alone options else false) ≡ true → (option ≡ (x, n)) ⊎ Contains options (x, n) → (has_steps_alone options ≡ true → Contains options (x, n) → x ≡ Steps) → x ≡ Steps
    go true s h (inl q) rest = sym (ap (λ p. p.0) q) ∙ same_is option.0 Steps s
    go true s h (inr k) rest = rest h k
    go false s h k rest = cc

pub steps_given : (options : Options) → HaveStepsAlone options → has_steps_alone options ≡ true
steps_given [] h = refl
steps_given (option ∷ options) h =
    let first : option.0 ≡ Steps = h option.0 option.1 (contains_here option options) in
    ap (λ b. if b then has_steps_alone options else false) (subst (λ y. same_name y Steps ≡ true) (sym first) refl)
    ∙ steps_given options (λ x n c. h x n (contains_later option options (x, n) c))

pub bare_is : (options : Options) → is_bare options ≡ true → options ≡ []
bare_is [] e = refl
bare_is (option ∷ options) e = cc
