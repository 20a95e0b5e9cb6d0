-- Without equations a side comes to its flat form alone, and there is one verdict at most.
use Rattle.std.proofs.Common.{◌≡◌, ℕ, zero, suc, ◌+◌, ◌<◌, ◌≤◌, List, [], ◌∷◌, ◌++◌, refl, sym, ap, ◌∙◌, subst, arith}
use Rattle.std.specs.Prelude.{All}
use Rattle.std.proofs.lemmas.List.Elements.{All-append, All-cons, All-nil, All-head, All-tail}
use Rattle.fvn_base.proofs.Membership.{contains_none}
use Rattle.fvn_terms.specs.declared.plain.Plain.{Plain}
use Rattle.fvn_terms.specs.declared.declarations.Declarations.{Declarations}
use Rattle.fvn_terms.specs.Term.{Term}
use Rattle.fvn_terms.specs.Plain.{term}
use Rattle.fvn_terms.specs.Signature.{KeepsKinds, IsTerm}
use Rattle.fvn_terms.specs.Substitution.{Substitution}
use Rattle.fvn_terms.specs.Equality.{BEqual}
use Rattle.fvn_terms.specs.Rewriting.{Rewrites, TermSequence}
use Rattle.fvn_terms.proofs.Equal.{BEqual-refl}
use Rattle.fvn_terms.proofs.Steps.{nowhere}
use Rattle.fvn_forms.specs.Flat.{FlatTerm, plain, symbols}
use Rattle.fvn_forms.specs.Canon.{canon}
use Rattle.fvn_forms.specs.FitsKinds.{FitsKinds}
use Rattle.fvn_forms.specs.Laws.{EqualityIsThatOfFlatForms}
use Rattle.fvn_forms.proofs.Eval.{canon_plain}
use Rattle.fvn_flat.specs.Fits.{Fits}
use Rattle.fvn_rewrite_laws.specs.Kinds.{AreOfOneKind}
use Rattle.fvn_verify.specs.declared.verdict.Verdict.TheVariants.{Yes, No, Steps, Size}
use Rattle.fvn_verify.specs.Verdicts.{Setting, setting, sides_in_turn, instance, IsFormOf, IsTooLarge, HasForm, MeetInForm, IsFirstDifference, EndsAt}
use Rattle.fvn_verify.specs.Laws.{VerdictsWithoutEquationsAreDetermined}
use Rattle.fvn_verify.proofs.Forms.{instance-kinded}
use Rattle.fvn_verify.proofs.Comparisons.{sides_in_turn-append}
use Rattle.fvn_verify.proofs.Agreeing.{all-at, first-once}

-- what holds of all holds of those in front, and of those behind
all-front : {A : Type 0} (P : A → Type 0) (before rest : List A) → All P (before ++ rest) → All P before
all-front P [] rest h = All-nil P
all-front P (x ∷ xs) rest h = All-cons P x xs (All-head P x (xs ++ rest) h) (all-front P xs rest (All-tail P x (xs ++ rest) h))

all-back : {A : Type 0} (P : A → Type 0) (before rest : List A) → All P (before ++ rest) → All P rest
all-back P [] rest h = h
all-back P (x ∷ xs) rest h = all-back P xs rest (All-tail P x (xs ++ rest) h)

-- what holds of all by two facts that hold of all
all-both : {A : Type 0} (P Q R : A → Type 0) → ((x : A) → P x → Q x → R x) → (xs : List A) → All P xs → All Q xs → All R xs
all-both P Q R f [] h k = All-nil R
all-both P Q R f (x ∷ xs) h k = All-cons R x xs (f x (All-head P x xs h) (All-head Q x xs k)) (all-both P Q R f xs (All-tail P x xs h) (All-tail Q x xs k))

-- what holds of both sides of each pair holds of all sides
sides-all : (Q : Plain → Type 0) (pairs : List (Plain × Plain)) → All (λ p. Q p.0 × Q p.1) pairs → All Q (sides_in_turn pairs)
sides-all Q [] h = All-nil Q
sides-all Q (p ∷ pairs) h =
    let here : Q p.0 × Q p.1 = All-head (λ (p : Plain × Plain). Q p.0 × Q p.1) p pairs h in
    All-cons Q p.0 (p.1 ∷ sides_in_turn pairs) here.0 (All-cons Q p.1 (sides_in_turn pairs) here.1 (sides-all Q pairs (All-tail (λ (p : Plain × Plain). Q p.0 × Q p.1) p pairs h)))

module _ (d : Declarations) where
  -- no step is possible
  no-step : (t u : Term) → Rewrites d [] t u → ⊥
  no-step t u r = nowhere (λ a b rule. contains_none (rule.left, rule.right) rule.listed) r.replaced

  -- a sequence has no step
  no-steps : (k : ℕ) (t u : Term) → TermSequence d [] k t u → BEqual d t u
  no-steps zero t u q = q
  no-steps (suc k) t u q = absurd (no-step t q.0 q.1.0)

  module _ (law : EqualityIsThatOfFlatForms) (fits : FitsKinds d) (s : Substitution) (keeps : KeepsKinds d s) where
    -- the flat form of a side
    abbrev form : Plain → FlatTerm
    form t = canon d (instance s t)

    abbrev Kinded : Plain → Type 0
    Kinded t = IsTerm d (term t)

    -- what a side comes to is its flat form
    comes-to : (t : Plain) (f : FlatTerm) (k : ℕ) → Kinded t → Fits d f → TermSequence d [] k (instance s t) (plain f) → f ≡ form t
    comes-to t f k kinded h q =
        sym ((law d fits (instance s t) (plain f) (instance-kinded d s keeps (term t) kinded) h.kinded).0 (no-steps k (instance s t) (plain f) q) ∙ canon_plain d f h.flat)

    module _ (size : ℕ) where
      -- the setting with these limits
      abbrev limited : ℕ → Setting
      limited steps = setting d [] s (record { steps = steps; size = size })

      abbrev Small : Plain → Type 0
      Small t = symbols (form t) ≤ size

      abbrev Alike : Plain × Plain → Type 0
      Alike p = form p.0 ≡ form p.1

      module _ (steps : ℕ) where
        form-is : (t : Plain) (f : FlatTerm) → Kinded t → IsFormOf (limited steps) t f → f ≡ form t
        form-is t f kinded h = comes-to t f h.count kinded h.fits h.reached

        formed-small : (t : Plain) → Kinded t → HasForm (limited steps) t → Small t
        formed-small t kinded h = subst (λ f. symbols f ≤ size) (form-is t h.0 kinded h.1) h.1.small

        too-large : (t : Plain) (f : FlatTerm) → Kinded t → IsTooLarge (limited steps) t f → Small t → ⊥
        too-large t f kinded h small =
            let large : size < symbols (form t) = subst (λ u. size < symbols u) (comes-to t f h.count kinded h.fits h.sequence) h.large in
            omega (arith, large, small)

        meet-alike : (p : Plain × Plain) → Kinded p.0 × Kinded p.1 → MeetInForm (limited steps) p → Alike p
        meet-alike p kinded h = sym (form-is p.0 h.0 kinded.0 h.1.0) ∙ form-is p.1 h.0 kinded.1 h.1.1

        meet-small : (p : Plain × Plain) → Kinded p.0 × Kinded p.1 → MeetInForm (limited steps) p → Small p.0 × Small p.1
        meet-small p kinded h = (formed-small p.0 kinded.0 (h.0, h.1.0), formed-small p.1 kinded.1 (h.0, h.1.1))

        abbrev BothKinded : Plain × Plain → Type 0
        BothKinded p = Kinded p.0 × Kinded p.1

        abbrev Meets : Plain × Plain → Type 0
        Meets = MeetInForm (limited steps)

        all-alike : (pairs : List (Plain × Plain)) → All BothKinded pairs → All Meets pairs → All Alike pairs
        all-alike = all-both BothKinded Meets Alike meet-alike

        meets-small : (pairs : List (Plain × Plain)) → All BothKinded pairs → All Meets pairs → All Small (sides_in_turn pairs)
        meets-small pairs kinded h = sides-all Small pairs (all-both BothKinded Meets (λ p. Small p.0 × Small p.1) meet-small pairs kinded h)

        all-formed-small : (ts : List Plain) → All Kinded ts → All (HasForm (limited steps)) ts → All Small ts
        all-formed-small = all-both Kinded (HasForm (limited steps)) Small formed-small

        module _ (pairs : List (Plain × Plain)) (kinded : All BothKinded pairs) where
          sides-kinded : All Kinded (sides_in_turn pairs)
          sides-kinded = sides-all Kinded pairs kinded

          module _ (n : ℕ) (l r : FlatTerm) (h : IsFirstDifference (limited steps) pairs n l r) where
            split-kinded : All BothKinded (h.before ++ h.pair ∷ h.after)
            split-kinded = subst (All BothKinded) h.split kinded

            pair-kinded : BothKinded h.pair
            pair-kinded = all-at BothKinded h.before h.after h.pair split-kinded

            left-is : l ≡ form h.pair.0
            left-is = form-is h.pair.0 l pair-kinded.0 h.left_form

            right-is : r ≡ form h.pair.1
            right-is = form-is h.pair.1 r pair-kinded.1 h.right_form

            unlike : Alike h.pair → ⊥
            unlike e = h.differ (subst (λ u. BEqual d (plain l) (plain u)) (left-is ∙ e ∙ sym right-is) (BEqual-refl d (plain l)))

            before-alike : All Alike h.before
            before-alike = all-alike h.before (all-front BothKinded h.before (h.pair ∷ h.after) split-kinded) h.meet

            after-kinded : All BothKinded h.after
            after-kinded = All-tail BothKinded h.pair h.after (all-back BothKinded h.before (h.pair ∷ h.after) split-kinded)

            after-small : All Small (sides_in_turn h.after)
            after-small = all-formed-small (sides_in_turn h.after) (sides-all Kinded h.after after-kinded) h.found

            no-small : All Small (sides_in_turn pairs)
            no-small =
                subst (All Small) (sym (ap sides_in_turn h.split ∙ sides_in_turn-append h.before (h.pair ∷ h.after)))
                (All-append Small (sides_in_turn h.before) (h.pair.0 ∷ h.pair.1 ∷ sides_in_turn h.after)
                (meets-small h.before (all-front BothKinded h.before (h.pair ∷ h.after) split-kinded) h.meet)
                (All-cons Small h.pair.0 (h.pair.1 ∷ sides_in_turn h.after) (formed-small h.pair.0 pair-kinded.0 (l, h.left_form))
                (All-cons Small h.pair.1 (sides_in_turn h.after) (formed-small h.pair.1 pair-kinded.1 (r, h.right_form)) after-small)))

          module _ (t : Plain) (ends : EndsAt (limited steps) pairs t) where
            sides-split : All Kinded (ends.before ++ t ∷ ends.after)
            sides-split = subst (All Kinded) ends.split sides-kinded

            end-kinded : Kinded t
            end-kinded = all-at Kinded ends.before ends.after t sides-split

            before-small : All Small ends.before
            before-small = all-formed-small ends.before (all-front Kinded ends.before (t ∷ ends.after) sides-split) ends.found

            end-small : All Small (sides_in_turn pairs) → Small t
            end-small h = all-at Small ends.before ends.after t (subst (All Small) ends.split h)

      module _ (steps more : ℕ) (pairs : List (Plain × Plain)) (kinded : All (λ p. Kinded p.0 × Kinded p.1) pairs) where
        one-difference : (n m : ℕ) (l r k q : FlatTerm) → IsFirstDifference (limited steps) pairs n l r → IsFirstDifference (limited more) pairs m k q → No n l r ≡ No m k q
        one-difference n m l r k q a b =
            let o =
            first-once Alike a.before b.before a.pair b.pair a.after b.after (sym a.split ∙ b.split) (before-alike steps pairs kinded n l r a) (before-alike more pairs kinded m k q b)
            (unlike steps pairs kinded n l r a) (unlike more pairs kinded m k q b) in
            ap (λ i. No i l r) (a.number_is ∙ ap (λ i. i + 1) o.0 ∙ sym b.number_is)
            ∙ ap (λ t. No m t r) (left-is steps pairs kinded n l r a ∙ ap (λ p. form p.0) o.1 ∙ sym (left-is more pairs kinded m k q b))
            ∙ ap (λ t. No m k t) (right-is steps pairs kinded n l r a ∙ ap (λ p. form p.1) o.1 ∙ sym (right-is more pairs kinded m k q b))

        all-differ : (n : ℕ) (l r : FlatTerm) → IsFirstDifference (limited steps) pairs n l r → All (MeetInForm (limited more)) pairs → ⊥
        all-differ n l r h meet = unlike steps pairs kinded n l r h (all-at Alike h.before h.after h.pair (subst (All Alike) h.split (all-alike more pairs kinded meet)))

        none-large : (t : Plain) (f : FlatTerm) → EndsAt (limited steps) pairs t → IsTooLarge (limited steps) t f → All Small (sides_in_turn pairs) → ⊥
        none-large t f ends h small = too-large steps t f (end-kinded steps pairs kinded t ends) h (end-small steps pairs kinded t ends small)

        one-size : (t u : Plain) (f g : FlatTerm) → EndsAt (limited steps) pairs t → IsTooLarge (limited steps) t f → EndsAt (limited more) pairs u → IsTooLarge (limited more) u g → f ≡ g
        one-size t u f g a h b k =
            let o =
            first-once Small a.before b.before t u a.after b.after (sym a.split ∙ b.split) (before-small steps pairs kinded t a) (before-small more pairs kinded u b)
            (too-large steps t f (end-kinded steps pairs kinded t a) h) (too-large more u g (end-kinded more pairs kinded u b) k) in
            comes-to t f h.count (end-kinded steps pairs kinded t a) h.fits h.sequence ∙ ap form o.1 ∙ sym (comes-to u g k.count (end-kinded more pairs kinded u b) k.fits k.sequence)

both-kinded : (d : Declarations) (pairs : List (Plain × Plain)) → All (AreOfOneKind d) pairs → All (λ p. IsTerm d (term p.0) × IsTerm d (term p.1)) pairs
both-kinded d pairs h =
    all-both (AreOfOneKind d) (AreOfOneKind d) (λ p. IsTerm d (term p.0) × IsTerm d (term p.1)) (λ p a b. ((a.0, a.1.0), (a.0, a.1.1))) pairs h h

pub one-verdict : EqualityIsThatOfFlatForms → VerdictsWithoutEquationsAreDetermined
one-verdict law d fits s keeps pairs one steps more size Yes Yes a b = refl
one-verdict law d fits s keeps pairs one steps more size Yes (No m k q) a b = absurd (all-differ d law fits s keeps size more steps pairs (both-kinded d pairs one) m k q b a.1)
one-verdict law d fits s keeps pairs one steps more size Yes (Steps x y) a b = absurd (no-step d (plain y) b.1.1.reducible.0 b.1.1.reducible.1)
one-verdict law d fits s keeps pairs one steps more size Yes (Size g) a b =
    absurd (none-large d law fits s keeps size more steps pairs (both-kinded d pairs one) b.0 g b.1.0 b.1.1 (meets-small d law fits s keeps size steps pairs (both-kinded d pairs one) a.1))
one-verdict law d fits s keeps pairs one steps more size (No n l r) Yes a b = absurd (all-differ d law fits s keeps size steps more pairs (both-kinded d pairs one) n l r a b.1)
one-verdict law d fits s keeps pairs one steps more size (No n l r) (No m k q) a b = one-difference d law fits s keeps size steps more pairs (both-kinded d pairs one) n m l r k q a b
one-verdict law d fits s keeps pairs one steps more size (No n l r) (Steps x y) a b = absurd (no-step d (plain y) b.1.1.reducible.0 b.1.1.reducible.1)
one-verdict law d fits s keeps pairs one steps more size (No n l r) (Size g) a b =
    absurd (none-large d law fits s keeps size more steps pairs (both-kinded d pairs one) b.0 g b.1.0 b.1.1 (no-small d law fits s keeps size steps pairs (both-kinded d pairs one) n l r a))
one-verdict law d fits s keeps pairs one steps more size (Steps x y) w a b = absurd (no-step d (plain y) a.1.1.reducible.0 a.1.1.reducible.1)
one-verdict law d fits s keeps pairs one steps more size (Size f) Yes a b =
    absurd (none-large d law fits s keeps size steps more pairs (both-kinded d pairs one) a.0 f a.1.0 a.1.1 (meets-small d law fits s keeps size more pairs (both-kinded d pairs one) b.1))
one-verdict law d fits s keeps pairs one steps more size (Size f) (No m k q) a b =
    absurd (none-large d law fits s keeps size steps more pairs (both-kinded d pairs one) a.0 f a.1.0 a.1.1 (no-small d law fits s keeps size more pairs (both-kinded d pairs one) m k q b))
one-verdict law d fits s keeps pairs one steps more size (Size f) (Steps x y) a b = absurd (no-step d (plain y) b.1.1.reducible.0 b.1.1.reducible.1)
one-verdict law d fits s keeps pairs one steps more size (Size f) (Size g) a b =
    ap Size (one-size d law fits s keeps size steps more pairs (both-kinded d pairs one) a.0 b.0 f g a.1.0 a.1.1 b.1.0 b.1.1)
