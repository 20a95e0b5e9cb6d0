-- Verdicts on pairs under one substitution agree, where the equations are confluent.
use Rattle.std.proofs.Common.{◌≡◌, ℕ, suc, ◌+◌, List, [], ◌∷◌, ◌++◌, length, refl, sym, ap, ◌∙◌, subst}
use Rattle.std.specs.Prelude.{All}
use Rattle.std.proofs.lemmas.List.Elements.{All-head, All-tail, All-weaker}
use Rattle.fvn_terms.specs.declared.plain.Plain.{Plain}
use Rattle.fvn_terms.specs.declared.declarations.Declarations.{Declarations}
use Rattle.fvn_terms.specs.Substitution.{Substitution}
use Rattle.fvn_terms.specs.Theory.{Equations}
use Rattle.fvn_theory.specs.declared.bounds.Bounds.{Bounds}
use Rattle.fvn_terms.specs.Rewriting.{IsConfluent}
use Rattle.fvn_terms.specs.Laws.{RewritingIsLawful, TheoryEqualityIsLawful}
use Rattle.fvn_forms.specs.Flat.{FlatTerm}
use Rattle.fvn_verify.specs.declared.verdict.Verdict.TheVariants.{Yes, No, Steps, Size}
use Rattle.fvn_verify.specs.Verdicts.{setting, AreEqual, MeetInForm, IsFirstDifference}
use Rattle.fvn_verify.specs.Laws.{VerdictsAgree}
use Rattle.fvn_verify.proofs.Forms.{meet_equal}

head-is : {A : Type 0} (x y : A) (xs ys : List A) → x ∷ xs ≡ y ∷ ys → x ≡ y
head-is x y xs ys e = cc

tail-is : {A : Type 0} (x y : A) (xs ys : List A) → x ∷ xs ≡ y ∷ ys → xs ≡ ys
tail-is x y xs ys e = cc

-- what holds of all holds of one among them
pub all-at : {A : Type 0} (P : A → Type 0) (before after : List A) (p : A) → All P (before ++ p ∷ after) → P p
all-at P [] after p h = All-head P p after h
all-at P (x ∷ before) after p h = all-at P before after p (All-tail P x (before ++ p ∷ after) h)

-- the first of which something does not hold is one, at one place
pub first-once : {A : Type 0} (P : A → Type 0) (b c : List A) (p q : A) (x y : List A) → b ++ p ∷ x ≡ c ++ q ∷ y → All P b → All P c → (P p → ⊥) → (P q → ⊥) →
    (length b ≡ length c) × (p ≡ q)
first-once P [] [] p q x y e h k n m = (refl, head-is p q x y e)
first-once P [] (c ∷ cs) p q x y e h k n m = absurd (n (subst P (sym (head-is p c x (cs ++ q ∷ y) e)) (All-head P c cs k)))
first-once P (b ∷ bs) [] p q x y e h k n m = absurd (m (subst P (head-is b q (bs ++ p ∷ x) y e) (All-head P b bs h)))
first-once P (b ∷ bs) (c ∷ cs) p q x y e h k n m =
    let r = first-once P bs cs p q x y (tail-is b c (bs ++ p ∷ x) (cs ++ q ∷ y) e) (All-tail P b bs h) (All-tail P c cs k) n m in
    (ap suc r.0, r.1)

module _ (rewriting : RewritingIsLawful) (theory : TheoryEqualityIsLawful) (d : Declarations) (equations : Equations) (confluent : IsConfluent d equations) (s : Substitution) (pairs : List (Plain × Plain)) where
  -- pairs whose sides differ are not all equal
  all-differ : (bounds : Bounds) (n : ℕ) (l r : FlatTerm) → IsFirstDifference (setting d equations s bounds) pairs n l r → All (AreEqual d equations s) pairs → ⊥
  all-differ bounds n l r h all = h.apart confluent (all-at (AreEqual d equations s) h.before h.after h.pair (subst (All (AreEqual d equations s)) h.split all))

  -- the pairs before the first difference are equal
  equal-before : (bounds : Bounds) (ps : List (Plain × Plain)) → All (MeetInForm (setting d equations s bounds)) ps → All (AreEqual d equations s) ps
  equal-before bounds ps = All-weaker (MeetInForm (setting d equations s bounds)) (AreEqual d equations s) (λ p h. meet_equal d equations s bounds rewriting theory p h) ps

  one-difference : (bounds others : Bounds) (n m : ℕ) (l r k q : FlatTerm) →
      IsFirstDifference (setting d equations s bounds) pairs n l r → IsFirstDifference (setting d equations s others) pairs m k q → n ≡ m
  one-difference bounds others n m l r k q a b =
      a.number_is
      ∙ ap (λ i. i + 1)
      (first-once (AreEqual d equations s) a.before b.before a.pair b.pair a.after b.after (sym a.split ∙ b.split) (equal-before bounds a.before a.meet) (equal-before others b.before b.meet)
      (a.apart confluent) (b.apart confluent)).0
      ∙ sym b.number_is

pub verdicts-agree : RewritingIsLawful → TheoryEqualityIsLawful → VerdictsAgree
verdicts-agree rewriting theory d equations confluent s pairs bounds others Yes Yes a b = tt
verdicts-agree rewriting theory d equations confluent s pairs bounds others Yes (No m k q) a b =
    all-differ rewriting theory d equations confluent s pairs others m k q b a.0
verdicts-agree rewriting theory d equations confluent s pairs bounds others Yes (Steps f g) a b = tt
verdicts-agree rewriting theory d equations confluent s pairs bounds others Yes (Size g) a b = tt
verdicts-agree rewriting theory d equations confluent s pairs bounds others (No n l r) Yes a b =
    all-differ rewriting theory d equations confluent s pairs bounds n l r a b.0
verdicts-agree rewriting theory d equations confluent s pairs bounds others (No n l r) (No m k q) a b =
    one-difference rewriting theory d equations confluent s pairs bounds others n m l r k q a b
verdicts-agree rewriting theory d equations confluent s pairs bounds others (No n l r) (Steps f g) a b = tt
verdicts-agree rewriting theory d equations confluent s pairs bounds others (No n l r) (Size g) a b = tt
verdicts-agree rewriting theory d equations confluent s pairs bounds others (Steps f g) w a b = tt
verdicts-agree rewriting theory d equations confluent s pairs bounds others (Size f) w a b = tt
