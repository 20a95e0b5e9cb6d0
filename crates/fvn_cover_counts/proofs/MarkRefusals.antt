-- Where forms are matched, their marks allow it.
use Rattle.std.proofs.Common.{◌≡◌, ℕ, ◌<◌, Bool, false, nat_eq, List, [], ◌∷◌, length, map, refl, sym, ap, subst, ◌∙◌, ◌↔◌, inl, inr, arith}
use Rattle.std.specs.Prelude.{IsTrue}
use Rattle.std.specs.List.{AllZip}
use Rattle.std.proofs.lemmas.Bool.{eqb-true, eq-eqb, false≢true}
use Rattle.fvn_terms.specs.declared.plain.OpId.{OpId}
use Rattle.fvn_terms.specs.declared.declarations.Declarations.{Declarations}
use Rattle.fvn_terms.specs.Substitution.{Substitution}
use Rattle.fvn_forms.specs.Flat.{FlatTerm, plain}
use Rattle.fvn_cover_counts.specs.declared.symbols.Symbol.TheVariants.{Variable, Operator}
use Rattle.fvn_cover_counts.specs.declared.marks.Unkept.{Unkept}
use Rattle.fvn_cover_counts.specs.declared.marks.Marks.{Marks}
use Rattle.fvn_cover_counts.specs.Weights.{IsKept}
use Rattle.fvn_cover_counts.specs.Places.{column}
use Rattle.fvn_cover_counts.specs.Profiles.{CountsAllow}
use Rattle.fvn_cover_counts.specs.Marks.{Has, AreUnkept, KeepsOperator, HasVariableAlone, AreMarks, IsWithin, IsBelow, MarksAllow, NeverMatchMarked}
use Rattle.fvn_cover_counts.specs.inner.Bits.{operator_bit}
use Rattle.fvn_cover_counts.proofs.Occurring.{occurs_places, places_occur}
use Rattle.fvn_cover_counts.proofs.Refusals.{Makes, matched_allow}
use Rattle.fvn_cover_counts.proofs.MarkFacts.{at_most_places}

-- an operator that is not left out is kept
kept_if : (d : Declarations) (out : Unkept) → AreUnkept d out → (f : OpId) → (Has out.bits (operator_bit f) → ⊥) → IsKept d f
kept_if d out unkept f n = record {
  without_identity = λ e is. n ((unkept (operator_bit f)).1 (record { operator = f; constant = e; has_identity = is; falls = inl refl }));
  no_identity = λ g is. n ((unkept (operator_bit f)).1 (record { operator = g; constant = f; has_identity = is; falls = inr refl }));
}

zip_length : (d : Declarations) (s : Substitution) (ts us : List FlatTerm) → AllZip (Makes d s) (map plain ts) (map plain us) → length us ≡ length ts
zip_length d s [] [] h = refl
zip_length d s [] (u ∷ us) h = absurd h
zip_length d s (t ∷ ts) [] h = absurd h
zip_length d s (t ∷ ts) (u ∷ us) h = let k = zip_length d s ts us h.1 in omega (arith, k)

module _ (d : Declarations) (ts us : List FlatTerm) (s : Substitution) (zip : AllZip (Makes d s) (map plain ts) (map plain us)) where
  allow : CountsAllow d ts us
  allow = matched_allow d s ts us zip

  -- what an instance keeps
  keeps_up : (o p : Unkept) (b : ℕ) → o ≡ p → AreUnkept d o → KeepsOperator o ts b → KeepsOperator p us b
  keeps_up o p b e unkept k = record {
    operator = k.operator;
    place = k.place;
    counted = subst (λ (z : Unkept). Has z.bits (operator_bit k.operator) → ⊥) e k.counted;
    stands = at_most_places 0 (column (Operator k.operator) ts) (column (Operator k.operator) us) (allow.operators k.operator (kept_if d o unkept k.operator k.counted)) k.place k.stands;
    falls = k.falls;
  }

  -- what it cannot gain
  gains_none : (b : ℕ) → HasVariableAlone us b → HasVariableAlone ts b
  gains_none b k =
      let x = allow.variables k.variable (places_occur k.variable 0 us k.stands) in
      let same = zip_length d s ts us zip in
      record {
        variable = x.0;
        first = k.first;
        second = k.second;
        first_known = subst (λ n. k.first < n) same k.first_known;
        second_known = subst (λ n. k.second < n) same k.second_known;
        stands = occurs_places x.0 0 ts x.1;
        alone = λ p c. k.alone p (at_most_places 0 (column (Variable x.0) ts) (column (Variable k.variable) us) x.2 p c);
        falls = k.falls;
      }

module _ (out : Unkept) (m n : Marks) where
  matched_within : (d : Declarations) (ts us : List FlatTerm) → AreUnkept d out → AreMarks ts m → AreMarks us n → m.out ≡ out → n.out ≡ out → (s : Substitution) → AllZip (Makes d s) (map plain ts) (map plain us) → IsWithin m.up n.up × IsWithin n.down m.down
  matched_within d ts us unkept a c e f s zip = (
    λ b h. (c.up b).1 (keeps_up d ts us s zip m.out n.out b (e ∙ sym f) (subst (AreUnkept d) (sym e) unkept) ((a.up b).0 h)),
    λ b h. (a.down b).1 (gains_none d ts us s zip b ((c.down b).0 h)),
  )

  -- marks without other operators allow all
  pub others_allow : (r : Bool) → r ≡ false → IsTrue r ↔ ((m.out ≡ out) × (n.out ≡ out)) → MarksAllow out m n
  others_allow r refused k e f = absurd (false≢true (sym refused ∙ k.1 (e, f)))

  -- else the words decide
  pub words_decide : (r : Bool) → IsTrue r ↔ (IsWithin m.up n.up × IsWithin n.down m.down) → (m.out ≡ out) × (n.out ≡ out) → IsTrue r ↔ MarksAllow out m n
  words_decide r k e = (λ t. λ f g. k.0 t, λ h. k.1 (h e.0 e.1))

  pub words_refuse : (r : Bool) → IsTrue r ↔ (IsWithin m.up n.up × IsWithin n.down m.down) → (m.out ≡ out) × (n.out ≡ out) → r ≡ false → NeverMatchMarked out m n
  words_refuse r k e refused d ts us unkept a c s matcher = false≢true (sym refused ∙ k.1 (matched_within d ts us unkept a c e.0 e.1 s matcher.1))

  -- marks that are not below others refuse what has those
  pub never_if : m.out ≡ out → n.out ≡ out → (IsBelow m n → ⊥) → NeverMatchMarked out m n
  never_if e f never d ts us unkept a c s matcher = never (matched_within d ts us unkept a c e f s matcher.1)

-- what is below is below what is above
pub below_above : (l m n : Marks) → IsBelow l m → IsBelow m n → IsBelow l n
below_above l m n h k = (λ b x. k.0 b (h.0 b x), λ b x. h.1 b (k.1 b x))

-- two words of operators
pub same_unkept : (a b : Unkept) → IsTrue (nat_eq a.bits b.bits) ↔ (a ≡ b)
same_unkept a b = (forth, λ e. eq-eqb a.bits b.bits (ap (λ (z : Unkept). z.bits) e))
  where
    forth : IsTrue (nat_eq a.bits b.bits) → a ≡ b
    forth t = let n = eqb-true a.bits b.bits t in λ i. record { bits = n i }
