-- All that is read, one after another, is all that is spelled.
use Rattle.std.proofs.Common.{◌≡◌, ◌≤◌, List, [], ◌∷◌, ◌++◌, length, Option, Some, None, refl, sym, ap, ◌∙◌, subst, append_assoc, length-append, arith}
use Rattle.std.specs.List.{AllByRecursion}
use Rattle.std.proofs.lemmas.List.{append-nil}
use Rattle.fvn_lex.specs.Cut.{Piece}
use Rattle.fvn_module_syntax.specs.Spelling.{each}
use Rattle.fvn_module_statements.specs.inner.Gather.{gather}

module _ {A : Type 0} (item : List Piece → Option (A × List Piece)) (spell : A → List Piece) where
  -- what was read is spelled, and each thing fits
  pub record Gathered (Fits : A → Type 0) (fs : List Piece) (xs : List A) (ps : List Piece) : Type 0 where
    pub more : List A
    pub is : (gather item fs xs ps).0 ≡ xs ++ more
    pub left : ps ≡ each spell more ++ (gather item fs xs ps).1
    pub fit : AllByRecursion Fits more

  pub gather-sound : (Fits : A → Type 0) → ((ps : List Piece) (r : A × List Piece) → item ps ≡ Some r → (ps ≡ spell r.0 ++ r.1) × Fits r.0) →
      (fs : List Piece) (xs : List A) (ps : List Piece) → Gathered Fits fs xs ps
  gather-sound Fits sound [] xs ps = record { more = []; is = sym (append-nil xs); left = refl; fit = tt }
  gather-sound Fits sound (f ∷ fs) xs ps = go (item ps) refl (λ ys qs. gather-sound Fits sound fs ys qs) where
    go : (o : Option (A × List Piece)) → item ps ≡ o → ((ys : List A) (qs : List Piece) → Gathered Fits fs ys qs) → Gathered Fits (f ∷ fs) xs ps
    go None e later = record { more = []; is = rw e (sym (append-nil xs)); left = rw e refl; fit = tt }
    go (Some r) e later =
        let g = later (xs ++ (r.0 ∷ [])) r.1 in
        let s = sound ps r e in
        record {
          more = r.0 ∷ g.more;
          is = rw e (g.is ∙ append_assoc xs (r.0 ∷ []) g.more);
          left = rw e (s.0 ∙ ap (λ qs. spell r.0 ++ qs) g.left ∙ sym (append_assoc (spell r.0) (each spell g.more) ((gather item fs (xs ++ (r.0 ∷ [])) r.1).1)));
          fit = (s.1, g.fit);
        }

  -- where all is read, nothing more is read of what is left
  pub gather-stops : (Fits : A → Type 0) → ((ps : List Piece) (r : A × List Piece) → item ps ≡ Some r → (ps ≡ spell r.0 ++ r.1) × Fits r.0) →
      ((x : A) → 1 ≤ length (spell x)) → item [] ≡ None → (fs : List Piece) (xs : List A) (ps : List Piece) → length ps ≤ length fs →
      item (gather item fs xs ps).1 ≡ None
  gather-stops Fits sound some nothing [] xs [] few = nothing
  gather-stops Fits sound some nothing [] xs (p ∷ ps) few = absurd (omega arith)
  gather-stops Fits sound some nothing (f ∷ fs) xs ps few =
      go (item ps) refl (λ ys qs fewer. gather-stops Fits sound some nothing fs ys qs fewer) where
        go : (o : Option (A × List Piece)) → item ps ≡ o → ((ys : List A) (qs : List Piece) → length qs ≤ length fs → item (gather item fs ys qs).1 ≡ None) →
            item (gather item (f ∷ fs) xs ps).1 ≡ None
        go None e later = rw e e
        go (Some r) e later =
            let s = sound ps r e in
            let n = ap length s.0 ∙ length-append (spell r.0) r.1 in
            let m = some r.0 in
            let fewer : length r.1 ≤ length fs = omega arith in
            rw e (later (xs ++ (r.0 ∷ [])) r.1 fewer)

  module _ (Fits : A → Type 0) (Ends : List Piece → Type 0)
      (step : (x : A) (qs : List Piece) → Fits x → Ends qs → (item (spell x ++ qs) ≡ Some (x, qs)) × Ends (spell x ++ qs))
      (rest : List Piece) (ends : Ends rest) (stops : item rest ≡ None) where
    ends_each : (more : List A) → AllByRecursion Fits more → Ends (each spell more ++ rest)
    ends_each [] h = ends
    ends_each (x ∷ more) h = rw (append_assoc (spell x) (each spell more) rest) ((step x (each spell more ++ rest) h.0 (ends_each more h.1)).1)

    pub gather-complete : (fs : List Piece) (xs more : List A) → AllByRecursion Fits more → length more ≤ length fs →
        gather item fs xs (each spell more ++ rest) ≡ (xs ++ more, rest)
    gather-complete [] xs [] h few = rw (append-nil xs) refl
    gather-complete (f ∷ fs) xs [] h few = rw (stops, append-nil xs) refl
    gather-complete [] xs (x ∷ more) h few = absurd (omega arith)
    gather-complete (f ∷ fs) xs (x ∷ more) h few =
        let s = step x (each spell more ++ rest) h.0 (ends_each more h.1) in
        let fewer : length more ≤ length fs = omega arith in
        rw (append_assoc (spell x) (each spell more) rest, s.0)
        (gather-complete fs (xs ++ (x ∷ [])) more h.1 fewer ∙ rw (append_assoc xs (x ∷ []) more) refl)

    module _ (some : (x : A) → 1 ≤ length (spell x)) where
      each-long : (more : List A) → length more ≤ length (each spell more ++ rest)
      each-long [] = omega arith
      each-long (x ∷ more) =
          let a = length-append (spell x ++ each spell more) rest in
          let b = length-append (spell x) (each spell more) in
          let c = length-append (each spell more) rest in
          let k = each-long more in
          let n = some x in
          omega arith

      pub gather-spelled : (more : List A) → AllByRecursion Fits more →
          gather item (each spell more ++ rest) [] (each spell more ++ rest) ≡ (more, rest)
      gather-spelled more h = gather-complete (each spell more ++ rest) [] more h (each-long more)

  -- where nothing is left
  pub gather-whole : (Fits : A → Type 0) (Ends : List Piece → Type 0) →
      ((x : A) (qs : List Piece) → Fits x → Ends qs → (item (spell x ++ qs) ≡ Some (x, qs)) × Ends (spell x ++ qs)) →
      Ends [] → item [] ≡ None → ((x : A) → 1 ≤ length (spell x)) → (more : List A) → AllByRecursion Fits more →
      gather item (each spell more) [] (each spell more) ≡ (more, [])
  gather-whole Fits Ends step ends stops some more h =
      let P : List Piece → Type 0 = λ ps. gather item ps [] ps ≡ (more, []) in
      subst P (append-nil (each spell more)) (gather-spelled Fits Ends step [] ends stops some more h)
