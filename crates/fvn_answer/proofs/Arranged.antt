-- Forms in the order in which they are printed.
use Rattle.std.proofs.Common.{◌≡◌, inl, inr, Bool, true, false, List, [], ◌∷◌, ◌+◌, length, refl, sym, ap, ◌∙◌, map, arith}
use Rattle.std.specs.Prelude.{if◌then◌else◌}
use Rattle.std.specs.List.{AllByRecursion}
use Rattle.fvn_terms.specs.declared.plain.Var.{Var}
use Rattle.fvn_terms.specs.declared.plain.OpId.{OpId}
use Rattle.fvn_terms.specs.declared.declarations.Axioms.{Axioms}
use Rattle.fvn_terms.specs.declared.declarations.Declarations.{Declarations}
use Rattle.fvn_terms.specs.Signature.{axioms}
use Rattle.fvn_terms.specs.Term.{Term, Terms, app}
use Rattle.fvn_terms.specs.Substitution.{Substitution, apply, apply_all, OccursAmong}
use Rattle.fvn_terms.specs.Places.{stop}
use Rattle.fvn_terms.specs.Equality.{IsCommutative, IsAssociative, BEqual, is_commutative}
use Rattle.fvn_terms.proofs.Equal.{BEqual-trans}
use Rattle.fvn_forms.specs.Flat.{FlatTerm, fpack, nest, nest_all, plain, plain_all}
use Rattle.fvn_syntax.specs.declared.names.Names.{Names}
use Rattle.fvn_syntax.specs.Pieces.{Text}
use Rattle.fvn_syntax.specs.Raw.{RawTerm}
use Rattle.fvn_answer.specs.Writing.{text_of, is_after, put, in_byte_order, arranged, written, written_all}
use Rattle.fvn_answer.proofs.Sums.{exchanged, first-exchanged, behind}

module _ (d : Declarations) (names : Names) (order : List Var) where
  abbrev pub shown_as : FlatTerm → RawTerm
  shown_as = written d names order

  abbrev pub key : FlatTerm → Text
  key t = text_of (shown_as t)

  abbrev pub put_form : FlatTerm → List FlatTerm → List FlatTerm
  put_form t [] = t ∷ []
  put_form t (u ∷ us) = if is_after (key t) (key u) then u ∷ put_form t us else t ∷ u ∷ us

  abbrev pub sorted_forms : List FlatTerm → List FlatTerm
  sorted_forms [] = []
  sorted_forms (t ∷ ts) = put_form t (sorted_forms ts)

  -- the forms in the order in which they are printed
  abbrev pub arranged_forms : Axioms → List FlatTerm → List FlatTerm
  arranged_forms a ts = if is_commutative a then sorted_forms ts else ts

  -- They are printed in this order.

  written-put : (t : FlatTerm) (us : List FlatTerm) → map shown_as (put_form t us) ≡ put (shown_as t) (map shown_as us)
  written-put t [] = refl
  written-put t (u ∷ us) = go (is_after (key t) (key u)) (written-put t us) where
    go : (b : Bool) → map shown_as (put_form t us) ≡ put (shown_as t) (map shown_as us) →
        map shown_as (if b then u ∷ put_form t us else t ∷ u ∷ us) ≡ (if b then shown_as u ∷ put (shown_as t) (map shown_as us) else shown_as t ∷ shown_as u ∷ map shown_as us)
    go true ih = ap (λ ts. shown_as u ∷ ts) ih
    go false ih = refl

  written-sorted : (ts : List FlatTerm) → map shown_as (sorted_forms ts) ≡ in_byte_order (map shown_as ts)
  written-sorted [] = refl
  written-sorted (t ∷ ts) = written-put t (sorted_forms ts) ∙ ap (put (shown_as t)) (written-sorted ts)

  all-written : (ts : List FlatTerm) → written_all d names order (fpack ts) ≡ map shown_as ts
  all-written [] = refl
  all-written (t ∷ ts) = ap (λ us. shown_as t ∷ us) (all-written ts)

  pub written-arranged : (a : Axioms) (ts : List FlatTerm) → arranged a (written_all d names order (fpack ts)) ≡ map shown_as (arranged_forms a ts)
  written-arranged a ts = ap (arranged a) (all-written ts) ∙ go (is_commutative a) where
    go : (b : Bool) → (if b then in_byte_order (map shown_as ts) else map shown_as ts) ≡ map shown_as (if b then sorted_forms ts else ts)
    go true = sym (written-sorted ts)
    go false = refl

  length-put : (t : FlatTerm) (us : List FlatTerm) → length (put_form t us) ≡ length us + 1
  length-put t [] = refl
  length-put t (u ∷ us) = go (is_after (key t) (key u)) (length-put t us) where
    go : (b : Bool) → length (put_form t us) ≡ length us + 1 → length (if b then u ∷ put_form t us else t ∷ u ∷ us) ≡ length (u ∷ us) + 1
    go true ih = omega (arith, ih)
    go false ih = omega arith

  pub length-sorted : (ts : List FlatTerm) → length (sorted_forms ts) ≡ length ts
  length-sorted [] = refl
  length-sorted (t ∷ ts) = length-put t (sorted_forms ts) ∙ (let ih = length-sorted ts in omega (arith, ih))

  -- What holds of each holds of each.

  module _ (P : FlatTerm → Type 0) where
    each-put : (t : FlatTerm) (us : List FlatTerm) → P t → AllByRecursion P us → AllByRecursion P (put_form t us)
    each-put t [] p ps = (p, tt)
    each-put t (u ∷ us) p ps = go (is_after (key t) (key u)) (each-put t us p ps.1) where
      go : (b : Bool) → AllByRecursion P (put_form t us) → AllByRecursion P (if b then u ∷ put_form t us else t ∷ u ∷ us)
      go true ih = (ps.0, ih)
      go false ih = (p, ps)

    pub each-sorted : (ts : List FlatTerm) → AllByRecursion P ts → AllByRecursion P (sorted_forms ts)
    each-sorted [] ps = tt
    each-sorted (t ∷ ts) ps = each-put t (sorted_forms ts) ps.0 (each-sorted ts ps.1)

  -- x occurs in one of the forms
  abbrev pub Among : Var → List FlatTerm → Type 0
  Among x ts = OccursAmong x (plain_all (fpack ts))

  among-put : (x : Var) (t : FlatTerm) (us : List FlatTerm) → Among x (t ∷ us) → Among x (put_form t us)
  among-put x t [] o = o
  among-put x t (u ∷ us) o = go (is_after (key t) (key u)) (among-put x t us) where
    go : (b : Bool) → (Among x (t ∷ us) → Among x (put_form t us)) → Among x (if b then u ∷ put_form t us else t ∷ u ∷ us)
    go true ih = elim o [ inl a ↦ inr (ih (inl a)) | inr r ↦ elim r [ inl b ↦ inl b | inr c ↦ inr (ih (inr c)) ] ]
    go false ih = o

  pub among-sorted : (x : Var) (ts : List FlatTerm) → Among x ts → Among x (sorted_forms ts)
  among-sorted x [] o = o
  among-sorted x (t ∷ ts) o = among-put x t (sorted_forms ts) (elim o [ inl a ↦ inl a | inr r ↦ inr (among-sorted x ts r) ])

  -- Sums are equal modulo the axioms.

  module _ (s : Substitution) where
    abbrev pub values : List FlatTerm → Terms
    values ts = apply_all s (plain_all (fpack ts))

    abbrev pub value_of : FlatTerm → Term
    value_of t = apply s (plain t)

    module _ (f : OpId) (c : IsCommutative (axioms d f)) where
      -- two arguments
      pub two-sorted : (t u : FlatTerm) → BEqual d (app f (values (sorted_forms (t ∷ u ∷ [])))) (app f (values (t ∷ u ∷ [])))
      two-sorted t u = go (is_after (key t) (key u)) where
        go : (b : Bool) → BEqual d (app f (values (if b then u ∷ t ∷ [] else t ∷ u ∷ []))) (app f (values (t ∷ u ∷ [])))
        go true = exchanged d f c (value_of u) (value_of t)
        go false = stop

      module _ (a : IsAssociative (axioms d f)) where
        -- behind another summand
        put-behind : (x : Term) (t : FlatTerm) (us : List FlatTerm) → BEqual d (nest f x (values (put_form t us))) (nest f x (values (t ∷ us)))
        put-behind x t [] = stop
        put-behind x t (u ∷ us) = go (is_after (key t) (key u)) (put-behind (value_of u) t us) where
          go : (b : Bool) → BEqual d (nest f (value_of u) (values (put_form t us))) (nest f (value_of u) (values (t ∷ us))) →
              BEqual d (nest f x (values (if b then u ∷ put_form t us else t ∷ u ∷ us))) (nest f x (values (t ∷ u ∷ us)))
          go true ih = behind d f c a x (value_of u) (values (put_form t us)) (value_of t) (values (u ∷ us)) (BEqual-trans d ih (first-exchanged d f c a (value_of u) (value_of t) (values us)))
          go false ih = stop

        sorted-behind : (x : Term) (ts : List FlatTerm) → BEqual d (nest f x (values (sorted_forms ts))) (nest f x (values ts))
        sorted-behind x [] = stop
        sorted-behind x (t ∷ ts) =
            BEqual-trans d (put-behind x t (sorted_forms ts)) (behind d f c a x (value_of t) (values (sorted_forms ts)) (value_of t) (values ts) (sorted-behind (value_of t) ts))

        put-sum : (t : FlatTerm) (us : List FlatTerm) → BEqual d (nest_all f (values (put_form t us))) (nest_all f (values (t ∷ us)))
        put-sum t [] = stop
        put-sum t (u ∷ us) = go (is_after (key t) (key u)) where
          go : (b : Bool) → BEqual d (nest_all f (values (if b then u ∷ put_form t us else t ∷ u ∷ us))) (nest_all f (values (t ∷ u ∷ us)))
          go true = BEqual-trans d (put-behind (value_of u) t us) (first-exchanged d f c a (value_of u) (value_of t) (values us))
          go false = stop

        pub sum-sorted : (ts : List FlatTerm) → BEqual d (nest_all f (values (sorted_forms ts))) (nest_all f (values ts))
        sum-sorted [] = stop
        sum-sorted (t ∷ ts) = BEqual-trans d (put-sum t (sorted_forms ts)) (sorted-behind (value_of t) ts)
