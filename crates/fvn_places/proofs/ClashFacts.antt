-- An operator without identity heads each instance of what it heads; one without axioms keeps its arguments apart.
use Rattle.std.proofs.Common.{◌≡◌, ℕ, zero, suc, ◌<◌, ◌≤◌, true, false, List, [], ◌∷◌, map, length, get_or, None, Some, refl, sym, ap, ◌∙◌, subst, arith}
use Rattle.std.specs.Prelude.{Bool, not, slice_get}
use Rattle.std.specs.List.{AllByRecursion}
use Rattle.std.proofs.lemmas.List.{length-append}
use Rattle.std.proofs.lemmas.Option.{slice_get_read}
use Rattle.fvn_terms.specs.declared.plain.Var.{Var}
use Rattle.fvn_terms.specs.declared.plain.OpId.{OpId}
use Rattle.fvn_terms.specs.declared.declarations.Axioms.{Axioms}
use Rattle.fvn_terms.specs.declared.declarations.Axioms.TheVariants.{Free, Comm, AssocComm, AssocCommId}
use Rattle.fvn_terms.specs.declared.declarations.Declarations.{Declarations}
use Rattle.fvn_terms.specs.Signature.{axioms}
use Rattle.fvn_terms.specs.Substitution.{Substitution, apply, apply_all}
use Rattle.fvn_terms.specs.Equality.{IsAssociative, identity}
use Rattle.fvn_forms.specs.Flat.{FlatTerm, FlatTerms, fvar, fapp, fnone, fmore, fpack, funpack, plain, plain_all}
use Rattle.fvn_forms.specs.InOrder.{sort}
use Rattle.fvn_forms.specs.Canon.{same_op, parts, all_parts, joined, sum, built, build, eval_all, canon, inst}
use Rattle.fvn_forms.specs.Settled.{FitsUnjoined, Settled, SettledValues}
use Rattle.fvn_forms.proofs.InOrder.{length_sort}
use Rattle.fvn_forms.proofs.Sums.{funpack-fpack, same_op_itself, same_op_is}
use Rattle.fvn_forms.proofs.Build.{parts_none}
use Rattle.fvn_forms.proofs.Eval.{canon_settled, eval_all_settled, eval_apply, eval_nest}
use Rattle.fvn_flat.specs.Forms.{head_of, args_of}
use Rattle.fvn_places.specs.Clashes.{NeverMeet, SomeNeverMeet}

some_length : {A : Type 0} (l : List A) → (l ≡ [] → ⊥) → 1 ≤ length l
some_length [] n = absurd (n refl)
some_length (x ∷ l) n = omega arith

item_at : {A B : Type 0} (g : A → B) (l : List A) (i : ℕ) (a : A) → slice_get l i ≡ Some a → slice_get (map g l) i ≡ Some (g a)
item_at g [] i a e = cc
item_at g (x ∷ l) zero a e = let q : x ≡ a = cc in ap (λ y. Some (g y)) q
item_at g (x ∷ l) (suc i) a e = item_at g l i a e

module _ (d : Declarations) where
  -- an operator without identity has at least as many summands as arguments
  pub many_parts : (f : OpId) → identity (axioms d f) ≡ None → (l : List FlatTerm) → AllByRecursion (Settled d) l → length l ≤ length (all_parts d f l)
  many_parts f no_identity [] h = omega arith
  many_parts f no_identity (t ∷ l) h =
      let some = some_length (parts d f t) (λ e. let p = parts_none d f t h.0 e in let q : Some p.0 ≡ None = sym p.1 ∙ no_identity in cc) in
      let rest = many_parts f no_identity l h.1 in
      let whole = length-append (parts d f t) (all_parts d f l) in
      omega arith

  sum_head : (f : OpId) (l : List FlatTerm) → 2 ≤ length l → head_of (sum d f l) ≡ Some f
  sum_head f l two = go (sort l) (let e = length_sort l in omega arith)
    where
      go : (m : List FlatTerm) → 2 ≤ length m → head_of (joined d f m) ≡ Some f
      go [] n = absurd (omega arith)
      go (a ∷ []) n = absurd (omega arith)
      go (a ∷ b ∷ m) n = refl

  evaluated_length : (v : _) (ts : FlatTerms) → length (eval_all d v (plain_all ts)) ≡ length (funpack ts)
  evaluated_length v fnone = refl
  evaluated_length v (fmore t ts) = ap suc (evaluated_length v ts)

  unjoined_head : (f : OpId) (a : Axioms) (t b : FlatTerm) (l m : List FlatTerm) → FitsUnjoined d a (t ∷ l) → head_of (built d a f (b ∷ m)) ≡ Some f
  unjoined_head f Free t b l m h = refl
  unjoined_head f Comm t b l m h = refl
  unjoined_head f AssocComm t b l m h = cc
  unjoined_head f (AssocCommId e) t b l m h = cc

  module _ (v : _) (settled : SettledValues d v) where
    -- the head of an instance
    head_kept : (f : OpId) → identity (axioms d f) ≡ None → (t : FlatTerm) → Settled d t → head_of t ≡ Some f → head_of (inst d v t) ≡ Some f
    head_kept f no_identity (fvar x) h e = cc
    head_kept f no_identity (fapp g true fnone) h e = let n : 2 ≤ 0 = h.0.two_or_more in absurd (omega arith)
    head_kept f no_identity (fapp g true (fmore t ts)) h e =
        let q : f ≡ g = cc in
        let all = eval_all d v (plain_all (fmore t ts)) in
        let many = many_parts g (subst (λ o. identity (axioms d o) ≡ None) q no_identity) all (eval_all_settled d v settled (plain_all (fmore t ts))) in
        let long = evaluated_length v (fmore t ts) in
        let two = h.0.two_or_more in
        ap head_of (eval_nest d v settled g h.0.associative (plain t) (plain_all ts)) ∙ sum_head g (all_parts d g all) (omega arith) ∙ e
    head_kept f no_identity (fapp g false fnone) h e = e
    head_kept f no_identity (fapp g false (fmore t ts)) h e = unjoined_head g (axioms d g) t _ (funpack ts) _ h.0 ∙ e

  abbrev values : Substitution → Var → FlatTerm
  values s x = canon d (s x)

  -- an operator without identity heads each instance of what it heads
  pub instance_head : (f : OpId) → identity (axioms d f) ≡ None → (t : FlatTerm) → Settled d t → head_of t ≡ Some f → (s : Substitution) → head_of (canon d (apply s (plain t))) ≡ Some f
  instance_head f no_identity t h e s = ap head_of (eval_apply d fvar s (plain t)) ∙ head_kept (values s) (λ x. canon_settled d (s x)) f no_identity t h e

  -- two operators without identities never meet
  pub heads_never_meet : (f g : OpId) (t u : FlatTerm) → Settled d t → Settled d u → head_of t ≡ Some f → head_of u ≡ Some g → (f ≡ g → ⊥) → identity (axioms d f) ≡ None → identity (axioms d g) ≡ None → NeverMeet d t u
  heads_never_meet f g t u ht hu et eu differ nf ng s c e =
      let same : Some f ≡ Some g = sym (instance_head f nf t ht et s) ∙ ap head_of e ∙ instance_head g ng u hu eu c in
      let q : f ≡ g = cc in differ q

  -- an operator without axioms is built over its arguments as they are
  build_free : (f : OpId) → axioms d f ≡ Free → (l : List FlatTerm) → build d f l ≡ fapp f false (fpack l)
  build_free f e [] = refl
  build_free f e (t ∷ l) = ap (λ a. built d a f (t ∷ l)) e

  instances_among : (s : Substitution) (ts : FlatTerms) → eval_all d fvar (apply_all s (plain_all ts)) ≡ map (λ t. canon d (apply s (plain t))) (funpack ts)
  instances_among s fnone = refl
  instances_among s (fmore t ts) = ap (λ l. canon d (apply s (plain t)) ∷ l) (instances_among s ts)

  instance_args : (f : OpId) → axioms d f ≡ Free → (t : FlatTerm) → Settled d t → head_of t ≡ Some f → (s : Substitution) → args_of (canon d (apply s (plain t))) ≡ map (λ a. canon d (apply s (plain a))) (args_of t)
  instance_args f free (fvar x) h e s = cc
  instance_args f free (fapp g true ts) h e s = let q : g ≡ f = cc in absurd (subst IsAssociative (ap (axioms d) q ∙ free) h.0.associative)
  instance_args f free (fapp g false ts) h e s =
      let q : f ≡ g = cc in
      let l = eval_all d fvar (apply_all s (plain_all ts)) in
      ap args_of (build_free g (ap (axioms d) (sym q) ∙ free) l) ∙ funpack-fpack l ∙ instances_among s ts

  -- so forms with such a head never meet where two of their arguments never do
  pub arguments_never_meet : (f : OpId) (t u : FlatTerm) → axioms d f ≡ Free → Settled d t → Settled d u → head_of t ≡ Some f → head_of u ≡ Some f → SomeNeverMeet d (args_of t) (args_of u) → NeverMeet d t u
  arguments_never_meet f t u free ht hu et eu n s c e =
      let all : map (λ a. canon d (apply s (plain a))) (args_of t) ≡ map (λ a. canon d (apply c (plain a))) (args_of u) =
      sym (instance_args f free t ht et s) ∙ ap args_of e ∙ instance_args f free u hu eu c in
      let first = item_at (λ a. canon d (apply s (plain a))) (args_of t) n.place n.first n.in_first in
      let second = item_at (λ a. canon d (apply c (plain a))) (args_of u) n.place n.second n.in_second in
      let both : Some (canon d (apply s (plain n.first))) ≡ Some (canon d (apply c (plain n.second))) = sym first ∙ ap (λ l. slice_get l n.place) all ∙ second in
      let one : canon d (apply s (plain n.first)) ≡ canon d (apply c (plain n.second)) = cc in
      n.never s c one

  -- two that never meet, side by side
  pub side_by_side : (ts us : List FlatTerm) (i : ℕ) (t u : FlatTerm) → i < length ts → i < length us → t ≡ get_or ts i t → u ≡ get_or us i u → NeverMeet d t u → SomeNeverMeet d ts us
  side_by_side ts us i t u in_ts in_us is_t is_u never = record {
    place = i;
    first = t;
    second = u;
    in_first = slice_get_read ts (length ts) i t refl in_ts is_t;
    in_second = slice_get_read us (length us) i u refl in_us is_u;
    never = never;
  }

-- what a comparison of two operators tells
pub heads_differ : (f g : OpId) (b : Bool) → b ≡ not (same_op f g) → b ≡ true → f ≡ g → ⊥
heads_differ f g b e h q = let clash : true ≡ false = sym h ∙ e ∙ ap (λ o. not (same_op f o)) (sym q) ∙ ap not (same_op_itself f) in cc

pub heads_same : (f g : OpId) (b : Bool) → b ≡ not (same_op f g) → b ≡ false → f ≡ g
heads_same f g b e h = go (same_op f g) refl
  where
    go : (x : Bool) → same_op f g ≡ x → f ≡ g
    go true q = same_op_is f g q
    go false q = let clash : true ≡ false = sym (ap not q) ∙ sym e ∙ h in cc
