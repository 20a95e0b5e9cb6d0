-- What heads the value of a node whose operator has no identity.
use Rattle.std.proofs.Common.{◌≡◌, ℕ, ◌≤◌, false, List, [], ◌∷◌, ◌++◌, length, map, refl, sym, ap, ◌∙◌, subst, arith, Some}
use Rattle.std.specs.List.{AllByRecursion}
use Rattle.std.proofs.lemmas.List.{length-append}
use Rattle.fvn_terms.specs.declared.plain.OpId.{OpId}
use Rattle.fvn_terms.specs.declared.plain.SortId.{SortId}
use Rattle.fvn_terms.specs.declared.declarations.Axioms.{Axioms}
use Rattle.fvn_terms.specs.declared.declarations.Axioms.TheVariants.{Free, Comm, AssocComm, AssocCommId}
use Rattle.fvn_terms.specs.declared.declarations.Declarations.{Declarations}
use Rattle.fvn_terms.specs.Term.{Term, app, pack}
use Rattle.fvn_terms.specs.Substitution.{Substitution, apply, apply_all}
use Rattle.fvn_terms.specs.Signature.{kind, axioms, HaveKinds, IsTerm}
use Rattle.fvn_terms.specs.Equality.{IsAssociative, identity}
use Rattle.fvn_forms.specs.Flat.{FlatTerm, fvar, fapp, fpack}
use Rattle.fvn_forms.specs.InOrder.{sort}
use Rattle.fvn_forms.specs.Canon.{parts, all_parts, joined, built, build, canon, eval_all}
use Rattle.fvn_forms.specs.Settled.{Settled}
use Rattle.fvn_forms.specs.FitsKinds.{FitsKinds}
use Rattle.fvn_forms.proofs.Build.{build_sum, parts_none}
use Rattle.fvn_forms.proofs.Eval.{canon_settled}
use Rattle.fvn_forms.proofs.InOrder.{length_sort}
use Rattle.fvn_flat.specs.Forms.{head_of}
use Rattle.fvn_flat.specs.Partitions.{HasNoIdentity}
use Rattle.fvn_combine_nodes.specs.Table.{term_at, IsOver, IsOrdered}
use Rattle.fvn_combine_nodes.specs.Unifiers.{value_at}
use Rattle.fvn_combine_nodes.specs.declared.table.Node.{Node}
use Rattle.fvn_combine_nodes.proofs.Nodes.{term_at-over}

-- axioms without an identity have none
pub identity_of : (a : Axioms) (e : OpId) → HasNoIdentity a → identity a ≡ Some e → ⊥
identity_of Free e b i = cc
identity_of Comm e b i = cc
identity_of AssocComm e b i = cc
identity_of (AssocCommId o) e b i = b

module _ (d : Declarations) (f : OpId) where
  -- a free operator stands over its arguments, and a commutative one over these in order
  pub build_free : axioms d f ≡ Free → (vs : List FlatTerm) → build d f vs ≡ fapp f false (fpack vs)
  build_free e [] = refl
  build_free e (v ∷ vs) = ap (λ a. built d a f (v ∷ vs)) e

  pub build_commutative : axioms d f ≡ Comm → (vs : List FlatTerm) → build d f vs ≡ fapp f false (fpack (sort vs))
  build_commutative e [] = refl
  build_commutative e (v ∷ vs) = ap (λ a. built d a f (v ∷ vs)) e

  -- what joins two members or more is a sum of them
  head_joined : (l : List FlatTerm) → 2 ≤ length l → head_of (joined d f l) ≡ Some f
  head_joined [] h = absurd (omega arith)
  head_joined (t ∷ []) h = absurd (omega arith)
  head_joined (t ∷ u ∷ us) h = refl

  -- under an operator without an identity each form has summands
  pub some_part : HasNoIdentity (axioms d f) → (t : FlatTerm) → Settled d t → 1 ≤ length (parts d f t)
  some_part bare t h = go (parts d f t) refl
    where
      go : (l : List FlatTerm) → parts d f t ≡ l → 1 ≤ length (parts d f t)
      go [] is = absurd (let p = parts_none d f t h is in identity_of (axioms d f) p.0 bare p.1)
      go (u ∷ us) is = let n = ap length is in omega (arith, n)

  head_sum : HasNoIdentity (axioms d f) → IsAssociative (axioms d f) → (a b : FlatTerm) → Settled d a → Settled d b → head_of (build d f (a ∷ b ∷ [])) ≡ Some f
  head_sum bare assoc a b ha hb =
      ap head_of (build_sum d f assoc a (b ∷ []))
      ∙ head_joined (sort (all_parts d f (a ∷ b ∷ []))) (
      let l = length_sort (all_parts d f (a ∷ b ∷ [])) in
      let m = length-append (parts d f a) (parts d f b ++ []) in
      let n = length-append (parts d f b) [] in
      let p = some_part bare a ha in
      let q = some_part bare b hb in
      omega (arith, l, m, n, p, q)
      )

  -- an operator without an identity heads what it builds, if an associative one stands over two
  pub build_head : HasNoIdentity (axioms d f) → (vs : List FlatTerm) → AllByRecursion (Settled d) vs → (IsAssociative (axioms d f) → length vs ≡ 2) → head_of (build d f vs) ≡ Some f
  build_head bare vs settled two = go (axioms d f) refl
    where
      pair : (vs : List FlatTerm) → AllByRecursion (Settled d) vs → length vs ≡ 2 → IsAssociative (axioms d f) → head_of (build d f vs) ≡ Some f
      pair [] h n e = absurd (omega (arith, n))
      pair (a ∷ []) h n e = absurd (omega (arith, n))
      pair (a ∷ b ∷ []) h n e = head_sum bare e a b h.0 h.1.0
      pair (a ∷ b ∷ v ∷ vs) h n e = absurd (omega (arith, n))

      go : (a : Axioms) → axioms d f ≡ a → head_of (build d f vs) ≡ Some f
      go Free e = ap head_of (build_free e vs)
      go Comm e = ap head_of (build_commutative e vs)
      go AssocComm e = let assoc = subst IsAssociative (sym e) tt in pair vs settled (two assoc) assoc
      go (AssocCommId o) e = absurd (subst HasNoIdentity e bare)

-- a well-kinded associative operator has two arguments
pub two_arguments : (d : Declarations) → FitsKinds d → (f : OpId) (ts : List Term) → IsTerm d (app f (pack ts)) → IsAssociative (axioms d f) → length ts ≡ 2
two_arguments d fits f ts h assoc =
    let alike = fits.associative f h.1.rank assoc h.1.listed in
    count ts (kind d h.1.rank.result) (kind d h.1.rank.result) (subst (HaveKinds d (pack ts)) alike h.1.args)
  where
    count : (ts : List Term) (k q : SortId) → HaveKinds d (pack ts) (k ∷ q ∷ []) → length ts ≡ 2
    count [] k q h = absurd h
    count (t ∷ []) k q h = absurd h.1
    count (t ∷ u ∷ []) k q h = refl
    count (t ∷ u ∷ v ∷ vs) k q h = absurd h.1.1

-- the value of an operator over nodes is built from the values of these
module _ (d : Declarations) (s : Substitution) (nodes : List Node) where
  values_of : (ks : List ℕ) → eval_all d fvar (apply_all s (pack (map (term_at nodes) ks))) ≡ map (value_at d s nodes) ks
  values_of [] = refl
  values_of (k ∷ ks) = ap (λ l. value_at d s nodes k ∷ l) (values_of ks)

  pub value_over : (ordered : IsOrdered nodes) (i : ℕ) (f : OpId) (ks : List ℕ) → IsOver nodes i f ks → value_at d s nodes i ≡ build d f (map (value_at d s nodes) ks)
  value_over ordered i f ks is = ap (λ t. canon d (apply s t)) (term_at-over nodes ordered i f ks is) ∙ ap (build d f) (values_of ks)

  pub values_settled : (ks : List ℕ) → AllByRecursion (Settled d) (map (value_at d s nodes) ks)
  values_settled [] = tt
  values_settled (k ∷ ks) = (canon_settled d (apply s (term_at nodes k)), values_settled ks)
