-- Steps at places of flat forms, by instances of equations under which no variable becomes an identity.
use Rattle.std.proofs.Common.{◌≡◌, ◌⊎◌, true, [], ◌∷◌, ◌++◌, length, refl, sym, ap, ◌∙◌, subst, inl, inr, arith}
use Rattle.std.specs.Prelude.{Contains}
use Rattle.std.proofs.lemmas.List.{length-append}
use Rattle.fvn_terms.specs.declared.plain.Var.{Var}
use Rattle.fvn_terms.specs.declared.plain.OpId.{OpId}
use Rattle.fvn_terms.specs.declared.plain.SortId.{SortId}
use Rattle.fvn_terms.specs.declared.declarations.Declarations.{Declarations}
use Rattle.fvn_terms.specs.Term.{Term}
use Rattle.fvn_terms.specs.Substitution.{Substitution}
use Rattle.fvn_terms.specs.Signature.{axioms, HasKind}
use Rattle.fvn_terms.specs.Equality.{two, IsAssociative}
use Rattle.fvn_terms.specs.Sorts.{IsWellSorted}
use Rattle.fvn_terms.specs.Theory.{Equations}
use Rattle.fvn_forms.specs.Flat.{FlatTerm, FlatTerms, fvar, fapp, fpack, plain}
use Rattle.fvn_forms.specs.InOrder.{sort}
use Rattle.fvn_forms.specs.Canon.{parts, all_parts, build, canon, inst}
use Rattle.fvn_forms.specs.Settled.{Settled, SettledValues}
use Rattle.fvn_forms.specs.Good.{IsGood}
use Rattle.fvn_forms.proofs.Build.{is_constant, build_settled, build_shift}
use Rattle.fvn_forms.proofs.Eval.{canon_settled, canon_plain}
use Rattle.fvn_forms.proofs.KindsKept.{kind_unique, both_of_kind, sum_of_kind}
use Rattle.fvn_forms.proofs.KindsOfSums.{build_of_kind}
use Rattle.fvn_forms.proofs.Instances.{inst_settled}
use Rattle.fvn_flat.specs.FlatPlaces.{IsReplaced, here}
use Rattle.fvn_flat.specs.Rules.{IsIdentityInstance}
use Rattle.fvn_rewrite_laws.specs.Admissible.{AreAdmissible}
use Rattle.fvn_rewrite_coherence.proofs.Tight.{IsIdentityForm, sum_of_two_form, IsTight, identity_back, joined_back, instance_parts}

-- the flat forms of the values of a substitution
abbrev pub values : Declarations → Substitution → Var → FlatTerm
values d s x = canon d (s x)

pub values_settled : (d : Declarations) (s : Substitution) → SettledValues d (values d s)
values_settled d s x = canon_settled d (s x)

module _ (d : Declarations) (equations : Equations) where
  -- the two forms are instances of the sides of an equation, some of whose variables are identities, and no others become such
  pub record IsTightInstance (t u : FlatTerm) : Type 0 where
    pub equation : Term × Term
    pub listed : Contains equations equation
    pub left : FlatTerm
    pub right : FlatTerm
    pub instance_of : IsIdentityInstance d equation left right
    pub by : Substitution
    pub well_sorted : IsWellSorted d by
    pub tight : IsTight d (values d by) left
    pub from : t ≡ inst d (values d by) left
    pub to : u ≡ inst d (values d by) right

  -- the same of two forms beside another summand
  pub record IsBeside (f : OpId) (t u : FlatTerm) : Type 0 where
    pub inner_from : FlatTerm
    pub inner_to : FlatTerm
    pub inner : IsTightInstance inner_from inner_to
    pub arguments : FlatTerms
    pub joined : inner.left ≡ fapp f true arguments
    pub other : FlatTerm
    pub settled : Settled d other
    pub kind : SortId
    pub of_kind : HasKind d (two f (plain inner_from) (plain other)) kind
    pub from : t ≡ build d f (inner_from ∷ other ∷ [])
    pub to : u ≡ build d f (inner_to ∷ other ∷ [])

  -- alone, or beside another summand
  abbrev pub IsTightRedex : FlatTerm → FlatTerm → Type 0
  IsTightRedex t u = IsTightInstance t u ⊎ ((f : OpId) × IsBeside f t u)

  -- one such form at a place is replaced, which makes a term of this flat form
  pub record StepsTightly (t u : FlatTerm) : Type 0 where
    pub at : FlatTerm
    pub given : FlatTerm
    pub redex : IsTightRedex at given
    pub replaced : FlatTerm
    pub replaces : IsReplaced at given t replaced
    pub makes : canon d (plain replaced) ≡ u

  instance_settled : (t u : FlatTerm) (i : IsTightInstance t u) → Settled d t × Settled d u
  instance_settled t u i = (
    subst (Settled d) (sym i.from) (inst_settled d (values d i.by) (values_settled d i.by) i.left),
    subst (Settled d) (sym i.to) (inst_settled d (values d i.by) (values_settled d i.by) i.right),
  )

  -- a redex by itself steps
  pub whole_step : (t u : FlatTerm) → IsTightInstance t u → StepsTightly t u
  whole_step t u i = record { at = t; given = u; redex = inl i; replaced = u; replaces = here; makes = canon_plain d u (instance_settled t u i).1 }

  -- the left side of a redex is settled
  pub left_settled : (t u : FlatTerm) (i : IsTightInstance t u) → Settled d i.left
  left_settled t u i = subst (Settled d) (sym i.instance_of.left) (canon_settled d _)

  beside_settled : (f : OpId) (t u : FlatTerm) (b : IsBeside f t u) → Settled d t × Settled d u
  beside_settled f t u b =
      let w = instance_settled b.inner_from b.inner_to b.inner in (
        subst (Settled d) (sym b.from) (build_settled d f (b.inner_from ∷ b.other ∷ []) (w.0, (b.settled, tt))),
        subst (Settled d) (sym b.to) (build_settled d f (b.inner_to ∷ b.other ∷ []) (w.1, (b.settled, tt))),
      )

  -- both forms of a redex are settled
  pub redex_settled : (t u : FlatTerm) → IsTightRedex t u → Settled d t × Settled d u
  redex_settled t u (inl i) = instance_settled t u i
  redex_settled t u (inr b) = beside_settled b.0 t u b.1

  pub beside_associative : (f : OpId) (t u : FlatTerm) (b : IsBeside f t u) → IsAssociative (axioms d f)
  beside_associative f t u b = (subst (Settled d) b.joined (left_settled b.inner_from b.inner_to b.inner)).0.associative

  -- what stands beside another summand is a sum
  pub beside_form : (f : OpId) (t u : FlatTerm) → IsBeside f t u → (ts : FlatTerms) × (t ≡ fapp f true ts)
  beside_form f t u b =
      let i = b.inner in
      let many = instance_parts d (values d i.by) (values_settled d i.by) f b.arguments (subst (Settled d) b.joined (left_settled b.inner_from b.inner_to i)) (subst (IsTight d (values d i.by)) b.joined i.tight) in
      let same_parts : length (parts d f (inst d (values d i.by) (fapp f true b.arguments))) ≡ length (parts d f b.inner_from) = ap (λ z. length (parts d f z)) (sym (i.from ∙ ap (inst d (values d i.by)) b.joined)) in
      let all = length-append (parts d f b.inner_from) (parts d f b.other ++ []) in
      (fpack (sort (all_parts d f (b.inner_from ∷ b.other ∷ []))), b.from ∙ sum_of_two_form d f (beside_associative f t u b) b.inner_from b.other (omega arith))

  module _ (admissible : AreAdmissible d equations) where
    -- and no variable
    pub left_no_variable : (t u : FlatTerm) (i : IsTightInstance t u) → (x : Var) → i.left ≡ fvar x → ⊥
    left_no_variable t u i x e =
        (admissible i.equation i.listed).no_variable (x, record { by = i.instance_of.by; choice = i.instance_of.choice; is = sym e ∙ i.instance_of.left })

    -- such an instance is no identity
    pub instance_no_identity : (t u : FlatTerm) → IsTightInstance t u → IsIdentityForm d t → ⊥
    instance_no_identity t u i w =
        let back = identity_back d (values d i.by) (values_settled d i.by) w.0 i.left (left_settled t u i) i.tight (subst (IsIdentityForm d) i.from w).1 in
        (admissible i.equation i.listed).no_identity
        (back.0, (w.0, back.1), record { by = i.instance_of.by; choice = i.instance_of.choice; is = sym (is_constant i.left back.0 back.2) ∙ i.instance_of.left })

    instance_joined : (f : OpId) (ts : FlatTerms) (t u : FlatTerm) (i : IsTightInstance t u) → t ≡ fapp f true ts → (us : FlatTerms) × (i.left ≡ fapp f true us)
    instance_joined f ts t u i e = joined_back d (values d i.by) (values_settled d i.by) f ts i.left (left_settled t u i) i.tight (sym i.from ∙ e) (left_no_variable t u i)

    module _ (good : IsGood d) where
      -- beside one more summand
      beside_more : (f : OpId) (t u o : FlatTerm) (k : SortId) → IsBeside f t u → Settled d o → HasKind d (two f (plain t) (plain o)) k → IsBeside f (build d f (t ∷ o ∷ [])) (build d f (u ∷ o ∷ []))
      beside_more f t u o k b settled of_kind =
          let assoc = beside_associative f t u b in
          let both = instance_settled b.inner_from b.inner_to b.inner in
          let inner = both_of_kind d good.fits f assoc (plain b.inner_from) (plain b.other) b.kind b.of_kind in
          let outer = both_of_kind d good.fits f assoc (plain t) (plain o) k of_kind in
          let built = build_of_kind d good.fits f (b.inner_from ∷ b.other ∷ []) (both.0, (b.settled, tt)) b.kind b.of_kind in
          let one : k ≡ b.kind = kind_unique d good.fits (plain t) k b.kind outer.0 (subst (λ z. HasKind d (plain z) b.kind) (sym b.from) built) in
          let last = subst (HasKind d (plain o)) one outer.1 in
          let pair = sum_of_kind d good.fits f assoc (plain b.inner_from) (plain b.other) (plain b.other) (plain o) b.kind b.of_kind inner.1 last in
          let others = build_of_kind d good.fits f (b.other ∷ o ∷ []) (b.settled, (settled, tt)) b.kind pair in
          record {
            inner_from = b.inner_from;
            inner_to = b.inner_to;
            inner = b.inner;
            arguments = b.arguments;
            joined = b.joined;
            other = build d f (b.other ∷ o ∷ []);
            settled = build_settled d f (b.other ∷ o ∷ []) (b.settled, (settled, tt));
            kind = b.kind;
            of_kind = sum_of_kind d good.fits f assoc (plain b.inner_from) (plain b.other) (plain b.inner_from) (plain (build d f (b.other ∷ o ∷ []))) b.kind b.of_kind inner.0 others;
            from = ap (λ z. build d f (z ∷ o ∷ [])) b.from ∙ build_shift d f assoc b.inner_from b.other o both.0 b.settled settled;
            to = ap (λ z. build d f (z ∷ o ∷ [])) b.to ∙ build_shift d f assoc b.inner_to b.other o both.1 b.settled settled;
          }

      -- a redex that is a sum is one beside another summand
      pub redex_beside : (f : OpId) (ts : FlatTerms) (t u o : FlatTerm) (k : SortId) → IsTightRedex t u → t ≡ fapp f true ts → Settled d o → HasKind d (two f (plain t) (plain o)) k → IsTightRedex (build d f (t ∷ o ∷ [])) (build d f (u ∷ o ∷ []))
      redex_beside f ts t u o k (inl i) e settled of_kind =
          let w = instance_joined f ts t u i e in
          inr (f, record { inner_from = t; inner_to = u; inner = i; arguments = w.0; joined = w.1; other = o; settled = settled; kind = k; of_kind = of_kind; from = refl; to = refl })
      redex_beside f ts t u o k (inr b) e settled of_kind =
          let w = beside_form b.0 t u b.1 in
          let p : fapp b.0 true w.0 ≡ fapp f true ts = sym w.1 ∙ e in
          let one : b.0 ≡ f = cc in
          inr (f, beside_more f t u o k (subst (λ g. IsBeside g t u) one b.1) settled of_kind)
